use Rattle.std.proofs.Common.{◌∙◌, ap, length, arith, w64}
use Rattle.nona_sparse.specs.declared.page.TheConstants.{PAGE}
use Rattle.std.proofs.lemmas.Int.{to_z-of_z}
use Rattle.nona_sparse.specs.Marks.{block_of, mark_in}
use Rattle.nona_sparse.specs.Sparse.{at_page}
use Rattle.std.specs.List.{insert}
use Rattle.nona_sparse.proofs.Marking.{added_kept, rank_le, value_added}
use Rattle.nona_sparse.proofs.block.add_value.Goals as goal

pub insert-requires : goal.insert-requires
insert-requires c =
    omega (arith, c.rank_in.ensures, c.requires.kept.1, rank_le (mark_in c.args.marks.now) c.args.place PAGE (omega (arith, c.requires.there)))

pub returns-in-Ok-clause-kept : goal.returns-in-Ok-clause-kept
returns-in-Ok-clause-kept c =
    let old = c.args.marks.now in
    let new = c.set_mark.new.marks in
    let set = c.set_mark.ensures in
    let values = c.args.values.now in
    let place = c.args.place in
    let v = c.args.value in
    let put = c.in-Ok.ensures.ok ∙ (λ i. insert values (c.rank_in.ensures i) (to_z-of_z w64 v c.ranges.value i)) in
    (set.long, ap length put ∙ added_kept (mark_in old) (mark_in new) values place v c.requires.kept.1 c.requires.there set.others c.requires.unmarked set.marked)

pub returns-in-Ok-clause-ok : goal.returns-in-Ok-clause-ok
returns-in-Ok-clause-ok c =
    let old = c.args.marks.now in
    let new = c.set_mark.new.marks in
    let set = c.set_mark.ensures in
    let values = c.args.values.now in
    let place = c.args.place in
    let v = c.args.value in
    let put = c.in-Ok.ensures.ok ∙ (λ i. insert values (c.rank_in.ensures i) (to_z-of_z w64 v c.ranges.value i)) in
    ap (λ l. at_page (block_of new l)) put
    ∙ value_added (mark_in old) (mark_in new) values place v c.requires.kept.1 c.requires.there set.others c.requires.unmarked set.marked
