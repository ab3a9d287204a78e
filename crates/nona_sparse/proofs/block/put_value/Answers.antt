use Rattle.std.proofs.Common.{◌≡◌, ◌∙◌, ap, arith, slice_set, w64}
use Rattle.nona_sparse.specs.declared.page.TheConstants.{PAGE}
use Rattle.std.proofs.lemmas.Int.{to_z-of_z}
use Rattle.nona_sparse.specs.Marks.{block_of, mark_in}
use Rattle.nona_sparse.specs.Sparse.{at_page}
use Rattle.nona_sparse.proofs.Marking.{is_one, rank_over, value_changed}
use Rattle.nona_sparse.proofs.block.put_value.Goals as goal

pub set-requires : goal.set-requires
set-requires c =
    let marks = mark_in c.args.marks.now in
    let place = c.args.place in
    let marked : marks place ≡ 1 = is_one (marks place) c.is_set.result c.is_set.ensures c.if-is_set.true in
    omega (arith, c.position-at.ensures, c.requires.kept.1, rank_over marks place PAGE c.requires.there (omega (arith, marked)))

pub returns-then-is_set-clause-ok : goal.returns-then-is_set-clause-ok
returns-then-is_set-clause-ok c =
    let marks = mark_in c.args.marks.now in
    let values = c.args.values.now in
    let place = c.args.place in
    let v = c.args.value in
    let marked : marks place ≡ 1 = is_one (marks place) c.is_set.result c.is_set.ensures c.if-is_set.true in
    ap (λ l. at_page (block_of c.args.marks.now l)) c.set.ensures
    ∙ (λ i. at_page (block_of c.args.marks.now (slice_set values (c.position-at.ensures i) (to_z-of_z w64 v c.ranges.value i))))
    ∙ value_changed marks values place v c.requires.kept.1 c.requires.there (omega (arith, marked))
