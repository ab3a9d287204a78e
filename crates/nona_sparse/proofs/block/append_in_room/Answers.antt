use Rattle.std.proofs.Common.{◌≡◌, ◌∙◌, ◌<◌, ◌≤◌, ℕ, ap, sym, length, arith, w64}
use Rattle.std.proofs.lemmas.Int.{to_z-of_z}
use Rattle.nona_sparse.specs.declared.page.TheConstants.{PAGE}
use Rattle.nona_sparse.specs.Marks.{block_of, mark_in, rank}
use Rattle.nona_sparse.specs.Sparse.{at_page}
use Rattle.std.specs.List.{insert}
use Rattle.nona_sparse.proofs.Marking.{added_kept, rank_last, value_added}
use Rattle.nona_sparse.proofs.block.append_in_room.Goals as goal

pub returns-clause-kept : goal.returns-clause-kept
returns-clause-kept c =
    let marks = mark_in c.args.marks.now in
    let set = c.set_mark.ensures in
    let values = c.args.values.now in
    let place = c.args.place in
    let v = c.args.value in
    let none : (q : ℕ) → place ≤ q → q < PAGE → marks q ≡ 0 = λ q from within. c.requires.end q (omega (arith, c.if-place-end.false, from)) within in
    let last : length values ≡ rank marks place = c.requires.kept.1 ∙ sym (rank_last marks place (omega (arith, c.requires.there)) none) in
    let put = c.push_in_room.ensures.put c.if-not-push_in_room.false ∙ (λ i. insert values (last i) (to_z-of_z w64 v c.ranges.value i)) in
    (set.long, ap length put ∙ added_kept marks (mark_in c.set_mark.new.marks) values place v c.requires.kept.1 c.requires.there set.others (none place (omega arith) c.requires.there) set.marked)

pub returns-clause-put : goal.returns-clause-put
returns-clause-put c done =
    let marks = mark_in c.args.marks.now in
    let new = c.set_mark.new.marks in
    let set = c.set_mark.ensures in
    let values = c.args.values.now in
    let place = c.args.place in
    let v = c.args.value in
    let none : (q : ℕ) → place ≤ q → q < PAGE → marks q ≡ 0 = λ q from within. c.requires.end q (omega (arith, c.if-place-end.false, from)) within in
    let last : length values ≡ rank marks place = c.requires.kept.1 ∙ sym (rank_last marks place (omega (arith, c.requires.there)) none) in
    let put = c.push_in_room.ensures.put c.if-not-push_in_room.false ∙ (λ i. insert values (last i) (to_z-of_z w64 v c.ranges.value i)) in
    ap (λ l. at_page (block_of new l)) put
    ∙ value_added marks (mark_in new) values place v c.requires.kept.1 c.requires.there set.others (none place (omega arith) c.requires.there) set.marked
