use Rattle.std.proofs.Common.{◌≡◌, ◌∙◌, ap, sym, arith, get_or, pos, w64, Some}
use Rattle.nona_sparse.specs.declared.page.TheConstants.{PAGE}
use Rattle.std.proofs.lemmas.Int.{to_z-of_z}
use Rattle.nona_sparse.specs.Marks.{mark_in}
use Rattle.nona_sparse.proofs.Grouping.{in_few}
use Rattle.nona_sparse.proofs.Marking.{is_none, is_one, marked_value, rank_over, unmarked}
use Rattle.nona_sparse.proofs.block.value_of.Goals as goal

pub value_behind-requires : goal.value_behind-requires
value_behind-requires c =
    let marks = mark_in c.args.marks.now in
    let place = c.args.place in
    let marked : marks place ≡ 1 = is_one (marks place) c.is_set.result c.is_set.ensures c.if-not-is_set.false in
    omega (arith, c.position.ensures, c.requires.kept.1, rank_over marks place PAGE c.requires.there (omega (arith, marked)))

pub returns : goal.returns
returns c =
    let marks = mark_in c.args.marks.now in
    let place = c.args.place in
    let marked : marks place ≡ 1 = is_one (marks place) c.is_set.result c.is_set.ensures c.if-not-is_set.false in
    ap Some (to_z-of_z w64 c.value_behind.result (record { sfits = c.value_behind.type_inv }))
    ∙ ap Some (c.value_behind.ensures ∙ ap (λ n. get_or c.args.values.now n (pos 0)) c.position.ensures)
    ∙ sym (marked_value marks c.args.values.now place (omega (arith, marked)))

pub returns-then-not-is_set : goal.returns-then-not-is_set
returns-then-not-is_set c =
    let marks = mark_in c.args.marks.now in
    let place = c.args.place in
    sym (unmarked marks c.args.values.now place (is_none (marks place) c.is_set.result (in_few c.args.marks.now place) c.is_set.ensures c.if-not-is_set.true))
