use Rattle.std.proofs.Common.{◌≡◌, ◌∙◌, ap, sym, get_or, length, arith, pos, None, Some, w64}
use Rattle.std.proofs.lemmas.Int.{to_z-of_z}
use Rattle.nona_sparse.specs.declared.page.TheConstants.{PAGE}
use Rattle.nona_sparse.specs.Marks.{changed_at, block_of, mark_in}
use Rattle.nona_sparse.specs.Sparse.{at_page, change_at}
use Rattle.std.specs.List.{remove}
use Rattle.nona_sparse.proofs.Grouping.{fewer_marks, in_few}
use Rattle.nona_sparse.proofs.Marking.{at_within, forgotten_kept, is_none, is_one, marked_value, rank_over, unmarked, value_forgotten, value_stays}
use Rattle.nona_sparse.proofs.Leaving.{change_stays, none_changed}
use Rattle.nona_sparse.proofs.block.forget_same.Goals as goal

pub returns-then-not-is_set-clause-left : goal.returns-then-not-is_set-clause-left
returns-then-not-is_set-clause-left c =
    let marks = mark_in c.args.marks.now in
    let values = c.args.values.now in
    let place = c.args.place in
    let cells = c.args.cells.now in
    let at = c.args.at in
    let written = at_page (block_of c.args.marks.now values) in
    let clear = is_none (marks place) c.is_set.result (in_few c.args.marks.now place) c.is_set.ensures c.if-not-is_set.true in
    let none : written place ≡ None = at_within marks values place c.requires.there ∙ unmarked marks values place clear in
    λ q. value_stays place q (change_at cells at (written place)) written (ap (change_at cells at) none ∙ none_changed cells at ∙ sym none)

pub value_behind-value-requires : goal.value_behind-value-requires
value_behind-value-requires c =
    let marks = mark_in c.args.marks.now in
    let place = c.args.place in
    let marked : marks place ≡ 1 = is_one (marks place) c.is_set.result c.is_set.ensures c.if-not-is_set.false in
    omega (arith, c.rank_in-own.ensures, c.requires.kept.1, ap length c.as_slice.ensures, rank_over marks place PAGE c.requires.there (omega (arith, marked)))

pub remove-requires : goal.remove-requires
remove-requires c =
    let marks = mark_in c.args.marks.now in
    let place = c.args.place in
    let marked : marks place ≡ 1 = is_one (marks place) c.is_set.result c.is_set.ensures c.if-not-is_set.false in
    omega (arith, c.rank_in-own.ensures, c.requires.kept.1, rank_over marks place PAGE c.requires.there (omega (arith, marked)))

pub returns-in-None-clause-kept : goal.returns-in-None-clause-kept
returns-in-None-clause-kept c =
    let marks = mark_in c.args.marks.now in
    let values = c.args.values.now in
    let place = c.args.place in
    let cleared = c.clear_mark.ensures in
    let marked : marks place ≡ 1 = is_one (marks place) c.is_set.result c.is_set.ensures c.if-not-is_set.false in
    let new = c.remove.ensures ∙ ap (remove values) c.rank_in-own.ensures in
    (cleared.long, ap length new ∙ forgotten_kept marks (mark_in c.clear_mark.new.marks) values place c.requires.kept.1 c.requires.there cleared.others marked cleared.unmarked)

pub returns-in-None-clause-fewer : goal.returns-in-None-clause-fewer
returns-in-None-clause-fewer c = fewer_marks c.args.place (mark_in c.args.marks.now) (mark_in c.clear_mark.new.marks) c.clear_mark.ensures.unmarked c.clear_mark.ensures.others

pub returns-in-None-clause-left : goal.returns-in-None-clause-left
returns-in-None-clause-left c =
    let marks = mark_in c.args.marks.now in
    let values = c.args.values.now in
    let place = c.args.place in
    let cells = c.args.cells.now in
    let at = c.args.at in
    let written = at_page (block_of c.args.marks.now values) in
    let cleared = c.clear_mark.ensures in
    let marked : marks place ≡ 1 = is_one (marks place) c.is_set.result c.is_set.ensures c.if-not-is_set.false in
    let value : Some c.value_behind-value.result ≡ written place =
    ap Some (c.value_behind-value.ensures ∙ (λ i. get_or (c.as_slice.ensures i) (c.rank_in-own.ensures i) (pos 0)))
    ∙ sym (at_within marks values place c.requires.there ∙ marked_value marks values place (omega (arith, marked))) in
    let same = ap Some (to_z-of_z w64 c.value_behind-value.result (record { sfits = c.value_behind-value.type_inv })) in
    let left : c.left_of.result ≡ change_at cells at (written place) = c.left_of.ensures ∙ ap (change_at cells at) (same ∙ value) in
    let new = c.remove.ensures ∙ ap (remove values) c.rank_in-own.ensures in
    λ q. ap (λ l. at_page (block_of c.clear_mark.new.marks l) q) new
    ∙ value_forgotten marks (mark_in c.clear_mark.new.marks) values place c.requires.kept.1 c.requires.there cleared.others marked cleared.unmarked q
    ∙ ap (λ o. changed_at place o written q) (sym c.in-None.is ∙ left)

pub returns-in_default-clause-left : goal.returns-in_default-clause-left
returns-in_default-clause-left c =
    let marks = mark_in c.args.marks.now in
    let values = c.args.values.now in
    let place = c.args.place in
    let cells = c.args.cells.now in
    let at = c.args.at in
    let written = at_page (block_of c.args.marks.now values) in
    let marked : marks place ≡ 1 = is_one (marks place) c.is_set.result c.is_set.ensures c.if-not-is_set.false in
    let value : Some c.value_behind-value.result ≡ written place =
    ap Some (c.value_behind-value.ensures ∙ (λ i. get_or (c.as_slice.ensures i) (c.rank_in-own.ensures i) (pos 0)))
    ∙ sym (at_within marks values place c.requires.there ∙ marked_value marks values place (omega (arith, marked))) in
    let same = ap Some (to_z-of_z w64 c.value_behind-value.result (record { sfits = c.value_behind-value.type_inv })) in
    let left : c.left_of.result ≡ change_at cells at (written place) = c.left_of.ensures ∙ ap (change_at cells at) (same ∙ value) in
    λ q. value_stays place q (change_at cells at (written place)) written (change_stays cells at (written place) c.in_default.field-0 (sym left ∙ c.in_default.is))
