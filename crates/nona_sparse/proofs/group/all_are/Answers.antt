use Rattle.std.proofs.Common.{is_some, ◌<◌, ℕ, ◌≡◌, ◌∙◌, ◌+◌, ap, sym, w64, Some, to_z, of_z}
use Rattle.std.specs.Int.{bit_at}
use Rattle.std.proofs.lemmas.Int.{to_z-of_z}
use Rattle.nona_sparse.specs.declared.group.TheConstants.{GROUP}
use Rattle.nona_sparse.specs.Marks.{value_at}
use Rattle.nona_sparse.specs.Sparse.{change_at, if_left}
use Rattle.nona_sparse.proofs.Marking.{bit_few, unmarked}
use Rattle.nona_sparse.proofs.Choosing.{same_test}
use Rattle.nona_sparse.proofs.Leaving.{change_is, none_either}
use Rattle.nona_sparse.proofs.Passing.{all_behind, next_behind, next_is, full_at, full_long, next_value, none_left, some_left}
use Rattle.nona_sparse.proofs.group.all_are.Goals as goal

pub lowest-place-requires : goal.lowest-place-requires
lowest-place-requires c = some_left c.args.marks c.values.done c.values.rest c.args.values.now c.requires.kept c.values.invariant.left c.values-test.true

pub values-init : goal.values-init
values-init c = record { left = all_behind (bit_at c.args.marks); each = λ q within clear. none_either c.args.cells.now (c.args.first + q) c.args.differ (value_at (bit_at c.args.marks) c.args.values.now q) (unmarked (bit_at c.args.marks) c.args.values.now q clear) }

pub values-preserved : goal.values-preserved
values-preserved c =
    let i = c.values.invariant in
    let marks = bit_at c.args.marks in
    let done = c.values.done in
    let p = c.lowest-place.result in
    let low = c.lowest-place.ensures in
    let rest = c.without_lowest-rest in
    let values = c.args.values.now in
    let value : Some (to_z w64 (of_z w64 c.value_behind-value.result)) ≡ value_at marks values p =
    ap Some (to_z-of_z w64 c.value_behind-value.result (record { sfits = c.value_behind-value.type_inv }) ∙ c.value_behind-value.ensures)
    ∙ next_value marks done (bit_at c.values.rest) p (bit_few c.args.marks) i.left low.there low.marked low.least values in
    let left : c.left_of.result ≡ change_at c.args.cells.now (c.args.first + p) (value_at marks values p) = c.left_of.ensures ∙ ap (change_at c.args.cells.now (c.args.first + p)) value in
    record {
      left = next_behind marks done (bit_at c.values.rest) p (bit_few c.args.marks) i.left low.there low.marked low.least (bit_at rest.result) (rest.ensures.unmarked p (c.lowest-place.ensures.marked, c.lowest-place.ensures.least)) (rest.ensures.others p (c.lowest-place.ensures.marked, c.lowest-place.ensures.least));
      each = next_is c.args.differ c.args.first p (bit_at c.values.rest) (bit_at rest.result) marks values c.args.cells.now (rest.ensures.others p (c.lowest-place.ensures.marked, c.lowest-place.ensures.least)) i.each
          (change_is c.args.cells.now (c.args.first + p) (value_at marks values p) c.args.differ
          (ap is_some (sym left) ∙ sym c.is_some.ensures ∙ same_test c.is_some.result c.args.differ c.if-is_some-differ.false));
    }

pub returns : goal.returns
returns c =
    λ is q within. c.values.invariant.each q within
    (none_left (bit_at c.args.marks) (bit_at c.values.rest) c.args.values.now c.values.done q c.requires.kept c.values.invariant.left c.values-test.false within)

pub full_are-requires-clause-full : goal.full_are-requires-clause-full
full_are-requires-clause-full c = full_long c.args.marks c.args.values.now c.requires.kept c.if-marks-eq18446744073709551615.true

pub returns-then-marks-eq18446744073709551615 : goal.returns-then-marks-eq18446744073709551615
returns-then-marks-eq18446744073709551615 c =
    let own = λ (q : ℕ) (within : q < GROUP). full_at c.args.marks c.args.values.now q c.requires.kept c.if-marks-eq18446744073709551615.true within in
    λ differs q within. ap (change_at c.args.cells.now (c.args.first + q)) (sym (own q within)) ∙ c.full_are.ensures differs q within ∙ ap (if_left c.args.differ) (own q within)
