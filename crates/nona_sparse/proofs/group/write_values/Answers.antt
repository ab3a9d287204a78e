use Rattle.std.proofs.Common.{◌≡◌, ◌∙◌, ◌+◌, ◌*◌, ◌/◌, ap, sym, arith, refl, w64, Some, to_z, of_z, ◌%◌, ◌==◌, if◌then◌else◌, None}
use Rattle.nona_sparse.specs.declared.group.TheConstants.{GROUP}
use Rattle.std.specs.Int.{bit_at}
use Rattle.std.specs.Option.{unwrap_or}
use Rattle.std.proofs.lemmas.Int.{to_z-of_z}
use Rattle.nona_sparse.specs.Marks.{by_mark, value_at}
use Rattle.nona_sparse.specs.Sparse.{cell, only_at}
use Rattle.nona_sparse.proofs.Marking.{bit_few}
use Rattle.nona_sparse.proofs.Leaving.{next_written, none_written}
use Rattle.nona_sparse.proofs.Passing.{all_behind, next_behind, full_at, full_long, next_value, none_left, some_left}
use Rattle.nona_sparse.proofs.group.write_values.Goals as goal

pub lowest-place-requires : goal.lowest-place-requires
lowest-place-requires c = some_left c.args.marks c.values.done c.values.rest c.args.values.now c.requires.kept c.values.invariant.left c.values-test.true

pub values-init : goal.values-init
values-init c =
    let old = c.args.cells.now in
    record {
      left = all_behind (bit_at c.args.marks);
      long = refl;
      cells = λ q within. sym (none_written c.args.index (bit_at c.args.marks) c.args.values.now q (cell old q));
      numbers = λ all. all;
    }

pub values-preserved : goal.values-preserved
values-preserved c =
    let i = c.values.invariant in
    let marks = bit_at c.args.marks in
    let done = c.values.done in
    let p = c.lowest-place.result in
    let low = c.lowest-place.ensures in
    let rest = c.without_lowest-rest in
    let values = c.args.values.now in
    let value : Some (to_z w64 (of_z w64 c.value_behind-value.result)) ≡ value_at marks values p =
    ap Some (to_z-of_z w64 c.value_behind-value.result (record { sfits = c.value_behind-value.type_inv }) ∙ c.value_behind-value.ensures)
    ∙ next_value marks done (bit_at c.values.rest) p (bit_few c.args.marks) i.left low.there low.marked low.least values in
    let written = value_at marks values in
    record {
      left = next_behind marks done (bit_at c.values.rest) p (bit_few c.args.marks) i.left low.there low.marked low.least (bit_at rest.result) (rest.ensures.unmarked p (c.lowest-place.ensures.marked, c.lowest-place.ensures.least)) (rest.ensures.others p (c.lowest-place.ensures.marked, c.lowest-place.ensures.least));
      long = c.write_cell.ensures.long ∙ i.long;
      cells = λ q within. c.write_cell.ensures.cells q (omega (arith, within, i.long))
          ∙ ap (λ o. unwrap_or (only_at (c.args.index * GROUP + p) o q) (cell c.values.cells q)) value
          ∙ ap (unwrap_or (only_at (c.args.index * GROUP + p) (written p) q)) (i.cells q within)
          ∙ next_written c.args.index p (bit_at c.values.rest) (bit_at rest.result) written low.there low.marked (rest.ensures.unmarked p (c.lowest-place.ensures.marked, c.lowest-place.ensures.least)) (rest.ensures.others p (c.lowest-place.ensures.marked, c.lowest-place.ensures.least)) q (cell c.args.cells.now q);
      numbers = λ all. c.write_cell.ensures.numbers (i.numbers all);
    }

pub returns-clause-cells : goal.returns-clause-cells
returns-clause-cells c =
    let written = value_at (bit_at c.args.marks) c.args.values.now in
    let old = c.args.cells.now in
    λ q within. c.values.invariant.cells q within
    ∙ ap (λ b. unwrap_or (if q / GROUP == c.args.index then by_mark b (written (q % GROUP)) None else None) (cell old q))
    (none_left (bit_at c.args.marks) (bit_at c.values.rest) c.args.values.now c.values.done (q % GROUP) c.requires.kept c.values.invariant.left c.values-test.false (omega arith))

pub write_full-requires-clause-full : goal.write_full-requires-clause-full
write_full-requires-clause-full c = full_long c.args.marks c.args.values.now c.requires.kept c.if-marks-eq18446744073709551615.true

pub returns-then-marks-eq18446744073709551615-clause-cells : goal.returns-then-marks-eq18446744073709551615-clause-cells
returns-then-marks-eq18446744073709551615-clause-cells c =
    let marks = c.args.marks in
    let values = c.args.values.now in
    let old = c.args.cells.now in
    λ q within. c.write_full.ensures.cells q within
    ∙ ap (λ o. unwrap_or (if q / GROUP == c.args.index then o else None) (cell old q))
    (full_at marks values (q % GROUP) c.requires.kept c.if-marks-eq18446744073709551615.true (omega arith))
