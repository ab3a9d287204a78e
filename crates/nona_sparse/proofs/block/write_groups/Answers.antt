use Rattle.std.proofs.Common.{◌≡◌, ◌<◌, ◌∙◌, ◌+◌, ◌*◌, ℕ, ap, arith, get_or, refl, slice_range, sym}
use Rattle.std.specs.Int.{bit_at}
use Rattle.std.specs.Option.{unwrap_or}
use Rattle.nona_sparse.specs.declared.group.TheConstants.{GROUP}
use Rattle.nona_sparse.specs.declared.block.TheConstants.{WORDS}
use Rattle.nona_sparse.specs.declared.page.TheConstants.{PAGE}
use Rattle.nona_sparse.specs.Marks.{block_of, mark_in, value_at}
use Rattle.nona_sparse.specs.Sparse.{at_page, cell, of_group}
use Rattle.nona_sparse.proofs.Grouping.{group_value, group_within, in_few, next_start}
use Rattle.nona_sparse.proofs.Marking.{at_within, rank_few, rank_first}
use Rattle.nona_sparse.proofs.Parts.{all_groups, next_group, none_first}
use Rattle.nona_sparse.proofs.block.write_groups.Goals as goal

pub groups-init : goal.groups-init
groups-init c =
    let old = c.args.cells.now in
    record {
      start = sym (rank_first (mark_in c.args.marks.now));
      long = refl;
      cells = λ q within. sym (none_first c.args.index (at_page (block_of c.args.marks.now c.args.values.now)) q (cell old q));
      numbers = λ all. all;
    }

pub overflow_add-end : goal.overflow_add-end
overflow_add-end c =
    let marks = c.args.marks.now in
    let group = c.groups.group in
    record { fits = omega (arith, c.groups.invariant.start, c.count_of.ensures, group_within marks group c.groups-test.true, rank_few (mark_in marks) PAGE (in_few marks)) }

pub offset_bounds-values-start : goal.offset_bounds-values-start
offset_bounds-values-start c =
    let marks = c.args.marks.now in
    let group = c.groups.group in
    record { fits = omega (arith, c.groups.invariant.start, group_within marks group c.groups-test.true, rank_few (mark_in marks) PAGE (in_few marks)) }

pub slice_bounds-own-end : goal.slice_bounds-own-end
slice_bounds-own-end c = omega (arith, c.groups.invariant.start, c.count_of.ensures, c.requires.kept.1, group_within c.args.marks.now c.groups.group c.groups-test.true)

pub groups-preserved : goal.groups-preserved
groups-preserved c =
    let i = c.groups.invariant in
    let marks = c.args.marks.now in
    let values = c.args.values.now in
    let index = c.args.index in
    let group = c.groups.group in
    let start = c.groups.start in
    let end = start + c.count_of.result in
    let ends = ap (λ n. start + n) c.count_of.ensures in
    let few = c.groups-test.true in
    let own = value_at (bit_at (get_or marks group 0)) (slice_range values start end) in
    let written = at_page (block_of marks values) in
    let same : (p : ℕ) → p < GROUP → own p ≡ written (group * GROUP + p) =
    λ p within. group_value marks values group start end p i.start ends within ∙ sym (at_within (mark_in marks) values (group * GROUP + p) (omega (arith, within, few))) in
    record {
      start = omega (arith, i.start, c.count_of.ensures, next_start marks group);
      long = c.write_values.ensures.long ∙ i.long;
      cells = λ q within. c.write_values.ensures.cells q (omega (arith, within, i.long)) ∙ ap (unwrap_or (of_group (index * WORDS + group) own q)) (i.cells q within)
          ∙ next_group index group written own few same q (cell c.args.cells.now q);
      numbers = λ all. c.write_values.ensures.numbers (i.numbers all);
    }

pub returns-clause-cells : goal.returns-clause-cells
returns-clause-cells c =
    let written = at_page (block_of c.args.marks.now c.args.values.now) in
    λ q within. c.groups.invariant.cells q within ∙ all_groups c.args.index c.groups.group written q (cell c.args.cells.now q) (omega (arith, c.groups-test.false))
