use Rattle.std.proofs.Common.{rules, refl, sym, subst, ◌∙◌, ◌∷◌, []}
use Rattle.nona_tree.specs.declared.trees.Stmt.{the_lemmas}
use Rattle.nona_stages.specs.Seen.{is_parallel, outer_all}
use Rattle.nona_stages.specs.Walking.{AreFew, mark_of}
use Rattle.nona_stages.proofs.Gathered.{of_if, of_while, of_for, few_first, few_last, few_next, marks_next, behind_both}
use Rattle.nona_stages.proofs.outer.+outer.Goals as goal

pub add-add_all-requires : goal.add-add_all-requires
add-add_all-requires t c =
    let first = c.as_slice.result.now in (
      search (rules, the_lemmas, c.decreases, c.in-If.is, c.as_slice.ensures),
      few_first (outer_all is_parallel first) _ _ (of_if is_parallel _ _ _ _ first _ c.in-If.is c.as_slice.ensures refl) c.requires,
    )

pub add-add_all-requires-in-If : goal.add-add_all-requires-in-If
add-add_all-requires-in-If t c =
    let second = c.as_slice-in-If.result.now in (
      search (rules, the_lemmas, c.decreases, c.in-If.is, c.as_slice-in-If.ensures),
      few_last _ (outer_all is_parallel second) _ (of_if is_parallel _ _ _ _ _ second c.in-If.is refl c.as_slice-in-If.ensures) c.requires,
    )

pub add-add_all-requires-in-While : goal.add-add_all-requires-in-While
add-add_all-requires-in-While t c = (
  search (rules, the_lemmas, c.decreases, c.in-While.is, c.as_slice-in-While.ensures),
  subst AreFew (of_while is_parallel _ _ _ _ _ c.in-While.is c.as_slice-in-While.ensures) c.requires,
)

pub add-add_all-requires-in-For : goal.add-add_all-requires-in-For
add-add_all-requires-in-For t c =
    let l = c.in-For.looped in
    let none = sym c.in_ok-region-in-For.ensures.region ∙ c.if-region.false in (
      search (rules, the_lemmas, c.decreases, c.in-For.is, c.as_slice-in-For.ensures),
      few_last (l ∷ []) _ _ (of_for is_parallel _ l _ c.in-For.is none c.as_slice-in-For.ensures) c.requires,
    )

pub add-returns-in_ok-add_all-in-If : goal.add-returns-in_ok-add_all-in-If
add-returns-in_ok-add_all-in-If t c =
    behind_both mark_of _ _ _ _ (outer_all is_parallel c.as_slice.result.now) (outer_all is_parallel c.as_slice-in-If.result.now) _
    (of_if is_parallel _ _ _ _ _ _ c.in-If.is c.as_slice.ensures c.as_slice-in-If.ensures) c.in_ok-add_all-in-If.ensures c.add_all-in-If.ensures

pub add-returns-in-While : goal.add-returns-in-While
add-returns-in-While t c = rw (of_while is_parallel _ _ _ _ _ c.in-While.is c.as_slice-in-While.ensures) c.add_all-in-While.ensures

pub add-returns-else-region : goal.add-returns-else-region
add-returns-else-region t c =
    let l = c.in-For.looped in
    let none = sym c.in_ok-region-in-For.ensures.region ∙ c.if-region.false in
    behind_both mark_of _ _ _ _ (l ∷ []) (outer_all is_parallel c.as_slice-in-For.result.now) _
    (of_for is_parallel _ l _ c.in-For.is none c.as_slice-in-For.ensures) c.in_ok-region-in-For.ensures.marks c.add_all-in-For.ensures

pub add_all-add-requires : goal.add_all-add-requires
add_all-add-requires t c =
    let at = c.loop-stmt in
    (search (rules, the_lemmas, c.decreases, c.stmt-item.is), (few_next c.args.body.now at.stmt-index _ c.loop-stmt-test.true c.stmt-item.is at.invariant.few).0)

pub add_all-loop-stmt-preserved : goal.add_all-loop-stmt-preserved
add_all-loop-stmt-preserved t c =
    let at = c.loop-stmt in
    record {
      marks = marks_next c.args.body.now at.stmt-index _ at.marks.items c.add.new.marks.items c.loop-stmt-test.true c.stmt-item.is c.in_ok-add.ensures ∙ at.invariant.marks;
      few = (few_next c.args.body.now at.stmt-index _ c.loop-stmt-test.true c.stmt-item.is at.invariant.few).1;
    }
