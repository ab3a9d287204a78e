use Rattle.std.proofs.Common.{◌≡◌, sym, ◌∙◌, false}
use Rattle.nona_tree.specs.Entries.{regions_all}
use Rattle.nona_gen.specs.Gathered.{is_seen}
use Rattle.nona_gen.proofs.Gathering.{of_if, of_while, of_for, behind_both}
use Rattle.nona_gen.proofs.gather.+gather.Goals as goal

pub gather-returns-then-not-has : goal.gather-returns-then-not-has
gather-returns-then-not-has t c =
    let none : is_seen c.args.plans.now c.in-For.l ≡ false = sym c.has.ensures ∙ c.if-not-has.true in
    rw (of_for (is_seen c.args.plans.now) _ _ _ c.in-For.is none c.as_slice-then-not-has.ensures) c.gather_all-then-not-has.ensures

pub gather-returns-in_ok-gather_all-in-If : goal.gather-returns-in_ok-gather_all-in-If
gather-returns-in_ok-gather_all-in-If t c =
    let chosen = is_seen c.args.plans.now in
    behind_both _ _ _ _ (regions_all chosen c.as_slice.result.now) (regions_all chosen c.as_slice-in-If.result.now) _
    (of_if chosen _ _ _ _ _ _ c.in-If.is c.as_slice.ensures c.as_slice-in-If.ensures) c.in_ok-gather_all-in-If.ensures c.gather_all-in-If.ensures

pub gather-returns-in-While : goal.gather-returns-in-While
gather-returns-in-While t c =
    rw (of_while (is_seen c.args.plans.now) _ _ _ _ _ c.in-While.is c.as_slice-in-While.ensures) c.gather_all-in-While.ensures
