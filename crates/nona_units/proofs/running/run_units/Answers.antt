use Rattle.std.proofs.Common.{◌<◌, drop, subst, ◌∙◌}
use Rattle.nona_tree.specs.declared.outcomes.Outcome.{Outcome}
use Rattle.nona_units.specs.Units.{FirstReaches}
use Rattle.nona_units.proofs.Statements.{begins_with, next_unit, next_scoped, last_unit}
use Rattle.nona_units.proofs.running.run_units.Goals as goal

pub returns-in_default : goal.returns-in_default
returns-in_default c =
    let units = c.args.units.now.body in
    let here = begins_with units c.units.at (subst (λ k. c.units.at < k) c.count-at-end.ensures c.units-test.true) in
    record {
      run = c.units.invariant.ran ∙ last_unit units c.units.at c.args.turns c.units.store c.run_unit.new.store c.in_ok-end.end here c.in_default.not-Done c.in_ok-end.ensures.run;
      room = c.in_ok-end.ensures.room ∙ c.units.invariant.room;
    }

pub units-preserved : goal.units-preserved
units-preserved c =
    let units = c.args.units.now.body in
    let here = begins_with units c.units.at (subst (λ k. c.units.at < k) c.count-at-end.ensures c.units-test.true) in
    let reached = subst (λ (end : Outcome). FirstReaches (drop c.units.at units) c.args.turns c.units.store c.run_unit.new.store end) c.in-Done.is c.in_ok-end.ensures.run in
    record {
      ran = c.units.invariant.ran ∙ next_unit units c.units.at c.args.turns c.units.store c.run_unit.new.store here reached;
      scoped = next_scoped units c.units.at c.args.turns c.units.store c.run_unit.new.store here reached c.units.invariant.scoped;
      room = c.in_ok-end.ensures.room ∙ c.units.invariant.room;
    }
