use Rattle.std.proofs.Common.{rules, ◌<◌, ◌+◌, ◌^◌, length, arith, ap, sym, subst, ◌∙◌, drop}
use Rattle.nona_tree.specs.declared.outcomes.Outcome.{Outcome}
use Rattle.nona_units.specs.Units.{FirstReaches}
use Rattle.weave.specs.declared.one_task.Position.{Position}
use Rattle.weave.specs.OneTask.{IsPlace, net_of, stand_of}
use Rattle.weave.specs.SeqNet.{step_at}
use Rattle.weave.proofs.Few.{few_units}
use Rattle.weave.proofs.UnitSteps.{unit_goes_on, unit_stops}
use Rattle.weave.proofs.one_task.OneTask.do_unit.Goals as goal

pub overflow_add-at : goal.overflow_add-at
overflow_add-at c =
    let units = c.args.self.now.units.now.body in
    let within : c.args.at < length units = subst (λ (p : Position). IsPlace units p) c.requires.place c.requires.net.set.place in
    let few : length units < 2 ^ 20 =
    subst (λ k. k < 2 ^ 20) (sym (ap length c.requires.net.set.units)) (few_units c.args.self.now.entry.now.looped c.requires.net.set.entered.small) in
    let fits : c.args.at + 1 < 2 ^ 64 = omega (arith, within, few) in
    search rules

pub returns-in-Done-clause-net : goal.returns-in-Done-clause-net
returns-in-Done-clause-net c =
    let net = net_of c.args.self.now in
    let units = c.args.self.now.units.now.body in
    let within : c.args.at < length units = subst (λ (p : Position). IsPlace units p) c.requires.place c.requires.net.set.place in
    let reached = subst (λ (end : Outcome). FirstReaches (drop c.args.at units) c.turns-turns.result net.store c.run_unit.new.store end) c.in-Done.is c.in_ok-end.ensures.run in
    unit_goes_on net units c.args.at c.args.self.now.depth c.turns-turns.result _ c.run_unit.new.store c.arrive-self.new.store within
    c.requires.net.set.depth c.turns-turns.ensures.turns reached c.arrive-self.ensures.place c.arrive-self.ensures.store
    ∙ ap (λ (p : Position). step_at (stand_of units p) net) (sym c.requires.place)

pub returns-in_default : goal.returns-in_default
returns-in_default c =
    let net = net_of c.args.self.now in
    let set = c.requires.net.set in
    let units = c.args.self.now.units.now.body in
    let within : c.args.at < length units = subst (λ (p : Position). IsPlace units p) c.requires.place set.place in
    record {
      net = unit_stops net units c.args.at c.args.self.now.depth c.turns-turns.result c.in_ok-end.end c.run_unit.new.store c.leave.new.store within
          set.depth c.turns-turns.ensures.turns c.in_default.not-Done c.in_ok-end.ensures.run c.leave.ensures
          ∙ ap (λ (p : Position). step_at (stand_of units p) net) (sym c.requires.place);
      set = record {
        entered = set.entered;
        units = set.units;
        room = omega (arith, set.room, c.in_ok-end.ensures.room);
        depth = set.depth;
        from = set.from;
        fits = set.fits;
        few = set.few;
        place = tt;
      };
    }
