use Rattle.std.proofs.Common.{rules, ◌≡◌, ◌≤◌, ◌+◌, drop, length}
use Rattle.nona_store.specs.Shares.{shared}
use Rattle.net_share.specs.Works.{run_first}
use Rattle.net_share.proofs.UnitRuns.{grows_once, may_unit}
use Rattle.net_share.proofs.shares.run_on.Goals as goal

pub unit-end-requires-clause-unit : goal.unit-end-requires-clause-unit
unit-end-requires-clause-unit c =
    let base = c.args.store.now in
    let share = c.args.share.now in
    may_unit c.code.result.now c.args.units.now c.args.at c.args.turns base (shared base share) share.room _ c.code.ensures c.requires.may

pub returns-in-Done-clause-few : goal.returns-in-Done-clause-few
returns-in-Done-clause-few c =
    let units = drop c.args.at c.args.units.now.body in
    let base = c.args.store.now in
    let left = c.unit-end.new.bank.share.now in
    let ran : shared base left ≡ (run_first units c.args.turns (shared base c.args.share.now)).store = search rules in
    let few : length left.scalars ≤ length c.args.share.now.scalars + 1 = grows_once units c.args.turns (shared base c.args.share.now) (shared base left) c.requires.may ran in
    search (rules, few)
