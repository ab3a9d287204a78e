use Rattle.std.proofs.Common.{◌<◌, ◌+◌, ◌-◌, ℕ, sym, ap, ◌∙◌, arith}
use Rattle.net_flow.specs.Machines.{round_from}
use Rattle.weave.specs.NetView.{machine, tasks_of}
use Rattle.weave.specs.Nets.{view_of}
use Rattle.weave.proofs.Counted.{tasks_stay}
use Rattle.weave.proofs.Steps.{round_on}
use Rattle.weave.proofs.net.Net.round.Goals as goal

pub tasks-preserved : goal.tasks-preserved
tasks-preserved c =
    let net = view_of c.tasks.self in
    let next = view_of c.step.new.self in
    let task = c.tasks.task in
    let there : task < tasks_of net = omega (arith, c.tasks-test.true, c.tasks-task-end.ensures, c.tasks.invariant.many) in
    let same = tasks_stay c.in_ok-_end._end task net next there c.in_ok-_end.ensures.says in
    record {
      net = c.tasks.invariant.net
          ∙ round_on c.in_ok-_end._end (tasks_of net) task net next there c.in_ok-_end.ensures.says
          ∙ ap (λ (n : ℕ). round_from machine (n - (task + 1)) (task + 1) next) (sym same);
      many = same ∙ c.tasks.invariant.many;
      sound = c.in_ok-_end.ensures.sound;
    }
