use Rattle.std.proofs.Common.{◌≡◌, ◌≤◌, ℕ, List, drop, sym, ap, subst, ◌∙◌}
use Rattle.morta_task.specs.declared.intervals.Handoff.{Handoff}
use Rattle.morta_task.specs.declared.intervals.Ran.{Ran}
use Rattle.morta_script.specs.declared.script.Command.{Command}
use Rattle.weave.specs.Following.{follow}
use Rattle.weave.specs.NetView.{BeginsIn, EndsWith, machine}
use Rattle.weave.specs.Nets.{view_of}
use Rattle.weave.specs.WeaveView.{WeaveView}
use Rattle.weave.proofs.Intervals.{IsInterval, is_interval}
use Rattle.weave.proofs.Keeping.{out_is_over}
use Rattle.weave.proofs.weaving.Weave.run.Goals as goal

-- the interval has run out
interval : (c : goal.In_ok-done) (r : Handoff × Ran) → EndsWith (view_of c.run_out.new.self) r.1 r.0
    → IsInterval c.args.config.scheme c.args.config.workers c.args.self.now.capacity c.args.config c.args.entry.now c.args.handoff c.args.limit c.args.self.now.left (drop c.in_ok-self-inside.field-0 c.deref.result.now) r.1 r.0
interval c r ends =
    let left : c.args.self.now.left ≡ drop c.self.inside.at c.deref.result.now =
    ap (λ (w : WeaveView). w.left) (sym c.self.view_is) ∙ ap (drop c.self.inside.at) (sym c.deref.ensures.value) in
    let capacity : c.self.inside.capacity ≡ c.args.self.now.capacity = ap (λ (w : WeaveView). w.capacity) c.self.view_is in
    is_interval c.args.self.now.capacity c.args.config c.args.entry.now c.args.handoff c.args.limit c.args.self.now.left (drop c.in_ok-self-inside.field-0 c.deref.result.now) r.1 r.0
    (record { served = c.requires.served; offered = c.requires.offered; crew = c.requires.workers; room = subst (λ (k : ℕ). 1 ≤ k) capacity c.self.invariant.some }) c.requires.entered c.requires.state c.requires.room
    (record {
      first = view_of c.in_ok-net.net;
      begun = subst (λ (k : ℕ). BeginsIn c.args.config.scheme c.args.config.workers k c.args.entry.now c.args.handoff.next c.args.limit c.args.handoff.store (view_of c.in_ok-net.net))
          capacity c.in_ok-net.ensures.net;
      net = view_of c.follow.new.net;
      follows = ap (λ (cs : List Command). follow machine cs (view_of c.in_ok-net.net)) left ∙ c.in_ok-self-inside.ensures.follows;
      end = view_of c.run_out.new.self;
      out = c.in_ok-run_out.ensures.net;
      ends = ends;
    })

pub settle-requires-clause-over : goal.settle-requires-clause-over
settle-requires-clause-over c = out_is_over machine _ (view_of c.run_out.new.self) c.in_ok-run_out.ensures.net

pub returns-clause-done : goal.returns-clause-done
returns-clause-done c = (interval c c.in_ok-done.done c.in_ok-done.ensures).did

pub returns-clause-hands_on : goal.returns-clause-hands_on
returns-clause-hands_on c = (interval c c.in_ok-done.done c.in_ok-done.ensures).hands_on

pub returns-clause-replayed : goal.returns-clause-replayed
returns-clause-replayed c = (interval c c.in_ok-done.done c.in_ok-done.ensures).replayed

pub returns-clause-left : goal.returns-clause-left
returns-clause-left c =
    let left = ap (drop c.in_ok-self-inside.field-0) (sym c.deref.ensures.value) ∙ sym (interval c c.in_ok-done.done c.in_ok-done.ensures).leaves in
    λ i. record { script = (c.self.view_is i).script; left = left i; current = (c.self.view_is i).current; capacity = (c.self.view_is i).capacity }
