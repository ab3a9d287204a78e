use Rattle.std.proofs.Common.{◌<◌, ◌+◌, ◌*◌, ◌^◌, ℕ, false, refl, sym, subst, length}
use Rattle.std.specs.Prelude.{All}
use Rattle.net_share.specs.Tasks.{HasRoom, TaskView}
use Rattle.net_share.specs.declared.sharing.Sharing.{Sharing}
use Rattle.net_share.proofs.Beginning.{count_is, shared_begun}
use Rattle.net_share.proofs.sharing.Sharing.begin.Goals as goal

pub returns-clause-sound : goal.returns-clause-sound
returns-clause-sound c =
    let n : Sharing = record { iterations = c.args.iterations; depth = c.depth-depth.result; store = c.args.store; granted = 0; paused = false; tasks = c.in_ok-tasks.tasks } in
    let count = count_is n c.args.workers c.args.reductions.now refl refl c.in_ok-tasks.ensures.tasks in
    record {
      room = c.in_ok-tasks.ensures.room;
      reserved =
          subst (λ (d : ℕ). All (λ (x : TaskView). HasRoom d c.args.iterations.units.now x.share) c.in_ok-tasks.tasks.items)
          (sym c.depth-depth.ensures) c.in_ok-tasks.ensures.reserved;
      fits = c.requires.indices;
      few = subst (λ (k : ℕ). c.args.iterations.limit * (1 + length c.args.iterations.units.now.body) + (1 + k) < 2 ^ 64) (sym count) c.requires.few;
      net = shared_begun n c.args.workers c.args.reductions.now refl refl c.in_ok-tasks.ensures.tasks;
    }
