use Rattle.std.proofs.Common.{subst}
use Rattle.std.specs.Prelude.{OnErr}
use Rattle.nona_tree.specs.Memory.{Memory}
use Rattle.morta_task.specs.Entries.{loop_of}
use Rattle.net_flow.specs.Net.{Work, task_at}
use Rattle.net_share.specs.Kept.{net_of}
use Rattle.net_share.specs.May.{IsAtUnit}
use Rattle.weave.specs.SharedTasks.{done_before, workers_of}
use Rattle.weave.proofs.SharedKept.{may_move, task_there, still_stepped, work_is}
use Rattle.weave.proofs.shared_tasks.SharedTasks.step.Goals as goal

pub step-requires-clause-may : goal.step-requires-clause-may
step-requires-clause-may c =
    let t = c.args.self.now in
    let s = c.requires.sound in
    may_move t c.args.task s
    (c.sharing_goes_on.ensures.may (loop_of t.entry.now) (done_before t) (net_of t.sharing).limit (workers_of t) c.args.task (net_of t.sharing)
    s.may s.net (task_there t c.args.task c.requires.there))

pub returns-clause-err : goal.returns-clause-err
returns-clause-err c =
    let t = c.args.self.now in
    subst (λ (w : Work Memory (Unit {0})). OnErr c.step.result (IsAtUnit (task_at w (net_of t.sharing) c.args.task).position))
    (work_is t c.requires.sound) c.step.ensures.err

pub returns-clause-sound : goal.returns-clause-sound
returns-clause-sound c =
    let t = c.args.self.now in
    let s = c.requires.sound in
    still_stepped c.step.result t c.step.new.self c.args.task s
    (λ going. c.sharing_goes_on.ensures.steps (loop_of t.entry.now) (done_before t) (net_of t.sharing).limit (workers_of t) c.args.task (net_of t.sharing)
    s.may s.net (task_there t c.args.task c.requires.there) going)
    c.step.ensures.net c.step.ensures.stays c.step.ensures.sound
