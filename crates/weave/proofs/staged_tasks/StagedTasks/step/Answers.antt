use Rattle.std.proofs.Common.{ℤ, List, subst}
use Rattle.std.specs.Prelude.{OnErr}
use Rattle.morta_task.specs.Entries.{loop_of}
use Rattle.net_flow.specs.Net.{Work, task_at}
use Rattle.net_share.specs.May.{IsAtUnit}
use Rattle.net_pipe.specs.Kept.{net_of}
use Rattle.net_pipe.specs.Works.{Values}
use Rattle.weave.specs.StagedTasks.{capacity_of, done_before, workers_of}
use Rattle.weave.proofs.StagedKept.{may_move, step_says, still_stepped, work_is}
use Rattle.weave.proofs.staged_tasks.StagedTasks.step.Goals as goal

pub step-requires-clause-may : goal.step-requires-clause-may
step-requires-clause-may c =
    let t = c.args.self.now in
    let s = c.requires.sound in
    may_move t c.args.task s
    (c.stages_go_on.ensures.can (loop_of t.entry.now) t.entry.now.plan (workers_of t) (capacity_of t) (done_before t) (net_of t.pipeline).limit c.args.task
    (net_of t.pipeline) s.staged.may s.staged.few s.staged.net c.requires.there)

pub returns-clause-says : goal.returns-clause-says
returns-clause-says c =
    step_says c.step.result c.args.self.now c.step.new.self c.args.task c.requires.sound c.step.ensures.finished c.step.ensures.net c.step.ensures.stays c.step.ensures.end

pub returns-clause-err : goal.returns-clause-err
returns-clause-err c =
    let t = c.args.self.now in
    subst (λ (w : Work Values (List ℤ)). OnErr c.step.result (IsAtUnit (task_at w (net_of t.pipeline) c.args.task).position))
    (work_is t c.requires.sound) c.step.ensures.err

pub returns-clause-sound : goal.returns-clause-sound
returns-clause-sound c =
    let t = c.args.self.now in
    let s = c.requires.sound in
    still_stepped c.step.result t c.step.new.self c.args.task s c.step.ensures.finished c.step.ensures.net c.step.ensures.stays
    (λ going. c.stages_go_on.ensures.steps (loop_of t.entry.now) t.entry.now.plan (workers_of t) (capacity_of t) (done_before t) (net_of t.pipeline).limit c.args.task
    (net_of t.pipeline) s.staged.may s.staged.net c.requires.there going)
    c.step.ensures.sound
