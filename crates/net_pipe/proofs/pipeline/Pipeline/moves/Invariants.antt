use Rattle.std.proofs.Common.{◌≡◌, ◌+◌, drop}
use Rattle.net_flow.specs.Net.{moves_of}
use Rattle.net_pipe.specs.Kept.{net_of}
use Rattle.net_pipe.proofs.Asked.{moved_by}
use Rattle.net_pipe.proofs.pipeline.Pipeline.moves.Given as goal

-- the moves of all are those so far, and those of the tasks that are left
abbrev pub invariant-tasks : goal.invariant-tasks
invariant-tasks l = l.moves + moved_by l.self.store (drop l.task-index l.self.tasks.items) ≡ moves_of (net_of l.self)
