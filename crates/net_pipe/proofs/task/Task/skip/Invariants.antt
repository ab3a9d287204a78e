use Rattle.net_pipe.specs.Staged.{staging_of}
use Rattle.net_pipe.proofs.Skipping.{SkipsOn}
use Rattle.net_pipe.proofs.task.Task.skip.Given as goal

-- the units so far are skipped
abbrev pub invariant-units : goal.invariant-units
invariant-units l = SkipsOn (staging_of l.stages) l.from l.to l.at l.initial.self l.self
