use Rattle.std.proofs.Common.{◌-◌, length}
use Rattle.net_pipe.proofs.task.+value_from.Given as goal

-- the ids that are left
abbrev pub decreases-value_from : goal.decreases-value_from
decreases-value_from l = length l.ids.now - l.from
