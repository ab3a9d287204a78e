-- How often a task of a pipeline has moved, by its progress.
use Rattle.std.specs.Prelude.{ℕ, zero, suc, ◌+◌, ◌-◌, ◌*◌, nat_lt, if◌then◌else◌}
use Rattle.net_flow.specs.Shapes.{Shape, links_of, first_link, sum_to}
use Rattle.net_flow.specs.Flow.{Position, Claims, Unit_at, Sends, Receives, SendsEnd, Finished, Progress, one_if}

-- the moves of one iteration: a claim or a receive, the units, and a send where a stage follows
abbrev pub per_iteration : Shape → ℕ → ℕ
per_iteration shape s = 1 + shape.units s + one_if (nat_lt (s + 1) shape.stages)

-- the moves by which a task comes to know that no iteration follows: a refused claim at the head, else a receive of each End
abbrev pub to_close : Shape → ℕ → ℕ
to_close shape zero = 1
to_close shape (suc s) = links_of (shape.parallel (suc s)) shape.workers

-- the moves by which it says so: a send of each End, where a stage follows
abbrev pub to_end : Shape → ℕ → ℕ
to_end shape s = if nat_lt (s + 1) shape.stages then links_of (shape.parallel s) shape.workers else 0

-- the moves of a task with this position beside those of the iterations that it has done
abbrev pub beside : Shape → ℕ → ℕ → Position → ℕ
beside shape s w Claims = 0
beside shape s w (Unit_at u) = 1 + u
beside shape s w Sends = 1 + shape.units s
beside shape s w (Receives e) = e
beside shape s w (SendsEnd m) = to_close shape s + (m - first_link (shape.parallel s) w)
beside shape s w Finished = to_close shape s + to_end shape s

-- how often a task with this progress has moved
abbrev pub made : Shape → ℕ → ℕ → Progress → ℕ
made shape s w x = x.done * per_iteration shape s + beside shape s w x.position

-- how often the tasks of a pipeline move in b iterations, until all have finished
abbrev pub pipeline_moves : Shape → ℕ → ℕ
pipeline_moves shape b =
    b * (sum_to shape.stages shape.units + 1 + 2 * (shape.stages - 1)) + 1 + 2 * shape.workers * (shape.stages - 1)

-- how often W tasks that share the claims move in b iterations of so many units, until all have finished
abbrev pub sharing_moves : ℕ → ℕ → ℕ → ℕ
sharing_moves W units b = b * (units + 1) + W
