use Rattle.std.proofs.Common.{◌≡◌, ◌++◌, suc, drop}
use Rattle.nona_plans.specs.Units.{locals_from}
use Rattle.nona_graph.proofs.parts.locals.Given as goal

-- the locals of the first statements are there
abbrev pub invariant-loop-at : goal.invariant-loop-at
invariant-loop-at l = locals_from 1 l.body ≡ l.locals.items ++ locals_from (suc l.at) (drop l.at l.body)
