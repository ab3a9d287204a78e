use Rattle.std.proofs.Common.{◌≡◌, take, drop}
use Rattle.nona_plans.specs.Stages.{is_ready, pick}
use Rattle.nona_stages.specs.Picking.{with_fronts}
use Rattle.nona_stages.proofs.waiting.first_ready.Given as goal

abbrev pub invariant-loop-place : goal.invariant-loop-place
invariant-loop-place l = pick (is_ready l.graph l.placed) l.left ≡ with_fronts (take l.place l.left) (pick (is_ready l.graph l.placed) (drop l.place l.left))
