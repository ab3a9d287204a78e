use Rattle.std.proofs.Common.{◌≡◌, ◌&&◌, take, drop}
use Rattle.nona_plans.specs.Stages.{is_ready, same_kind, pick}
use Rattle.nona_stages.specs.Picking.{with_fronts}
use Rattle.nona_stages.proofs.waiting.first_of.Given as goal

abbrev pub invariant-loop-place : goal.invariant-loop-place
invariant-loop-place l =
    pick (λ c. same_kind l.kind c.sequential && is_ready l.graph l.placed c) l.left
    ≡ with_fronts (take l.place l.left) (pick (λ c. same_kind l.kind c.sequential && is_ready l.graph l.placed c) (drop l.place l.left))
