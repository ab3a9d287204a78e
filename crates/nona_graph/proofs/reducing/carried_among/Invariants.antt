use Rattle.std.proofs.Common.{◌≡◌, ◌&&◌, filter, not, nat_lt, take}
use Rattle.std.specs.Prelude.{is_some}
use Rattle.nona_plans.specs.Mentions.{reduction_of}
use Rattle.nona_graph.proofs.reducing.carried_among.Given as goal

-- those of the first scalars are there
abbrev pub invariant-loop-id : goal.invariant-loop-id
invariant-loop-id l = l.ids.items ≡ filter (λ x. nat_lt x l.looped.index.id && not (is_some (reduction_of l.looped x))) (take l.id-index l.assigned)
