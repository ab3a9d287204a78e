use Rattle.std.proofs.Common.{◌≡◌, map, filter, take}
use Rattle.nona_stages.specs.Links.{does_cross}
use Rattle.nona_stages.proofs.crossing.crossing_among.Given as goal

-- those of the first locals are there
abbrev pub invariant-loop-local : goal.invariant-loop-local
invariant-loop-local l = l.ids ≡ map (λ v. v.id) (filter (does_cross l.looped l.earlier l.later) (take l.local-index l.locals))
