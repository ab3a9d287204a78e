use Rattle.std.proofs.Common.{◌≡◌, ◌++◌, drop}
use Rattle.std.specs.Prelude.{map}
use Rattle.nona_gen.specs.OfSeen.{planned}
use Rattle.nona_gen.specs.Gathered.{loops_of}
use Rattle.nona_gen.proofs.image.regions_of.Given as goal

-- the regions so far and those of the loops that are left are those of all
abbrev pub invariant-loop-l : goal.invariant-loop-l
invariant-loop-l l =
    l.regions.items ++ map (planned l.plans) (loops_of (drop l.l-index l.loops)) ≡ map (planned l.plans) (loops_of l.loops)
