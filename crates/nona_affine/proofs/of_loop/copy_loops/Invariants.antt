use Rattle.std.proofs.Common.{◌≡◌, take}
use Rattle.nona_affine.proofs.of_loop.copy_loops.Given as goal

-- the loops so far were copied
abbrev pub invariant-loop-l : goal.invariant-loop-l
invariant-loop-l l = l.copies ≡ take l.l-index l.loops
