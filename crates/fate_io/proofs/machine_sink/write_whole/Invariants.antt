use Rattle.std.proofs.Common.{◌≡◌, ℕ, List, ◌++◌, length}
use Rattle.std.specs.Io.KnownBytes.{Appends}
use Rattle.fate_io.proofs.machine_sink.write_whole.Given as goal

-- a front of the piece went out, and the rest is behind it
abbrev pub invariant-loop-rest : goal.invariant-loop-rest
invariant-loop-rest g l =
    (front : List ℕ) × (l.piece ≡ front ++ l.rest) × Appends (g.W.Write.contents l.fn.out) (g.W.Write.contents l.out) front

-- the rest grows shorter with each write
abbrev pub decreases-loop-rest : goal.decreases-loop-rest
decreases-loop-rest g l = length l.rest
