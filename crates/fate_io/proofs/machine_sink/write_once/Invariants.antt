use Rattle.std.specs.Io.KnownBytes.{Keeps}
use Rattle.fate_io.proofs.machine_sink.write_once.Given as goal

-- nothing went out so far
abbrev pub invariant-loop : goal.invariant-loop
invariant-loop g l = Keeps (g.W.Write.contents l.fn.out) (g.W.Write.contents l.out)
