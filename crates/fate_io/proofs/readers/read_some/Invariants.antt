use Rattle.std.specs.Io.KnownBytes.{Keeps}
use Rattle.fate_io.proofs.readers.read_some.Given as goal

-- nothing was read so far
abbrev pub invariant-loop : goal.invariant-loop
invariant-loop g l = Keeps (g.F.Read.remaining l.fn.reader) (g.F.Read.remaining l.reader)
