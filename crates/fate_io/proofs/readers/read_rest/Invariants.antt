use Rattle.std.proofs.Common.{◌≡◌, ◌≤◌, ◌-◌, length}
use Rattle.std.specs.Io.KnownBytes.{Consumes}
use Rattle.fate_io.proofs.readers.read_rest.Given as goal

-- what was read so far is not too long, the reader has lost it, and no read failed
abbrev pub invariant-loop-count : goal.invariant-loop-count
invariant-loop-count g l = record {
  short : length l.into.items ≤ l.most;
  lost : Consumes l.fn.reader.rest l.reader.rest l.into.items;
  calm : l.reader.faults ≡ l.fn.reader.faults;
}

-- the room that is left grows smaller with each piece
abbrev pub decreases-loop-count : goal.decreases-loop-count
decreases-loop-count g l = l.most - length l.into.items
