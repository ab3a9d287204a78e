use Rattle.std.proofs.Common.{◌≡◌, ◌≤◌, length, take}
use Rattle.nona_tree.proofs.names.Name.of.Given as goal

-- the bytes so far were taken over
abbrev pub invariant-loop-byte : goal.invariant-loop-byte
invariant-loop-byte l = (l.kept.items ≡ take l.byte-index l.bytes) × (length l.bytes ≤ 32)
