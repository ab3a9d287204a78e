use Rattle.std.proofs.Common.{◌≡◌, take}
use Rattle.nona_tree.proofs.trees.+stmt.Given as goal

-- the statements so far were copied
abbrev pub invariant-copy_statements-loop-stmt : goal.invariant-copy_statements-loop-stmt
invariant-copy_statements-loop-stmt l = l.copies ≡ take l.stmt-index l.block
