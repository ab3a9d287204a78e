use Rattle.std.proofs.Common.{◌≡◌, ◌++◌, map, take, drop}
use Rattle.nona_graph.specs.Sets.{passed_row}
use Rattle.nona_graph.proofs.reaching.pass.Given as goal

-- the rows so far are passed, the others as before
abbrev pub invariant-loop-i : goal.invariant-loop-i
invariant-loop-i l = l.rows ≡ map (passed_row l.unit l.via) (take l.i l.fn.rows) ++ drop l.i l.fn.rows
