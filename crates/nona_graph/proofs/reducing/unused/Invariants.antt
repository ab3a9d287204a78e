use Rattle.std.proofs.Common.{◌≡◌, [], length}
use Rattle.nona_graph.specs.Uses.{ShowUses}
use Rattle.nona_graph.proofs.reducing.unused.Given as goal

-- so many are there, of which none is named
abbrev pub invariant-loop-at : goal.invariant-loop-at
invariant-loop-at l = record {
  size : length l.uses.items ≡ l._at;
  uses : ShowUses [] l.uses.items;
}
