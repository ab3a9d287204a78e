use Rattle.nona_code.proofs.Highest.{IsSoFar}
use Rattle.nona_code.proofs.verifying.greatest.Given as goal

abbrev pub invariant-loop-known : goal.invariant-loop-known
invariant-loop-known l =
    record {
      depth : IsSoFar (λ m. m.depth) l.marks l.known-index l.most.depth;
      declared : IsSoFar (λ m. m.declared) l.marks l.known-index l.most.declared;
    }
