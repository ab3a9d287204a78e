use Rattle.std.proofs.Common.{◌≡◌, ◌≤◌, ◌∷◌, ℕ, List, length}
use Rattle.nona_grammar.specs.Stack.{Trees}
use Rattle.nona_grammar.specs.Machine.{Sym, Decls, build}
use Rattle.nona_parse.specs.Steps.{declares}
use Rattle.nona_parse.proofs.declarations.declarations.Given as goal

abbrev pub invariant-loop-kind : goal.invariant-loop-kind
invariant-loop-kind l = record {
  read : (end : ℕ) (k : List Sym) (v : Trees) → build end (Decls ∷ k) v l.fn.spots ≡ build end (Decls ∷ k) (declares l.declared.arrays l.declared.vars v) l.rest;
  no_longer : length l.rest ≤ length l.fn.spots;
}

abbrev pub decreases-loop-kind : goal.decreases-loop-kind
decreases-loop-kind l = length l.rest
