use Rattle.std.proofs.Common.{◌≡◌, ◌≤◌, ◌∷◌, ℕ, List, length, ◌+◌, ◌*◌}
use Rattle.nona_grammar.specs.Stack.{Trees, adds}
use Rattle.nona_grammar.specs.Machine.{Sym, Stmts, build}
use Rattle.nona_parse.proofs.blocks.+stmt.Given as goal

-- mostly the tokens that are left, and among the functions that take the same tokens which calls which

abbrev pub decreases-statements : goal.decreases-statements
decreases-statements l = 2 * length l.spots.now + 1

abbrev pub decreases-statement : goal.decreases-statement
decreases-statement l = 2 * length l.spots.now

abbrev pub decreases-branch : goal.decreases-branch
decreases-branch l = 2 * length l.spots.now

abbrev pub decreases-otherwise : goal.decreases-otherwise
decreases-otherwise l = 2 * length l.spots.now

abbrev pub decreases-while_loop : goal.decreases-while_loop
decreases-while_loop l = 2 * length l.spots.now

abbrev pub decreases-seq_loop : goal.decreases-seq_loop
decreases-seq_loop l = 2 * length l.spots.now

abbrev pub decreases-for_loop : goal.decreases-for_loop
decreases-for_loop l = 2 * length l.spots.now

abbrev pub decreases-body : goal.decreases-body
decreases-body l = 2 * length l.spots.now

abbrev pub invariant-statements-loop-alloc : goal.invariant-statements-loop-alloc
invariant-statements-loop-alloc l = record {
  read : (end : ℕ) (k : List Sym) (v : Trees) → build end (Stmts ∷ k) v l.fn.spots ≡ build end (Stmts ∷ k) (adds l.statements v) l.rest;
  no_longer : length l.rest ≤ length l.fn.spots;
}

abbrev pub decreases-statements-loop-alloc : goal.decreases-statements-loop-alloc
decreases-statements-loop-alloc l = length l.rest
