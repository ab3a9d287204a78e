use Rattle.std.proofs.Common.{◌≡◌, ◌≤◌, ◌∷◌, ℕ, List, length, ◌+◌, ◌*◌}
use Rattle.nona_grammar.specs.Stack.{Trees, push}
use Rattle.nona_grammar.specs.Machine.{Sym, Tail, build}
use Rattle.nona_parse.proofs.+expr.Given as goal

-- mostly the tokens that are left, and among the functions that take the same tokens which calls which

abbrev pub decreases-accesses::cell_value : goal.decreases-accesses::cell_value
decreases-accesses::cell_value l = 20 * length l.spots.now + 12

abbrev pub decreases-accesses::cell : goal.decreases-accesses::cell
decreases-accesses::cell l = 20 * length l.spots.now + 11

abbrev pub decreases-expressions::bracketed : goal.decreases-expressions::bracketed
decreases-expressions::bracketed l = 20 * length l.spots.now + 11

abbrev pub decreases-expressions::expression : goal.decreases-expressions::expression
decreases-expressions::expression l = 20 * length l.spots.now + 10

abbrev pub decreases-expressions::operand : goal.decreases-expressions::operand
decreases-expressions::operand l = 20 * length l.spots.now + l.level + 3

abbrev pub decreases-expressions::unary : goal.decreases-expressions::unary
decreases-expressions::unary l = 20 * length l.spots.now + 2

abbrev pub decreases-expressions::primary : goal.decreases-expressions::primary
decreases-expressions::primary l = 20 * length l.spots.now + 1

abbrev pub decreases-accesses::scalar_or_cell : goal.decreases-accesses::scalar_or_cell
decreases-accesses::scalar_or_cell l = 20 * length l.spots.now

abbrev pub decreases-expressions::compared : goal.decreases-expressions::compared
decreases-expressions::compared l = 20 * length l.spots.now

abbrev pub decreases-expressions::joined : goal.decreases-expressions::joined
decreases-expressions::joined l = 20 * length l.spots.now

abbrev pub invariant-expressions::joined-loop-op : goal.invariant-expressions::joined-loop-op
invariant-expressions::joined-loop-op l = record {
  read : (end : ℕ) (k : List Sym) (v : Trees) → build end (Tail l.below ∷ k) (push l.fn.first v) l.fn.spots ≡ build end (Tail l.below ∷ k) (push l.left v) l.rest;
  any : (end : ℕ) (k : List Sym) (v : Trees) → (u : Trees) × (build end (Tail l.below ∷ k) v l.fn.spots ≡ build end (Tail l.below ∷ k) u l.rest);
  no_longer : length l.rest ≤ length l.fn.spots;
}

abbrev pub decreases-expressions::joined-loop-op : goal.decreases-expressions::joined-loop-op
decreases-expressions::joined-loop-op l = length l.rest
