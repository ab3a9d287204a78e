-- What has code fits the numbers of scalars, hidden scalars and counters.
use Rattle.std.proofs.Common.{ℕ, zero, suc, ◌+◌, ◌≤◌, Bool, true, false, if◌then◌else◌, List, [], ◌∷◌, arith}
use Rattle.std.specs.Prelude.{All}
use Rattle.std.proofs.Math.Nat.{le-max_left, le-max_right}
use Rattle.nona_tree.specs.declared.trees.Expr.{Expr, Number, Scalar, Cell', Len, Neg', Not', Binary', more_of-Expr, end_of-Expr}
use Rattle.nona_tree.specs.declared.trees.Expr.TheBlock.{more_of-Access, end_of-Access}
use Rattle.nona_tree.specs.declared.trees.Stmt.{Stmt, Let, Set, Fold, Put, FoldPut, If', While', For', Print, Row_of-Stmt, end_of-Stmt, more_of-Stmt}
use Rattle.nona_tree.specs.Numbers.{AreI64Stmts}
use Rattle.nona_tree.specs.Scope.{IsNamed, IsScoped, IsRowScoped, AreScoped, IsSteady, IsRowSteady, AreSteady, is_let, depth_after}
use Rattle.nona_tree.specs.Smallness.{stmt_size, row_size, all_size, stmt_nesting, row_nesting, all_nesting}
use Rattle.nona_gen.specs.Fit.{IsFitExpr, IsFit, IsRowFit}
use Rattle.nona_gen.specs.Units.{HasCode}
use Rattle.nona_gen.proofs.Fewer.{body_fewer}

expr_fit : (e : Expr) (d a : ℕ) → IsNamed e d a → d ≤ 2147483648 → IsFitExpr e
expr_fit (Number v) d a named few = tt
expr_fit (Scalar x) d a named few = omega (arith, named, few)
expr_fit (Cell' p (more_of-Access array wrap index end_of-Access)) d a named few = expr_fit index d a named.1 few
expr_fit (Len x) d a named few = tt
expr_fit (Neg' p (more_of-Expr e end_of-Expr)) d a named few = expr_fit e d a named few
expr_fit (Not' p (more_of-Expr e end_of-Expr)) d a named few = expr_fit e d a named few
expr_fit (Binary' op at p (more_of-Expr left end_of-Expr) q (more_of-Expr right end_of-Expr)) d a named few =
    (expr_fit left d a named.0 few, expr_fit right d a named.1 few)

pub one_more : (b : Bool) (d : ℕ) → (if b then d + 1 else d) ≤ d + 1
one_more true d = omega arith
one_more false d = omega arith

pub some_size : (s : Stmt) → 1 ≤ stmt_size s
some_size (Let x e) = omega arith
some_size (Set x e) = omega arith
some_size (Fold x f e) = omega arith
some_size (Put c e) = omega arith
some_size (FoldPut c f e) = omega arith
some_size (If' t p y q n) = omega arith
some_size (While' t p b at) = omega arith
some_size (For' x l h p b seq at) = omega arith
some_size (Print e at) = omega arith

mutual
  pub stmt_fit : (s : Stmt) (d a loops : ℕ) (xs : List ℕ) → IsScoped s d a → d + stmt_size s ≤ 2147483648 → loops + stmt_nesting s ≤ 256 → IsSteady s xs → IsFit s loops
  stmt_fit (Let x e) d a loops xs scoped few nested steady = expr_fit e d a scoped.1 (omega (arith, few))
  stmt_fit (Set x e) d a loops xs scoped few nested steady = (omega (arith, few, scoped.0), expr_fit e d a scoped.1 (omega (arith, few)))
  stmt_fit (Fold x f e) d a loops xs scoped few nested steady = (omega (arith, few, scoped.0), expr_fit e d a scoped.1 (omega (arith, few)))
  stmt_fit (Put c e) d a loops xs scoped few nested steady = (expr_fit c.index d a scoped.0.1 (omega (arith, few)), expr_fit e d a scoped.1 (omega (arith, few)))
  stmt_fit (FoldPut c f e) d a loops xs scoped few nested steady = (expr_fit c.index d a scoped.0.1 (omega (arith, few)), expr_fit e d a scoped.1 (omega (arith, few)))
  stmt_fit (If' test p yes_part q no_part) d a loops xs scoped few nested steady =
      let l = le-max_left (row_nesting yes_part) (row_nesting no_part) in
      let r = le-max_right (row_nesting yes_part) (row_nesting no_part) in (
        expr_fit test d a scoped.0 (omega (arith, few)),
        row_fit yes_part d a loops xs scoped.1 (omega (arith, few)) (omega (arith, nested, l)) steady.0,
        row_fit no_part d a loops xs scoped.2 (omega (arith, few)) (omega (arith, nested, r)) steady.1,
      )
  stmt_fit (While' test p body at) d a loops xs scoped few nested steady = (
    omega (arith, nested),
    expr_fit test d a scoped.0 (omega (arith, few)),
    row_fit body d a (loops + 1) xs scoped.1 (omega (arith, few)) (omega (arith, nested)) steady,
  )
  stmt_fit (For' x low high p body seq at) d a loops xs scoped few nested steady = (
    omega (arith, nested),
    expr_fit low d a scoped.1 (omega (arith, few)),
    expr_fit high d a scoped.2 (omega (arith, few)),
    row_fit body (d + 1) a (loops + 1) (x.id ∷ xs) scoped.3 (omega (arith, few)) (omega (arith, nested)) steady,
    omega (arith, few, scoped.0),
    body_fewer body x.id xs steady,
  )
  stmt_fit (Print e at) d a loops xs scoped few nested steady = expr_fit e d a scoped (omega (arith, few))

  row_fit : {k : _} (row : Row_of-Stmt k) (d a loops : ℕ) (xs : List ℕ) → IsRowScoped row d a → d + row_size row ≤ 2147483648 → loops + row_nesting row ≤ 256 → IsRowSteady row xs → IsRowFit row loops
  row_fit end_of-Stmt d a loops xs scoped few nested steady = tt
  row_fit (more_of-Stmt s rest) d a loops xs scoped few nested steady = (
    stmt_fit s d a loops xs scoped.0 (omega (arith, few)) (omega (arith, nested, le-max_left (stmt_nesting s) (row_nesting rest))) steady.0,
    row_fit rest (depth_after s d) a loops xs scoped.1 (omega (arith, few, some_size s, one_more (is_let s) d)) (omega (arith, nested, le-max_right (stmt_nesting s) (row_nesting rest))) steady.1,
  )

pub code_fits : (s : Stmt) → HasCode s → IsFit s 0
code_fits s h = stmt_fit s h.depth h.arrays 0 [] h.scoped h.few (omega (arith, h.nested)) h.steady

-- each statement of a list has code
pub have_code : (ss : List Stmt) (d a : ℕ) → AreScoped ss d a → d + all_size ss ≤ 2147483648 → all_nesting ss ≤ 256 → AreSteady ss [] → AreI64Stmts ss → All HasCode ss
have_code [] d a scoped few nested steady numbers k other below = absurd (omega (arith, below))
have_code (s ∷ rest) d a scoped few nested steady numbers zero other below =
    record {
      depth = d;
      arrays = a;
      scoped = scoped.0;
      few = omega (arith, few);
      nested = omega (arith, nested, le-max_left (stmt_nesting s) (all_nesting rest));
      steady = steady.0;
      numbers = numbers.0;
    }
have_code (s ∷ rest) d a scoped few nested steady numbers (suc k) other below =
    have_code rest (depth_after s d) a scoped.1 (omega (arith, few, some_size s, one_more (is_let s) d)) (omega (arith, nested, le-max_right (stmt_nesting s) (all_nesting rest))) steady.1 numbers.1 k other (omega (arith, below))
