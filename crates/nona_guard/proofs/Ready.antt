-- A guard that may be asked is ready for the walk: its arrays are there, and few of its loops lie one inside another.
use Rattle.std.proofs.Common.{◌≡◌, ℕ, ◌+◌, ◌≤◌, List, [], ◌∷◌, ◌++◌, length, refl, sym, subst, arith, Some, None}
use Rattle.std.specs.Prelude.{max}
use Rattle.std.specs.declared.option.Option.{Option}
use Rattle.nona_tree.specs.declared.trees.Access.{Access}
use Rattle.nona_tree.specs.declared.trees.Expr.{Expr, Number, Scalar, Cell', Len, Neg', Not', Binary', more_of-Expr, end_of-Expr}
use Rattle.nona_tree.specs.declared.trees.Expr.TheBlock.{more_of-Access, end_of-Access}
use Rattle.nona_tree.specs.declared.trees.Loop.{Loop}
use Rattle.nona_tree.specs.declared.trees.Stmt.{Stmt, Let, Set, Fold, Put, FoldPut, If', While', For', For, Print, Row_of-Stmt, end_of-Stmt, more_of-Stmt}
use Rattle.nona_tree.specs.declared.trees.Stmt.TheBlock.{hidden-the_row-Stmt-0}
use Rattle.nona_tree.specs.Memory.{Memory}
use Rattle.nona_tree.specs.Scope.{IsNamed, IsCellNamed, IsScoped, IsRowScoped, depth_after}
use Rattle.nona_tree.specs.Smallness.{stmt_nesting, row_nesting, IsSmallLoop}
use Rattle.nona_forms.specs.Affine.{Affine, form_of}
use Rattle.nona_forms.specs.References.{names_of}
use Rattle.nona_guard.specs.declared.checks.Check.{Check}
use Rattle.nona_guard.specs.declared.guards.Guard.{Guard}
use Rattle.nona_guard.specs.Checks.{AreThere, checks_nesting}
use Rattle.nona_guard.specs.Asked.{asked_expr, asked_cell, asked_loop, asked, asked_row, asked_all}
use Rattle.nona_guard.specs.Guards.{asked_by, MayBeAsked, IsReady}
use Rattle.nona_guard.proofs.AskedEquations.{asked_body}
use Rattle.nona_guard.proofs.CheckEquations.{there-Turns, nesting-Turns}

-- the arrays are there
there_both : (xs ys : List Check) (arrays : ℕ) → AreThere xs arrays → AreThere ys arrays → AreThere (xs ++ ys) arrays
there_both [] ys arrays h g = g
there_both (c ∷ xs) ys arrays h g = (h.0, there_both xs ys arrays h.1 g)

expr_there : (e : Expr) (names : List ℕ) (depth arrays : ℕ) → IsNamed e depth arrays → AreThere (asked_expr e names) arrays
expr_there (Number v) names depth arrays h = tt
expr_there (Scalar x) names depth arrays h = tt
expr_there (Cell' p (more_of-Access array wrap index end_of-Access)) names depth arrays h = (h.0, expr_there index names depth arrays h.1)
expr_there (Len a) names depth arrays h = tt
expr_there (Neg' p (more_of-Expr e end_of-Expr)) names depth arrays h = expr_there e names depth arrays h
expr_there (Not' p (more_of-Expr e end_of-Expr)) names depth arrays h = expr_there e names depth arrays h
expr_there (Binary' o at p (more_of-Expr left end_of-Expr) q (more_of-Expr right end_of-Expr)) names depth arrays h =
    there_both (asked_expr left names) (asked_expr right names) arrays (expr_there left names depth arrays h.0) (expr_there right names depth arrays h.1)

cell_there : (c : Access) (names : List ℕ) (depth arrays : ℕ) → IsCellNamed c depth arrays → AreThere (asked_cell c names) arrays
cell_there c names depth arrays h = (h.0, expr_there c.index names depth arrays h.1)

loop_there : (id : ℕ) (low high : Option Affine) (body : List Check) (arrays : ℕ) → AreThere body arrays → AreThere (asked_loop id low high body) arrays
loop_there id None high body arrays h = tt
loop_there id (Some f) None body arrays h = tt
loop_there id (Some f) (Some g) body arrays h = (subst (λ P. P) (sym (there-Turns id f g body arrays)) h, tt)

mutual
  stmt_there : (s : Stmt) (names : List ℕ) (depth arrays : ℕ) → IsScoped s depth arrays → AreThere (asked s names) arrays
  stmt_there (Let x e) names depth arrays h = expr_there e names depth arrays h.1
  stmt_there (Set x e) names depth arrays h = expr_there e names depth arrays h.1
  stmt_there (Fold x o e) names depth arrays h = expr_there e names depth arrays h.1
  stmt_there (Put c e) names depth arrays h =
      there_both (asked_cell c names) (asked_expr e names) arrays (cell_there c names depth arrays h.0) (expr_there e names depth arrays h.1)
  stmt_there (FoldPut c o e) names depth arrays h =
      there_both (asked_cell c names) (asked_expr e names) arrays (cell_there c names depth arrays h.0) (expr_there e names depth arrays h.1)
  stmt_there (If' test p then_part q else_part) names depth arrays h =
      there_both (asked_expr test names) _ arrays (expr_there test names depth arrays h.0) (there_both (asked_row then_part names) (asked_row else_part names) arrays (row_there then_part names depth arrays h.1) (row_there else_part names depth arrays h.2))
  stmt_there (While' test p body at) names depth arrays h = tt
  stmt_there (For' x low high p body seq at) names depth arrays h =
      loop_there x.id (form_of low names) (form_of high names) (asked_row body (x.id ∷ names)) arrays (row_there body (x.id ∷ names) (depth + 1) arrays h.3)
  stmt_there (Print e at) names depth arrays h = expr_there e names depth arrays h

  row_there : {k : _} (row : Row_of-Stmt k) (names : List ℕ) (depth arrays : ℕ) → IsRowScoped row depth arrays → AreThere (asked_row row names) arrays
  row_there end_of-Stmt names depth arrays h = tt
  row_there (more_of-Stmt s rest) names depth arrays h =
      there_both (asked s names) (asked_row rest names) arrays (stmt_there s names depth arrays h.0) (row_there rest names (depth_after s depth) arrays h.1)

-- few loops lie one inside another
nesting_both : (xs ys : List Check) → checks_nesting (xs ++ ys) ≡ max (checks_nesting xs) (checks_nesting ys)
nesting_both [] ys = omega arith
nesting_both (c ∷ xs) ys = let e = nesting_both xs ys in omega (arith, e)

expr_nesting : (e : Expr) (names : List ℕ) → checks_nesting (asked_expr e names) ≡ 0
expr_nesting (Number v) names = refl
expr_nesting (Scalar x) names = refl
expr_nesting (Cell' p (more_of-Access array wrap index end_of-Access)) names = let e = expr_nesting index names in omega (arith, e)
expr_nesting (Len a) names = refl
expr_nesting (Neg' p (more_of-Expr e end_of-Expr)) names = expr_nesting e names
expr_nesting (Not' p (more_of-Expr e end_of-Expr)) names = expr_nesting e names
expr_nesting (Binary' o at p (more_of-Expr left end_of-Expr) q (more_of-Expr right end_of-Expr)) names =
    let both = nesting_both (asked_expr left names) (asked_expr right names) in
    let a = expr_nesting left names in
    let b = expr_nesting right names in
    omega (arith, both, a, b)

put_nesting : (c : Access) (e : Expr) (names : List ℕ) → checks_nesting (asked_cell c names ++ asked_expr e names) ≡ 0
put_nesting c e names =
    let both = nesting_both (asked_expr c.index names) (asked_expr e names) in
    let a = expr_nesting c.index names in
    let b = expr_nesting e names in
    omega (arith, both, a, b)

loop_nesting : (id : ℕ) (low high : Option Affine) (body : List Check) (n : ℕ) → checks_nesting body ≤ n → checks_nesting (asked_loop id low high body) ≤ n + 1
loop_nesting id None high body n h = omega arith
loop_nesting id (Some f) None body n h = omega arith
loop_nesting id (Some f) (Some g) body n h = let e = nesting-Turns id f g body in omega (arith, e, h)

mutual
  stmt_shallow : (s : Stmt) (names : List ℕ) → checks_nesting (asked s names) ≤ stmt_nesting s
  stmt_shallow (Let x e) names = let a = expr_nesting e names in omega (arith, a)
  stmt_shallow (Set x e) names = let a = expr_nesting e names in omega (arith, a)
  stmt_shallow (Fold x o e) names = let a = expr_nesting e names in omega (arith, a)
  stmt_shallow (Put c e) names = let a = put_nesting c e names in omega (arith, a)
  stmt_shallow (FoldPut c o e) names = let a = put_nesting c e names in omega (arith, a)
  stmt_shallow (If' test p then_part q else_part) names =
      let all = nesting_both (asked_expr test names) (asked_row then_part names ++ asked_row else_part names) in
      let arms = nesting_both (asked_row then_part names) (asked_row else_part names) in
      let a = expr_nesting test names in
      let b = row_shallow then_part names in
      let c = row_shallow else_part names in
      omega (arith, all, arms, a, b, c)
  stmt_shallow (While' test p body at) names = omega arith
  stmt_shallow (For' x low high p body seq at) names =
      loop_nesting x.id (form_of low names) (form_of high names) (asked_row body (x.id ∷ names)) (row_nesting body) (row_shallow body (x.id ∷ names))
  stmt_shallow (Print e at) names = let a = expr_nesting e names in omega (arith, a)

  row_shallow : {k : _} (row : Row_of-Stmt k) (names : List ℕ) → checks_nesting (asked_row row names) ≤ row_nesting row
  row_shallow end_of-Stmt names = omega arith
  row_shallow (more_of-Stmt s rest) names =
      let both = nesting_both (asked s names) (asked_row rest names) in
      let a = stmt_shallow s names in
      let b = row_shallow rest names in
      omega (arith, both, a, b)

-- a loop's guard
loop_ready : (l : Loop) (m : Memory) → IsSmallLoop l → IsScoped (For l) (length m.scalars) (length m.arrays) → IsReady (asked_by l) m
loop_ready l m small scoped =
    let row = hidden-the_row-Stmt-0 l.body in
    let same : asked_row row (names_of l) ≡ asked_all l.body (names_of l) = asked_body l.body (names_of l) in
    let few : checks_nesting (asked_all l.body (names_of l)) ≤ row_nesting row = subst (λ cs. checks_nesting cs ≤ row_nesting row) same (row_shallow row (names_of l)) in
    record {
      index = sym scoped.0;
      there = subst (λ cs. AreThere cs (length m.arrays)) same (row_there row (names_of l) (length m.scalars + 1) (length m.arrays) scoped.3);
      room = omega (arith, few, small.1);
    }

pub guard_ready : (g : Guard) (m : Memory) → MayBeAsked g m → IsReady g m
guard_ready g m (l, is, small, scoped) = subst (λ x. IsReady x m) (sym is.1) (loop_ready l m small scoped)
