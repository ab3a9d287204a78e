-- A program with its ids has the same numbers.
use Rattle.std.proofs.Common.{◌+◌, ℕ, true, List, [], ◌∷◌}
use Rattle.std.specs.List.{AllByRecursion}
use Rattle.std.proofs.lemmas.List.Elements.{All-from_recursion, recursion_from_All}
use denote.Hole.Carrier.{hidden}
use Rattle.nona_tree.specs.declared.trees.Expr.{Expr, Number, Scalar, Cell', Len, Neg', Not', Binary', more_of-Expr, end_of-Expr}
use Rattle.nona_tree.specs.declared.trees.Expr.TheBlock.{more_of-Access, end_of-Access, hidden-the_row-Expr-1, hidden-the_row-Access-0}
use Rattle.nona_tree.specs.declared.trees.Stmt.{Stmt, Let, Set, Fold, Put, FoldPut, If', While', For', Print, Row_of-Stmt, end_of-Stmt, more_of-Stmt}
use Rattle.nona_tree.specs.declared.trees.ArrayDecl.{ArrayDecl}
use Rattle.nona_tree.specs.declared.trees.VarDecl.{VarDecl}
use Rattle.nona_tree.specs.declared.trees.Program.{Program}
use Rattle.nona_tree.specs.Numbers.{IsI64, IsI64Expr, IsI64Stmt, IsI64Row, AreI64Stmts, IsI64Program}
use Rattle.nona_tree.specs.Seen.{Seen, with_scalar, seen_after, seen_by_body}
use Rattle.nona_tree.specs.Ids.{expr_ids, stmt_ids, row_ids, all_ids, arrays_ids, vars_ids, ids_of}
use Rattle.nona_tree.proofs.I64.{block_numbers}

-- the numbers of an expression with ids
numbers_expr : (e : Expr) (seen : Seen) → IsI64Expr e → IsI64Expr (expr_ids e seen)
unfolding hidden-the_row-Expr-1 hidden-the_row-Access-0 hidden
numbers_expr (Number v) seen h = h
numbers_expr (Scalar x) seen h = tt
numbers_expr (Cell' p (more_of-Access array wrap index end_of-Access)) seen h = numbers_expr index seen h
numbers_expr (Len x) seen h = tt
numbers_expr (Neg' p (more_of-Expr e end_of-Expr)) seen h = numbers_expr e seen h
numbers_expr (Not' p (more_of-Expr e end_of-Expr)) seen h = numbers_expr e seen h
numbers_expr (Binary' op at p (more_of-Expr left end_of-Expr) q (more_of-Expr right end_of-Expr)) seen h =
    (numbers_expr left seen h.0, numbers_expr right seen h.1)

mutual
  numbers_stmt : (s : Stmt) (seen : Seen) → IsI64Stmt s → IsI64Stmt (stmt_ids s seen)
  numbers_stmt (Let x e) seen h = numbers_expr e seen h
  numbers_stmt (Set x e) seen h = numbers_expr e seen h
  numbers_stmt (Fold x f e) seen h = numbers_expr e seen h
  numbers_stmt (Put c e) seen h = (numbers_expr c.index seen h.0, numbers_expr e seen h.1)
  numbers_stmt (FoldPut c f e) seen h = (numbers_expr c.index seen h.0, numbers_expr e seen h.1)
  numbers_stmt (If' test p then_part q else_part) seen h =
      (numbers_expr test seen h.0, block_numbers (row_ids then_part seen) (numbers_row then_part seen h.1), block_numbers (row_ids else_part seen) (numbers_row else_part seen h.2))
  numbers_stmt (While' test p body at) seen h =
      (numbers_expr test seen h.0, block_numbers (row_ids body seen) (numbers_row body seen h.1))
  numbers_stmt (For' x low high p body seq at) seen h =
      let inside = with_scalar x.text true seen in
      (numbers_expr low seen h.0, numbers_expr high seen h.1, block_numbers (row_ids body inside) (numbers_row body inside h.2))
  numbers_stmt (Print e at) seen h = numbers_expr e seen h

  numbers_row : {k : _} (row : Row_of-Stmt k) (seen : Seen) → IsI64Row row → AreI64Stmts (row_ids row seen)
  numbers_row end_of-Stmt seen h = tt
  numbers_row (more_of-Stmt s rest) seen h = (numbers_stmt s seen h.0, numbers_row rest (seen_after s seen) h.1)

numbers_all : (ss : List Stmt) (seen : Seen) → AreI64Stmts ss → AreI64Stmts (all_ids ss seen)
numbers_all [] seen h = tt
numbers_all (s ∷ rest) seen h = (numbers_stmt s seen h.0, numbers_all rest (seen_after s seen) h.1)

numbers_arrays : (arrays : List ArrayDecl) (id : ℕ) → AllByRecursion (λ (d : ArrayDecl). IsI64 d.cells) arrays
    → AllByRecursion (λ (d : ArrayDecl). IsI64 d.cells) (arrays_ids arrays id)
numbers_arrays [] id h = tt
numbers_arrays (a ∷ rest) id h = (h.0, numbers_arrays rest (id + 1) h.1)

numbers_vars : (vars : List VarDecl) (id : ℕ) → AllByRecursion (λ (d : VarDecl). IsI64 d.value) vars
    → AllByRecursion (λ (d : VarDecl). IsI64 d.value) (vars_ids vars id)
numbers_vars [] id h = tt
numbers_vars (v ∷ rest) id h = (h.0, numbers_vars rest (id + 1) h.1)

pub same_numbers : (p : Program) → IsI64Program p → IsI64Program (ids_of p)
same_numbers p h = record {
  arrays = All-from_recursion (λ (d : ArrayDecl). IsI64 d.cells) (arrays_ids p.arrays 1) (numbers_arrays p.arrays 1 (recursion_from_All (λ (d : ArrayDecl). IsI64 d.cells) p.arrays h.arrays));
  vars = All-from_recursion (λ (d : VarDecl). IsI64 d.value) (vars_ids p.vars 0) (numbers_vars p.vars 0 (recursion_from_All (λ (d : VarDecl). IsI64 d.value) p.vars h.vars));
  body = numbers_all p.body (seen_by_body p) h.body;
}
