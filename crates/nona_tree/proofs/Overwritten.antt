-- Ids change nothing of a program but themselves: not its faults, not its size, and not the ids that it is given.
use Rattle.std.proofs.Common.{◌≡◌, ◌+◌, ◌++◌, ℕ, suc, Bool, true, false, if◌then◌else◌, List, [], ◌∷◌, length, map, max, nat_lt, refl, sym, ap, ◌∙◌}
use denote.Hole.Carrier.{hidden}
use Rattle.nona_tree.specs.declared.trees.Expr.{Expr, Number, Scalar, Cell', Cell, Len, Neg', Neg, Not', Not, Binary', Binary, more_of-Expr, end_of-Expr}
use Rattle.nona_tree.specs.declared.trees.Expr.TheBlock.{more_of-Access, end_of-Access, hidden-the_row-Expr-1, hidden-the_row-Access-0}
use Rattle.nona_tree.specs.declared.trees.Stmt.{Stmt, Let, Set, Fold, Put, FoldPut, If', If, While', While, For', For, Print, Row_of-Stmt, end_of-Stmt, more_of-Stmt}
use Rattle.nona_tree.specs.declared.trees.ArrayDecl.{ArrayDecl}
use Rattle.nona_tree.specs.declared.trees.VarDecl.{VarDecl}
use Rattle.nona_tree.specs.declared.trees.Program.{Program}
use Rattle.nona_tree.specs.Seen.{Seen, seen_first, with_scalar, seen_after, Declaration, array_decl, var_decl, from_array, declarations, seen_behind, seen_behind_all, seen_by_body}
use Rattle.nona_tree.specs.Faults.{array_faults, target_faults, written_faults, new_faults, expr_faults, row_length, units_faults, stmt_faults, row_faults, all_faults, cells_in, cells_faults, declarations_faults, faults_of}
use Rattle.nona_tree.specs.Ids.{with_id, scalar_ids, array_ids, new_ids, expr_ids, stmt_ids, row_ids, all_ids, arrays_ids, vars_ids, ids_of}
use Rattle.nona_tree.specs.Smallness.{expr_size, stmt_size, row_size, all_size, size_of, stmt_nesting, row_nesting, all_nesting, nesting_of}
use Rattle.nona_tree.proofs.CheckEquations.{faults-If, faults-While, faults-For, ids_at-If, ids_at-While, ids_at-For, size-If, size-While, size-For, nesting-If, nesting-While, nesting-For}

-- the faults of an expression with ids
same_expr : (e : Expr) (other seen : Seen) → expr_faults (expr_ids e other) seen ≡ expr_faults e seen
unfolding hidden-the_row-Expr-1 hidden-the_row-Access-0 hidden
same_expr (Number v) other seen = refl
same_expr (Scalar x) other seen = refl
same_expr (Cell' p (more_of-Access array wrap index end_of-Access)) other seen = λ i. array_faults array seen ++ same_expr index other seen i
same_expr (Len x) other seen = refl
same_expr (Neg' p (more_of-Expr e end_of-Expr)) other seen = same_expr e other seen
same_expr (Not' p (more_of-Expr e end_of-Expr)) other seen = same_expr e other seen
same_expr (Binary' op at p (more_of-Expr left end_of-Expr) q (more_of-Expr right end_of-Expr)) other seen =
    λ i. same_expr left other seen i ++ same_expr right other seen i

-- what is visible after a statement with ids
same_after : (s : Stmt) (other seen : Seen) → seen_after (stmt_ids s other) seen ≡ seen_after s seen
same_after (Let x e) other seen = refl
same_after (Set x e) other seen = refl
same_after (Fold x f e) other seen = refl
same_after (Put c e) other seen = refl
same_after (FoldPut c f e) other seen = refl
same_after (If' test p then_part q else_part) other seen = refl
same_after (While' test p body at) other seen = refl
same_after (For' x low high p body seq at) other seen = refl
same_after (Print e at) other seen = refl

same_length : {k : _} (row : Row_of-Stmt k) (other : Seen) → length (row_ids row other) ≡ row_length row
same_length end_of-Stmt other = refl
same_length (more_of-Stmt s rest) other = ap (λ n. suc n) (same_length rest (seen_after s other))

mutual
  same_stmt : (s : Stmt) (other seen : Seen) → stmt_faults (stmt_ids s other) seen ≡ stmt_faults s seen
  same_stmt (Let x e) other seen = λ i. new_faults x seen ++ same_expr e other seen i
  same_stmt (Set x e) other seen = λ i. target_faults x seen ++ same_expr e other seen i
  same_stmt (Fold x f e) other seen = λ i. target_faults x seen ++ same_expr e other seen i
  same_stmt (Put c e) other seen = λ i. written_faults c.array seen ++ same_expr c.index other seen i ++ same_expr e other seen i
  same_stmt (FoldPut c f e) other seen = λ i. written_faults c.array seen ++ same_expr c.index other seen i ++ same_expr e other seen i
  same_stmt (If' test p then_part q else_part) other seen =
      faults-If (expr_ids test other) (row_ids then_part other) (row_ids else_part other) seen
      ∙ (λ i. same_expr test other seen i ++ same_row then_part other seen i ++ same_row else_part other seen i)
  same_stmt (While' test p body at) other seen =
      faults-While (expr_ids test other) (row_ids body other) at seen
      ∙ (λ i. same_expr test other seen i ++ same_row body other seen i)
  same_stmt (For' x low high p body seq at) other seen =
      faults-For (record { index = new_ids x other; low = expr_ids low other; high = expr_ids high other; body = row_ids body (with_scalar x.text true other); seq = seq; at = at }) seen
      ∙ (λ i. units_faults seq (same_length body (with_scalar x.text true other) i) at ++ new_faults x seen ++ same_expr low other seen i ++ same_expr high other seen i ++ same_row body (with_scalar x.text true other) (with_scalar x.text true seen) i)
  same_stmt (Print e at) other seen = same_expr e other seen

  same_row : {k : _} (row : Row_of-Stmt k) (other seen : Seen) → all_faults (row_ids row other) seen ≡ row_faults row seen
  same_row end_of-Stmt other seen = refl
  same_row (more_of-Stmt s rest) other seen =
      (λ i. same_stmt s other seen i ++ all_faults (row_ids rest (seen_after s other)) (same_after s other seen i))
      ∙ (λ i. stmt_faults s seen ++ same_row rest (seen_after s other) (seen_after s seen) i)

same_all : (ss : List Stmt) (other seen : Seen) → all_faults (all_ids ss other) seen ≡ all_faults ss seen
same_all [] other seen = refl
same_all (s ∷ rest) other seen =
    (λ i. same_stmt s other seen i ++ all_faults (all_ids rest (seen_after s other)) (same_after s other seen i))
    ∙ (λ i. stmt_faults s seen ++ same_all rest (seen_after s other) (seen_after s seen) i)

-- a declaration without its id
bare : Declaration → Declaration
bare (array_decl a) = array_decl (record a { name = with_id a.name 0 })
bare (var_decl v) = var_decl (record v { name = with_id v.name 0 })

bare_if : (b : Bool) (ds others es later : List Declaration) → map bare ds ≡ map bare es → map bare others ≡ map bare later
    → map bare (if b then ds else others) ≡ map bare (if b then es else later)
bare_if true ds others es later h g = h
bare_if false ds others es later h g = g

bare_from : (a : ArrayDecl) (id : ℕ) (filled later : List VarDecl → List Declaration)
    → ((vars : List VarDecl) (n : ℕ) → map bare (filled (vars_ids vars n)) ≡ map bare (later vars))
    → (vars : List VarDecl) (n : ℕ) → map bare (from_array (record a { name = with_id a.name id }) filled (vars_ids vars n)) ≡ map bare (from_array a later vars)
unfolding bare
bare_from a id filled later h [] n = ap (λ (ds : List Declaration). bare (array_decl a) ∷ ds) (h [] n)
bare_from a id filled later h (v ∷ rest) n =
    bare_if (nat_lt v.name.at a.name.at) (var_decl (record v { name = with_id v.name n }) ∷ from_array (record a { name = with_id a.name id }) filled (vars_ids rest (n + 1))) (array_decl (record a { name = with_id a.name id }) ∷ filled (vars_ids (v ∷ rest) n)) (var_decl v ∷ from_array a later rest) (array_decl a ∷ later (v ∷ rest))
    (ap (λ (ds : List Declaration). bare (var_decl v) ∷ ds) (bare_from a id filled later h rest (n + 1)))
    (ap (λ (ds : List Declaration). bare (array_decl a) ∷ ds) (h (v ∷ rest) n))

bare_vars : (vars : List VarDecl) (n : ℕ) → map bare (map (λ v. var_decl v) (vars_ids vars n)) ≡ map bare (map (λ v. var_decl v) vars)
unfolding bare
bare_vars [] n = refl
bare_vars (v ∷ rest) n = ap (λ (ds : List Declaration). bare (var_decl v) ∷ ds) (bare_vars rest (n + 1))

bare_all : (arrays : List ArrayDecl) (id : ℕ) (vars : List VarDecl) (n : ℕ)
    → map bare (declarations (arrays_ids arrays id) (vars_ids vars n)) ≡ map bare (declarations arrays vars)
bare_all [] id vars n = bare_vars vars n
bare_all (a ∷ arrays) id vars n =
    bare_from a id (declarations (arrays_ids arrays (id + 1))) (declarations arrays) (λ more m. bare_all arrays (id + 1) more m) vars n

faults_bare : (ds : List Declaration) (seen : Seen) (cells : ℕ) → declarations_faults (map bare ds) seen cells ≡ declarations_faults ds seen cells
unfolding bare
faults_bare [] seen cells = refl
faults_bare (array_decl a ∷ rest) seen cells =
    λ i. new_faults a.name seen ++ cells_faults (array_decl a) (cells + cells_in (array_decl a)) ++ faults_bare rest (seen_behind (array_decl a) seen) (cells + cells_in (array_decl a)) i
faults_bare (var_decl v ∷ rest) seen cells =
    λ i. new_faults v.name seen ++ cells_faults (var_decl v) (cells + cells_in (var_decl v)) ++ faults_bare rest (seen_behind (var_decl v) seen) (cells + cells_in (var_decl v)) i

seen_bare : (ds : List Declaration) (seen : Seen) → seen_behind_all (map bare ds) seen ≡ seen_behind_all ds seen
unfolding bare
seen_bare [] seen = refl
seen_bare (array_decl a ∷ rest) seen = seen_bare rest (seen_behind (array_decl a) seen)
seen_bare (var_decl v ∷ rest) seen = seen_bare rest (seen_behind (var_decl v) seen)

same_seen : (p : Program) → seen_by_body (ids_of p) ≡ seen_by_body p
same_seen p =
    sym (seen_bare (declarations (arrays_ids p.arrays 1) (vars_ids p.vars 0)) seen_first)
    ∙ ap (λ (ds : List Declaration). seen_behind_all ds seen_first) (bare_all p.arrays 1 p.vars 0)
    ∙ seen_bare (declarations p.arrays p.vars) seen_first

same_declared : (p : Program) → declarations_faults (declarations (arrays_ids p.arrays 1) (vars_ids p.vars 0)) seen_first 0 ≡ declarations_faults (declarations p.arrays p.vars) seen_first 0
same_declared p =
    sym (faults_bare (declarations (arrays_ids p.arrays 1) (vars_ids p.vars 0)) seen_first 0)
    ∙ ap (λ (ds : List Declaration). declarations_faults ds seen_first 0) (bare_all p.arrays 1 p.vars 0)
    ∙ faults_bare (declarations p.arrays p.vars) seen_first 0

pub same_faults : (p : Program) → faults_of (ids_of p) ≡ faults_of p
same_faults p =
    (λ i. same_declared p i ++ all_faults (all_ids p.body (seen_by_body p)) (same_seen p i))
    ∙ (λ i. declarations_faults (declarations p.arrays p.vars) seen_first 0 ++ same_all p.body (seen_by_body p) (seen_by_body p) i)

again_expr : (e : Expr) (other seen : Seen) → expr_ids (expr_ids e other) seen ≡ expr_ids e seen
unfolding hidden-the_row-Expr-1 hidden-the_row-Access-0 hidden
again_expr (Number v) other seen = refl
again_expr (Scalar x) other seen = refl
again_expr (Cell' p (more_of-Access array wrap index end_of-Access)) other seen =
    λ i. Cell (record { array = array_ids array seen; wrap = wrap; index = again_expr index other seen i })
again_expr (Len x) other seen = refl
again_expr (Neg' p (more_of-Expr e end_of-Expr)) other seen = λ i. Neg (again_expr e other seen i)
again_expr (Not' p (more_of-Expr e end_of-Expr)) other seen = λ i. Not (again_expr e other seen i)
again_expr (Binary' op at p (more_of-Expr left end_of-Expr) q (more_of-Expr right end_of-Expr)) other seen =
    λ i. Binary op at (again_expr left other seen i) (again_expr right other seen i)

mutual
  again_stmt : (s : Stmt) (other seen : Seen) → stmt_ids (stmt_ids s other) seen ≡ stmt_ids s seen
  again_stmt (Let x e) other seen = λ i. Let (new_ids x seen) (again_expr e other seen i)
  again_stmt (Set x e) other seen = λ i. Set (scalar_ids x seen) (again_expr e other seen i)
  again_stmt (Fold x f e) other seen = λ i. Fold (scalar_ids x seen) f (again_expr e other seen i)
  again_stmt (Put c e) other seen =
      λ i. Put (record { array = array_ids c.array seen; wrap = c.wrap; index = again_expr c.index other seen i }) (again_expr e other seen i)
  again_stmt (FoldPut c f e) other seen =
      λ i. FoldPut (record { array = array_ids c.array seen; wrap = c.wrap; index = again_expr c.index other seen i }) f (again_expr e other seen i)
  again_stmt (If' test p then_part q else_part) other seen =
      ids_at-If (expr_ids test other) (row_ids then_part other) (row_ids else_part other) seen
      ∙ (λ i. If (again_expr test other seen i) (again_row then_part other seen i) (again_row else_part other seen i))
  again_stmt (While' test p body at) other seen =
      ids_at-While (expr_ids test other) (row_ids body other) at seen
      ∙ (λ i. While (again_expr test other seen i) (again_row body other seen i) at)
  again_stmt (For' x low high p body seq at) other seen =
      ids_at-For (record { index = new_ids x other; low = expr_ids low other; high = expr_ids high other; body = row_ids body (with_scalar x.text true other); seq = seq; at = at }) seen
      ∙ (λ i. For (record { index = new_ids x seen; low = again_expr low other seen i; high = again_expr high other seen i; body = again_row body (with_scalar x.text true other) (with_scalar x.text true seen) i; seq = seq; at = at }))
  again_stmt (Print e at) other seen = λ i. Print (again_expr e other seen i) at

  again_row : {k : _} (row : Row_of-Stmt k) (other seen : Seen) → all_ids (row_ids row other) seen ≡ row_ids row seen
  again_row end_of-Stmt other seen = refl
  again_row (more_of-Stmt s rest) other seen =
      (λ i. again_stmt s other seen i ∷ all_ids (row_ids rest (seen_after s other)) (same_after s other seen i))
      ∙ (λ i. stmt_ids s seen ∷ again_row rest (seen_after s other) (seen_after s seen) i)

again_all : (ss : List Stmt) (other seen : Seen) → all_ids (all_ids ss other) seen ≡ all_ids ss seen
again_all [] other seen = refl
again_all (s ∷ rest) other seen =
    (λ i. again_stmt s other seen i ∷ all_ids (all_ids rest (seen_after s other)) (same_after s other seen i))
    ∙ (λ i. stmt_ids s seen ∷ again_all rest (seen_after s other) (seen_after s seen) i)

again_arrays : (arrays : List ArrayDecl) (id : ℕ) → arrays_ids (arrays_ids arrays id) id ≡ arrays_ids arrays id
again_arrays [] id = refl
again_arrays (a ∷ rest) id = ap (λ (more : List ArrayDecl). record a { name = with_id a.name id } ∷ more) (again_arrays rest (id + 1))

again_vars : (vars : List VarDecl) (id : ℕ) → vars_ids (vars_ids vars id) id ≡ vars_ids vars id
again_vars [] id = refl
again_vars (v ∷ rest) id = ap (λ (more : List VarDecl). record v { name = with_id v.name id } ∷ more) (again_vars rest (id + 1))

pub same_ids : (p : Program) → ids_of (ids_of p) ≡ ids_of p
same_ids p =
    (λ i. record { arrays = again_arrays p.arrays 1 i; vars = again_vars p.vars 0 i; body = all_ids (all_ids p.body (seen_by_body p)) (same_seen p i) })
    ∙ (λ i. record { arrays = arrays_ids p.arrays 1; vars = vars_ids p.vars 0; body = again_all p.body (seen_by_body p) (seen_by_body p) i })

size_expr : (e : Expr) (seen : Seen) → expr_size (expr_ids e seen) ≡ expr_size e
unfolding hidden-the_row-Expr-1 hidden-the_row-Access-0 hidden
size_expr (Number v) seen = refl
size_expr (Scalar x) seen = refl
size_expr (Cell' p (more_of-Access array wrap index end_of-Access)) seen = λ i. size_expr index seen i + 1
size_expr (Len x) seen = refl
size_expr (Neg' p (more_of-Expr e end_of-Expr)) seen = λ i. size_expr e seen i + 1
size_expr (Not' p (more_of-Expr e end_of-Expr)) seen = λ i. size_expr e seen i + 1
size_expr (Binary' op at p (more_of-Expr left end_of-Expr) q (more_of-Expr right end_of-Expr)) seen =
    λ i. size_expr left seen i + size_expr right seen i + 1

mutual
  size_stmt : (s : Stmt) (seen : Seen) → stmt_size (stmt_ids s seen) ≡ stmt_size s
  size_stmt (Let x e) seen = λ i. size_expr e seen i + 1
  size_stmt (Set x e) seen = λ i. size_expr e seen i + 1
  size_stmt (Fold x f e) seen = λ i. size_expr e seen i + 1
  size_stmt (Put c e) seen = λ i. size_expr c.index seen i + size_expr e seen i + 1
  size_stmt (FoldPut c f e) seen = λ i. size_expr c.index seen i + size_expr e seen i + 1
  size_stmt (If' test p then_part q else_part) seen =
      size-If (expr_ids test seen) (row_ids then_part seen) (row_ids else_part seen)
      ∙ (λ i. size_expr test seen i + size_ids_row then_part seen i + size_ids_row else_part seen i + 1)
  size_stmt (While' test p body at) seen =
      size-While (expr_ids test seen) (row_ids body seen) at ∙ (λ i. size_expr test seen i + size_ids_row body seen i + 1)
  size_stmt (For' x low high p body seq at) seen =
      size-For (record { index = new_ids x seen; low = expr_ids low seen; high = expr_ids high seen; body = row_ids body (with_scalar x.text true seen); seq = seq; at = at })
      ∙ (λ i. size_expr low seen i + size_expr high seen i + size_ids_row body (with_scalar x.text true seen) i + 1)
  size_stmt (Print e at) seen = λ i. size_expr e seen i + 1

  size_ids_row : {k : _} (row : Row_of-Stmt k) (seen : Seen) → all_size (row_ids row seen) ≡ row_size row
  size_ids_row end_of-Stmt seen = refl
  size_ids_row (more_of-Stmt s rest) seen = λ i. size_stmt s seen i + size_ids_row rest (seen_after s seen) i

size_ids_all : (ss : List Stmt) (seen : Seen) → all_size (all_ids ss seen) ≡ all_size ss
size_ids_all [] seen = refl
size_ids_all (s ∷ rest) seen = λ i. size_stmt s seen i + size_ids_all rest (seen_after s seen) i

length_arrays : (arrays : List ArrayDecl) (id : ℕ) → length (arrays_ids arrays id) ≡ length arrays
length_arrays [] id = refl
length_arrays (a ∷ rest) id = ap (λ n. suc n) (length_arrays rest (id + 1))

length_vars : (vars : List VarDecl) (id : ℕ) → length (vars_ids vars id) ≡ length vars
length_vars [] id = refl
length_vars (v ∷ rest) id = ap (λ n. suc n) (length_vars rest (id + 1))

pub same_size : (p : Program) → size_of (ids_of p) ≡ size_of p
same_size p = λ i. length_arrays p.arrays 1 i + length_vars p.vars 0 i + size_ids_all p.body (seen_by_body p) i

mutual
  nesting_stmt : (s : Stmt) (seen : Seen) → stmt_nesting (stmt_ids s seen) ≡ stmt_nesting s
  nesting_stmt (Let x e) seen = refl
  nesting_stmt (Set x e) seen = refl
  nesting_stmt (Fold x f e) seen = refl
  nesting_stmt (Put c e) seen = refl
  nesting_stmt (FoldPut c f e) seen = refl
  nesting_stmt (If' test p then_part q else_part) seen =
      nesting-If (expr_ids test seen) (row_ids then_part seen) (row_ids else_part seen)
      ∙ (λ i. max (nesting_ids_row then_part seen i) (nesting_ids_row else_part seen i) + 1)
  nesting_stmt (While' test p body at) seen =
      nesting-While (expr_ids test seen) (row_ids body seen) at ∙ (λ i. nesting_ids_row body seen i + 1)
  nesting_stmt (For' x low high p body seq at) seen =
      nesting-For (record { index = new_ids x seen; low = expr_ids low seen; high = expr_ids high seen; body = row_ids body (with_scalar x.text true seen); seq = seq; at = at })
      ∙ (λ i. nesting_ids_row body (with_scalar x.text true seen) i + 1)
  nesting_stmt (Print e at) seen = refl

  nesting_ids_row : {k : _} (row : Row_of-Stmt k) (seen : Seen) → all_nesting (row_ids row seen) ≡ row_nesting row
  nesting_ids_row end_of-Stmt seen = refl
  nesting_ids_row (more_of-Stmt s rest) seen = λ i. max (nesting_stmt s seen i) (nesting_ids_row rest (seen_after s seen) i)

nesting_ids_all : (ss : List Stmt) (seen : Seen) → all_nesting (all_ids ss seen) ≡ all_nesting ss
nesting_ids_all [] seen = refl
nesting_ids_all (s ∷ rest) seen = λ i. max (nesting_stmt s seen i) (nesting_ids_all rest (seen_after s seen) i)

pub same_nesting : (p : Program) → nesting_of (ids_of p) ≡ nesting_of p
same_nesting p = nesting_ids_all p.body (seen_by_body p)
