-- What stands of the accesses of a loop that the store has.
use Rattle.std.proofs.Common.{◌≡◌, ℕ, ◌<◌, ◌+◌, IsTrue, Bool, true, false, ℤ, List, [], ◌∷◌, ◌++◌, length, map, refl, sym, ap, ◌∙◌, subst, arith, if◌then◌else◌, ◌≤ℤ◌, ◌<ℤ◌, Some}
use Rattle.std.proofs.lemmas.List.Elements.{All-from_recursion}
use Rattle.std.specs.List.{AllByRecursion, Contains}
use Rattle.std.specs.Prelude.{Ok}
use Rattle.nona_tree.specs.declared.trees.Access.{Access}
use Rattle.nona_tree.specs.declared.trees.Expr.{Expr, Number, Scalar, Cell', Len, Neg', Not', Binary', more_of-Expr, end_of-Expr}
use Rattle.nona_tree.specs.declared.trees.Expr.TheBlock.{more_of-Access, end_of-Access}
use Rattle.nona_tree.specs.declared.trees.Loop.{Loop}
use Rattle.nona_tree.specs.declared.trees.Stmt.{Stmt, Let, Set, Fold, Put, FoldPut, If', While', For', For, Print, Row_of-Stmt, end_of-Stmt, more_of-Stmt, items-the_row-Stmt, items_hidden-the_row-Stmt-0}
use Rattle.nona_tree.specs.declared.trees.Stmt.TheBlock.{hidden-the_row-Stmt-0}
use Rattle.nona_tree.specs.Numbers.{IsI64Expr, IsI64Stmt, IsI64Row, AreI64Stmts}
use Rattle.nona_tree.specs.Scope.{IsScoped, IsRowScoped, AreScoped, is_let, depth_after}
use Rattle.nona_tree.proofs.Equations.{scoped-For}
use Rattle.nona_forms.specs.References.{Inner, Reference, expr_references, written_references, inside, references, references_row, references_all}
use Rattle.nona_tree.specs.Memory.{Memory, scalar_at, cells_of}
use Rattle.nona_tree.specs.Value.{value_of}
use Rattle.nona_forms.specs.Affine.{Affine, form_at, form_of}
use Rattle.nona_forms.proofs.Exact.{exact_value, few_cells}
use Rattle.nona_forms.specs.References.{IsPossibleAt, given_in, names_of}
use Rattle.nona_forms.specs.Verdicts.{names_inside, spot_of, shape_of, is_apart}
use Rattle.nona_forms.specs.Separate.{IsLoopEntry, Lies, AreSeparate}
use Rattle.nona_forms.proofs.Separate.{IsBehind, IsSoundReference, stood, lies_fits, apart_separates}

pub all_of_two : {X : Type 0} (P : X → Type 0) (xs ys : List X) → AllByRecursion P xs → AllByRecursion P ys → AllByRecursion P (xs ++ ys)
all_of_two P [] ys h g = g
all_of_two P (x ∷ xs) ys h g = (h.0, all_of_two P xs ys h.1 g)

expr_sound : (index : ℕ) (e : Expr) → IsI64Expr e → AllByRecursion (IsSoundReference index) (expr_references e)
expr_sound index (Number v) h = tt
expr_sound index (Scalar x) h = tt
expr_sound index (Cell' p (more_of-Access array wrap e end_of-Access)) h = (record { inner = tt; index_fits = h }, expr_sound index e h)
expr_sound index (Len a) h = tt
expr_sound index (Neg' p (more_of-Expr e end_of-Expr)) h = expr_sound index e h
expr_sound index (Not' p (more_of-Expr e end_of-Expr)) h = expr_sound index e h
expr_sound index (Binary' op at p (more_of-Expr left end_of-Expr) q (more_of-Expr right end_of-Expr)) h =
    all_of_two (IsSoundReference index) (expr_references left) (expr_references right) (expr_sound index left h.0) (expr_sound index right h.1)

written_sound : (index : ℕ) (c : Access) → IsI64Expr c.index → AllByRecursion (IsSoundReference index) (written_references c)
written_sound index c h = (record { inner = tt; index_fits = h }, expr_sound index c.index h)

inside_sound : (index : ℕ) (l : Inner) (xs : List Reference) → IsBehind index l → AllByRecursion (IsSoundReference index) xs → AllByRecursion (IsSoundReference index) (map (inside l) xs)
inside_sound index l [] h g = tt
inside_sound index l (x ∷ xs) h g = (record { inner = (h, g.0.inner); index_fits = g.0.index_fits }, inside_sound index l xs h g.1)

deeper : (b : Bool) (index depth : ℕ) → index < depth → index < (if b then depth + 1 else depth)
deeper true index depth h = omega (arith, h)
deeper false index depth h = h

still_before : (index depth : ℕ) (s : Stmt) → index < depth → index < depth_after s depth
still_before index depth s h = deeper (is_let s) index depth h

mutual
  pub stmt_sound : (index : ℕ) (s : Stmt) (depth arrays : ℕ) → index < depth → IsScoped s depth arrays → IsI64Stmt s → AllByRecursion (IsSoundReference index) (references s)
  stmt_sound index (Let x e) depth arrays h g k = expr_sound index e k
  stmt_sound index (Set x e) depth arrays h g k = expr_sound index e k
  stmt_sound index (Fold x f e) depth arrays h g k = expr_sound index e k
  stmt_sound index (Put c e) depth arrays h g k =
      all_of_two (IsSoundReference index) (written_references c) (expr_references e) (written_sound index c k.0) (expr_sound index e k.1)
  stmt_sound index (FoldPut c f e) depth arrays h g k =
      all_of_two (IsSoundReference index) (written_references c) (expr_references e) (written_sound index c k.0) (expr_sound index e k.1)
  stmt_sound index (If' test p then_part q else_part) depth arrays h g k =
      all_of_two (IsSoundReference index) (expr_references test) _ (expr_sound index test k.0) (all_of_two (IsSoundReference index) (references_row then_part) (references_row else_part) (row_sound index then_part depth arrays h g.1 k.1) (row_sound index else_part depth arrays h g.2 k.2))
  stmt_sound index (While' test p body at) depth arrays h g k =
      all_of_two (IsSoundReference index) (expr_references test) (references_row body) (expr_sound index test k.0) (row_sound index body depth arrays h g.1 k.1)
  stmt_sound index (For' x low high p body seq at) depth arrays h g k =
      let l : Inner = record { id = x.id; low = low; high = high } in
      all_of_two (IsSoundReference index) (expr_references low) _ (expr_sound index low k.0) (all_of_two (IsSoundReference index) (expr_references high) _ (expr_sound index high k.1) (inside_sound index l (references_row body) (record { after = subst (λ d. index < d) (sym g.0) h; low = k.0; high = k.1 }) (row_sound index body (depth + 1) arrays (omega (arith, h)) g.3 k.2)))
  stmt_sound index (Print e at) depth arrays h g k = expr_sound index e k

  pub row_sound : {j : _} (index : ℕ) (row : Row_of-Stmt j) (depth arrays : ℕ) → index < depth → IsRowScoped row depth arrays → IsI64Row row → AllByRecursion (IsSoundReference index) (references_row row)
  row_sound index end_of-Stmt depth arrays h g k = tt
  row_sound index (more_of-Stmt s rest) depth arrays h g k =
      all_of_two (IsSoundReference index) (references s) (references_row rest) (stmt_sound index s depth arrays h g.0 k.0) (row_sound index rest (depth_after s depth) arrays (still_before index depth s h) g.1 k.1)

pub all_sound : (index : ℕ) (ss : List Stmt) (depth arrays : ℕ) → index < depth → AreScoped ss depth arrays → AreI64Stmts ss → AllByRecursion (IsSoundReference index) (references_all ss)
all_sound index [] depth arrays h g k = tt
all_sound index (s ∷ rest) depth arrays h g k =
    all_of_two (IsSoundReference index) (references s) (references_all rest) (stmt_sound index s depth arrays h g.0 k.0) (all_sound index rest (depth_after s depth) arrays (still_before index depth s h) g.1 k.1)

pub i64_row_at : (k : _) (row : Row_of-Stmt k) → IsI64Row row ≡ AreI64Stmts (items-the_row-Stmt k row)
i64_row_at k end_of-Stmt = refl
i64_row_at k (more_of-Stmt s rest) = ap (λ P. IsI64Stmt s × P) (i64_row_at _ rest)

pub i64-For : (l : Loop) → IsI64Stmt (For l) ≡ (IsI64Expr l.low × IsI64Expr l.high × AreI64Stmts l.body)
i64-For l =
    ap (λ P. IsI64Expr l.low × IsI64Expr l.high × P) (i64_row_at _ (hidden-the_row-Stmt-0 l.body) ∙ ap AreI64Stmts (items_hidden-the_row-Stmt-0 l.body))

pub loop_sound : (l : Loop) (depth arrays : ℕ) → IsScoped (For l) depth arrays → IsI64Stmt (For l) → AllByRecursion (IsSoundReference l.index.id) (references_all l.body)
loop_sound l depth arrays h g =
    let scoped = subst (λ P. P) (scoped-For l depth arrays) h in
    let numbers = subst (λ P. P) (i64-For l) g in
    all_sound l.index.id l.body (depth + 1) arrays (omega (arith, scoped.0)) scoped.3 numbers.2

pub contained : {X : Type 0} (P : X → Type 0) (xs : List X) (x : X) → AllByRecursion P xs → Contains xs x → P x
contained P xs x h (k, within, e) = subst P e (All-from_recursion P xs h k x within)

-- accesses of a loop that are told apart are separate
pub loop_apart : (l : Loop) (entry : Memory) (low last : ℤ) (x y : Reference) → IsLoopEntry l entry low last → Contains (references_all l.body) x → Contains (references_all l.body) y
    → IsTrue (is_apart (shape_of l) (spot_of (names_of l) x) (spot_of (names_of l) y)) → Lies l entry low last x → Lies l entry low last y → AreSeparate l entry low last x y
loop_apart l entry low last x y h in_x in_y apart lies_x lies_y i j cell i1 i2 j1 j2 others touches_x touches_y =
    let sound = loop_sound l (length entry.scalars) (length entry.arrays) h.scoped h.written in
    let numbers = subst (λ P. P) (i64-For l) h.written in
    apart_separates l entry low last x y h numbers.0 numbers.1 (contained (IsSoundReference l.index.id) (references_all l.body) x sound in_x) (contained (IsSoundReference l.index.id) (references_all l.body) y sound in_y) apart i j cell i1 i2 j1 j2 others (lies_x i i1 i2) (lies_y j j1 j2) touches_x touches_y

-- the value of a plain access's index is the exact one
pub loop_exact : (l : Loop) (entry : Memory) (low last : ℤ) (x : Reference) → IsLoopEntry l entry low last → Contains (references_all l.body) x → Lies l entry low last x
    → (i : ℤ) (m : Memory) (f : Affine) → low ≤ℤ i → i <ℤ last → IsPossibleAt l entry x i m → form_of x.access.index (names_inside (names_of l) x.inner) ≡ Some f
    → value_of x.access.index m ≡ Ok (form_at (scalar_at m) f)
loop_exact l entry low last x h in_x lies i m f from to possible form =
    let sound = contained (IsSoundReference l.index.id) (references_all l.body) x (loop_sound l (length entry.scalars) (length entry.arrays) h.scoped h.written) in_x in
    let within = lies i from to m f possible form in
    let such = (stood entry l.index.id x.inner (given_in l entry i) (names_of l) m sound.inner possible).0 in
    exact_value x.access.index (names_inside (names_of l) x.inner) m f form sound.index_fits such.numbers (lies_fits (form_at (scalar_at m) f) (length (cells_of entry x.access.array.id)) (few_cells entry x.access.array.id h.numbers) within.0 within.1)
