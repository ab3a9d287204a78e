-- A body that assigns none of these scalars is steady in them besides.
use Rattle.std.proofs.Common.{◌≡◌, ◌≢◌, ℕ, zero, suc, ◌<◌, ◌==◌, Bool, true, false, List, [], ◌∷◌, ◌++◌, refl, sym, ap, ◌∙◌, subst, arith, if◌then◌else◌}
use Rattle.std.proofs.lemmas.List.Elements.{All-from_recursion, All-append}
use Rattle.std.specs.List.{AllByRecursion}
use Rattle.std.specs.Prelude.{All}
use Rattle.nona_tree.specs.declared.trees.Stmt.{Stmt, Let, Set, Fold, Put, FoldPut, If', While', For', Print, Row_of-Stmt, end_of-Stmt, more_of-Stmt, items-the_row-Stmt, items_hidden-the_row-Stmt-0}
use Rattle.nona_tree.specs.declared.trees.Stmt.TheBlock.{hidden-the_row-Stmt-0}
use Rattle.nona_tree.specs.Scope.{IsSteady, IsRowSteady}
use Rattle.nona_forms.specs.Affine.{among}
use Rattle.nona_forms.specs.References.{assigned, assigned_row, assigned_all, missing_below}
use Rattle.nona_forms.proofs.InBoxes.{ids_same}

assigned_row_at : (k : _) (row : Row_of-Stmt k) → assigned_row row ≡ assigned_all (items-the_row-Stmt k row)
assigned_row_at k end_of-Stmt = refl
assigned_row_at k (more_of-Stmt s rest) = ap (λ xs. assigned s ++ xs) (assigned_row_at _ rest)

pub assigned_body : (body : List Stmt) → assigned_row (hidden-the_row-Stmt-0 body) ≡ assigned_all body
assigned_body body = assigned_row_at _ (hidden-the_row-Stmt-0 body) ∙ ap assigned_all (items_hidden-the_row-Stmt-0 body)

-- a body that assigns no index and none of these is steady in all of them
split_among : (b left all right : Bool) → (if b then true else all) ≡ false → (all ≡ false → (left ≡ false) × (right ≡ false)) → ((if b then true else left) ≡ false) × (right ≡ false)
split_among true left all right e h = cc
split_among false left all right e h = h e

not_equal : (b : Bool) → (if b then true else false) ≡ false → b ≡ true → ⊥
not_equal true e h = cc
not_equal false e h = cc

equal_found : (a b : ℕ) → a ≡ b → (a == b) ≡ true
equal_found a b e = grind arith

first_if : (b rest : Bool) → b ≡ true → (if b then true else rest) ≡ true
first_if true rest h = refl
first_if false rest h = cc

later_if : (b rest : Bool) → rest ≡ true → (if b then true else rest) ≡ true
later_if true rest h = refl
later_if false rest h = h

first_found : (y : ℕ) (ys : List ℕ) → among y (y ∷ ys) ≡ true
first_found y ys = first_if (y == y) (among y ys) (equal_found y y refl)

later_found : (id y : ℕ) (ys : List ℕ) → among id ys ≡ true → among id (y ∷ ys) ≡ true
later_found id y ys h = later_if (id == y) (among id ys) h

among_left : (id : ℕ) (xs ys : List ℕ) → among id (xs ++ ys) ≡ false → (among id xs ≡ false) × (among id ys ≡ false)
among_left id [] ys e = (refl, e)
among_left id (x ∷ xs) ys e = split_among (id == x) (among id xs) (among id (xs ++ ys)) (among id ys) e (λ h. among_left id xs ys h)

-- none of these is assigned
abbrev AreFree : List ℕ → List ℕ → Type 0
AreFree ys written = (id : ℕ) → among id ys ≡ true → among id written ≡ false

unequal : (id x : ℕ) → among id (x ∷ []) ≡ false → x ≢ id
unequal id x e same = not_equal (id == x) e (equal_found id x (sym same))

none_equal : (x : ℕ) (ys zs : List ℕ) → AreFree zs (x ∷ []) → ((id : ℕ) → among id ys ≡ true → among id zs ≡ true) → AllByRecursion (λ i. x ≢ i) ys
none_equal x [] zs free sub = tt
none_equal x (y ∷ ys) zs free sub = (unequal y x (free y (sub y (first_found y ys))), none_equal x ys zs free (λ id h. sub id (later_found id y ys h)))

steady_set : (x : ℕ) (xs ys : List ℕ) → All (λ i. x ≢ i) xs → AreFree ys (x ∷ []) → All (λ i. x ≢ i) (xs ++ ys)
steady_set x xs ys h free = All-append (λ i. x ≢ i) xs ys h (All-from_recursion (λ i. x ≢ i) ys (none_equal x ys ys free (λ id e. e)))

free_left : (ys a b : List ℕ) → AreFree ys (a ++ b) → AreFree ys a
free_left ys a b h id e = (among_left id a b (h id e)).0

free_right : (ys a b : List ℕ) → AreFree ys (a ++ b) → AreFree ys b
free_right ys a b h id e = (among_left id a b (h id e)).1

mutual
  steady_more : (s : Stmt) (xs ys : List ℕ) → IsSteady s xs → AreFree ys (assigned s) → IsSteady s (xs ++ ys)
  steady_more (Let x e) xs ys h free = tt
  steady_more (Set x e) xs ys h free = steady_set x.id xs ys h free
  steady_more (Fold x o e) xs ys h free = steady_set x.id xs ys h free
  steady_more (Put c e) xs ys h free = tt
  steady_more (FoldPut c o e) xs ys h free = tt
  steady_more (If' test p then_part q else_part) xs ys h free =
      (steady_row_more then_part xs ys h.0 (free_left ys (assigned_row then_part) (assigned_row else_part) free), steady_row_more else_part xs ys h.1 (free_right ys (assigned_row then_part) (assigned_row else_part) free))
  steady_more (While' test p body at) xs ys h free = steady_row_more body xs ys h free
  steady_more (For' x low high p body seq at) xs ys h free = steady_row_more body (x.id ∷ xs) ys h free
  steady_more (Print e at) xs ys h free = tt

  pub steady_row_more : {k : _} (row : Row_of-Stmt k) (xs ys : List ℕ) → IsRowSteady row xs → AreFree ys (assigned_row row) → IsRowSteady row (xs ++ ys)
  steady_row_more end_of-Stmt xs ys h free = tt
  steady_row_more (more_of-Stmt s rest) xs ys h free =
      (steady_more s xs ys h.0 (free_left ys (assigned s) (assigned_row rest) free), steady_row_more rest xs ys h.1 (free_right ys (assigned s) (assigned_row rest) free))

-- the numbers that are missing are below n, and none of the others the index, and not assigned
missing_at : (n : ℕ) (xs : List ℕ) (id : ℕ) (b : Bool) → (id == n) ≡ b → among n xs ≡ false → (among id (missing_below n xs) ≡ true → (id < n) × (among id xs ≡ false))
    → (if b then true else among id (missing_below n xs)) ≡ true → (id < suc n) × (among id xs ≡ false)
missing_at n xs id true same free rest e = let here : id ≡ n = ids_same id n same in (omega (arith, here), subst (λ i. among i xs ≡ false) (sym here) free)
missing_at n xs id false same free rest e = let later = rest e in (omega (arith, later.0), later.1)

missing_step : (n : ℕ) (xs : List ℕ) (id : ℕ) (b : Bool) → among n xs ≡ b → (among id (missing_below n xs) ≡ true → (id < n) × (among id xs ≡ false))
    → among id (if b then missing_below n xs else n ∷ missing_below n xs) ≡ true → (id < suc n) × (among id xs ≡ false)
missing_step n xs id true held rest e = let later = rest e in (omega (arith, later.0), later.1)
missing_step n xs id false free rest e = missing_at n xs id (id == n) refl free rest e

pub missing : (n : ℕ) (xs : List ℕ) (id : ℕ) → among id (missing_below n xs) ≡ true → (id < n) × (among id xs ≡ false)
missing zero xs id e = cc
missing (suc n) xs id e = missing_step n xs id (among n xs) refl (λ h. missing n xs id h) e
