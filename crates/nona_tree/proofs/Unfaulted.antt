-- What a program without a fault names is there, and it assigns no index.
use Rattle.std.proofs.Common.{ℤ, pos, replicate, ◌≡◌, ◌≢◌, ◌<◌, ◌+◌, ◌++◌, ◌&&◌, ℕ, zero, suc, Bool, true, false, cond, not, if◌then◌else◌, List, [], ◌∷◌, length, All, slice_index_or, map, nat_lt, is_some, Some, None, refl, sym, ap, subst, ◌∙◌, arith, length-append}
use Rattle.std.specs.Prelude.{position}
use Rattle.std.specs.List.{position_or_len}
use Rattle.std.specs.Str.{bytes_eq}
use Rattle.std.proofs.lemmas.List.{get_or_append_left}
use Rattle.std.proofs.Math.Seq.{get_or-append_seam}
use Rattle.std.proofs.lemmas.Bool.{ltb-true}
use Rattle.std.proofs.lemmas.List.Sums.{prefix_len_stops}
use Rattle.std.proofs.lemmas.List.Folds.{list_any_at}
use Rattle.std.proofs.lemmas.List.{length-map}
use denote.Hole.Carrier.{hidden}
use Rattle.nona_tree.specs.declared.faults.ProgramFault.{ProgramFault}
use Rattle.nona_tree.specs.declared.names.Use.{Use}
use Rattle.nona_tree.specs.declared.trees.Expr.{Expr, Number, Scalar, Cell', Len, Neg', Not', Binary', more_of-Expr, end_of-Expr}
use Rattle.nona_tree.specs.declared.trees.Expr.TheBlock.{more_of-Access, end_of-Access, hidden-the_row-Expr-1, hidden-the_row-Access-0}
use Rattle.nona_tree.specs.declared.trees.Stmt.{Stmt, Let, Set, Fold, Put, FoldPut, If', While', For', Print, Row_of-Stmt, end_of-Stmt, more_of-Stmt}
use Rattle.nona_tree.specs.declared.trees.ArrayDecl.{ArrayDecl}
use Rattle.nona_tree.specs.declared.trees.VarDecl.{VarDecl}
use Rattle.nona_tree.specs.declared.trees.Program.{Program}
use Rattle.nona_tree.specs.Names.{Visible, is_index}
use Rattle.nona_tree.specs.Run.{start_of, count_of}
use Rattle.nona_tree.specs.Scope.{depth_after, IsNamed, IsScoped, AreScoped, IsSteady, AreSteady}
use Rattle.nona_tree.specs.Seen.{Seen, seen_first, scalar_id, array_id, is_scalar, is_array, is_seen, with_scalar, with_array, seen_after, Declaration, array_decl, var_decl, from_array, declarations, seen_behind_all, seen_by_body}
use Rattle.nona_tree.specs.Faults.{fault_where, use_faults, scalar_faults, array_faults, target_faults, written_faults, new_faults, expr_faults, units_faults, row_length, stmt_faults, row_faults, all_faults, cells_in, cells_faults, declarations_faults}
use Rattle.nona_tree.specs.Ids.{or_zero, new_ids, expr_ids, stmt_ids, row_ids, all_ids}
use Rattle.nona_tree.specs.Checking.{IsChecked}
use Rattle.nona_tree.proofs.Equations.{scoped-If, scoped-While, scoped-For, steady-If, steady-While, steady-For}

-- two lists of faults are empty where they are so together
pub parts : {A : Type 0} (xs ys : List A) → xs ++ ys ≡ [] → (xs ≡ []) × (ys ≡ [])
parts [] ys h = (refl, h)
parts (x ∷ xs) ys h = cc

use_true : (one other : Bool) (at : ℕ) → use_faults one other at ≡ [] → one ≡ true
use_true true other at h = refl
use_true false true at h = cc
use_true false false at h = cc

pub no_fault : (b : Bool) (fault : ProgramFault) → fault_where b fault ≡ [] → b ≡ false
no_fault true fault h = cc
no_fault false fault h = refl

chosen : (b : Bool) (k n : ℕ) → nat_lt k n ≡ b → is_some (cond b (Some k) None) ≡ true → (k < n) × (or_zero (cond b (Some k) None) ≡ k)
chosen true k n e h = (ltb-true k n e, refl)
chosen false k n e h = cc

-- a position that is found
found : {X : Type 0} (p : X → Bool) (xs : List X) → is_some (position p xs) ≡ true
    → (position_or_len p xs < length xs) × (or_zero (position p xs) ≡ position_or_len p xs)
found p xs h = chosen (nat_lt (position_or_len p xs) (length xs)) (position_or_len p xs) (length xs) refl h

id_below : {X : Type 0} (p : X → Bool) (xs : List X) → is_some (position p xs) ≡ true → or_zero (position p xs) < length xs
id_below p xs h = let f = found p xs h in subst (λ id. id < length xs) (sym f.1) f.0

scalar_below : (x : Use) (seen : Seen) → scalar_faults x seen ≡ [] → or_zero (scalar_id x.text seen) < length seen.scalars
scalar_below x seen h = id_below _ seen.scalars (use_true (is_scalar x.text seen) (is_array x.text seen) x.at h)

array_below : (x : Use) (seen : Seen) → array_faults x seen ≡ [] → or_zero (array_id x.text seen) < length seen.arrays
array_below x seen h = id_below _ seen.arrays (use_true (is_array x.text seen) (is_scalar x.text seen) x.at h)

target_below : (x : Use) (seen : Seen) → target_faults x seen ≡ [] → or_zero (scalar_id x.text seen) < length seen.scalars
target_below x seen h = scalar_below x seen (parts (scalar_faults x seen) _ h).0

written_below : (x : Use) (seen : Seen) → written_faults x seen ≡ [] → or_zero (array_id x.text seen) < length seen.arrays
written_below x seen h = array_below x seen (parts (array_faults x seen) _ h).0

named : (e : Expr) (seen : Seen) → expr_faults e seen ≡ [] → IsNamed (expr_ids e seen) (length seen.scalars) (length seen.arrays)
unfolding hidden-the_row-Expr-1 hidden-the_row-Access-0 hidden
named (Number v) seen h = tt
named (Scalar x) seen h = scalar_below x seen h
named (Cell' p (more_of-Access array wrap index end_of-Access)) seen h =
    let n = parts (array_faults array seen) (expr_faults index seen) h in (array_below array seen n.0, named index seen n.1)
named (Len x) seen h = array_below x seen h
named (Neg' p (more_of-Expr e end_of-Expr)) seen h = named e seen h
named (Not' p (more_of-Expr e end_of-Expr)) seen h = named e seen h
named (Binary' op at p (more_of-Expr left end_of-Expr) q (more_of-Expr right end_of-Expr)) seen h =
    let n = parts (expr_faults left seen) (expr_faults right seen) h in (named left seen n.0, named right seen n.1)

-- one more scalar
abbrev grown : List ℕ → Bool → Seen → Seen
grown name index seen = record seen { scalars = seen.scalars ++ record { name = name; index = index } ∷ [] }

grows : (x : Use) (index : Bool) (seen : Seen) → new_faults x seen ≡ [] → with_scalar x.text index seen ≡ grown x.text index seen
grows x index seen h = ap (λ b. if b then seen else grown x.text index seen) (no_fault (is_seen x.text seen) _ h)

one_more : (x : Use) (index : Bool) (seen : Seen) → new_faults x seen ≡ [] → length (with_scalar x.text index seen).scalars ≡ length seen.scalars + 1
one_more x index seen h = ap (λ (r : Seen). length r.scalars) (grows x index seen h) ∙ length-append seen.scalars _

same_arrays : (b : Bool) (name : List ℕ) (index : Bool) (seen : Seen) → length (if b then seen else grown name index seen).arrays ≡ length seen.arrays
same_arrays true name index seen = refl
same_arrays false name index seen = refl

arrays_stay : (name : List ℕ) (index : Bool) (seen : Seen) → length (with_scalar name index seen).arrays ≡ length seen.arrays
arrays_stay name index seen = same_arrays (is_seen name seen) name index seen

depth_is : (s : Stmt) (seen : Seen) → stmt_faults s seen ≡ [] → length (seen_after s seen).scalars ≡ depth_after (stmt_ids s seen) (length seen.scalars)
depth_is (Let x e) seen h = one_more x false seen (parts (new_faults x seen) _ h).0
depth_is (Set x e) seen h = refl
depth_is (Fold x f e) seen h = refl
depth_is (Put c e) seen h = refl
depth_is (FoldPut c f e) seen h = refl
depth_is (If' test p then_part q else_part) seen h = refl
depth_is (While' test p body at) seen h = refl
depth_is (For' x low high p body seq at) seen h = refl
depth_is (Print e at) seen h = refl

arrays_after : (s : Stmt) (seen : Seen) → length (seen_after s seen).arrays ≡ length seen.arrays
arrays_after (Let x e) seen = arrays_stay x.text false seen
arrays_after (Set x e) seen = refl
arrays_after (Fold x f e) seen = refl
arrays_after (Put c e) seen = refl
arrays_after (FoldPut c f e) seen = refl
arrays_after (If' test p then_part q else_part) seen = refl
arrays_after (While' test p body at) seen = refl
arrays_after (For' x low high p body seq at) seen = refl
arrays_after (Print e at) seen = refl

-- statements that are scoped are so among equal counts
moved : (ss : List Stmt) (d depth a arrays : ℕ) → d ≡ depth → a ≡ arrays → AreScoped ss d a → AreScoped ss depth arrays
moved ss d depth a arrays e g h = subst (λ n. AreScoped ss depth n) g (subst (λ n. AreScoped ss n a) e h)

-- the parts of a for have no fault
for_parts : {k : _} (x : Use) (low high : Expr) (body : Row_of-Stmt k) (seq : Bool) (at : ℕ) (seen : Seen)
    → units_faults seq (row_length body) at ++ new_faults x seen ++ expr_faults low seen ++ expr_faults high seen ++ row_faults body (with_scalar x.text true seen) ≡ []
    → (new_faults x seen ≡ []) × (expr_faults low seen ≡ []) × (expr_faults high seen ≡ []) × (row_faults body (with_scalar x.text true seen) ≡ [])
for_parts x low high body seq at seen h =
    let units = units_faults seq (row_length body) at in
    let a = parts (units ++ new_faults x seen ++ expr_faults low seen ++ expr_faults high seen) (row_faults body (with_scalar x.text true seen)) h in
    let b = parts (units ++ new_faults x seen ++ expr_faults low seen) (expr_faults high seen) a.0 in
    let c = parts (units ++ new_faults x seen) (expr_faults low seen) b.0 in
    let d = parts units (new_faults x seen) c.0 in
    (d.1, c.1, b.1, a.1)

mutual
  scoped : (s : Stmt) (seen : Seen) → stmt_faults s seen ≡ [] → IsScoped (stmt_ids s seen) (length seen.scalars) (length seen.arrays)
  scoped (Let x e) seen h = (refl, named e seen (parts (new_faults x seen) _ h).1)
  scoped (Set x e) seen h =
      let n = parts (target_faults x seen) _ h in (target_below x seen n.0, named e seen n.1)
  scoped (Fold x f e) seen h =
      let n = parts (target_faults x seen) _ h in (target_below x seen n.0, named e seen n.1)
  scoped (Put c e) seen h =
      let n = parts (written_faults c.array seen ++ expr_faults c.index seen) _ h in
      let m = parts (written_faults c.array seen) _ n.0 in
      ((written_below c.array seen m.0, named c.index seen m.1), named e seen n.1)
  scoped (FoldPut c f e) seen h =
      let n = parts (written_faults c.array seen ++ expr_faults c.index seen) _ h in
      let m = parts (written_faults c.array seen) _ n.0 in
      ((written_below c.array seen m.0, named c.index seen m.1), named e seen n.1)
  scoped (If' test p then_part q else_part) seen h =
      let n = parts (expr_faults test seen ++ row_faults then_part seen) (row_faults else_part seen) h in
      let m = parts (expr_faults test seen) (row_faults then_part seen) n.0 in
      subst (λ (P : Type 0). P) (sym (scoped-If (expr_ids test seen) (row_ids then_part seen) (row_ids else_part seen) (length seen.scalars) (length seen.arrays)))
      (named test seen m.0, scoped_row then_part seen m.1, scoped_row else_part seen n.1)
  scoped (While' test p body at) seen h =
      let n = parts (expr_faults test seen) _ h in
      subst (λ (P : Type 0). P) (sym (scoped-While (expr_ids test seen) (row_ids body seen) at (length seen.scalars) (length seen.arrays)))
      (named test seen n.0, scoped_row body seen n.1)
  scoped (For' x low high p body seq at) seen h =
      let n = for_parts x low high body seq at seen h in
      subst (λ (P : Type 0). P) (sym (scoped-For (record { index = new_ids x seen; low = expr_ids low seen; high = expr_ids high seen; body = row_ids body (with_scalar x.text true seen); seq = seq; at = at }) (length seen.scalars) (length seen.arrays)))
      (refl, named low seen n.1, named high seen n.2, moved (row_ids body (with_scalar x.text true seen)) _ _ _ _ (one_more x true seen n.0) (arrays_stay x.text true seen) (scoped_row body (with_scalar x.text true seen) n.3))
  scoped (Print e at) seen h = named e seen h

  scoped_row : {k : _} (row : Row_of-Stmt k) (seen : Seen) → row_faults row seen ≡ [] → AreScoped (row_ids row seen) (length seen.scalars) (length seen.arrays)
  scoped_row end_of-Stmt seen h = tt
  scoped_row (more_of-Stmt s rest) seen h =
      let n = parts (stmt_faults s seen) _ h in
      (scoped s seen n.0, moved (row_ids rest (seen_after s seen)) _ _ _ _ (depth_is s seen n.0) (arrays_after s seen) (scoped_row rest (seen_after s seen) n.1))

all_scoped : (ss : List Stmt) (seen : Seen) → all_faults ss seen ≡ [] → AreScoped (all_ids ss seen) (length seen.scalars) (length seen.arrays)
all_scoped [] seen h = tt
all_scoped (s ∷ rest) seen h =
    let n = parts (stmt_faults s seen) _ h in
    (scoped s seen n.0, moved (all_ids rest (seen_after s seen)) _ _ _ _ (depth_is s seen n.0) (arrays_after s seen) (all_scoped rest (seen_after s seen) n.1))

-- a scalar that is an index
abbrev IsIndexAt : List Visible → ℕ → Type 0
IsIndexAt scalars i = (i < length scalars) × ((d : Visible) → (slice_index_or scalars i d).index ≡ true)

index_kept : (scalars more : List Visible) (i : ℕ) → IsIndexAt scalars i → IsIndexAt (scalars ++ more) i
index_kept scalars more i h =
    (omega (arith, h.0, length-append scalars more), λ d. ap (λ (v : Visible). v.index) (get_or_append_left scalars more d i h.0) ∙ h.1 d)

all_kept_by : (scalars more : List Visible) (indices : List ℕ) → All (IsIndexAt scalars) indices → All (IsIndexAt (scalars ++ more)) indices
all_kept_by scalars more indices h k d below = index_kept scalars more _ (h k d below)

kept_with : (b : Bool) (name : List ℕ) (index : Bool) (seen : Seen) (indices : List ℕ) → All (IsIndexAt seen.scalars) indices
    → All (IsIndexAt (if b then seen else grown name index seen).scalars) indices
kept_with true name index seen indices h = h
kept_with false name index seen indices h = all_kept_by seen.scalars _ indices h

kept_after : (s : Stmt) (seen : Seen) (indices : List ℕ) → All (IsIndexAt seen.scalars) indices → All (IsIndexAt (seen_after s seen).scalars) indices
kept_after (Let x e) seen indices h = kept_with (is_seen x.text seen) x.text false seen indices h
kept_after (Set x e) seen indices h = h
kept_after (Fold x f e) seen indices h = h
kept_after (Put c e) seen indices h = h
kept_after (FoldPut c f e) seen indices h = h
kept_after (If' test p then_part q else_part) seen indices h = h
kept_after (While' test p body at) seen indices h = h
kept_after (For' x low high p body seq at) seen indices h = h
kept_after (Print e at) seen indices h = h

pub all_more : {X : Type 0} (P : X → Type 0) (x : X) (xs : List X) → P x → All P xs → All P (x ∷ xs)
all_more P x xs a h zero d below = a
all_more P x xs a h (suc k) d below = h k d (omega (arith, below))

newest : (scalars : List Visible) (name : List ℕ) → IsIndexAt (scalars ++ record { name = name; index = true } ∷ []) (length scalars)
newest scalars name =
    (omega (arith, length-append scalars (record { name = name; index = true } ∷ [])), λ d. ap (λ (v : Visible). v.index) (get_or-append_seam scalars (record { name = name; index = true }) [] d))

in_body : (x : Use) (seen : Seen) (indices : List ℕ) → new_faults x seen ≡ [] → All (IsIndexAt seen.scalars) indices
    → All (IsIndexAt (with_scalar x.text true seen).scalars) (length seen.scalars ∷ indices)
in_body x seen indices free h =
    subst (λ (r : Seen). All (IsIndexAt r.scalars) (length seen.scalars ∷ indices)) (sym (grows x true seen free))
    (all_more (IsIndexAt (grown x.text true seen).scalars) (length seen.scalars) indices (newest seen.scalars x.text) (all_kept_by seen.scalars (record { name = x.text; index = true } ∷ []) indices h))

both_true : (a b : Bool) → a ≡ true → b ≡ true → (a && b) ≡ true
both_true true b h g = g
both_true false b h g = cc

is_true : (b : Bool) → not b ≡ false → b ≡ true
is_true true h = refl
is_true false h = cc

clash : (b : Bool) → b ≡ true → b ≡ false → ⊥
clash true h g = cc
clash false h g = cc

-- a name that is assigned has the id of no index
apart : (x : Use) (seen : Seen) (indices : List ℕ) → target_faults x seen ≡ [] → All (IsIndexAt seen.scalars) indices
    → All (λ i. or_zero (scalar_id x.text seen) ≢ i) indices
apart x seen indices h all k d below same =
    let n = parts (scalar_faults x seen) (fault_where (is_index x.text seen.scalars) _) h in
    let p : Visible → Bool = λ v. bytes_eq v.name x.text in
    let f = found p seen.scalars (use_true (is_scalar x.text seen) (is_array x.text seen) x.at n.0) in
    let place = position_or_len p seen.scalars in
    let none : Visible = record { name = []; index = false } in
    let here = all k d below in
    let is_here : (slice_index_or seen.scalars place none).index ≡ true
    = subst (λ (i : ℕ). (slice_index_or seen.scalars i none).index ≡ true) (sym same ∙ f.1) (here.1 none) in
    let named_here : p (slice_index_or seen.scalars place none) ≡ true = is_true _ (prefix_len_stops (λ v. not (p v)) seen.scalars none f.0) in
    clash (is_index x.text seen.scalars) (list_any_at (λ (v : Visible). bytes_eq v.name x.text && v.index) seen.scalars place none f.0 (both_true _ _ named_here is_here)) (no_fault (is_index x.text seen.scalars) _ n.1)

mutual
  steady : (s : Stmt) (seen : Seen) (indices : List ℕ) → stmt_faults s seen ≡ [] → All (IsIndexAt seen.scalars) indices → IsSteady (stmt_ids s seen) indices
  steady (Let x e) seen indices h all = tt
  steady (Set x e) seen indices h all = apart x seen indices (parts (target_faults x seen) _ h).0 all
  steady (Fold x f e) seen indices h all = apart x seen indices (parts (target_faults x seen) _ h).0 all
  steady (Put c e) seen indices h all = tt
  steady (FoldPut c f e) seen indices h all = tt
  steady (If' test p then_part q else_part) seen indices h all =
      let n = parts (expr_faults test seen ++ row_faults then_part seen) (row_faults else_part seen) h in
      let m = parts (expr_faults test seen) (row_faults then_part seen) n.0 in
      subst (λ (P : Type 0). P) (sym (steady-If (expr_ids test seen) (row_ids then_part seen) (row_ids else_part seen) indices))
      (steady_row then_part seen indices m.1 all, steady_row else_part seen indices n.1 all)
  steady (While' test p body at) seen indices h all =
      let n = parts (expr_faults test seen) (row_faults body seen) h in
      subst (λ (P : Type 0). P) (sym (steady-While (expr_ids test seen) (row_ids body seen) at indices)) (steady_row body seen indices n.1 all)
  steady (For' x low high p body seq at) seen indices h all =
      let n = for_parts x low high body seq at seen h in
      subst (λ (P : Type 0). P) (sym (steady-For (record { index = new_ids x seen; low = expr_ids low seen; high = expr_ids high seen; body = row_ids body (with_scalar x.text true seen); seq = seq; at = at }) indices))
      (steady_row body (with_scalar x.text true seen) (length seen.scalars ∷ indices) n.3 (in_body x seen indices n.0 all))
  steady (Print e at) seen indices h all = tt

  steady_row : {k : _} (row : Row_of-Stmt k) (seen : Seen) (indices : List ℕ) → row_faults row seen ≡ [] → All (IsIndexAt seen.scalars) indices → AreSteady (row_ids row seen) indices
  steady_row end_of-Stmt seen indices h all = tt
  steady_row (more_of-Stmt s rest) seen indices h all =
      let n = parts (stmt_faults s seen) (row_faults rest (seen_after s seen)) h in
      (steady s seen indices n.0 all, steady_row rest (seen_after s seen) indices n.1 (kept_after s seen indices all))

all_steady : (ss : List Stmt) (seen : Seen) (indices : List ℕ) → all_faults ss seen ≡ [] → All (IsIndexAt seen.scalars) indices → AreSteady (all_ids ss seen) indices
all_steady [] seen indices h all = tt
all_steady (s ∷ rest) seen indices h all =
    let n = parts (stmt_faults s seen) (all_faults rest (seen_after s seen)) h in
    (steady s seen indices n.0 all, all_steady rest (seen_after s seen) indices n.1 (kept_after s seen indices all))

-- how many variables and how many arrays are declared
vars_in : List Declaration → ℕ
vars_in [] = 0
vars_in (array_decl a ∷ rest) = vars_in rest
vars_in (var_decl v ∷ rest) = vars_in rest + 1

arrays_in : List Declaration → ℕ
arrays_in [] = 0
arrays_in (array_decl a ∷ rest) = arrays_in rest + 1
arrays_in (var_decl v ∷ rest) = arrays_in rest

-- so many variables and so many arrays are declared
abbrev Counts : List Declaration → ℕ → ℕ → Type 0
Counts ds vars arrays = (vars_in ds ≡ vars) × (arrays_in ds ≡ arrays)

counts_if : (b : Bool) (ds others : List Declaration) (vars arrays : ℕ) → Counts ds vars arrays → Counts others vars arrays → Counts (if b then ds else others) vars arrays
counts_if true ds others vars arrays h g = h
counts_if false ds others vars arrays h g = g

counts_from : (a : ArrayDecl) (later : List VarDecl → List Declaration) (arrays : ℕ) → ((vars : List VarDecl) → Counts (later vars) (length vars) arrays)
    → (vars : List VarDecl) → Counts (from_array a later vars) (length vars) (arrays + 1)
unfolding vars_in arrays_in
counts_from a later arrays h [] = ((h []).0, ap (λ n. n + 1) (h []).1)
counts_from a later arrays h (v ∷ rest) =
    let here = h (v ∷ rest) in
    let behind = counts_from a later arrays h rest in
    counts_if (nat_lt v.name.at a.name.at) (var_decl v ∷ from_array a later rest) (array_decl a ∷ later (v ∷ rest)) (length (v ∷ rest)) (arrays + 1)
    (omega (arith, behind.0), behind.1) (here.0, ap (λ n. n + 1) here.1)

counts_map : (vars : List VarDecl) → Counts (map (λ v. var_decl v) vars) (length vars) 0
unfolding vars_in arrays_in
counts_map [] = (refl, refl)
counts_map (v ∷ rest) = let behind = counts_map rest in (omega (arith, behind.0), behind.1)

counted : (arrays : List ArrayDecl) (vars : List VarDecl) → Counts (declarations arrays vars) (length vars) (length arrays)
counted [] vars = counts_map vars
counted (a ∷ arrays) vars =
    let here = counts_from a (declarations arrays) (length arrays) (counted arrays) vars in (here.0, omega (arith, here.1))

-- one more array
abbrev wider : List ℕ → Seen → Seen
wider name seen = record seen { arrays = seen.arrays ++ name ∷ [] }

widens : (x : Use) (seen : Seen) → new_faults x seen ≡ [] → with_array x.text seen ≡ wider x.text seen
widens x seen h = ap (λ b. if b then seen else wider x.text seen) (no_fault (is_seen x.text seen) _ h)

-- what is visible behind declarations without a fault
seen_counts : (ds : List Declaration) (seen : Seen) (cells : ℕ) → declarations_faults ds seen cells ≡ []
    → (length (seen_behind_all ds seen).scalars ≡ length seen.scalars + vars_in ds) × (length (seen_behind_all ds seen).arrays ≡ length seen.arrays + arrays_in ds)
unfolding vars_in arrays_in
seen_counts [] seen cells h = (omega arith, omega arith)
seen_counts (array_decl a ∷ rest) seen cells h =
    let n = parts (new_faults a.name seen ++ cells_faults (array_decl a) (cells + cells_in (array_decl a))) (declarations_faults rest (with_array a.name.text seen) (cells + cells_in (array_decl a))) h in
    let new = parts (new_faults a.name seen) (cells_faults (array_decl a) (cells + cells_in (array_decl a))) n.0 in
    let later = seen_counts rest (with_array a.name.text seen) (cells + cells_in (array_decl a)) n.1 in
    let same = ap (λ (r : Seen). length r.scalars) (widens a.name seen new.0) in
    let more = ap (λ (r : Seen). length r.arrays) (widens a.name seen new.0) ∙ length-append seen.arrays (a.name.text ∷ []) in
    (omega (arith, later.0, same), omega (arith, later.1, more))
seen_counts (var_decl v ∷ rest) seen cells h =
    let n = parts (new_faults v.name seen ++ cells_faults (var_decl v) (cells + 0)) (declarations_faults rest (with_scalar v.name.text false seen) (cells + 0)) h in
    let new = parts (new_faults v.name seen) (cells_faults (var_decl v) (cells + 0)) n.0 in
    let later = seen_counts rest (with_scalar v.name.text false seen) (cells + 0) n.1 in
    (omega (arith, later.0, one_more v.name false seen new.0), omega (arith, later.1, arrays_stay v.name.text false seen))

pub checked_scoped : (p : Program) → IsChecked p → AreScoped p.body (length p.vars) (length p.arrays + 1)
checked_scoped p h =
    let n = parts (declarations_faults (declarations p.arrays p.vars) seen_first 0) (all_faults p.body (seen_by_body p)) h.1 in
    let c = counted p.arrays p.vars in
    let seen = seen_counts (declarations p.arrays p.vars) seen_first 0 n.0 in
    subst (λ (ss : List Stmt). AreScoped ss (length p.vars) (length p.arrays + 1)) (ap (λ (q : Program). q.body) h.2)
    (moved (all_ids p.body (seen_by_body p)) _ _ _ _ (omega (arith, seen.0, c.0)) (omega (arith, seen.1, c.1)) (all_scoped p.body (seen_by_body p) n.1))

no_indices : (scalars : List Visible) → All (IsIndexAt scalars) []
no_indices scalars k d below = absurd (omega (arith, below))

pub checked_steady : (p : Program) → IsChecked p → AreSteady p.body []
checked_steady p h =
    let n = parts (declarations_faults (declarations p.arrays p.vars) seen_first 0) (all_faults p.body (seen_by_body p)) h.1 in
    subst (λ (ss : List Stmt). AreSteady ss []) (ap (λ (q : Program). q.body) h.2) (all_steady p.body (seen_by_body p) [] n.1 (no_indices (seen_by_body p).scalars))

pub begun_scoped : (p : Program) (input : List ℤ) → IsChecked p → AreScoped p.body (length (start_of p input).scalars) (length (start_of p input).arrays)
begun_scoped p input h =
    moved p.body _ _ _ _ (sym (length-map p.vars (λ (d : VarDecl). d.value))) (omega (arith, length-map p.arrays (λ (d : ArrayDecl). replicate (count_of d.cells) (pos 0)))) (checked_scoped p h)
