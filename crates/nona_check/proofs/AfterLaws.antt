-- What statements leave visible, and how many scalars they add.
use Rattle.std.proofs.Common.{◌≡◌, ℕ, ◌+◌, ◌≤◌, Bool, true, false, if◌then◌else◌, List, [], ◌∷◌, ◌++◌, length, refl, ap, ◌∙◌, arith}
use Rattle.std.proofs.lemmas.List.{length_push, take-append-le, take_all}
use Rattle.nona_tree.specs.declared.trees.Stmt.{Stmt, Let, Set, Fold, Put, FoldPut, If', While', For', Print}
use Rattle.nona_tree.specs.Names.{Visible}
use Rattle.nona_tree.specs.Seen.{Seen, is_seen, with_scalar, with_array, seen_after}
use Rattle.nona_tree.specs.Smallness.{stmt_size}
use Rattle.nona_check.specs.After.{seen_after_all, narrowed_to}

-- ---- how many

more_in : (b : Bool) (seen : Seen) (v : Visible) → length (if b then seen else record seen { scalars = seen.scalars ++ v ∷ [] }).scalars ≤ length seen.scalars + 1
more_in true seen v = omega arith
more_in false seen v = omega (arith, length_push seen.scalars v)

-- a declared scalar is at most one more
pub one_more : (name : List ℕ) (index : Bool) (seen : Seen) → length (with_scalar name index seen).scalars ≤ length seen.scalars + 1
one_more name index seen = more_in (is_seen name seen) seen (record { name = name; index = index })

more_arrays_in : (b : Bool) (seen : Seen) (name : List ℕ) → length (if b then seen else record seen { arrays = seen.arrays ++ name ∷ [] }).arrays ≤ length seen.arrays + 1
more_arrays_in true seen name = omega arith
more_arrays_in false seen name = omega (arith, length_push seen.arrays name)

-- a declared array is at most one more
pub one_more_array : (name : List ℕ) (seen : Seen) → length (with_array name seen).arrays ≤ length seen.arrays + 1
one_more_array name seen = more_arrays_in (is_seen name seen) seen name

same_arrays_in : (b : Bool) (seen : Seen) (v : Visible) → (if b then seen else record seen { scalars = seen.scalars ++ v ∷ [] }).arrays ≡ seen.arrays
same_arrays_in true seen v = refl
same_arrays_in false seen v = refl

-- it leaves the arrays
pub same_arrays : (name : List ℕ) (index : Bool) (seen : Seen) → (with_scalar name index seen).arrays ≡ seen.arrays
same_arrays name index seen = same_arrays_in (is_seen name seen) seen (record { name = name; index = index })

same_scalars_in : (b : Bool) (seen : Seen) (name : List ℕ) → (if b then seen else record seen { arrays = seen.arrays ++ name ∷ [] }).scalars ≡ seen.scalars
same_scalars_in true seen name = refl
same_scalars_in false seen name = refl

-- and an array leaves the scalars
pub same_scalars : (name : List ℕ) (seen : Seen) → (with_array name seen).scalars ≡ seen.scalars
same_scalars name seen = same_scalars_in (is_seen name seen) seen name

-- a statement adds no more scalars than it has parts
pub room_after : (s : Stmt) (seen : Seen) → length (seen_after s seen).scalars ≤ length seen.scalars + stmt_size s
room_after (Let x e) seen = omega (arith, one_more x.text false seen)
room_after (Set x e) seen = omega arith
room_after (Fold x f e) seen = omega arith
room_after (Put c e) seen = omega arith
room_after (FoldPut c f e) seen = omega arith
room_after (If' test p then_part q else_part) seen = omega arith
room_after (While' test p body at) seen = omega arith
room_after (For' x low high p body seq at) seen = omega arith
room_after (Print e at) seen = omega arith

-- ---- after a block

cut_in : (b : Bool) (count : ℕ) (seen : Seen) (v : Visible) → count ≤ length seen.scalars
    → narrowed_to count (if b then seen else record seen { scalars = seen.scalars ++ v ∷ [] }) ≡ narrowed_to count seen
cut_in true count seen v h = refl
cut_in false count seen v h = ap (λ vs. let r : Seen = record { scalars = vs; arrays = seen.arrays } in r) (take-append-le count seen.scalars (v ∷ []) h)

cut_scalar : (name : List ℕ) (index : Bool) (count : ℕ) (seen : Seen) → count ≤ length seen.scalars → narrowed_to count (with_scalar name index seen) ≡ narrowed_to count seen
cut_scalar name index count seen h = cut_in (is_seen name seen) count seen (record { name = name; index = index }) h

cut_after : (s : Stmt) (count : ℕ) (seen : Seen) → count ≤ length seen.scalars → narrowed_to count (seen_after s seen) ≡ narrowed_to count seen
cut_after (Let x e) count seen h = cut_scalar x.text false count seen h
cut_after (Set x e) count seen h = refl
cut_after (Fold x f e) count seen h = refl
cut_after (Put c e) count seen h = refl
cut_after (FoldPut c f e) count seen h = refl
cut_after (If' test p then_part q else_part) count seen h = refl
cut_after (While' test p body at) count seen h = refl
cut_after (For' x low high p body seq at) count seen h = refl
cut_after (Print e at) count seen h = refl

grows_in : (b : Bool) (seen : Seen) (v : Visible) → length seen.scalars ≤ length (if b then seen else record seen { scalars = seen.scalars ++ v ∷ [] }).scalars
grows_in true seen v = omega arith
grows_in false seen v = omega (arith, length_push seen.scalars v)

grows_after : (s : Stmt) (seen : Seen) → length seen.scalars ≤ length (seen_after s seen).scalars
grows_after (Let x e) seen = grows_in (is_seen x.text seen) seen (record { name = x.text; index = false })
grows_after (Set x e) seen = omega arith
grows_after (Fold x f e) seen = omega arith
grows_after (Put c e) seen = omega arith
grows_after (FoldPut c f e) seen = omega arith
grows_after (If' test p then_part q else_part) seen = omega arith
grows_after (While' test p body at) seen = omega arith
grows_after (For' x low high p body seq at) seen = omega arith
grows_after (Print e at) seen = omega arith

cut_all : (ss : List Stmt) (count : ℕ) (seen : Seen) → count ≤ length seen.scalars → narrowed_to count (seen_after_all ss seen) ≡ narrowed_to count seen
cut_all [] count seen h = refl
cut_all (s ∷ ss) count seen h = cut_all ss count (seen_after s seen) (omega (arith, grows_after s seen)) ∙ cut_after s count seen h

cut_same : (count : ℕ) (seen : Seen) → count ≡ length seen.scalars → narrowed_to count seen ≡ seen
cut_same count seen h = ap (λ vs. let r : Seen = record { scalars = vs; arrays = seen.arrays } in r) (take_all count seen.scalars (omega arith))

-- a block leaves visible what was visible before it
pub block_leaves : (ss : List Stmt) (count : ℕ) (seen : Seen) → count ≡ length seen.scalars → narrowed_to count (seen_after_all ss seen) ≡ seen
block_leaves ss count seen h = cut_all ss count seen (omega arith) ∙ cut_same count seen h

-- and so does a loop, whose index is visible in its body alone
pub loop_leaves : (name : List ℕ) (index : Bool) (count : ℕ) (seen : Seen) → count ≡ length seen.scalars → narrowed_to count (with_scalar name index seen) ≡ seen
loop_leaves name index count seen h = cut_scalar name index count seen (omega arith) ∙ cut_same count seen h
