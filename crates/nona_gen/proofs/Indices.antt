-- Cells, counts of turns, and the scalars of a store around a loop.
use Rattle.std.proofs.Common.{◌≡◌, ℕ, suc, ◌+◌, ◌*◌, ◌<◌, ◌≤◌, Bool, true, false, if◌then◌else◌, ℤ, pos, All, zero, List, [], ◌∷◌, ◌++◌, length, refl, sym, ap, ◌∙◌, arith, length-append, length-take}
use Rattle.std.specs.Prelude.{not, slice_set, slice_index_or, Result, Ok, Err, take}
use Rattle.std.proofs.lemmas.List.{get_or-set_same}
use Rattle.std.proofs.lemmas.List.Elements.{All-take, All-append}
use Rattle.std.proofs.Math.Seq.{get_or-append_seam, set-append_seam, take-append_seam, take-suc}
use Rattle.nona_tree.specs.declared.outcomes.Trap.{Trap}
use Rattle.nona_tree.specs.declared.trees.Access.{Access}
use Rattle.nona_tree.specs.Memory.{Memory, scalar_at, cells_of, declare, assign, cut_to}
use Rattle.nona_tree.specs.Numbers.{IsI64, AreI64}
use Rattle.nona_tree.specs.Value.{then_use, place_of, value_of, cell_of}
use Rattle.nona_gen.proofs.Values.{place_within}
use Rattle.nona_gen.proofs.Opened.{Good}

then_ok : {A B : Type 0} (o : Result A Trap) (f : A → Result B Trap) (j : B) (P : Type 0) → ((v : A) → f v ≡ Ok j → P) → then_use o f ≡ Ok j → P
then_ok (Ok v) f j P h e = h v e
then_ok (Err t) f j P h e = cc

pub cell_within : (c : Access) (m : Memory) (j : ℕ) → cell_of c m ≡ Ok j → j < length (cells_of m c.array.id)
cell_within c m j e =
    then_ok (value_of c.index m) (λ i. place_of c.wrap c.array.at (length (cells_of m c.array.id)) i) j _ (λ i h. place_within c.wrap c.array.at (length (cells_of m c.array.id)) i j h) e

pub more_turns : (j M : ℕ) → (suc j + 1) * M ≡ M + (j + 1) * M
more_turns j M = grind arith

pub some_turns : (j M : ℕ) → M ≤ (j + 1) * M
some_turns j M = let e : (j + 1) * M ≡ j * M + M = grind arith in omega (arith, e)

pub counter_is : (depth c : ℕ) (k : List ℕ) → depth < length k → slice_index_or (slice_set k depth c) depth 0 ≡ c
counter_is depth c k below = get_or-set_same k depth c 0 below

pub if_not : (c : Bool) (x y : ℕ) → (if not c then x else y) ≡ (if c then y else x)
if_not true x y = refl
if_not false x y = refl

pub cut_good : (L A : ℕ) (m : Memory) → L ≤ length m.scalars → length m.arrays ≡ A → AreI64 m → Good L A (cut_to L m)
cut_good L A m le arrays fits = record {
  scalars = omega (arith, le, length-take L m.scalars);
  arrays = arrays;
  fits = record { scalars = All-take IsI64 L m.scalars fits.scalars; arrays = fits.arrays; printed = fits.printed };
}

pub one_all : (P : ℤ → Type 0) (x : ℤ) → P x → All P (x ∷ [])
one_all P x h zero d below = h
one_all P x h (suc k) d below = absurd (omega (arith, below))

pub declared_good : (L A : ℕ) (x : ℤ) (m : Memory) → IsI64 x → Good L A m → Good (L + 1) A (declare x m)
declared_good L A x m fits good = record {
  scalars = omega (arith, length-append m.scalars (x ∷ []), good.scalars);
  arrays = good.arrays;
  fits = record { scalars = All-append IsI64 m.scalars (x ∷ []) good.fits.scalars (one_all IsI64 x fits); arrays = good.fits.arrays; printed = good.fits.printed };
}

abbrev pub with_scalars : Memory → List ℤ → Memory
with_scalars m xs = record { scalars = xs; arrays = m.arrays; printed = m.printed }

pub index_at : (id : ℕ) (x : ℤ) (m : Memory) → id ≡ length m.scalars → scalar_at (declare x m) id ≡ x
index_at id x m e = ap (λ j. slice_index_or (m.scalars ++ x ∷ []) j (pos 0)) e ∙ get_or-append_seam m.scalars x [] (pos 0)

pub index_set : (id : ℕ) (x v : ℤ) (m : Memory) → id ≡ length m.scalars → assign id v (declare x m) ≡ declare v m
index_set id x v m e = ap (with_scalars m) (ap (λ j. slice_set (m.scalars ++ x ∷ []) j v) e ∙ set-append_seam m.scalars x [] v)

pub index_dropped : (L : ℕ) (x : ℤ) (m : Memory) → length m.scalars ≡ L → cut_to L (declare x m) ≡ m
index_dropped L x m e = ap (λ c. cut_to c (declare x m)) (sym e) ∙ ap (with_scalars m) (take-append_seam m.scalars (x ∷ []))

pub index_kept : (L : ℕ) (x : ℤ) (r : Memory) → L < length r.scalars → scalar_at r L ≡ x → cut_to (L + 1) r ≡ declare x (cut_to L r)
index_kept L x r below is =
    let e : L + 1 ≡ suc L = omega arith in
    ap (with_scalars r) (ap (λ c. take c r.scalars) e ∙ take-suc r.scalars L (pos 0) below ∙ ap (λ v. take L r.scalars ++ v ∷ []) is)
