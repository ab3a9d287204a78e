-- A run keeps each scalar of these names, where its text assigns none of them.
use Rattle.std.proofs.Common.{◌≡◌, ℕ, suc, ◌<◌, ◌==◌, Bool, true, false, ℤ, pos, List, [], ◌∷◌, length, refl, sym, ◌∙◌, arith, if◌then◌else◌, length-append}
use Rattle.std.proofs.lemmas.List.{length-take, get_or-take, get_or_append_left}
use Rattle.std.specs.List.{Contains}
use Rattle.nona_tree.specs.declared.trees.Stmt.{Stmt, Row_of-Stmt}
use Rattle.nona_tree.specs.Memory.{Memory, scalar_at, declare, cut_to}
use Rattle.nona_tree.specs.Run.{Ran, run, run_row, turn}
use Rattle.nona_tree.specs.Scope.{IsSteady, IsRowSteady}
use Rattle.nona_tree.proofs.Keeps.{IsPreorder, NoFewer, scalars_kept, row_kept}
use Rattle.nona_tree.proofs.Steady.{steady_keeps}
use Rattle.nona_forms.specs.Affine.{among}
use Rattle.nona_forms.proofs.InBoxes.{ids_same}
use Rattle.nona_forms.proofs.Touching.{row_stays}

-- a scalar that is there stays there, with its value
abbrev pub Keeps : ℕ → Memory → Memory → Type 0
Keeps id m r = id < length m.scalars → (id < length r.scalars) × (scalar_at r id ≡ scalar_at m id)

pub keeps_order : (id : ℕ) → IsPreorder (Keeps id)
keeps_order id = record {
  same = λ m there. (there, refl);
  chain = λ a b c h g there. let k = h there in let j = g k.0 in (j.0, (j.1 ∙ k.1));
}

keeps_declared : (id : ℕ) (v : ℤ) (m : Memory) → Keeps id m (declare v m)
keeps_declared id v m there = (omega (arith, there, length-append m.scalars (v ∷ [])), get_or_append_left m.scalars (v ∷ []) (pos 0) id there)

keeps_cut : (id : ℕ) (outer m : Memory) → Keeps id outer m → Keeps id outer (cut_to (length outer.scalars) m)
keeps_cut id outer m h there =
    (omega (arith, there, (h there).0, length-take (length outer.scalars) m.scalars), get_or-take (length outer.scalars) m.scalars id (pos 0) there ∙ (h there).1)

pub keeps_turn : (id : ℕ) (body : Memory → Ran) → ((x : Memory) → Keeps id x (body x).store) → (i : ℤ) (m : Memory) → Keeps id m (turn body i m).store
keeps_turn id body h i m =
    keeps_cut id m (body (declare i m)).store ((keeps_order id).chain m (declare i m) (body (declare i m)).store (keeps_declared id i m) (h (declare i m)))

-- what is found among names is contained
contained_at : (id x : ℕ) (names : List ℕ) (b : Bool) → (id == x) ≡ b → (among id names ≡ true → Contains names id) → (if b then true else among id names) ≡ true → Contains (x ∷ names) id
contained_at id x names true e h k = (0, omega arith, sym (ids_same id x e))
contained_at id x names false e h k = let c = h k in (suc c.0, omega (arith, c.1), c.2)

contained : (id : ℕ) (names : List ℕ) → among id names ≡ true → Contains names id
contained id [] e = cc
contained id (x ∷ names) e = contained_at id x names (id == x) refl (contained id names) e

either_way : (b c : Bool) → c ≡ true → (if b then true else c) ≡ true
either_way true c h = refl
either_way false c h = h

pub among_more : (x id : ℕ) (names : List ℕ) → among id names ≡ true → among id (x ∷ names) ≡ true
among_more x id names h = either_way (id == x) (among id names) h

pub run_keeps : (id : ℕ) (s : Stmt) (names : List ℕ) → among id names ≡ true → IsSteady s names → (n : ℕ) (m : Memory) → Keeps id m (run s n m).store
run_keeps id s names e steady n m = steady_keeps id s names (contained id names e) steady n m

pub row_keeps : {k : _} (id : ℕ) (row : Row_of-Stmt k) (names : List ℕ) → among id names ≡ true → IsRowSteady row names → (n : ℕ) (m : Memory) → Keeps id m (run_row row n m).store
row_keeps id row names e steady n m there =
    let more : NoFewer m (run_row row n m).store = row_kept NoFewer scalars_kept row n m in
    (omega (arith, there, more), row_stays row names id (contained id names e) steady n m there)
