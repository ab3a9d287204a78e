-- Codes of statements, by their numbers.
use Rattle.std.proofs.Common.{◌≡◌, ◌≤◌, ◌<◌, ◌+◌, ℕ, zero, suc, List, [], ◌∷◌, length, drop, refl, sym, ap, subst, ◌∙◌, arith, Some, slice_get, ◌⊎◌, inl, inr}
use Rattle.std.proofs.lemmas.Bool.{cases_lt}
use Rattle.std.proofs.lemmas.Option.{slice_get_within}
use Rattle.nona_tree.specs.declared.trees.Stmt.{Stmt}
use Rattle.nona_code.specs.SoundView.{SoundView}
use Rattle.nona_code.specs.Stands.{StandsFor}
use Rattle.nona_units.specs.Units.{AreUnits, HaveRoom, IsUnitAt}
use Rattle.nona_units.specs.UnitsView.{UnitsView}

-- there are as many codes as statements
pub as_many_codes : (codes : List SoundView) (body : List Stmt) → AreUnits codes body → length codes ≡ length body
as_many_codes [] [] h = refl
as_many_codes [] (s ∷ rest) h = absurd h
as_many_codes (code ∷ codes) [] h = absurd h
as_many_codes (code ∷ codes) (s ∷ rest) h = ap suc (as_many_codes codes rest h.1)

-- the statement with this number, for which its code stands
pub record HasCodeAt (code : SoundView) (body : List Stmt) (at : ℕ) : Type 0 where
  pub statement : Stmt
  pub rest : List Stmt
  pub here : drop at body ≡ statement ∷ rest
  pub stands : StandsFor code.instrs statement

pub code_at : (codes : List SoundView) (body : List Stmt) (at : ℕ) (code : SoundView) → AreUnits codes body → slice_get codes at ≡ Some code → HasCodeAt code body at
code_at [] body at code h e = let within : at < 0 = slice_get_within [] at code e in absurd (omega (arith, within))
code_at (c ∷ codes) [] at code h e = absurd h
code_at (c ∷ codes) (s ∷ rest) zero code h e =
    let is : c ≡ code = cc in
    record { statement = s; rest = rest; here = refl; stands = subst (λ (x : SoundView). StandsFor x.instrs s) is h.0 }
code_at (c ∷ codes) (s ∷ rest) (suc at) code h e =
    let found = code_at codes rest at code h.1 e in
    record { statement = found.statement; rest = found.rest; here = found.here; stands = found.stands }

-- the room is enough for the first codes
abbrev pub FitUpTo : List SoundView → ℕ → ℕ → Type 0
FitUpTo codes count room = (k : ℕ) (code : SoundView) → k < count → slice_get codes k ≡ Some code → code.deepest ≤ room

fit_at : (codes : List SoundView) (count room more k : ℕ) (code other : SoundView) → FitUpTo codes count room → slice_get codes count ≡ Some code
    → room ≤ more → code.deepest ≤ more → k < count + 1 → slice_get codes k ≡ Some other → (k < count) ⊎ (count ≤ k) → other.deepest ≤ more
fit_at codes count room more k code other fit here grown enough within found (inl below) = omega (arith, fit k other below found, grown)
fit_at codes count room more k code other fit here grown enough within found (inr above) =
    let same : k ≡ count = omega (arith, within, above) in
    let one : Some code ≡ Some other = sym here ∙ ap (slice_get codes) (sym same) ∙ found in
    let is : code ≡ other = cc in
    subst (λ (x : SoundView). x.deepest ≤ more) is enough

-- and for one more
pub fit_more : (codes : List SoundView) (count room more : ℕ) (code : SoundView) → FitUpTo codes count room → slice_get codes count ≡ Some code
    → room ≤ more → code.deepest ≤ more → FitUpTo codes (count + 1) more
fit_more codes count room more code fit here grown enough =
    λ k other within found. fit_at codes count room more k code other fit here grown enough within found (cases_lt k count)

-- so it is for all, where there are no more
pub fit_all : (codes : List SoundView) (count room : ℕ) → FitUpTo codes count room → length codes ≤ count → HaveRoom codes room
fit_all codes count room fit past = λ k code found. fit k code (omega (arith, slice_get_within codes k code found, past)) found

-- the statement with this number, with its code, where the code has room
pub unit_at : (codes : List SoundView) (units : UnitsView) (at : ℕ) (code : SoundView) → AreUnits codes units.body → HaveRoom codes units.room
    → slice_get codes at ≡ Some code → IsUnitAt code units at
unit_at codes units at code stand fit found =
    let here = code_at codes units.body at code stand found in
    record { statement = here.statement; rest = here.rest; here = here.here; stands = here.stands; room = fit at code found }
