-- Code of statements, one after another.
use Rattle.std.specs.Prelude.{◌≡◌, ◌≤◌, ℕ, Bool, false, List, [], ◌∷◌, length, map, drop, Some, slice_get, slice_index_or}
use Rattle.nona_tree.specs.declared.outcomes.Outcome.{Outcome}
use Rattle.nona_tree.specs.declared.trees.Stmt.{Stmt}
use Rattle.nona_tree.specs.Memory.{Memory}
use Rattle.nona_tree.specs.Run.{run, Reaches}
use Rattle.nona_tree.specs.Scope.{IsScoped, is_let}
use Rattle.nona_code.specs.SoundView.{SoundView}
use Rattle.nona_code.specs.Stands.{StandsFor}
use Rattle.nona_units.specs.UnitsView.{UnitsView}

-- these codes stand for these statements, one for each in the same order
abbrev pub AreUnits : List SoundView → List Stmt → Type 0
AreUnits [] [] = Unit {0}
AreUnits (code ∷ codes) (s ∷ rest) = StandsFor code.instrs s × AreUnits codes rest
AreUnits [] (s ∷ rest) = ⊥
AreUnits (code ∷ codes) [] = ⊥

-- none of these codes takes more room on a stack than this
abbrev pub HaveRoom : List SoundView → ℕ → Type 0
HaveRoom codes room = (k : ℕ) (code : SoundView) → slice_get codes k ≡ Some code → code.deepest ≤ room

-- the first of these statements, where there is one, has its scalars and arrays in a store
abbrev pub IsFirstScoped : List Stmt → Memory → Type 0
IsFirstScoped [] m = Unit {0}
IsFirstScoped (s ∷ rest) m = IsScoped s (length m.scalars) (length m.arrays)

-- the run of the first of these statements, where there is one, ends so and leaves this store
abbrev pub FirstReaches : List Stmt → ℕ → Memory → Memory → Outcome → Type 0
FirstReaches [] n m r end = Unit {0}
FirstReaches (s ∷ rest) n m r end = Reaches (run s n m) r end

-- whether the statement with this number declares a scalar that stays behind it
abbrev pub is_let_at : List Stmt → ℕ → Bool
is_let_at body at = slice_index_or (map is_let body) at false

-- the code of the statement with this number stands for it, and takes no more room than is said
pub record IsUnitAt (code : SoundView) (units : UnitsView) (at : ℕ) : Type 0 where
  pub statement : Stmt
  pub rest : List Stmt
  pub here : drop at units.body ≡ statement ∷ rest
  pub stands : StandsFor code.instrs statement
  pub room : code.deepest ≤ units.room
