-- When two accesses of a loop are separate.
use Rattle.std.specs.Prelude.{◌≡◌, ◌≢◌, ℕ, ℤ, pos, ◌≤ℤ◌, ◌<ℤ◌, length, Ok, Some}
use Rattle.nona_tree.specs.declared.trees.Loop.{Loop}
use Rattle.nona_tree.specs.declared.trees.Stmt.{For}
use Rattle.nona_tree.specs.Memory.{Memory, scalar_at, cells_of}
use Rattle.nona_tree.specs.Numbers.{AreI64, IsI64Stmt}
use Rattle.nona_tree.specs.Scope.{IsScoped}
use Rattle.nona_tree.specs.Value.{value_of}
use Rattle.nona_forms.specs.Affine.{Affine, form_at, form_of}
use Rattle.nona_forms.specs.References.{Reference, IsPossibleAt, Touches, names_of}
use Rattle.nona_forms.specs.Verdicts.{names_inside}

-- a loop is entered with this store: its bounds have values there, and its iterations are those from low to last - 1, if any
pub record IsLoopEntry (l : Loop) (entry : Memory) (low last : ℤ) : Type 0 where
  pub numbers : AreI64 entry
  pub written : IsI64Stmt (For l)
  pub scoped : IsScoped (For l) (length entry.scalars) (length entry.arrays)
  pub begins : value_of l.low entry ≡ Ok low
  pub ends : (high : ℤ) × (value_of l.high entry ≡ Ok high) × (low <ℤ last → last ≤ℤ high)

-- the exact value of an access's index lies in the array, wherever it may be evaluated in iteration i
abbrev pub LiesAt : Loop → Memory → Reference → ℤ → Type 0
LiesAt l entry x i =
    (m : Memory) (f : Affine) → IsPossibleAt l entry x i m → form_of x.access.index (names_inside (names_of l) x.inner) ≡ Some f
    → (pos 0 ≤ℤ form_at (scalar_at m) f) × (form_at (scalar_at m) f <ℤ pos (length (cells_of entry x.access.array.id)))

-- and in each iteration
abbrev pub Lies : Loop → Memory → ℤ → ℤ → Reference → Type 0
Lies l entry low last x = (i : ℤ) → low ≤ℤ i → i <ℤ last → LiesAt l entry x i

-- no cell is touched by one access in an iteration and by the other in another iteration
abbrev pub AreSeparate : Loop → Memory → ℤ → ℤ → Reference → Reference → Type 0
AreSeparate l entry low last x y =
    (i j : ℤ) (cell : ℕ) → low ≤ℤ i → i <ℤ last → low ≤ℤ j → j <ℤ last → i ≢ j → Touches l entry x i cell → Touches l entry y j cell → ⊥
