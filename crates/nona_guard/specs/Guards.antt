-- The guard of a loop, and when it may be asked.
use Rattle.std.specs.Prelude.{◌≡◌, ◌≤◌, ℕ, ◌+◌, Bool, ℤ, pos, ◌-ℤ◌, [], ◌∷◌, IsTrue, length}
use Rattle.nona_tree.specs.declared.trees.Loop.{Loop}
use Rattle.nona_tree.specs.declared.trees.Stmt.{For}
use Rattle.nona_tree.specs.Memory.{Memory}
use Rattle.nona_tree.specs.Scope.{IsScoped}
use Rattle.nona_tree.specs.Smallness.{IsSmallLoop}
use Rattle.nona_forms.specs.Calm.{is_calm}
use Rattle.nona_forms.specs.References.{names_of}
use Rattle.nona_guard.specs.declared.guards.Guard.{Guard}
use Rattle.nona_guard.specs.Asked.{asked_all}
use Rattle.nona_guard.specs.Checks.{AreThere, checks_nesting, hold_all, ranges_by}
use Rattle.nona_guard.specs.declared.bounds.Bound.{Bound}

-- what is asked of a loop
abbrev pub asked_by : Loop → Guard
asked_by l = record { index = l.index.id; checks = asked_all l.body (names_of l) }

-- the guard of a calm loop
abbrev pub IsGuardOf : Loop → Guard → Type 0
IsGuardOf l g = IsTrue (is_calm l) × (g ≡ asked_by l)

-- the guard may be asked over a store: it is that of a small loop, whose scalars and arrays the store has
abbrev pub MayBeAsked : Guard → Memory → Type 0
MayBeAsked g m = (l : Loop) × IsGuardOf l g × IsSmallLoop l × IsScoped (For l) (length m.scalars) (length m.arrays)

-- the range of the index, in the iterations from low to last - 1
abbrev pub index_bound : ℕ → ℤ → ℤ → Bound
index_bound index low last = record { id = index; range = record { low = low; high = last -ℤ pos 1 } }

-- whether all that a guard asks holds for those iterations
abbrev pub holds_guard : Guard → Memory → ℤ → ℤ → ℕ → Bool
holds_guard g m low last n = hold_all g.checks (ranges_by g.index m (index_bound g.index low last ∷ [])) m n

-- what the walk over the checks needs: the index is the next scalar, the arrays are there, and not too many loops lie one inside
-- another
pub record IsReady (g : Guard) (m : Memory) : Type 0 where
  pub index : length m.scalars ≡ g.index
  pub there : AreThere g.checks (length m.arrays)
  pub room : checks_nesting g.checks + 1 ≤ 64
