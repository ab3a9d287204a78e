-- Walks along the edges of a dependence graph. Its units are numbered from 1.
use Rattle.std.specs.Prelude.{◌≡◌, ℕ, zero, suc, ◌≤◌, ◌==◌, Bool, true, false, ◌&&◌, ◌||◌, List, [], ◌∷◌}

-- whether an edge leads from one unit to another
abbrev pub has_edge : List (ℕ × ℕ) → ℕ → ℕ → Bool
has_edge [] i j = false
has_edge (e ∷ edges) i j = ((e.0 == i) && (e.1 == j)) || has_edge edges i j

-- a walk along edges from one unit to another; one of no edge stays
pub data Walk (edges : List (ℕ × ℕ)) : ℕ → ℕ → Type 0 where
  stays : (i : ℕ) → Walk edges i i
  goes : (i j k : ℕ) → has_edge edges i j ≡ true → Walk edges j k → Walk edges i k

-- a number from 1 to n
abbrev pub IsUnit : ℕ → ℕ → Type 0
IsUnit n u = (1 ≤ u) × (u ≤ n)

-- each edge leads from a unit to a unit
abbrev pub AreBetween : ℕ → List (ℕ × ℕ) → Type 0
AreBetween n edges = (i j : ℕ) → has_edge edges i j ≡ true → IsUnit n i × IsUnit n j

-- whether a walk leads from one unit to another on which all units between are from 1 to k: one that doesn't come to k, or one to k
-- and one from there
abbrev pub leads_through : List (ℕ × ℕ) → ℕ → ℕ → ℕ → Bool
leads_through edges zero i j = (i == j) || has_edge edges i j
leads_through edges (suc k) i j =
    leads_through edges k i j || (leads_through edges k i (suc k) && leads_through edges k (suc k) j)

-- whether a walk leads from one of n units to another
abbrev pub leads : List (ℕ × ℕ) → ℕ → ℕ → ℕ → Bool
leads edges n i j = leads_through edges n i j

-- whether walks lead both ways
abbrev pub are_together : List (ℕ × ℕ) → ℕ → ℕ → ℕ → Bool
are_together edges n i j = leads edges n i j && leads edges n j i
