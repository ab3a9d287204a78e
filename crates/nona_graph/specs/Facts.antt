-- What is known of the units of a loop.
use Rattle.std.specs.Prelude.{◌≡◌, ℕ, ◌==◌, Bool, ◌&&◌, ◌||◌, List, [], nat_le, length, map, filter, false, slice_index_or}
use Rattle.std.specs.List.{flat_map}
use Rattle.nona_tree.specs.declared.trees.Loop.{Loop}
use Rattle.nona_tree.specs.declared.trees.Stmt.{Stmt}
use Rattle.nona_forms.specs.Affine.{among}
use Rattle.nona_plans.specs.declared.graphs.Local.{Local}
use Rattle.nona_plans.specs.declared.graphs.Tie.{Tie}
use Rattle.nona_plans.specs.Components.{up_to}
use Rattle.nona_plans.specs.Mentions.{prints}
use Rattle.nona_plans.specs.Units.{named_in, arrays_in, carried_scalars, written_arrays, carried_arrays, locals_of, uses, tie_of}
use Rattle.nona_graph.specs.declared.parts.Parts.{Parts}
use Rattle.nona_graph.specs.declared.parts.UnitNames.{UnitNames}

-- what a statement names
abbrev pub facts_of : Stmt → UnitNames
facts_of s = record { scalars = named_in s; arrays = arrays_in s; prints = prints s }

-- what the unit at a place names
abbrev pub names_at : List UnitNames → ℕ → UnitNames
names_at units at = slice_index_or units at (record { scalars = []; arrays = []; prints = false })

-- two lists have the same numbers
abbrev pub HaveSame : List ℕ → List ℕ → Type 0
HaveSame xs ys = (id : ℕ) → among id xs ≡ among id ys

-- this is what is known of a loop's units
pub record IsOf (l : Loop) (p : Parts) : Type 0 where
  pub units : p.units.items ≡ map facts_of l.body
  pub scalars : HaveSame p.scalars (carried_scalars l)
  pub written : HaveSame p.written (written_arrays [] l)
  pub carried : HaveSame p.carried (carried_arrays [] l)
  pub locals : p.locals.items ≡ locals_of l

-- whether a local is assigned and two units have it
abbrev pub joins : Loop → ℕ → ℕ → Local → Bool
joins l u v x = x.assigned && (((u == x.unit) || uses l x u) && ((v == x.unit) || uses l x v))

-- the ties of a unit with itself and with those behind it: up to some unit, and all
abbrev pub ties_up_to : Loop → ℕ → ℕ → List Tie
ties_up_to l u n = flat_map (tie_of [] l u) (filter (λ v. nat_le u v) (up_to n))

abbrev pub ties_from : Loop → ℕ → List Tie
ties_from l u = ties_up_to l u (length l.body)

-- the edges from a local's let to each unit that uses it
abbrev pub uses_edges : Loop → Local → List (ℕ × ℕ)
uses_edges l v = map (λ u. (v.unit, u)) (filter (uses l v) (up_to (length l.body)))
