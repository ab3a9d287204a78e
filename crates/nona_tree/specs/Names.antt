-- The scalars that are visible at a place of a program, and the ids of their names.
use Rattle.std.specs.Prelude.{ℕ, Bool, ◌&&◌, List, position}
use Rattle.std.specs.declared.option.Option.{Option}
use Rattle.std.specs.List.{list_any}
use Rattle.std.specs.Str.{bytes_eq}
use Rattle.nona_tree.specs.declared.limits.TheConstants.{UNITS}

-- a scalar that is visible, and whether it is the index of a loop
pub record Visible : Type 0 where
  pub name : List ℕ
  pub index : Bool

-- the id of a name among the visible scalars, in order of declaration: how many come before the one that it names
abbrev pub id_of : List ℕ → List Visible → Option ℕ
id_of name visible = position (λ v. bytes_eq v.name name) visible

-- whether a name is that of a visible index
abbrev pub is_index : List ℕ → List Visible → Bool
is_index name visible = list_any (λ v. bytes_eq v.name name && v.index) visible

-- the most statements at the top of a loop's body
abbrev pub unit_bound : ℕ
unit_bound = UNITS
