-- Locals that cross from one stage to the next.
use Rattle.std.specs.Prelude.{ℕ, Bool, not, ◌&&◌, List}
use Rattle.std.specs.List.{list_any}
use Rattle.nona_tree.specs.declared.trees.Loop.{Loop}
use Rattle.nona_forms.specs.Affine.{among}
use Rattle.nona_plans.specs.declared.graphs.Local.{Local}
use Rattle.nona_plans.specs.Units.{uses}

-- whether a local is never assigned, is declared in the one list of units and is used in the other
abbrev pub does_cross : Loop → List ℕ → List ℕ → Local → Bool
does_cross l earlier later v = not v.assigned && (among v.unit earlier && list_any (uses l v) later)
