-- What is run, as contracts see it.
use Rattle.std.specs.Prelude.{ℕ, Bool, List, map}
use Rattle.nona_tree.specs.declared.trees.Loop.{Loop}
use Rattle.nona_tree.specs.declared.trees.Stmt.{Stmt}
use Rattle.nona_tree.specs.Entries.{is_among}
use Rattle.morta_task.specs.RegionView.{RegionView}

-- the main statements of a program, and its regions in text order
pub record ImageView : Type 0 where
  pub main : List Stmt
  pub regions : List RegionView

-- the places of the words `for` of its regions
abbrev pub region_places : ImageView → List ℕ
region_places image = map (λ (region : RegionView). region.looped.at) image.regions

-- whether a loop is one of its regions
abbrev pub is_region_of : ImageView → Loop → Bool
is_region_of image = is_among (region_places image)
