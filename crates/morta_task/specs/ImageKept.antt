-- What stands of an image.
use Rattle.std.specs.Prelude.{◌≡◌, ◌+◌, ◌<◌, ◌^◌, List, [], map, All, length}
use Rattle.nona_tree.specs.declared.trees.Stmt.{For}
use Rattle.nona_tree.specs.Entries.{regions_all}
use Rattle.nona_tree.specs.Numbers.{IsI64Stmt}
use Rattle.nona_tree.specs.Scope.{IsSteady}
use Rattle.nona_tree.specs.Smallness.{IsSmallLoop}
use Rattle.nona_code.specs.declared.instr.Instr.{Instr}
use Rattle.nona_code.specs.Main.{StandsForMain}
use Rattle.morta_task.specs.RegionView.{RegionView}
use Rattle.morta_task.specs.ImageView.{ImageView, is_region_of}

-- The code stands for the main statements and stops at the regions; these are the loops of the main statements at their places,
-- few enough to be numbered, and each is small, has numbers of 64 bits and assigns no index.
pub record CanRun (code : List Instr) (image : ImageView) : Type 0 where
  pub stands : StandsForMain code (is_region_of image) image.main
  pub loops : map (λ (region : RegionView). region.looped) image.regions ≡ regions_all (is_region_of image) image.main
  pub few : length image.regions + 1 < 2 ^ 32
  pub steady : All (λ (region : RegionView). IsSteady (For region.looped) []) image.regions
  pub small : All (λ (region : RegionView). IsSmallLoop region.looped) image.regions
  pub numbers : All (λ (region : RegionView). IsI64Stmt (For region.looped)) image.regions
