-- What an image keeps.
use Rattle.std.specs.Prelude.{◌≡◌}
use Rattle.morta_task.specs.declared.image.Image.TheInside.{Inside}
use Rattle.morta_task.specs.ImageView.{ImageView, region_places}
use Rattle.morta_task.specs.ImageKept.{CanRun}

-- an image, as contracts see it
abbrev pub image_of : Inside → ImageView
image_of a = record { main = a.main.value; regions = a.regions.items }

-- its code and its regions are those of its main statements, and its places are those of the regions
pub record IsImage (a : Inside) : Type 0 where
  pub kept : CanRun a.code.instrs (image_of a)
  pub places : a.places.items ≡ region_places (image_of a)
