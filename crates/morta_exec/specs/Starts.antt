-- How a run of an image starts.
use Rattle.std.specs.Prelude.{ℕ, length}
use Rattle.nona_tree.specs.Memory.{Memory}
use Rattle.nona_tree.specs.Numbers.{AreI64}
use Rattle.nona_tree.specs.Run.{done}
use Rattle.nona_tree.specs.Scope.{AreScoped}
use Rattle.nona_main.specs.Course.{course_of}
use Rattle.nona_code.specs.declared.main_frame.CodeFrame.{CodeFrame}
use Rattle.nona_code.specs.MainLeft.{IsLeft}
use Rattle.morta_task.specs.ImageView.{ImageView, is_region_of}

-- a frame stands before the main statements of an image: from each store that has their scalars and arrays, their whole course is
-- to come
abbrev pub BeginsImage : ImageView → CodeFrame → Type 0
BeginsImage image frame =
    (n : ℕ) (m : Memory) → AreScoped image.main (length m.scalars) (length m.arrays) → AreI64 m
    → IsLeft frame n (done m) (course_of (is_region_of image) 1 image.main n m)
