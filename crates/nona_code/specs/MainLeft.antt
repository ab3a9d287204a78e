-- What is left to come of a frame for main code.
use Rattle.std.specs.Prelude.{◌≤◌, ℕ, Bool, List, length}
use Rattle.nona_tree.specs.declared.trees.Loop.{Loop}
use Rattle.nona_tree.specs.declared.trees.Stmt.{Stmt}
use Rattle.nona_tree.specs.Memory.{Memory, Extends}
use Rattle.nona_tree.specs.Numbers.{AreI64}
use Rattle.nona_tree.specs.Run.{Ran, done}
use Rattle.nona_tree.specs.Scope.{AreScoped}
use Rattle.nona_code.specs.Course.{Course, course_of}
use Rattle.nona_code.specs.declared.main_frame.CodeFrame.{CodeFrame}
use Rattle.nona_code.specs.Machine.{State}
use Rattle.nona_code.specs.Main.{Left, StandsForMain}
use Rattle.nona_code.specs.Ready.{state_of}
use Rattle.nona_code.specs.SoundView.{SoundView}
use Rattle.nona_code.specs.Stops.{Follows}

-- where a frame stands, over this store
abbrev pub state_in : CodeFrame → Memory → State
state_in frame m = state_of frame.registers frame.pc m

-- with this turn bound, and once the region at hand has ended so, this course is to come of a frame: its code has it to come, and
-- it only adds to what is printed; its stack has room for the code, and a way of the code leads to where it stands
pub record IsLeft (frame : CodeFrame) (n : ℕ) (r : Ran) (course : Course) : Type 0 where
  pub left : Left frame.code.now.instrs n (state_in frame r.store) r.end course
  pub prints : Extends r.store.printed course.ran.store.printed
  pub room : frame.code.now.deepest ≤ frame.registers.stack.room
  pub base : ℕ
  pub follows : Follows frame.code.now.instrs base (state_in frame r.store)

-- a frame stands before main code: of whatever statements the code stands for, the whole course is to come
abbrev pub BeginsMain : SoundView → CodeFrame → Type 0
BeginsMain code frame = (chosen : Loop → Bool) (ss : List Stmt) → StandsForMain code.instrs chosen ss
    → (n : ℕ) (m : Memory) → AreScoped ss (length m.scalars) (length m.arrays) → AreI64 m
    → IsLeft frame n (done m) (course_of chosen 1 ss n m)
