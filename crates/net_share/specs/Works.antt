-- What the tasks of an interval compute that share its iterations.
use Rattle.std.specs.Prelude.{ℕ, ℤ, pos, ◌+ℤ◌, List, [], ◌∷◌, drop, length}
use Rattle.nona_tree.specs.declared.trees.Stmt.{Stmt}
use Rattle.nona_tree.specs.Memory.{Memory, declare, cut_to}
use Rattle.nona_tree.specs.Run.{Ran, done, run}
use Rattle.net_share.specs.declared.iterations.Iterations.{Iterations}
use Rattle.net_flow.specs.Net.{Work}
use Rattle.net_flow.specs.Sharing.{sharing_shape}

-- the units of a loop's body, the index of the interval's first iteration, how many turns a loop in a unit may take, and how many
-- scalars are around the loop
pub record Doing : Type 0 where
  pub body : List Stmt
  pub from : ℤ
  pub turns : ℕ
  pub depth : ℕ

-- what tasks do that share these iterations, where so many scalars are around the loop
abbrev pub doing : Iterations → ℕ → Doing
doing i depth = record { body = i.units.now.body; from = i.from; turns = i.turns; depth = depth }

-- the run of the first of these statements; nothing is done where there is none
abbrev pub run_first : List Stmt → ℕ → Memory → Ran
run_first [] n m = done m
run_first (s ∷ rest) n m = run s n m

-- What each of W tasks computes on the store that it sees: an iteration begins with its index as a new scalar; a unit is the run
-- of its statement; and at the iteration's end the scalars that are in it go.
abbrev pub sharing_work : Doing → ℕ → Work Memory (Unit {0})
sharing_work does W = record {
  shape = sharing_shape W (length does.body);
  enter = λ s k p m. declare (does.from +ℤ pos k) m;
  unit = λ s u m. (run_first (drop u does.body) does.turns m).store;
  leave = λ s m. cut_to does.depth m;
  packet = λ s m. tt;
  no_packet = tt;
  no_values = record { scalars = []; arrays = []; printed = [] };
}

-- the same as one task has it: what a task computes doesn't depend on how many there are
abbrev pub task_work : Doing → Work Memory (Unit {0})
task_work does = sharing_work does 1
