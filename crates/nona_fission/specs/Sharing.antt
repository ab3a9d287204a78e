-- The sharing out of a loop's iterations: what each of several tasks runs, and what it writes.
use Rattle.std.specs.Prelude.{◌≡◌, ℕ, zero, suc, ◌+◌, ◌<◌, ◌==◌, Bool, true, false, ◌&&◌, if◌then◌else◌, ℤ, pos, ◌+ℤ◌, ◌≤ℤ◌, List, [], ◌∷◌, ◌++◌, length, IsTrue, Some, None}
use Rattle.std.specs.List.{list_any}
use Rattle.nona_num.specs.declared.folds.Fold.{Fold}
use Rattle.nona_num.specs.Folds.{unit_of, join_of}
use Rattle.nona_tree.specs.declared.trees.Stmt.{For}
use Rattle.nona_tree.specs.Beside.{on_done}
use Rattle.nona_tree.specs.Deeds.{Deed, stores, joins, deeds_all, SameSizes}
use Rattle.nona_tree.specs.Entries.{Entry, after}
use Rattle.nona_tree.specs.Memory.{Memory, scalar_at, cell_at, declare, assign}
use Rattle.nona_tree.specs.Run.{Ran, done, then_do, turn, run_all}
use Rattle.nona_tree.specs.Scope.{IsSteady}
use Rattle.nona_forms.specs.Calm.{is_calm}
use Rattle.nona_forms.specs.Guards.{guard_of}
use Rattle.nona_forms.specs.Separate.{IsLoopEntry}
use Rattle.nona_plans.specs.Mentions.{prints, reduction_of}
use Rattle.nona_plans.specs.Units.{ties_of, reductions_of}

-- iterations of an entry that are shared out: the number of the first one, counted from the entry's low bound, how many they are,
-- among how many tasks, and which task owns each; an iteration's number is counted from the first one
pub record Sharing : Type 0 where
  pub entry : Entry
  pub first : ℕ
  pub count : ℕ
  pub tasks : ℕ
  pub owner : ℕ → ℕ

-- iterations may be shared out: they are iterations of a small calm loop that was entered, whose guard holds, of which no tie is
-- loop-carried and which prints nothing; and each has one of the tasks as its owner
pub record MayBeShared (s : Sharing) : Type 0 where
  pub entered : IsLoopEntry s.entry.looped s.entry.store s.entry.low s.entry.last
  pub steady : IsSteady (For s.entry.looped) []
  pub calm : IsTrue (is_calm s.entry.looped)
  pub guarded : IsTrue (guard_of s.entry.looped s.entry.store s.entry.low s.entry.last s.entry.turns)
  pub untied : list_any (λ t. t.carried) (ties_of s.entry.looped) ≡ false
  pub silent : list_any prints s.entry.looped.body ≡ false
  pub within : (s.entry.low +ℤ pos (s.first + s.count)) ≤ℤ s.entry.last
  pub owned : (k : ℕ) → k < s.count → s.owner k < s.tasks

-- the store before these iterations, and the store behind them, where one thread runs them in order
abbrev pub store_before : Sharing → Memory
store_before s = (after s.entry s.first).store

abbrev pub store_behind : Sharing → Memory
store_behind s = (after s.entry (s.first + s.count)).store

-- the index in an iteration, counted from this first one
abbrev pub index_of : Entry → ℕ → ℕ → ℤ
index_of e first k = e.low +ℤ pos (first + k)

-- an iteration, which is the whole body
abbrev pub iteration : Entry → ℕ → ℕ → Memory → Ran
iteration e first k m = turn (run_all e.looped.body e.turns) (index_of e first k) m

-- what it reads and writes
abbrev pub iteration_deeds : Entry → ℕ → ℕ → Memory → List Deed
iteration_deeds e first k m = deeds_all e.looped.body e.turns (declare (index_of e first k) m)

-- the iterations with these numbers, one after another
abbrev pub turns_over : Entry → ℕ → List ℕ → Memory → Ran
turns_over e first [] m = done m
turns_over e first (k ∷ ks) m = then_do (iteration e first k m) (turns_over e first ks)

-- what they read and write
abbrev pub turns_deeds : Entry → ℕ → List ℕ → Memory → List Deed
turns_deeds e first [] m = []
turns_deeds e first (k ∷ ks) m = iteration_deeds e first k m ++ on_done (iteration e first k m) (turns_deeds e first ks)

-- the numbers below a count that a task owns, in rising order
abbrev pub owned_below : (ℕ → ℕ) → ℕ → ℕ → List ℕ
owned_below owner task zero = []
owned_below owner task (suc k) = owned_below owner task k ++ (if owner k == task then k ∷ [] else [])

-- the numbers of a task's iterations
abbrev pub numbers_of : Sharing → ℕ → List ℕ
numbers_of s task = owned_below s.owner task s.count

-- a store in which each of these scalars has the unit of its fold
abbrev pub with_units : List (ℕ × Fold) → Memory → Memory
with_units [] m = m
with_units (r ∷ rs) m = with_units rs (assign r.0 (unit_of r.1) m)

-- the store with which each task begins: the one before the iterations, with each reduction at its unit
abbrev pub store_begun : Sharing → Memory
store_begun s = with_units (reductions_of s.entry.looped) (store_before s)

-- the run of a task: its iterations in rising order, in a store of its own
abbrev pub task_run : Sharing → ℕ → Ran
task_run s task = turns_over s.entry s.first (numbers_of s task) (store_begun s)

-- whether a deed writes the cell of this array at this place
abbrev pub is_write : ℕ → ℕ → Deed → Bool
is_write array place (stores a p) = a == array && p == place
is_write array place (joins f a p) = a == array && p == place
is_write array place _ = false

-- whether a task writes this cell
abbrev pub writes_cell : Sharing → ℕ → ℕ → ℕ → Bool
writes_cell s task array place =
    list_any (is_write array place) (turns_deeds s.entry s.first (numbers_of s task) (store_begun s))

-- what a task has made of a reduction, from its unit on
abbrev pub partial_of : Sharing → ℕ → ℕ → ℤ
partial_of s id task = scalar_at (task_run s task).store id

-- a number joined with those of the first tasks, in order of tasks
abbrev pub joined_with : Fold → ℤ → (ℕ → ℤ) → ℕ → ℤ
joined_with f v partial zero = v
joined_with f v partial (suc task) = join_of f (joined_with f v partial task) (partial task)

-- a store that is made of what the tasks leave: each cell that a task writes is as in the task's store, and any other as before; each
-- reduction is joined with what the tasks have made of it, and any other scalar is as before; and nothing is printed
pub record IsSettled (s : Sharing) (m : Memory) : Type 0 where
  pub depth : length m.scalars ≡ length (store_before s).scalars
  pub scalars : (id : ℕ) → id < length m.scalars → reduction_of s.entry.looped id ≡ None → scalar_at m id ≡ scalar_at (store_before s) id
  pub reductions : (id : ℕ) (f : Fold) → reduction_of s.entry.looped id ≡ Some f
      → scalar_at m id ≡ joined_with f (scalar_at (store_before s) id) (partial_of s id) s.tasks
  pub arrays : length m.arrays ≡ length (store_before s).arrays
  pub sizes : SameSizes (store_before s) m
  pub written : (task array place : ℕ) → task < s.tasks → writes_cell s task array place ≡ true
      → cell_at m array place ≡ cell_at (task_run s task).store array place
  pub left : (array place : ℕ) → ((task : ℕ) → task < s.tasks → writes_cell s task array place ≡ false)
      → cell_at m array place ≡ cell_at (store_before s) array place
  pub printed : m.printed ≡ (store_before s).printed
