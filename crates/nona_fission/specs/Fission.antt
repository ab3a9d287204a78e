-- Loop fission: what each of several tasks runs of a loop's iterations where it runs only some units of the body, and what it writes.
use Rattle.std.specs.Prelude.{◌≡◌, ◌⊎◌, ℕ, suc, ◌+◌, ◌<◌, Bool, true, false, ◌||◌, if◌then◌else◌, ℤ, pos, ◌+ℤ◌, ◌≤ℤ◌, List, [], ◌∷◌, ◌++◌, length, IsTrue, Some}
use Rattle.std.specs.List.{Contains, list_any}
use Rattle.nona_num.specs.declared.folds.Fold.{Fold}
use Rattle.nona_plans.specs.declared.graphs.Tie.{Tie}
use Rattle.nona_tree.specs.declared.trees.Stmt.{Stmt, Let, For}
use Rattle.nona_tree.specs.Beside.{on_done}
use Rattle.nona_tree.specs.Deeds.{Deed, deeds}
use Rattle.nona_tree.specs.Entries.{local_at}
use Rattle.nona_tree.specs.Memory.{Memory, scalar_at, cell_at, declare}
use Rattle.nona_tree.specs.Numbers.{IsI64}
use Rattle.nona_tree.specs.Run.{Ran, done, then_do, turn, run}
use Rattle.nona_tree.specs.Scope.{IsSteady}
use Rattle.nona_forms.specs.Calm.{is_calm}
use Rattle.nona_forms.specs.Guards.{guard_of}
use Rattle.nona_forms.specs.Separate.{IsLoopEntry}
use Rattle.nona_plans.specs.declared.graphs.Local.{Local}
use Rattle.nona_plans.specs.Units.{ties_without, locals_of, uses}
use Rattle.nona_fission.specs.Sharing.{Sharing, index_of, numbers_of, store_begun, is_write}
use Rattle.nona_fission.specs.FoldArrays.{fold_array_of, with_copies}

-- a part of a loop that is run apart: the iterations and the tasks that share them; which units of the body these tasks run; of which
-- arrays each task has a copy of its own; and which number stands, in an iteration, for the scalar at a position that another unit
-- declares
pub record Fission : Type 0 where
  pub sharing : Sharing
  pub own : ℕ → Bool
  pub folded : List ℕ
  pub locals : ℕ → ℕ → ℤ

-- the value that a local of an iteration has at its end in one thread, by its position
abbrev pub one_thread_local : Sharing → ℕ → ℕ → ℤ
one_thread_local g k position = local_at g.entry (g.first + k) position

-- units may be run apart: their iterations are iterations of a small calm loop that was entered, whose guard holds, and each has one
-- of the tasks as its owner; each array that tasks have copies of is a fold array; each tie but for those by these arrays has both of
-- its units among the own ones or none; no such tie with an own unit is loop-carried, or there is one task; and a local that another
-- unit declares and an own one uses is given with the value that it has in one thread
pub record MayBeApart (s : Fission) : Type 0 where
  pub entered : IsLoopEntry s.sharing.entry.looped s.sharing.entry.store s.sharing.entry.low s.sharing.entry.last
  pub steady : IsSteady (For s.sharing.entry.looped) []
  pub calm : IsTrue (is_calm s.sharing.entry.looped)
  pub guarded : IsTrue (guard_of s.sharing.entry.looped s.sharing.entry.store s.sharing.entry.low s.sharing.entry.last s.sharing.entry.turns)
  pub within : (s.sharing.entry.low +ℤ pos (s.sharing.first + s.sharing.count)) ≤ℤ s.sharing.entry.last
  pub owned : (k : ℕ) → k < s.sharing.count → s.sharing.owner k < s.sharing.tasks
  pub folds : (array : ℕ) → Contains s.folded array → (f : Fold) × (fold_array_of s.sharing.entry.looped array ≡ Some f)
  pub closed : (t : Tie) → Contains (ties_without s.folded s.sharing.entry.looped) t → s.own t.first ≡ s.own t.second
  pub free : ((t : Tie) → Contains (ties_without s.folded s.sharing.entry.looped) t → s.own t.first ≡ true → t.carried ≡ false)
      ⊎ (s.sharing.tasks ≡ 1)
  pub given : (k : ℕ) (v : Local) (unit : ℕ) → k < s.sharing.count → Contains (locals_of s.sharing.entry.looped) v → s.own v.unit ≡ false
      → s.own unit ≡ true → uses s.sharing.entry.looped v unit ≡ true → s.locals k v.id ≡ one_thread_local s.sharing k v.id
  pub numbers : (k position : ℕ) → k < s.sharing.count → IsI64 (s.locals k position)

-- what is left of a unit that isn't run: where it declares a scalar, that scalar with the value for its position
abbrev pub skipped : (ℕ → ℤ) → Stmt → Memory → Memory
skipped locals (Let x e) m = declare (locals (length m.scalars)) m
skipped locals _ m = m

-- units one after another, of which the first has this number: own ones are run, and the others are skipped
abbrev pub portion : (ℕ → Bool) → (ℕ → ℤ) → ℕ → List Stmt → ℕ → Memory → Ran
portion own locals unit [] n m = done m
portion own locals unit (s ∷ rest) n m =
    if own unit then then_do (run s n m) (portion own locals (suc unit) rest n) else portion own locals (suc unit) rest n (skipped locals s m)

-- what they read and write
abbrev pub portion_deeds : (ℕ → Bool) → (ℕ → ℤ) → ℕ → List Stmt → ℕ → Memory → List Deed
portion_deeds own locals unit [] n m = []
portion_deeds own locals unit (s ∷ rest) n m =
    if own unit then deeds s n m ++ on_done (run s n m) (portion_deeds own locals (suc unit) rest n)
    else portion_deeds own locals (suc unit) rest n (skipped locals s m)

-- the own units of an iteration, behind which its scalars are still there
abbrev pub own_units : Fission → ℕ → Memory → Ran
own_units s k m =
    portion s.own (s.locals k) 1 s.sharing.entry.looped.body s.sharing.entry.turns (declare (index_of s.sharing.entry s.sharing.first k) m)

-- the own units of an iteration
abbrev pub own_iteration : Fission → ℕ → Memory → Ran
own_iteration s k m =
    turn (portion s.own (s.locals k) 1 s.sharing.entry.looped.body s.sharing.entry.turns) (index_of s.sharing.entry s.sharing.first k) m

-- what they read and write
abbrev pub own_iteration_deeds : Fission → ℕ → Memory → List Deed
own_iteration_deeds s k m =
    portion_deeds s.own (s.locals k) 1 s.sharing.entry.looped.body s.sharing.entry.turns (declare (index_of s.sharing.entry s.sharing.first k) m)

-- the own units of the iterations with these numbers, one iteration after another
abbrev pub own_over : Fission → List ℕ → Memory → Ran
own_over s [] m = done m
own_over s (k ∷ ks) m = then_do (own_iteration s k m) (own_over s ks)

-- what they read and write
abbrev pub own_deeds : Fission → List ℕ → Memory → List Deed
own_deeds s [] m = []
own_deeds s (k ∷ ks) m = own_iteration_deeds s k m ++ on_done (own_iteration s k m) (own_deeds s ks)

-- the store with which each task begins: the one before the iterations, with each reduction at its unit, and with each cell of the
-- arrays that it has copies of at its fold's unit
abbrev pub part_begun : Fission → Memory
part_begun s = with_copies s.sharing.entry.looped s.folded (store_begun s.sharing)

-- the run of a task: the own units of its iterations in rising order, in a store of its own
abbrev pub own_run : Fission → ℕ → Ran
own_run s task = own_over s (numbers_of s.sharing task) (part_begun s)

-- whether a task writes this cell
abbrev pub own_writes : Fission → ℕ → ℕ → ℕ → Bool
own_writes s task array place =
    list_any (is_write array place) (own_deeds s (numbers_of s.sharing task) (part_begun s))

-- what a task has made of a reduction, from its unit on
abbrev pub own_partial : Fission → ℕ → ℕ → ℤ
own_partial s id task = scalar_at (own_run s task).store id

-- what a task has made of a cell of its copy of an array, from its fold's unit on
abbrev pub own_copy : Fission → ℕ → ℕ → ℕ → ℤ
own_copy s array place task = cell_at (own_run s task).store array place

-- the same part for one task, which owns all iterations
abbrev pub by_one : Fission → Fission
by_one s = record s { sharing = record s.sharing { tasks = 1; owner = λ k. 0 } }

-- the part that runs these units with copies of these arrays, where each other local is given with its value of one thread
abbrev pub copied_part_of : Sharing → List ℕ → (ℕ → Bool) → Fission
copied_part_of sharing folded own = record { sharing = sharing; own = own; folded = folded; locals = one_thread_local sharing }

-- the same without copies
abbrev pub part_of : Sharing → (ℕ → Bool) → Fission
part_of sharing own = copied_part_of sharing [] own

-- the part that runs each unit, so whole iterations, without copies; no local is given to it, so any number may stand for one
abbrev pub whole_of : Sharing → Fission
whole_of sharing = record { sharing = sharing; own = λ unit. true; folded = []; locals = λ k position. pos 0 }

-- the units of either of two parts
abbrev pub of_either : (ℕ → Bool) → (ℕ → Bool) → ℕ → Bool
of_either own other unit = own unit || other unit
