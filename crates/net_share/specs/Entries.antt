-- Iterations of an entry of a loop, shared out among tasks.
use Rattle.std.specs.Prelude.{◌≡◌, ℕ, ◌+◌, pos, ◌+ℤ◌, ◌≤ℤ◌, false, List, [], length, drop, IsTrue}
use Rattle.std.specs.List.{list_any}
use Rattle.nona_tree.specs.declared.trees.Stmt.{For}
use Rattle.nona_tree.specs.Entries.{Entry, after}
use Rattle.nona_tree.specs.Memory.{Memory, declare}
use Rattle.nona_tree.specs.Numbers.{AreI64}
use Rattle.nona_tree.specs.Run.{done, run_all}
use Rattle.nona_tree.specs.Scope.{IsSteady, AreScoped}
use Rattle.nona_forms.specs.Calm.{is_calm}
use Rattle.nona_forms.specs.Guards.{guard_of}
use Rattle.nona_forms.specs.Separate.{IsLoopEntry}
use Rattle.nona_plans.specs.Mentions.{prints}
use Rattle.nona_plans.specs.Units.{ties_of, reductions_of}
use Rattle.nona_fission.specs.Sharing.{index_of, turns_over, with_units}
use Rattle.net_flow.specs.Begun.{begun_net}
use Rattle.net_flow.specs.Net.{Work, Net}
use Rattle.net_flow.specs.Sharing.{SharedMeaning, IsSharedNet}
use Rattle.net_share.specs.Works.{Doing, sharing_work}

-- So many iterations of an entry at most may be shared out, from the one with this number on, counted from the low bound: they are
-- iterations of a small calm loop that was entered, whose guard holds, of which no tie is loop-carried and which prints nothing.
pub record MayShare (e : Entry) (first limit : ℕ) : Type 0 where
  pub entered : IsLoopEntry e.looped e.store e.low e.last
  pub steady : IsSteady (For e.looped) []
  pub calm : IsTrue (is_calm e.looped)
  pub guarded : IsTrue (guard_of e.looped e.store e.low e.last e.turns)
  pub untied : list_any (λ t. t.carried) (ties_of e.looped) ≡ false
  pub silent : list_any prints e.looped.body ≡ false
  pub within : (e.low +ℤ pos (first + limit)) ≤ℤ e.last

-- what the tasks do
abbrev pub doing_in : Entry → ℕ → Doing
doing_in e first = record { body = e.looped.body; from = e.low +ℤ pos first; turns = e.turns; depth = length e.store.scalars }

-- what W tasks compute
abbrev pub work_in : Entry → ℕ → ℕ → Work Memory (Unit {0})
work_in e first W = sharing_work (doing_in e first) W

-- the store with which each task begins: the one before these iterations, with each reduction at its unit
abbrev pub begun_in : Entry → ℕ → Memory
begun_in e first = with_units (reductions_of e.looped) (after e first).store

-- What a task's store is within its iteration k, counted from the first one, with u units done, behind iterations with these
-- numbers: what the first units make of the store behind those iterations; and from there the other units run on to the same end.
pub record IsWithin (e : Entry) (first : ℕ) (numbers : List ℕ) (k u : ℕ) (m : Memory) : Type 0 where
  pub begun : Memory
  pub ready : turns_over e first numbers (begun_in e first) ≡ done begun
  pub goes_on : run_all e.looped.body e.turns (declare (index_of e first k) begun) ≡ run_all (drop u e.looped.body) e.turns m
  pub fits : AreI64 m
  pub scoped : AreScoped (drop u e.looped.body) (length m.scalars) (length m.arrays)

-- what the tasks' stores mean: each is what one thread makes of the store at the task's beginning in the iterations that the task
-- has claimed, in rising order
abbrev pub meaning_in : Entry → ℕ → SharedMeaning Memory
meaning_in e first = record {
  between = λ t numbers m. turns_over e first numbers (begun_in e first) ≡ done m;
  within = λ t numbers k u m. IsWithin e first numbers k u m;
}

-- what stands of the net of an interval of so many iterations at most, whose tasks share them
abbrev pub IsEntryNet : Entry → ℕ → ℕ → ℕ → Net Memory (Unit {0}) → Type 0
IsEntryNet e first limit W net = IsSharedNet (work_in e first W) (meaning_in e first) limit W net

-- the net of such an interval before its first step
abbrev pub entry_net : Entry → ℕ → ℕ → ℕ → Net Memory (Unit {0})
entry_net e first limit W = begun_net (work_in e first W) limit (λ s w. begun_in e first)
