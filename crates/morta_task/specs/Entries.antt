-- The entries of a run, as contracts see them.
use Rattle.std.specs.Prelude.{◌≡◌, ℕ, ◌+◌, ◌-◌, ◌≤◌, Bool, true, ◌&&◌, ℤ, pos, ◌+ℤ◌, List, [], ◌∷◌, length, nat_lt, slice_get, None, Some, Ok}
use Rattle.std.specs.declared.option.Option.{Option}
use Rattle.std.specs.Int.{int_gap}
use Rattle.nona_tree.specs.declared.plans.Plan.{Plan}
use Rattle.nona_tree.specs.declared.trees.Loop.{Loop}
use Rattle.nona_tree.specs.declared.trees.Stmt.{For}
use Rattle.nona_tree.specs.Memory.{Memory}
use Rattle.nona_tree.specs.Numbers.{IsI64, AreI64, IsI64Stmt}
use Rattle.nona_tree.specs.Value.{value_of}
use Rattle.nona_tree.specs.Run.{Ran}
use Rattle.nona_tree.specs.Scope.{IsScoped, IsSteady}
use Rattle.nona_tree.specs.Smallness.{IsSmallLoop}
use Rattle.nona_tree.specs.Entries.{Opened, Entry, after, entries_all, last_of}
use Rattle.nona_forms.specs.Guards.{guard_of}
use Rattle.nona_plans.specs.Plans.{bare}
use Rattle.morta_task.specs.declared.opening.Opening.{Opening}
use Rattle.morta_task.specs.RegionView.{RegionView}
use Rattle.morta_task.specs.declared.schemes.Scheme.{Scheme}
use Rattle.morta_task.specs.declared.schemes.Scheme.TheVariants.{Seq, Any, Pipe}
use Rattle.morta_task.specs.ImageView.{ImageView, is_region_of}

-- An entry: its number in the run and that of its region, both from 1; the loop and the plan of the region; the values of
-- the loop's bounds; the turn bound of the run; whether the entry offers `any` and `pipe`; and the store at that moment.
pub record EntryView : Type 0 where
  pub number : ℕ
  pub region : ℕ
  pub looped : Loop
  pub plan : Plan
  pub low : ℤ
  pub high : ℤ
  pub turns : ℕ
  pub any : Bool
  pub pipe : Bool
  pub store : Memory

-- whether a plan has stages
abbrev pub has_stages : Plan → Bool
has_stages plan = nat_lt 0 (length plan.pipe)

-- whether the guard of a loop holds for the entry that opens so, where a loop may take n turns, in this store
abbrev pub holds_at : Opening → Loop → ℕ → Memory → Bool
holds_at opening looped n m = guard_of looped m opening.low (last_of opening.low opening.high n) n

-- the entry that opens so, to a region with this loop and this plan: it offers the versions that the plan has, where the guard holds
abbrev pub entered : Opening → Loop → Plan → ℕ → Memory → EntryView
entered opening looped plan n m = record {
  number = opening.number;
  region = opening.region;
  looped = looped;
  plan = plan;
  low = opening.low;
  high = opening.high;
  turns = n;
  any = plan.any && holds_at opening looped n m;
  pipe = has_stages plan && holds_at opening looped n m;
  store = m;
}

-- whether an entry offers a scheme
abbrev pub offers : EntryView → Scheme → Bool
offers e Seq = true
offers e Any = e.any
offers e Pipe = e.pipe

-- the number behind the last index of an entry: its low where it has no turn, and never more turns than it may take
abbrev pub last : EntryView → ℤ
last e = last_of e.low e.high e.turns

-- whether the guard of its loop holds for an entry
abbrev pub is_guarded : EntryView → Bool
is_guarded e = guard_of e.looped e.store e.low (last e) e.turns

-- the entry as a loop that was entered
abbrev pub loop_of : EntryView → Entry
loop_of e = record { looped = e.looped; store = e.store; low = e.low; last = last e; turns = e.turns }

-- the state after the first k iterations of an entry, in one thread
abbrev pub state_after : EntryView → ℕ → Ran
state_after e k = after (loop_of e) k

-- how many iterations of an entry come before this index
abbrev pub before : EntryView → ℤ → ℕ
before e index = int_gap e.low index

-- an index of an entry, or the number behind its last one
abbrev pub IsWithin : EntryView → ℤ → Type 0
IsWithin e index = (index ≡ e.low +ℤ pos (before e index)) × (before e index ≤ before e (last e))

-- What stands of each entry of a checked program: the bounds have these values in its store, which has the scalars and the
-- arrays that the loop names; no index in the loop is assigned, and it is small; all numbers of the loop, the store and the
-- bounds have 64 bits; and the entry offers the versions that its plan has, where its guard holds.
pub record IsEntered (e : EntryView) : Type 0 where
  pub low_is : value_of e.looped.low e.store ≡ Ok e.low
  pub high_is : value_of e.looped.high e.store ≡ Ok e.high
  pub scoped : IsScoped (For e.looped) (length e.store.scalars) (length e.store.arrays)
  pub steady : IsSteady (For e.looped) []
  pub small : IsSmallLoop e.looped
  pub loop_numbers : IsI64Stmt (For e.looped)
  pub store_numbers : AreI64 e.store
  pub low_number : IsI64 e.low
  pub high_number : IsI64 e.high
  pub any : e.any ≡ (e.plan.any && is_guarded e)
  pub pipe : e.pipe ≡ (has_stages e.plan && is_guarded e)

-- the plan of a region, where it is there
abbrev pub plan_there : Option RegionView → Plan
plan_there None = bare
plan_there (Some code) = code.plan

-- a region that the run comes to, with this number in order
abbrev pub numbered : List RegionView → ℕ → ℕ → Opened → EntryView
numbered regions n number o =
    let opening : Opening = record { number = number; region = o.region; low = o.low; high = o.high } in
    entered opening o.looped (plan_there (slice_get regions (o.region - 1))) n o.store

-- regions that a run comes to, numbered from this one on
abbrev pub numbered_from : List RegionView → ℕ → ℕ → List Opened → List EntryView
numbered_from regions n number [] = []
numbered_from regions n number (o ∷ rest) = numbered regions n number o ∷ numbered_from regions n (number + 1) rest

-- all entries of the run of an image from a store, where each loop may take n turns whenever it is entered
abbrev pub entries_of : ImageView → ℕ → Memory → List EntryView
entries_of image n m = numbered_from image.regions n 1 (entries_all (is_region_of image) 1 image.main n m)
