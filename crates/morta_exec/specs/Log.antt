-- What is true of the log of a run.
use Rattle.std.specs.Prelude.{◌≡◌, ◌⊎◌, ℕ, ◌-◌, Bool, true, IsTrue, List, [], length, None, Some, slice_get}
use Rattle.std.specs.declared.option.Option.{Option}
use Rattle.nona_tree.specs.declared.plans.Plan.{Plan}
use Rattle.morta_task.specs.RegionView.{RegionView}
use Rattle.morta_task.specs.declared.schemes.Scheme.{Scheme}
use Rattle.morta_task.specs.declared.schemes.Scheme.TheVariants.{Seq, Any, Pipe}
use Rattle.morta_task.specs.declared.intervals.Interval.{Interval}
use Rattle.morta_task.specs.ImageView.{ImageView}
use Rattle.morta_task.specs.Entries.{EntryView, has_stages}
use Rattle.morta_task.specs.LogView.{LogView}
use Rattle.morta_task.specs.Promise.{Promise}
use Rattle.morta_task.specs.Legal.{IsLegalLog, EachFrom}

-- whether a plan has a version
abbrev pub has : Plan → Scheme → Bool
has plan Seq = true
has plan Any = plan.any
has plan Pipe = has_stages plan

-- it serves each region in one thread, and with each version of its plan that it may ask for
abbrev pub ServesAll : {M : Type 0} → Promise M → M → ImageView → Type 0
ServesAll promise m image =
    (region : ℕ) (code : RegionView) (s : Scheme) → slice_get image.regions region ≡ Some code
    → (s ≡ Seq) ⊎ (promise.names m s × IsTrue (has code.plan s)) → promise.serves m code.looped code.plan s

-- an interval meets the relation of what ran it
abbrev pub Meets : {M : Type 0} → Promise M → M → List EntryView → List Interval → Interval → Type 0
Meets promise m es front i = (e : EntryView) × (slice_get es (i.entry - 1) ≡ Some e) × promise.meets m e i.ran i.from i.done

-- the ticks are those that were told, in order
abbrev pub AreTold : Option (ℕ → ℕ) → List Interval → Type 0
AreTold None is = Unit {0}
AreTold (Some told) is = EachFrom (λ front i. i.done.ticks ≡ told (length front)) [] is

-- What is true of a log at each moment: it is legal up to its last interval, by what may be asked; each interval meets the
-- runner's relation; the ticks are those that it told; and the log meets the relation on logs.
pub record LogStands {M : Type 0} (promise : Promise M) (es : List EntryView) (first : M) (log : LogView) : Type 0 where
  pub legal : IsLegalLog (promise.may_ask first) es log
  pub meets : EachFrom (Meets promise first es) [] log.intervals
  pub ticks : AreTold (promise.ticks_to_come first) log.intervals
  pub relation : promise.log_relation first log
