-- Before the first entry of a run.
use Rattle.std.proofs.Common.{◌≡◌, ℕ, ℤ, List, [], ◌∷◌, ◌++◌, refl, sym, ap, subst, arith, zero-add, None, Some}
use Rattle.std.specs.declared.option.Option.{Option}
use Rattle.std.specs.Io.KnownBytes.{Appends}
use Rattle.std.specs.Prelude.{All, Result, Ok, Err, IfOk}
use Rattle.std.specs.List.{AllByRecursion}
use Rattle.std.proofs.KnownBytes.{Appends-nil}
use mathlib.Core.Path.{fun_ext}
use Rattle.fate_io.specs.Putting.{AppendsFront}
use Rattle.nona_tree.specs.Memory.{Memory, Extends}
use Rattle.nona_tree.specs.Run.{Ran, done}
use Rattle.nona_tree.specs.Entries.{Opened, entries_all, regions_all, IsEntryOf}
use Rattle.nona_tree.proofs.Keeps.{MorePrinted}
use Rattle.nona_main.specs.Course.{Course, course_of}
use Rattle.morta_task.specs.RegionView.{RegionView}
use Rattle.morta_task.specs.ImageView.{is_region_of}
use Rattle.morta_task.specs.Entries.{EntryView, numbered, numbered_from}
use Rattle.morta_task.specs.LogView.{LogView, empty_log}
use Rattle.morta_task.specs.Promise.{Promise, StandsOnly}
use Rattle.morta_exec.specs.declared.fault.DriveFault.TheVariants.{NoMemory}
use Rattle.morta_text.specs.Texts.{number_lines}
use Rattle.morta_exec.specs.Began.{Began, all_entries, whole_run}
use Rattle.morta_exec.specs.Log.{AreTold}
use Rattle.morta_exec.specs.Places.{IsBehind, before_entry, at_end}
use Rattle.morta_exec.specs.Drive.{StopsShort}
use Rattle.morta_exec.specs.Standing.{AreLeft, StandsBetween}
use Rattle.morta_exec.specs.Puts.{HasPut}
use Rattle.morta_exec.specs.MainRun.{Between}
use Rattle.morta_exec.proofs.Growing.{extends_same}
use Rattle.morta_exec.proofs.Asking.{keeps_same}
use Rattle.morta_exec.proofs.Printing.{entries_print}

none_told : (told : Option (ℕ → ℕ)) → AreTold told []
none_told None = tt
none_told (Some f) = tt

all_left : (told : Option (ℕ → ℕ)) → AreLeft told told []
all_left None = refl
all_left (Some f) = ap (λ (g : ℕ → ℕ). Some g) (fun_ext (λ j. ap f (sym (zero-add j))))

nothing_put : (w : Option (List ℕ)) (text : List ℕ) → AppendsFront w w text
nothing_put w text = ([], text, refl, Appends-nil w)

-- the place that a run with these entries and this end comes to first
record First (es : List EntryView) (end : Memory) : Type 0 where
  place : Memory
  behind : IsBehind es end [] place
  printed : Extends place.printed end.printed

-- where its first entry begins, or at its end where it has none
first_place : (regions : List RegionView) (n : ℕ) (end : Memory) (os : List Opened) → AllByRecursion (λ o. MorePrinted o.store end) os → First (numbered_from regions n 1 os) end
first_place regions n end [] prints = record {
  place = end;
  behind = record { few = omega arith; comes = at_end refl };
  printed = extends_same end.printed;
}
first_place regions n end (o ∷ os) prints = record {
  place = o.store;
  behind = record { few = omega arith; comes = before_entry (numbered regions n 1 o) tt refl };
  printed = prints.0;
}

first_in : {M : Type 0} (b : Began M) → First (all_entries b) (whole_run b).store
first_in b = first_place b.image.regions b.from.turns (whole_run b).store (entries_all (is_region_of b.image) 1 b.image.main b.from.turns b.from.store) (entries_print (is_region_of b.image) b.image.main 1 b.from.turns b.from.store)

-- a run that stops before its first interval stops there
pub stops_before : {M : Type 0} (b : Began M) (log : LogView) (w : Option (List ℕ)) (f : ℕ)
    → log ≡ empty_log → StopsShort (all_entries b) (whole_run b).store log.intervals (record { before = w; after = w; faults_before = f; faults = f }) NoMemory
stops_before b log w f empty =
    let first = first_in b in
    subst (λ (l : LogView). StopsShort (all_entries b) (whole_run b).store l.intervals (record { before = w; after = w; faults_before = f; faults = f }) NoMemory) (sym empty) (record {
      place = first.place;
      behind = first.behind;
      put = nothing_put w (number_lines first.place.printed);
      printed = first.printed;
      cause = tt;
    })

stands_first : {M : Type 0} (promise : Promise M) (b : Began M) → StandsOnly promise → promise.stands_for b.first empty_log → StandsBetween promise b b.first empty_log
stands_first promise b only stands = record {
  so_far = record {
    legal = record { entries = refl; intervals = tt };
    meets = tt;
    ticks = none_told (promise.ticks_to_come b.first);
    relation = only b.first empty_log stands;
  };
  keeps = keeps_same promise b.first;
  stands = stands;
  ticks = all_left (promise.ticks_to_come b.first);
  begun = refl;
  few = omega arith;
}

-- before the first entry
pub between_first : {M : Type 0} (promise : Promise M) (left : Ran → Course → Type 0) (b : Began M) (log : LogView)
    → StandsOnly promise → log ≡ empty_log → promise.stands_for b.first empty_log → b.from.store.printed ≡ []
    → left (done b.from.store) (course_of (is_region_of b.image) 1 b.image.main b.from.turns b.from.store)
    → All (IsEntryOf (regions_all (is_region_of b.image) b.image.main)) (entries_all (is_region_of b.image) 1 b.image.main b.from.turns b.from.store)
    → Between promise left b b.first b.from.store log
between_first promise left b log only empty stands printed is_left regions =
    let first = first_in b in
    subst (λ (l : LogView). Between promise left b b.first b.from.store l) (sym empty) (record {
      stands = stands_first promise b only stands;
      closed = tt;
      rest = course_of (is_region_of b.image) 1 b.image.main b.from.turns b.from.store;
      left_is = is_left;
      ran = refl;
      comes = refl;
      are_regions = regions;
      place = first.place;
      behind = first.behind;
      from_here = (first.place.printed, ap (λ (xs : List ℤ). xs ++ first.place.printed) (sym printed));
      printed = first.printed;
    })

-- nothing was put of what is printed before the first entry
pub put_first : (m : Memory) (w : Option (List ℕ)) (f : ℕ) → m.printed ≡ [] → HasPut (record { before = w; after = w; faults_before = f; faults = f }) m.printed
put_first m w f printed = record {
  put = subst (λ numbers. Appends w w (number_lines numbers)) (sym printed) (Appends-nil w);
  kept = refl;
}

-- what is so of each frame that begins so
pub begun_as : {A E : Type 0} (r : Result A E) (P Q : A → Type 0) → ((x : A) → P x → Q x) → IfOk r P → IfOk r Q
begun_as (Ok x) P Q f h = f x h
begun_as (Err e) P Q f h = h
