-- One interval leads on to the next.
use Rattle.std.proofs.Common.{◌≡◌, ℕ, suc, ◌+◌, ◌-◌, ◌≤◌, ◌==◌, ℤ, List, [], ◌∷◌, ◌++◌, length, take, refl, sym, ◌∙◌, ap, subst, arith, length-append, add-zero, if◌then◌else◌, None, Some, slice_get}
use Rattle.std.specs.declared.option.Option.{Option}
use Rattle.std.proofs.lemmas.Bool.Decides.{nat_tests}
use mathlib.Core.Path.{fun_ext}
use Rattle.morta_task.specs.declared.schemes.Config.{Config}
use Rattle.morta_task.specs.declared.schemes.Ask.{Ask}
use Rattle.morta_task.specs.declared.intervals.Interval.{Interval}
use Rattle.morta_task.specs.declared.intervals.Ran.{Ran}
use Rattle.morta_task.specs.Entries.{EntryView}
use Rattle.morta_task.specs.LogView.{LogView, with_interval}
use Rattle.morta_task.specs.Promise.{Promise, Keeps, StandsOnly}
use Rattle.morta_task.specs.Running.{MovesOn, IsDone, chosen, limit_of, interval_of}
use Rattle.morta_task.specs.Legal.{begun, entry_number, last_in, ComesNext}
use Rattle.morta_exec.specs.Began.{Began, all_entries}
use Rattle.morta_exec.specs.Log.{AreTold}
use Rattle.morta_exec.specs.Standing.{AreLeft, StandsBetween, KeptFor}
use Rattle.morta_exec.proofs.Growing.{each_more, last_more, front_is, take_next}
use Rattle.morta_exec.proofs.Asking.{keeps_both}

pub begun_more : (is : List Interval) (i : Interval) → begun (is ++ i ∷ []) ≡ i.entry
begun_more is i = ap entry_number (last_more is i)

same_test : {A : Type 0} (m n : ℕ) (x y : A) → m ≡ n → (if m == n then x else y) ≡ x
same_test m n x y h = grind (arith, nat_tests)

other_test : {A : Type 0} (m n : ℕ) (x y : A) → m + 1 ≡ n → (if m == n then x else y) ≡ y
other_test m n x y h = grind (arith, nat_tests)

less_one : (m n : ℕ) → m + 1 ≡ n → n - 1 ≡ m
less_one m n h = omega arith

-- the entries of the log with an interval are those up to the interval's
entries_with : (es : List EntryView) (n : ℕ) (listed : List EntryView) (e : EntryView) (kept : Option EntryView)
    → listed ≡ take n es → slice_get es (e.number - 1) ≡ Some e → KeptFor kept (length listed) e
    → (if length listed == e.number then listed else listed ++ e ∷ []) ≡ take e.number es
entries_with es n listed e None is named fits = same_test (length listed) e.number _ _ fits ∙ front_is es listed n is ∙ ap (λ k. take k es) fits
entries_with es n listed e (Some k) is named fits =
    let one_more : suc (length listed) ≡ e.number = omega (arith, fits.1) in
    other_test (length listed) e.number _ _ fits.1
    ∙ ap (λ xs. xs ++ e ∷ []) (front_is es listed n is)
    ∙ sym (take_next (length listed) es e (subst (λ j. slice_get es j ≡ Some e) (less_one (length listed) e.number fits.1) named))
    ∙ ap (λ j. take j es) one_more

-- and as many as its number
pub count_with : (listed : List EntryView) (e : EntryView) (kept : Option EntryView) → KeptFor kept (length listed) e
    → length (if length listed == e.number then listed else listed ++ e ∷ []) ≡ e.number
count_with listed e None fits = ap length (same_test (length listed) e.number _ _ fits) ∙ fits
count_with listed e (Some k) fits = ap length (other_test (length listed) e.number _ _ fits.1) ∙ length-append listed (e ∷ []) ∙ fits.1

number_le : (listed : List EntryView) (e : EntryView) (kept : Option EntryView) → KeptFor kept (length listed) e → e.number ≤ length listed + 1
number_le listed e None fits = omega (arith, fits)
number_le listed e (Some k) fits = omega (arith, fits.1)

one_on : (is : List Interval) (i : Interval) (j : ℕ) → length is + (j + 1) ≡ length (is ++ i ∷ []) + j
one_on is i j = simp length-append (omega arith)

-- the ticks of an interval are the next ones that were told
ticks_on : (first : Option (ℕ → ℕ)) (old asked ran new : Option (ℕ → ℕ)) (is : List Interval) (i : Interval)
    → AreTold first is → AreLeft first old is → asked ≡ old → MovesOn asked ran i.done.ticks → new ≡ ran
    → AreTold first (is ++ i ∷ []) × AreLeft first new (is ++ i ∷ [])
ticks_on None old asked ran new is i told left same moves last = (tt, last ∙ subst (λ a. MovesOn a ran i.done.ticks) (same ∙ left) moves)
ticks_on (Some f) old asked ran new is i told left same moves last =
    let moved : MovesOn (Some (λ j. f (length is + j))) ran i.done.ticks = subst (λ a. MovesOn a ran i.done.ticks) (same ∙ left) moves in (
      each_more _ [] is i told (moved.0 ∙ ap f (add-zero (length is))),
      last ∙ moved.1 ∙ ap (λ (g : ℕ → ℕ). Some g) (fun_ext (λ j. ap f (one_on is i j))),
    )

-- what the three calls of an interval say
pub record Called {M : Type 0} (promise : Promise M) (e : EntryView) (from : ℤ) (limit : ℕ) (log : LogView) (old asking running telling : M) (ask : Ask) (config : Config) (done : Ran) : Type 0 where
  pub may : promise.may_ask old e log ask
  pub ask_ticks : promise.ticks_to_come asking ≡ promise.ticks_to_come old
  pub ask_keeps : Keeps promise old asking
  pub is_done : IsDone e config from limit done
  pub run_ticks : MovesOn (promise.ticks_to_come asking) (promise.ticks_to_come running) done.ticks
  pub run_meets : promise.meets asking e config from done
  pub run_keeps : Keeps promise asking running
  pub told_ticks : promise.ticks_to_come telling ≡ promise.ticks_to_come running
  pub told_keeps : Keeps promise running telling

abbrev log_with : List EntryView → List Interval → LogView
log_with es is = record { entries = es; intervals = is }

-- the log is as it must be with the interval too
pub stands_on : {M : Type 0} (promise : Promise M) (b : Began M) (old asking running telling : M) (log : LogView) (e : EntryView) (from : ℤ) (limit : ℕ) (ask : Ask) (config : Config) (done : Ran) (kept : Option EntryView)
    → StandsOnly promise → StandsBetween promise b old log → Called promise e from limit log old asking running telling ask config done
    → slice_get (all_entries b) (e.number - 1) ≡ Some e → KeptFor kept (length log.entries) e
    → ComesNext (all_entries b) (last_in log.intervals) e from → config ≡ chosen e ask.config → limit ≡ limit_of e from ask.until
    → promise.stands_for telling (with_interval log e (interval_of e ask config from done))
    → StandsBetween promise b telling (with_interval log e (interval_of e ask config from done))
stands_on promise b old asking running telling log e from limit ask config done kept only s c named fits next is_config is_limit stands =
    let es = all_entries b in
    let first = b.first in
    let is = log.intervals in
    let i = interval_of e ask config from done in
    let kept_all : Keeps promise first telling =
    keeps_both promise _ _ _ s.keeps (keeps_both promise _ _ _ c.ask_keeps (keeps_both promise _ _ _ c.run_keeps c.told_keeps)) in
    let ticks : AreTold (promise.ticks_to_come first) (is ++ i ∷ []) × AreLeft (promise.ticks_to_come first) (promise.ticks_to_come telling) (is ++ i ∷ []) =
    ticks_on (promise.ticks_to_come first) (promise.ticks_to_come old) (promise.ticks_to_come asking) (promise.ticks_to_come running) (promise.ticks_to_come telling) is i s.so_far.ticks s.ticks c.ask_ticks c.run_ticks c.told_ticks in
    let count = count_with log.entries e kept fits in
    record {
      so_far = record {
        legal = record {
          entries = entries_with es (begun is) log.entries e kept s.so_far.legal.entries named fits ∙ ap (λ n. take n es) (sym (begun_more is i));
          intervals = each_more _ [] is i s.so_far.legal.intervals (record {
            entry = e;
            named = named;
            number = refl;
            order = next;
            asked = (s.keeps.may_ask e _ ask).1 (subst (λ l. promise.may_ask old e l ask) (ap (λ xs. log_with xs is) s.so_far.legal.entries) c.may);
            ran = is_config;
            done = subst (λ n. IsDone e config from n done) is_limit c.is_done;
          });
        };
        meets = each_more _ [] is i s.so_far.meets (e, named, (s.keeps.meets e config from done).1 ((c.ask_keeps.meets e config from done).1 c.run_meets));
        ticks = ticks.0;
        relation = (kept_all.log_relation _).1 (only telling _ stands);
      };
      keeps = kept_all;
      stands = stands;
      ticks = ticks.1;
      begun = begun_more is i ∙ sym count;
      few = omega (arith, count, number_le log.entries e kept fits, s.few, length-append is (i ∷ []));
    }
