-- A controller comes to the entry at hand of a log, and is told of an interval of it.
use Rattle.std.proofs.Common.{◌≡◌, ℕ, zero, suc, ◌+◌, ◌<◌, ◌≤◌, ◌==◌, Bool, true, false, cond, if◌then◌else◌, List, [], ◌∷◌, ◌++◌, length, length-append, filter, fold, map, refl, sym, ap, ◌∙◌, arith}
use Rattle.std.specs.Prelude.{All}
use Rattle.std.proofs.lemmas.Bool.{eqb-true, eqb-false, eq-eqb, ne_eqb}
use Rattle.std.proofs.lemmas.List.{map-append}
use Rattle.std.proofs.lemmas.List.Elements.{filter-append, All-append}
use Rattle.std.proofs.lemmas.List.Sums.{fold-append}
use Rattle.morta_task.specs.declared.intervals.Interval.{Interval}
use Rattle.morta_task.specs.Entries.{EntryView}
use Rattle.morta_task.specs.LogView.{LogView, empty_log, IsAtHand, last_one, next_one, with_interval}
use Rattle.morta_task.specs.Promise.{Keeps}
use Rattle.morta_control.specs.ControllerPromise.{controller_promise, StandsFor, HasCome, HasRun}
use Rattle.morta_control.specs.ControllerView.{ControllerView, new_controller, come_to, decided}
use Rattle.morta_control.specs.Decisions.{calibrate, decide, rate_of, rates_of, decision_at, control_asks, next_of}

-- two equal lists end with the same
same_last : {A : Type 0} (xs ys : List A) (x y : A) → xs ++ x ∷ [] ≡ ys ++ y ∷ [] → x ≡ y
same_last [] [] x y e = cc
same_last [] (b ∷ ys) x y e = absurd (omega (arith, ap length e, length-append ys (y ∷ [])))
same_last (a ∷ xs) [] x y e = absurd (omega (arith, ap length e, length-append xs (x ∷ [])))
same_last (a ∷ xs) (b ∷ ys) x y e = let tails : xs ++ x ∷ [] ≡ ys ++ y ∷ [] = cc in same_last xs ys x y tails

-- before its first entry a controller stands for the empty log
pub stands_at_first : (workers : ℕ) → StandsFor (new_controller workers) empty_log
stands_at_first workers = record {
  number = refl;
  none_later = λ k d below. absurd (omega arith);
  decided = λ front e is. absurd (omega (arith, ap length is, length-append front (e ∷ [])));
}

-- intervals of earlier entries alone have none of an entry
none_of : (number : ℕ) (is : List Interval) → All (λ (i : Interval). i.entry < number) is → filter (λ (i : Interval). i.entry == number) is ≡ []
none_of number [] all = refl
none_of number (i ∷ is) all =
    let other : (i.entry == number) ≡ false = ne_eqb i.entry number (λ same. let below : i.entry < number = all 0 i (omega arith) in omega arith) in
    ap (λ b. cond b (i ∷ filter (λ (j : Interval). j.entry == number) is) (filter (λ (j : Interval). j.entry == number) is)) other
    ∙ none_of number is (λ k d below. all (suc k) d (omega arith))

-- behind a log of earlier entries alone all begins
begins_anew : (workers : ℕ) (e : EntryView) (log : LogView) → All (λ (i : Interval). i.entry < e.number) log.intervals
    → decision_at workers e log ≡ calibrate workers e
begins_anew workers e log all = ap (λ is. fold (decide workers e) (calibrate workers e) (map rate_of is)) (none_of e.number log.intervals all)

-- an interval more of the entry is one rate more
one_more : (number : ℕ) (is : List Interval) (i : Interval) → i.entry ≡ number → rates_of number (is ++ i ∷ []) ≡ rates_of number is ++ rate_of i ∷ []
one_more number is i same =
    ap (map rate_of) (filter-append (λ (j : Interval). j.entry == number) is (i ∷ []))
    ∙ map-append rate_of (filter (λ (j : Interval). j.entry == number) is) (filter (λ (j : Interval). j.entry == number) (i ∷ []))
    ∙ ap (λ b. rates_of number is ++ map rate_of (cond b (i ∷ []) [])) (eq-eqb i.entry number same)

-- and one decision more
decides_on : (workers : ℕ) (e : EntryView) (log : LogView) (i : Interval) → i.entry ≡ e.number
    → decision_at workers e (with_interval log e i) ≡ decide workers e (decision_at workers e log) (rate_of i)
decides_on workers e log i same =
    ap (fold (decide workers e) (calibrate workers e)) (one_more e.number log.intervals i same)
    ∙ fold-append (decide workers e) (calibrate workers e) (rates_of e.number log.intervals) (rate_of i ∷ [])

-- no call changes the number of workers
pub come_keeps : (e : EntryView) (c : ControllerView) → (come_to e c).workers ≡ c.workers
come_keeps e c = by_test (c.number == e.number) where
  by_test : (b : Bool) → (let d : ControllerView = if b then c else record { workers = c.workers; number = e.number; decision = calibrate c.workers e } in d.workers) ≡ c.workers
  by_test true = refl
  by_test false = refl

-- a call that doesn't change the number of workers keeps what is promised
pub keeps_by : (old new : ControllerView) → old.workers ≡ new.workers → Keeps controller_promise old new
keeps_by old new same = record {
  serves = λ l p s. ((λ h. h), (λ h. h));
  meets = λ e k from d. ((λ h. h), (λ h. h));
  names = λ s h. h;
  may_ask = λ e log ask. (
    (λ h hand. h hand ∙ ap (λ workers. control_asks workers e log) same),
    (λ h hand. h hand ∙ ap (λ workers. control_asks workers e log) (sym same)),
  );
  log_relation = λ log. ((λ h. h), (λ h. h));
  led = ((λ h. h), (λ h. h));
  alone = ((λ h. h), (λ h. h));
}

-- it comes to the entry at hand of a log for which it stands
pub comes : (c : ControllerView) (log : LogView) (e : EntryView) → IsAtHand log e → StandsFor c log → HasCome (come_to e c) log e
comes c log e hand stands = by_test (c.number == e.number) refl where
  there : (c.number == e.number) ≡ true → IsAtHand log e → HasCome c log e
  there is (last_one front entries number) = record {
    at_hand = hand;
    number = eqb-true c.number e.number is;
    none_later = stands.none_later;
    decided = stands.decided front e entries;
  }
  there is (next_one number) = absurd (omega (arith, eqb-true c.number e.number is))

  anew : (c.number == e.number) ≡ false → IsAtHand log e → HasCome (record { workers = c.workers; number = e.number; decision = calibrate c.workers e }) log e
  anew not (last_one front entries number) =
      absurd (eqb-false c.number e.number not (omega (arith, ap length entries, length-append front (e ∷ []), stands.number)))
  anew not (next_one number) = record {
    at_hand = hand;
    number = refl;
    none_later = λ k d below. (let now : e.number ≡ length log.entries + 1 = number in omega (arith, stands.none_later k d below, stands.number));
    decided = sym (begins_anew c.workers e log (λ k d below. omega (arith, number, stands.none_later k d below, stands.number)));
  }

  by_test : (b : Bool) → (c.number == e.number) ≡ b
      → HasCome (if b then c else record { workers = c.workers; number = e.number; decision = calibrate c.workers e }) log e
  by_test true is = there is hand
  by_test false is = anew is hand

-- what it asks for there
pub asks : (c : ControllerView) (log : LogView) (e : EntryView) → IsAtHand log e → StandsFor c log
    → next_of (come_to e c).decision ≡ control_asks c.workers e log
asks c log e hand stands =
    ap next_of (comes c log e hand stands).decided ∙ ap (λ workers. control_asks workers e log) (come_keeps e c)

-- once it was told, it stands for the log with the interval
pub stands_on : (c : ControllerView) (log : LogView) (e : EntryView) (i : Interval) → HasRun c log e i
    → StandsFor (decided e c (rate_of i)) (with_interval log e i)
stands_on c log e i run = by_test (length log.entries == e.number) refl come.at_hand where
  come : HasCome c log e
  come = run.asked.come

  same : i.entry ≡ e.number
  same = ap (λ (j : Interval). j.entry) run.ran

  decision : (other : EntryView) → e ≡ other → decide c.workers e c.decision (rate_of i) ≡ decision_at c.workers other (with_interval log e i)
  decision other is =
      ap (λ d. decide c.workers e d (rate_of i)) come.decided ∙ sym (decides_on c.workers e log i same)
      ∙ ap (λ (x : EntryView). fold (decide c.workers x) (calibrate c.workers x) (rates_of x.number (log.intervals ++ i ∷ []))) is

  none : All (λ (j : Interval). j.entry ≤ c.number) (log.intervals ++ i ∷ [])
  none = All-append (λ (j : Interval). j.entry ≤ c.number) log.intervals (i ∷ []) come.none_later (one c.number i (omega (arith, same, come.number))) where
    one : (n : ℕ) (j : Interval) → j.entry ≤ n → All (λ (x : Interval). x.entry ≤ n) (j ∷ [])
    one n j few zero d below = few
    one n j few (suc k) d below = absurd (omega arith)

  by_test : (b : Bool) → (length log.entries == e.number) ≡ b → IsAtHand log e
      → StandsFor (decided e c (rate_of i)) (record { entries = if b then log.entries else log.entries ++ e ∷ []; intervals = log.intervals ++ i ∷ [] })
  by_test true is (last_one front entries number) = record {
    number = come.number ∙ sym (eqb-true _ _ is);
    none_later = none;
    decided = λ before other whole. decision other (same_last front before e other (sym entries ∙ whole));
  }
  by_test true is (next_one number) = absurd (omega (arith, eqb-true _ _ is))
  by_test false is (last_one front entries number) = absurd (eqb-false _ _ is (omega (arith, ap length entries, length-append front (e ∷ []))))
  by_test false is (next_one number) = record {
    number = omega (arith, come.number, length-append log.entries (e ∷ []));
    none_later = none;
    decided = λ before other whole. decision other (same_last log.entries before e other whole);
  }
