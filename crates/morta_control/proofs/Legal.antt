-- In a legal log each interval is of the entry that was at hand.
use Rattle.std.proofs.Common.{◌≡◌, ℕ, ℤ, zero, suc, ◌+◌, ◌-◌, ◌≤◌, List, [], ◌∷◌, ◌++◌, length, length-append, take, refl, sym, ap, subst, ◌∙◌, arith, inl, inr, None, Some, slice_get}
use Rattle.std.specs.declared.option.Option.{Option}
use Rattle.morta_task.specs.declared.intervals.Interval.{Interval}
use Rattle.morta_task.specs.Entries.{EntryView}
use Rattle.morta_task.specs.Legal.{last_from, last_in, entry_number, begun, log_of, EachFrom, IsLegal, IsLegalLog, ComesNext}
use Rattle.morta_task.specs.LogView.{LogView, IsAtHand, last_one, next_one}
use Rattle.morta_control.specs.ControllerPromise.{MayBeAsked}
use Rattle.morta_control.specs.Decisions.{control_asks}

last_from_more : {A : Type 0} (x : A) (xs : List A) (y : A) → last_from x (xs ++ y ∷ []) ≡ y
last_from_more x [] y = refl
last_from_more x (z ∷ xs) y = last_from_more z xs y

last_more : {A : Type 0} (xs : List A) (y : A) → last_in (xs ++ y ∷ []) ≡ Some y
last_more [] y = refl
last_more (x ∷ xs) y = ap Some (last_from_more x xs y)

-- a list is as long as a front that ends with one of its elements, or longer
take_to : {A : Type 0} (n : ℕ) (xs : List A) (x : A) → slice_get xs n ≡ Some x → take (suc n) xs ≡ take n xs ++ x ∷ []
take_to zero [] x is = cc
take_to zero (y ∷ ys) x is = let same : y ≡ x = cc in ap (λ z. z ∷ []) same
take_to (suc n) [] x is = cc
take_to (suc n) (y ∷ ys) x is = ap (λ zs. y ∷ zs) (take_to n ys x is)

take_length : {A : Type 0} (n : ℕ) (xs : List A) (x : A) → slice_get xs n ≡ Some x → length (take n xs) ≡ n
take_length zero xs x is = refl
take_length (suc n) [] x is = cc
take_length (suc n) (y ∷ ys) x is = let rest = take_length n ys x is in omega (arith, rest)

-- the entries that have an interval are as many as the number of the last one says
begun_length : (es : List EntryView) (n : ℕ) (e : EntryView) → slice_get es (n - 1) ≡ Some e → length (take n es) ≡ n
begun_length es zero e is = refl
begun_length es (suc n) e is =
    let there : slice_get es n ≡ Some e = subst (λ k. slice_get es k ≡ Some e) (omega arith) is in
    ap length (take_to n es e there) ∙ omega (arith, length-append (take n es) (e ∷ []), take_length n es e there)

-- each entry of a log has a number of at least one
abbrev IsNumbered : Option Interval → Type 0
IsNumbered None = Unit {0}
IsNumbered (Some i) = 1 ≤ i.entry

-- an entry that comes next has one too
numbered_next : (es : List EntryView) (last : Option Interval) (e : EntryView) (from : ℤ) → IsNumbered last → ComesNext es last e from → 1 ≤ e.number
numbered_next es None e from h order = omega (arith, order.0)
numbered_next es (Some i) e from h (inl goes) = omega (arith, h, goes.same)
numbered_next es (Some i) e from h (inr begins) = omega (arith, begins.next)

-- and it is at hand
at_hand : (es : List EntryView) (front : List Interval) (last : Option Interval) (e : EntryView) (from : ℤ) → last_in front ≡ last → IsNumbered last
    → slice_get es (e.number - 1) ≡ Some e → ComesNext es last e from → IsAtHand (log_of es front) e
at_hand es front None e from is h named order =
    next_one (let none : begun front ≡ 0 = ap entry_number is in
    order.0 ∙ ap (λ n. length (take n es) + 1) (sym none))
at_hand es front (Some i) e from is h named (inl goes) =
    let begun_is : begun front ≡ e.number = ap entry_number is ∙ goes.same in
    let number : e.number ≡ suc (e.number - 1) = omega (arith, h, goes.same) in
    last_one (take (e.number - 1) es)
    (ap (λ n. take n es) (begun_is ∙ number) ∙ take_to (e.number - 1) es e named)
    (omega (arith, number, take_length (e.number - 1) es e named))
at_hand es front (Some i) e from is h named (inr begins) =
    let begun_is : begun front ≡ i.entry = ap entry_number is in
    next_one (omega (arith, begins.next, ap (λ n. length (take n es)) begun_is, begun_length es i.entry begins.closed.entry begins.closed.named))

-- so what may be asked there is what is decided there
each_decided : (workers : ℕ) (es : List EntryView) (front is : List Interval) → IsNumbered (last_in front)
    → EachFrom (IsLegal (MayBeAsked workers) es) front is → EachFrom (IsLegal (λ e log ask. ask ≡ control_asks workers e log) es) front is
each_decided workers es front [] h each = tt
each_decided workers es front (i ∷ is) h each =
    let legal = each.0 in
    let named : slice_get es (legal.entry.number - 1) ≡ Some legal.entry = subst (λ n. slice_get es (n - 1) ≡ Some legal.entry) legal.number legal.named in
    let hand : IsAtHand (log_of es front) legal.entry = at_hand es front (last_in front) legal.entry i.from refl h named legal.order in
    let some : 1 ≤ i.entry = omega (arith, legal.number, numbered_next es (last_in front) legal.entry i.from h legal.order) in (
      record {
        entry = legal.entry;
        named = legal.named;
        number = legal.number;
        order = legal.order;
        asked = legal.asked hand;
        ran = legal.ran;
        done = legal.done;
      },
      each_decided workers es (front ++ i ∷ []) is (subst IsNumbered (sym (last_more front i)) some) each.1,
    )

pub log_decided : (workers : ℕ) (es : List EntryView) (log : LogView) → IsLegalLog (MayBeAsked workers) es log
    → IsLegalLog (λ e before ask. ask ≡ control_asks workers e before) es log
log_decided workers es log legal = record { entries = legal.entries; intervals = each_decided workers es [] log.intervals tt legal.intervals }
