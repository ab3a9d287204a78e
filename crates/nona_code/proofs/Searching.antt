-- The search for marks.
use Rattle.std.proofs.Common.{◌≡◌, ◌≢◌, ℕ, zero, suc, ◌+◌, ◌<◌, ◌≤◌, Bool, true, false, List, [], ◌∷◌, ◌++◌, length, Option, Some, None, refl, sym, ap, subst, ◌∙◌, arith, length-append, ⊎_elim, inl, inr, IfOk}
use Rattle.std.specs.Prelude.{not, replicate, slice_get, slice_set, ◌⊎◌, Result, Ok, Err, IfSome, ◌^◌}
use Rattle.std.proofs.Common.{Vec, Global}
use Rattle.std.specs.List.{Contains}
use Rattle.std.proofs.lemmas.Option.{slice_get_within}
use Rattle.std.proofs.lemmas.List.{length-set, length-replicate}
use Rattle.std.proofs.lemmas.List.Elements.{Contains-append_left, Contains-push, Contains-push_cases}
use Rattle.std.proofs.lemmas.Bool.{cases_eq}
use Rattle.nona_code.specs.declared.instr.Instr.{Instr}
use Rattle.nona_code.specs.declared.instr.Instr.TheVariants as instr
use Rattle.nona_code.specs.declared.marks.Mark.{Mark}
use Rattle.nona_code.specs.Rule.{Way, begins, goes_on, takes, puts, leaves, declares, after, start, IsNext, EndsEmpty, HasTarget, UsesBelow, IsGreatest, IsSound}
use Rattle.nona_code.specs.Marked.{HasMark, IsPassed, AreFound, IsSearch, nones, Spread, same, more, Clashes, HasReached, HasSpread, HasVisited, IsLow, AreLow, IsTop, IsHighest}
use Rattle.nona_code.proofs.Rules.{IsClosed, marked, two_marks, runs_past, closed_sound}
use Rattle.nona_code.specs.declared.uses.Uses.{Uses}
use Rattle.nona_code.specs.SoundView.{IsSoundView, sound_view}

pub get_set_same : {X : Type 0} (xs : List X) (i : ℕ) (v : X) → i < length xs → slice_get (slice_set xs i v) i ≡ Some v
get_set_same [] i v h = absurd (omega (arith, h))
get_set_same (x ∷ xs) zero v h = refl
get_set_same (x ∷ xs) (suc i) v h = get_set_same xs i v (omega (arith, h))

pub get_set_other : {X : Type 0} (xs : List X) (i j : ℕ) (v : X) → j ≢ i → slice_get (slice_set xs i v) j ≡ slice_get xs j
get_set_other [] i j v h = refl
get_set_other (x ∷ xs) zero zero v h = absurd (h refl)
get_set_other (x ∷ xs) zero (suc j) v h = refl
get_set_other (x ∷ xs) (suc i) zero v h = refl
get_set_other (x ∷ xs) (suc i) (suc j) v h = get_set_other xs i j v (λ e. h (ap suc e))

pub nones_set : (ms : List (Option Mark)) (to : ℕ) (m : Mark) → slice_get ms to ≡ Some None → nones (slice_set ms to (Some m)) + 1 ≡ nones ms
nones_set [] to m h = cc
nones_set (None ∷ ms) zero m h = refl
nones_set (Some x ∷ ms) zero m h = cc
nones_set (None ∷ ms) (suc to) m h = ap (λ k. k + 1) (nones_set ms to m h)
nones_set (Some x ∷ ms) (suc to) m h = nones_set ms to m h

not_here : (ms : List (Option Mark)) (pc to : ℕ) (x : Mark) → HasMark ms pc x → slice_get ms to ≡ Some None → pc ≢ to
not_here ms pc to x h none e = let b : Some (Some x) ≡ Some None = sym h ∙ ap (slice_get ms) e ∙ none in cc

-- what was reached or clashes, from the parts that the code has
pub known_or_clash : (b : Bool) (to : ℕ) (mark known : Mark) (ms : List (Option Mark)) (ts : List ℕ) → (b ≡ true → known ≡ mark) → (b ≡ false → known ≢ mark) → HasMark ms to known → HasReached to mark ms ts ms ts b
known_or_clash true to mark known ms ts yes_so no_so h = (same, h ∙ ap (λ x. Some (Some x)) (yes_so refl))
known_or_clash false to mark known ms ts yes_so no_so h = (refl, refl, inr (known, h, no_so refl))

pub new_reached : (to : ℕ) (mark : Mark) (ms : List (Option Mark)) (ts rs : List ℕ) → slice_get ms to ≡ Some None → rs ≡ ts ++ to ∷ [] → HasReached to mark ms ts (slice_set ms to (Some mark)) rs true
new_reached to mark ms ts rs none e =
    (subst (λ r. Spread (λ j. j ≡ to) mark ms ts (slice_set ms to (Some mark)) r) (sym e) (more to ms ts refl none same), get_set_same ms to (Some mark) (slice_get_within ms to None none))

spread_as : (P Q : ℕ → Type 0) (mark : Mark) (ms : List (Option Mark)) (ts : List ℕ) (ns : List (Option Mark)) (us : List ℕ) → ((j : ℕ) → P j → Q j) → Spread P mark ms ts ns us → Spread Q mark ms ts ns us
spread_as P Q mark ms ts _ _ f same = same
spread_as P Q mark ms ts _ _ f (more to ns us p none s) = more to ns us (f to p) none (spread_as P Q mark ms ts ns us f s)

spread_on : (P : ℕ → Type 0) (mark : Mark) (ms : List (Option Mark)) (ts : List ℕ) (ns : List (Option Mark)) (us : List ℕ) (os : List (Option Mark)) (vs : List ℕ) → Spread P mark ms ts ns us → Spread P mark ns us os vs → Spread P mark ms ts os vs
spread_on P mark ms ts ns us _ _ a same = a
spread_on P mark ms ts ns us _ _ a (more to os vs p none s) = more to os vs p none (spread_on P mark ms ts ns us os vs a s)

pub spread_stays : (P : ℕ → Type 0) (mark : Mark) (ms : List (Option Mark)) (ts : List ℕ) (ns : List (Option Mark)) (us : List ℕ) → Spread P mark ms ts ns us → (pc : ℕ) (x : Mark) → HasMark ms pc x → HasMark ns pc x
spread_stays P mark ms ts _ _ same pc x h = h
spread_stays P mark ms ts _ _ (more to ns us p none s) pc x h =
    let before = spread_stays P mark ms ts ns us s pc x h in
    get_set_other ns to pc (Some mark) (not_here ns pc to x before none) ∙ before

pub spread_fewer : (P : ℕ → Type 0) (mark : Mark) (ms : List (Option Mark)) (ts : List ℕ) (ns : List (Option Mark)) (us : List ℕ) → Spread P mark ms ts ns us → nones ns ≤ nones ms
spread_fewer P mark ms ts _ _ same = omega arith
spread_fewer P mark ms ts _ _ (more to ns us p none s) = omega (arith, nones_set ns to mark none, spread_fewer P mark ms ts ns us s)

-- a mark that is new
pub record IsNew (P : ℕ → Type 0) (mark : Mark) (ms ns : List (Option Mark)) (us : List ℕ) (pc : ℕ) (x : Mark) : Type 0 where
  pub waits : Contains us pc
  pub is : P pc
  pub mark_is : x ≡ mark
  pub fewer : nones ns + 1 ≤ nones ms

-- the marks behind are those before, and new ones, which are still to be looked at
pub spread_new : (P : ℕ → Type 0) (mark : Mark) (ms : List (Option Mark)) (ts : List ℕ) (ns : List (Option Mark)) (us : List ℕ) → Spread P mark ms ts ns us → (pc : ℕ) (x : Mark) → HasMark ns pc x → HasMark ms pc x ⊎ IsNew P mark ms ns us pc x
spread_new P mark ms ts _ _ same pc x h = inl h
spread_new P mark ms ts _ _ (more to ns us p none s) pc x h =
    let less = nones_set ns to mark none in
    ⊎_elim
    (λ (e : pc ≡ to).
    let here : HasMark (slice_set ns to (Some mark)) pc mark = subst (λ j. HasMark (slice_set ns to (Some mark)) j mark) (sym e) (get_set_same ns to (Some mark) (slice_get_within ns to None none)) in
    let eq : Some (Some x) ≡ Some (Some mark) = sym h ∙ here in
    let is : x ≡ mark = cc in
    inr (record { waits = subst (Contains (us ++ to ∷ [])) (sym e) (Contains-push us to); is = subst P (sym e) p; mark_is = is; fewer = omega (arith, less, spread_fewer P mark ms ts ns us s) }))
    (λ (d : pc ≢ to).
    ⊎_elim (λ (old : HasMark ms pc x). inl old) (λ (new : IsNew P mark ms ns us pc x). inr (record { waits = Contains-append_left us (to ∷ []) pc new.waits; is = new.is; mark_is = new.mark_is; fewer = omega (arith, less, new.fewer) }))
    (spread_new P mark ms ts ns us s pc x (sym (get_set_other ns to pc (Some mark) d) ∙ h)))
    (cases_eq pc to)

pub spread_todo : (P : ℕ → Type 0) (mark : Mark) (ms : List (Option Mark)) (ts : List ℕ) (ns : List (Option Mark)) (us : List ℕ) → Spread P mark ms ts ns us → (pc : ℕ) → Contains ts pc → Contains us pc
spread_todo P mark ms ts _ _ same pc h = h
spread_todo P mark ms ts _ _ (more to ns us p none s) pc h = Contains-append_left us (to ∷ []) pc (spread_todo P mark ms ts ns us s pc h)

pub spread_length : (P : ℕ → Type 0) (mark : Mark) (ms : List (Option Mark)) (ts : List ℕ) (ns : List (Option Mark)) (us : List ℕ) → Spread P mark ms ts ns us → length ns ≡ length ms
spread_length P mark ms ts _ _ same = refl
spread_length P mark ms ts _ _ (more to ns us p none s) = length-set ns to (Some mark) ∙ spread_length P mark ms ts ns us s

-- what is left to do: each new mark is one fewer without, and one more to be looked at
pub spread_cost : (P : ℕ → Type 0) (mark : Mark) (ms : List (Option Mark)) (ts : List ℕ) (ns : List (Option Mark)) (us : List ℕ) → Spread P mark ms ts ns us → nones ns + length us ≡ nones ms + length ts
spread_cost P mark ms ts _ _ same = refl
spread_cost P mark ms ts _ _ (more to ns us p none s) =
    omega (arith, nones_set ns to mark none, spread_cost P mark ms ts ns us s, length-append us (to ∷ []))

pub if_ok_as : {A E : Type 0} (o : Result A E) (P Q : A → Type 0) → ((a : A) → P a → Q a) → IfOk o P → IfOk o Q
if_ok_as (Ok a) P Q f h = f a h
if_ok_as (Err e) P Q f h = h

pub one_spreads : (i : Instr) (pc to : ℕ) (mark : Mark) (ms : List (Option Mark)) (ts : List ℕ) (ns : List (Option Mark)) (us : List ℕ) → ((j : ℕ) → IsNext i pc j → j ≡ to) → IsNext i pc to → (b : Bool) → HasReached to mark ms ts ns us b → HasSpread i pc mark ms ts ns us b
one_spreads i pc to mark ms ts ns us only is true h =
    (spread_as (λ j. j ≡ to) (IsNext i pc) mark ms ts ns us (λ j e. subst (IsNext i pc) (sym e) is) h.0, λ j n. subst (λ k. HasMark ns k mark) (sym (only j n)) h.1)
one_spreads i pc to mark ms ts ns us only is false h =
    (subst (λ ys. Spread (IsNext i pc) mark ms ts ns ys) (sym h.1) (subst (λ xs. Spread (IsNext i pc) mark ms ts xs ts) (sym h.0) same), (to, is, subst (λ xs. Clashes xs to mark) (sym h.0) h.2))

pub default_next : (i : Instr) (pc : ℕ) → ((t : ℕ) → i ≢ instr.Jump t) → ((t : ℕ) → i ≢ instr.Zero t) → i ≢ instr.Stop → IsNext i pc ≡ (λ to. to ≡ pc + 1)
default_next (instr.Jump t) pc a b c = absurd (a t refl)
default_next (instr.Zero t) pc a b c = absurd (b t refl)
default_next instr.Stop pc a b c = absurd (c refl)
default_next _ pc a b c = refl

pub jump_next : (t pc j : ℕ) → IsNext (instr.Jump t) pc j → j ≡ t
jump_next t pc j e = e

pub stop_spreads : (i : Instr) (pc : ℕ) (mark : Mark) (ms : List (Option Mark)) (ts : List ℕ) → i ≡ instr.Stop → HasSpread i pc mark ms ts ms ts true
stop_spreads i pc mark ms ts is = (same, λ to n. absurd (subst (λ j. IsNext j pc to) is n))

-- the two places that a test leads to
pub zero_spreads : (i : Instr) (t pc : ℕ) (mark : Mark) (ms : List (Option Mark)) (ts : List ℕ) (ns : List (Option Mark)) (us : List ℕ) (os : List (Option Mark)) (vs : List ℕ) (b : Bool) → i ≡ instr.Zero t
    → HasReached t mark ms ts ns us true → HasReached (pc + 1) mark ns us os vs b → HasSpread i pc mark ms ts os vs b
zero_spreads i t pc mark ms ts ns us os vs true is first second =
    let P = IsNext i pc in
    let at_t : P t = subst (λ j. IsNext j pc t) (sym is) (inl refl) in
    let at_n : P (pc + 1) = subst (λ j. IsNext j pc (pc + 1)) (sym is) (inr refl) in
    let s1 = spread_as (λ j. j ≡ t) P mark ms ts ns us (λ j e. subst P (sym e) at_t) first.0 in
    let s2 = spread_as (λ j. j ≡ pc + 1) P mark ns us os vs (λ j e. subst P (sym e) at_n) second.0 in (
      spread_on P mark ms ts ns us os vs s1 s2,
      λ to n. ⊎_elim (λ (e : to ≡ t). subst (λ k. HasMark os k mark) (sym e) (spread_stays P mark ns us os vs s2 t mark first.1)) (λ (e : to ≡ pc + 1). subst (λ k. HasMark os k mark) (sym e) second.1) (subst (λ j. IsNext j pc to) is n),
    )
zero_spreads i t pc mark ms ts ns us os vs false is first second =
    let P = IsNext i pc in
    let at_t : P t = subst (λ j. IsNext j pc t) (sym is) (inl refl) in
    let at_n : P (pc + 1) = subst (λ j. IsNext j pc (pc + 1)) (sym is) (inr refl) in
    let s1 = spread_as (λ j. j ≡ t) P mark ms ts ns us (λ j e. subst P (sym e) at_t) first.0 in
    (subst (λ ys. Spread P mark ms ts os ys) (sym second.1) (subst (λ xs. Spread P mark ms ts xs us) (sym second.0) s1), (pc + 1, at_n, subst (λ xs. Clashes xs (pc + 1) mark) (sym second.0) second.2))

pub zero_clashes : (i : Instr) (t pc : ℕ) (mark : Mark) (ms : List (Option Mark)) (ts : List ℕ) (ns : List (Option Mark)) (us : List ℕ) → i ≡ instr.Zero t → HasReached t mark ms ts ns us false → HasSpread i pc mark ms ts ns us false
zero_clashes i t pc mark ms ts ns us is h =
    (subst (λ ys. Spread (IsNext i pc) mark ms ts ns ys) (sym h.1) (subst (λ xs. Spread (IsNext i pc) mark ms ts xs ts) (sym h.0) same), (t, subst (λ j. IsNext j pc t) (sym is) (inl refl), subst (λ xs. Clashes xs t mark) (sym h.0) h.2))

puts_most : (i : Instr) → puts i ≤ 1
puts_most (instr.Push v) = omega arith
puts_most (instr.Load id) = omega arith
puts_most (instr.Len a) = omega arith
puts_most (instr.Bound a w at) = omega arith
puts_most (instr.Get a) = omega arith
puts_most instr.Neg = omega arith
puts_most instr.Not = omega arith
puts_most (instr.Binary op at) = omega arith
puts_most _ = omega arith

declares_most : (i : Instr) → declares i ≤ 1
declares_most instr.Declare = omega arith
declares_most _ = omega arith

found_behind : (code : List Instr) (ms ns : List (Option Mark)) (ts us : List ℕ) (pc : ℕ) (i : Instr) (m : Mark) → AreFound code ms → slice_get code pc ≡ Some i → HasMark ms pc m → Spread (IsNext i pc) (after i m) ms ts ns us → AreFound code ns
found_behind code ms ns ts us pc i m found is has s = λ q x h.
    ⊎_elim (λ (old : HasMark ms q x). found q x old)
    (λ (new : IsNew (IsNext i pc) (after i m) ms ns us q x). subst (Way code q) (sym new.mark_is) (goes_on pc q i m (found pc m has) is new.is))
    (spread_new (IsNext i pc) (after i m) ms ts ns us s q x h)

pub low_behind : (ms ns : List (Option Mark)) (ts us : List ℕ) (pc : ℕ) (i : Instr) (m : Mark) → AreLow ms → HasMark ms pc m → Spread (IsNext i pc) (after i m) ms ts ns us → AreLow ns
low_behind ms ns ts us pc i m low has s = λ q x h.
    let long = spread_length (IsNext i pc) (after i m) ms ts ns us s in
    let fewer = spread_fewer (IsNext i pc) (after i m) ms ts ns us s in
    ⊎_elim (λ (old : HasMark ms q x). let l = low q x old in record { depth = omega (arith, l.depth, long, fewer); declared = omega (arith, l.declared, long, fewer) })
    (λ (new : IsNew (IsNext i pc) (after i m) ms ns us q x).
    let l = low pc m has in
    subst (IsLow ns) (sym new.mark_is) (record { depth = omega (arith, l.depth, long, new.fewer, puts_most i); declared = omega (arith, l.declared, long, new.fewer, declares_most i) }))
    (spread_new (IsNext i pc) (after i m) ms ts ns us s q x h)

still_passed : (P : ℕ → Type 0) (mark : Mark) (ms : List (Option Mark)) (ts : List ℕ) (ns : List (Option Mark)) (us : List ℕ) (q : ℕ) (j : Instr) (x : Mark) → Spread P mark ms ts ns us → IsPassed ms q j x → IsPassed ns q j x
still_passed P mark ms ts ns us q j x s p = record { takes = p.takes; leaves = p.leaves; ends = p.ends; leads = λ to n. spread_stays P mark ms ts ns us s to (after j x) (p.leads to n) }

-- an instruction that was looked at
pub search_on : (code : List Instr) (ms ns : List (Option Mark)) (ts us : List ℕ) (pc : ℕ) (i : Instr) (m : Mark) → IsSearch code ms (ts ++ pc ∷ []) → slice_get code pc ≡ Some i → HasMark ms pc m
    → takes i ≤ m.depth → leaves i ≤ m.declared → EndsEmpty i m.depth → HasSpread i pc (after i m) ms ts ns us true → IsSearch code ns us
search_on code ms ns ts us pc i m search_ is has takes_ leaves_ ends_ sp =
    let P = IsNext i pc in
    record {
      long = spread_length P (after i m) ms ts ns us sp.0 ∙ search_.long;
      found = found_behind code ms ns ts us pc i m search_.found is has sp.0;
      first = spread_stays P (after i m) ms ts ns us sp.0 0 _ search_.first;
      passed = λ q j x is_q h.
          ⊎_elim
          (λ (old : HasMark ms q x).
          ⊎_elim
          (λ (waits : Contains (ts ++ pc ∷ []) q).
          ⊎_elim (λ (in_ts : Contains ts q). inl (spread_todo P (after i m) ms ts ns us sp.0 q in_ts))
          (λ (here : pc ≡ q).
          let same_i : Some i ≡ Some j = sym is ∙ ap (slice_get code) here ∙ is_q in
          let same_m : Some (Some m) ≡ Some (Some x) = sym has ∙ ap (slice_get ms) here ∙ old in
          let ei : i ≡ j = cc in
          let em : m ≡ x = cc in
          let p : IsPassed ns pc i m = record { takes = takes_; leaves = leaves_; ends = ends_; leads = sp.1 } in
          inr (subst (λ a. IsPassed ns a j x) here (subst (λ a. IsPassed ns pc a x) ei (subst (IsPassed ns pc i) em p))))
          (Contains-push_cases ts pc q waits))
          (λ (p : IsPassed ms q j x). inr (still_passed P (after i m) ms ts ns us q j x sp.0 p))
          (search_.passed q j x is_q old))
          (λ (new : IsNew P (after i m) ms ns us q x). inl new.waits)
          (spread_new P (after i m) ms ts ns us sp.0 q x h);
    }

-- one that has no mark, or isn't there
pub search_skips : (code : List Instr) (ms : List (Option Mark)) (ts : List ℕ) (pc : ℕ) → IsSearch code ms (ts ++ pc ∷ []) → ((m : Mark) → HasMark ms pc m → ⊥) → IsSearch code ms ts
search_skips code ms ts pc search_ none = record {
  long = search_.long;
  found = search_.found;
  first = search_.first;
  passed = λ q j x is_q h.
      ⊎_elim (λ (waits : Contains (ts ++ pc ∷ []) q). ⊎_elim (λ (in_ts : Contains ts q). inl in_ts) (λ (here : pc ≡ q). absurd (none x (ap (slice_get ms) here ∙ h))) (Contains-push_cases ts pc q waits))
      (λ (p : IsPassed ms q j x). inr p) (search_.passed q j x is_q h);
}

-- what breaks the rule
pub clash_breaks : (code : List Instr) (ms ns : List (Option Mark)) (ts us : List ℕ) (pc : ℕ) (i : Instr) (m : Mark) → IsSearch code ms (ts ++ pc ∷ []) → slice_get code pc ≡ Some i → HasMark ms pc m
    → HasSpread i pc (after i m) ms ts ns us false → IsSound code → ⊥
clash_breaks code ms ns ts us pc i m search_ is has sp sound =
    let to = sp.1.0 in
    let way = goes_on pc to i m (search_.found pc m has) is sp.1.1 in
    let found = found_behind code ms ns ts us pc i m search_.found is has sp.0 in
    let long = spread_length (IsNext i pc) (after i m) ms ts ns us sp.0 ∙ search_.long in
    ⊎_elim (λ (past : length ns ≤ to). runs_past code to (after i m) way (omega (arith, past, long)) sound)
    (λ (other : (o : Mark) × HasMark ns to o × (o ≢ after i m)). two_marks code to other.0 (after i m) (found to other.0 other.1) way other.2 sound)
    sp.1.2

pub unfine_breaks : (code : List Instr) (ms : List (Option Mark)) (ts : List ℕ) (pc : ℕ) (i : Instr) (m : Mark) → IsSearch code ms ts → slice_get code pc ≡ Some i → HasMark ms pc m
    → (takes i ≤ m.depth → leaves i ≤ m.declared → EndsEmpty i m.depth → ⊥) → IsSound code → ⊥
unfine_breaks code ms ts pc i m search_ is has unfine sound =
    let w = search_.found pc m has in
    unfine (sound.takes pc i m w is) (sound.leaves pc i m w is) (sound.ends pc i m w is)

pub no_marks : (ms : List (Option Mark)) (pc : ℕ) → slice_get ms pc ≡ Some None → (m : Mark) → HasMark ms pc m → ⊥
no_marks ms pc none m h = let b : Some (Some m) ≡ Some None = sym h ∙ none in cc

pub none_past : (ms : List (Option Mark)) (pc : ℕ) → length ms ≤ pc → (m : Mark) → HasMark ms pc m → ⊥
none_past ms pc past m h = absurd (omega (arith, past, slice_get_within ms pc (Some m) h))

pub visited : (code : List Instr) (ms ns : List (Option Mark)) (ts us : List ℕ) (pc : ℕ) (i : Instr) (m a : Mark) (b : Bool) → IsSearch code ms (ts ++ pc ∷ []) → AreLow ms → slice_get code pc ≡ Some i → HasMark ms pc m
    → takes i ≤ m.depth → leaves i ≤ m.declared → EndsEmpty i m.depth → a ≡ after i m → HasSpread i pc a ms ts ns us b → HasVisited code ms ts ns us b
visited code ms ns ts us pc i m a true search_ low is has takes_ leaves_ ends_ e h =
    let sp : HasSpread i pc (after i m) ms ts ns us true = subst (λ x. HasSpread i pc x ms ts ns us true) e h in
    (search_on code ms ns ts us pc i m search_ is has takes_ leaves_ ends_ sp, low_behind ms ns ts us pc i m low has sp.0, spread_cost (IsNext i pc) (after i m) ms ts ns us sp.0)
visited code ms ns ts us pc i m a false search_ low is has takes_ leaves_ ends_ e h =
    clash_breaks code ms ns ts us pc i m search_ is has (subst (λ x. HasSpread i pc x ms ts ns us false) e h)

none_in : (n pc : ℕ) (m : Mark) → HasMark (replicate n None) pc m → ⊥
none_in zero pc m h = let b : ◌≡◌ {A = Option (Option Mark)} None (Some (Some m)) = h in cc
none_in (suc n) zero m h = let b : ◌≡◌ {A = Option (Option Mark)} (Some None) (Some (Some m)) = h in cc
none_in (suc n) (suc pc) m h = none_in n pc m h

start_only : (n pc : ℕ) (m0 m : Mark) → 0 < n → HasMark (slice_set (replicate n None) 0 (Some m0)) pc m → (pc ≡ 0) × (m ≡ m0)
start_only zero pc m0 m some h = absurd (omega (arith, some))
start_only (suc n) zero m0 m some h = let b : Some (Some m0) ≡ Some (Some m) = h in (refl, cc)
start_only (suc n) (suc pc) m0 m some h = absurd (none_in n pc m h)

nones_all : (n : ℕ) → nones (replicate n None) ≡ n
nones_all zero = refl
nones_all (suc n) = let e : n + 1 ≡ suc n = omega arith in ap (λ k. k + 1) (nones_all n) ∙ e

none_first : (n : ℕ) → 0 < n → slice_get {X = Option Mark} (replicate n None) 0 ≡ Some None
none_first zero h = absurd (omega (arith, h))
none_first (suc n) h = refl

pub start_search : (code : List Instr) (ms : List (Option Mark)) (ts : List ℕ) → 0 < length code → ms ≡ slice_set (replicate (length code) None) 0 (Some (record { depth = 0; declared = 0 })) → ts ≡ 0 ∷ [] → IsSearch code ms ts × AreLow ms
start_search code ms ts some is todo =
    let m0 : Mark = record { depth = 0; declared = 0 } in
    let all = slice_set (replicate (length code) None) 0 (Some m0) in
    let n = length code in
    let long : length all ≡ n = length-set (replicate n None) 0 (Some m0) ∙ length-replicate n None in
    let first : HasMark all 0 m0 = get_set_same (replicate n None) 0 (Some m0) (omega (arith, some, length-replicate {A = Option Mark} n None)) in
    let s : IsSearch code all (0 ∷ []) = record {
      long = long;
      found = λ pc m h. let e = start_only n pc m0 m some h in subst (λ p. Way code p m) (sym e.0) (subst (Way code 0) (sym e.1) begins);
      first = first;
      passed = λ pc i m is_pc h. let e = start_only n pc m0 m some h in inl (subst (Contains (0 ∷ [])) (sym e.0) (Contains-push [] 0));
    } in
    let few : nones all ≤ n = omega (arith, nones_set (replicate n None) 0 m0 (none_first n some), nones_all n) in
    let low : AreLow all = λ pc m h. let e = start_only n pc m0 m some h in subst (IsLow all) (sym e.1) (record { depth = omega (arith, few, long); declared = omega (arith, few, long) }) in
    (subst (λ t. IsSearch code ms t) (sym todo) (subst (λ x. IsSearch code x (0 ∷ [])) (sym is) s), subst AreLow (sym is) low)

pub empty_breaks : (code : List Instr) → length code ≡ 0 → IsSound code → ⊥
empty_breaks code none sound = runs_past code 0 _ begins (omega (arith, none)) sound

search_closed : (code : List Instr) (ms : List (Option Mark)) → IsSearch code ms [] → IsClosed code ms
search_closed code ms s = record { long = s.long; first = s.first; passed = λ pc i m is h. ⊎_elim (λ (w : Contains [] pc). absurd (omega (arith, w.1))) (λ (p : IsPassed ms pc i m). p) (s.passed pc i m is h) }

-- the greatest number of all marks is that of all ways
greatest_way : (kind : Mark → ℕ) (code : List Instr) (ms : List (Option Mark)) (most : ℕ) → IsClosed code ms → AreFound code ms → IsTop kind ms most → IsGreatest kind code most
greatest_way kind code ms most closed found top = record {
  bounds = λ pc a w. top.bounds pc a (marked code ms closed pc a w);
  place = top.place;
  mark = top.mark;
  reached = found top.place top.mark top.reached;
  is = top.is;
}

-- code whose search has come to its end keeps the rule, with the greatest depth and count of its marks
pub search_view : (code : List Instr) (o : Option (Vec (Option Mark) Global)) (marks : Vec (Option Mark) Global) (most : Mark) (uses : Uses) → o ≡ Some marks → IfSome o (λ m. IsSearch code m.items [])
    → ((pc : ℕ) (i : Instr) → slice_get code pc ≡ Some i → HasTarget (length code) i) → UsesBelow 256 256 code → IsHighest marks.items most → UsesBelow uses.hidden uses.counters code → uses.hidden ≤ 256 → uses.counters ≤ 256 → length code < 2 ^ 31
    → IsSoundView (sound_view code most uses)
search_view code o marks most uses is found targets numbered highest below few_h few_c short =
    let s : IsSearch code marks.items [] = subst (λ x. IfSome x (λ m. IsSearch code m.items [])) is found in
    let closed = search_closed code marks.items s in
    record {
      sound = closed_sound code marks.items closed targets numbered;
      deepest = greatest_way (λ m. m.depth) code marks.items most.depth closed s.found highest.depth;
      scalars = greatest_way (λ m. m.declared) code marks.items most.declared closed s.found highest.declared;
      uses = below;
      few_hidden = few_h;
      few_counters = few_c;
      short = short;
    }

pub first_marked : (code : List Instr) (o : Option (Vec (Option Mark) Global)) (marks : Vec (Option Mark) Global) → o ≡ Some marks → IfSome o (λ m. IsSearch code m.items []) → HasMark marks.items 0 start
first_marked code o marks is found =
    let s : IsSearch code marks.items [] = subst (λ x. IfSome x (λ m. IsSearch code m.items [])) is found in
    s.first

pub not_false : (b : Bool) → not b ≡ false → b ≡ true
not_false true h = refl
not_false false h = cc
