-- What the first of several faults is.
use Rattle.std.proofs.Common.{◌≡◌, ◌⊎◌, inl, inr, ⊎_elim, true, false, if◌then◌else◌, List, [], ◌∷◌, ◌++◌, Some, None, Ok, Err, refl, sym, subst, ◌∙◌, arith}
use Rattle.std.specs.Prelude.{Contains, OnOk}
use Rattle.std.specs.declared.option.Option.{Option}
use Rattle.std.specs.declared.result.Result.{Result}
use Rattle.std.specs.List.{All}
use Rattle.std.proofs.lemmas.Bool.{cases_Bool}
use Rattle.std.proofs.lemmas.Bool.Decides.{nat_tests}
use Rattle.std.proofs.lemmas.Option.{none-some, same_Some}
use Rattle.std.proofs.lemmas.List.Elements.{Contains-append_right, All-nil, All-cons, All-contains}
use Rattle.nona_tree.specs.declared.faults.ProgramFault.{ProgramFault}
use Rattle.nona_tree.specs.Faults.{IsNoLater}
use Rattle.nona_check.specs.First.{is_before, earlier, first_from}

-- what holds, holds where a result is Ok
pub whenever : {T E : Type 0} (P : Type 0) (r : Result T E) → P → OnOk r P
whenever P (Ok x) h = h
whenever P (Err e) h = tt

-- the first of one list of faults after another
pub first_from-append : (kept : Option ProgramFault) (xs ys : List ProgramFault) → first_from kept (xs ++ ys) ≡ first_from (first_from kept xs) ys
first_from-append kept [] ys = refl
first_from-append kept (x ∷ xs) ys = first_from-append (Some (earlier kept x)) xs ys

before_is : (f g : ProgramFault) → is_before f g ≡ true → IsNoLater f g
before_is f g h = grind (arith, nat_tests)

others_are : (f g : ProgramFault) → is_before f g ≡ false → IsNoLater g f
others_are f g h = grind (arith, nat_tests)

same_is : (f : ProgramFault) → IsNoLater f f
same_is f = grind arith

no_later_trans : (f g h : ProgramFault) → IsNoLater f g → IsNoLater g h → IsNoLater f h
no_later_trans f g h a b = grind arith

-- a fault is one of these two, and no later than either
record IsOfTwo (f kept fault : ProgramFault) : Type 0 where
  one : (f ≡ kept) ⊎ (f ≡ fault)
  kept_later : IsNoLater f kept
  other_later : IsNoLater f fault

of_two : (kept fault : ProgramFault) → IsOfTwo (earlier (Some kept) fault) kept fault
of_two kept fault =
    ⊎_elim
    (λ (h : is_before fault kept ≡ true). subst (λ b. IsOfTwo (if b then fault else kept) kept fault) (sym h)
    (record { one = inr refl; kept_later = before_is fault kept h; other_later = same_is fault }))
    (λ (h : is_before fault kept ≡ false). subst (λ b. IsOfTwo (if b then fault else kept) kept fault) (sym h)
    (record { one = inl refl; kept_later = same_is kept; other_later = others_are fault kept h }))
    (cases_Bool (is_before fault kept))

-- a fault is one of these, and no later than any
record IsFirstOf (f kept : ProgramFault) (faults : List ProgramFault) : Type 0 where
  one : (f ≡ kept) ⊎ Contains faults f
  kept_later : IsNoLater f kept
  others_later : All (IsNoLater f) faults

in_front : (x : ProgramFault) (xs : List ProgramFault) → Contains (x ∷ xs) x
in_front x xs = (0, omega arith, refl)

first_of_more : (f kept x : ProgramFault) (xs : List ProgramFault) → IsFirstOf f (earlier (Some kept) x) xs → IsFirstOf f kept (x ∷ xs)
first_of_more f kept x xs h =
    let two = of_two kept x in record {
      one = ⊎_elim
          (λ (e : f ≡ earlier (Some kept) x).
          ⊎_elim (λ (k : earlier (Some kept) x ≡ kept). inl (e ∙ k))
          (λ (k : earlier (Some kept) x ≡ x). inr (subst (λ g. Contains (x ∷ xs) g) (sym (e ∙ k)) (in_front x xs)))
          two.one)
          (λ (e : Contains xs f). inr (Contains-append_right (x ∷ []) xs f e))
          h.one;
      kept_later = no_later_trans f (earlier (Some kept) x) kept h.kept_later two.kept_later;
      others_later = All-cons (IsNoLater f) x xs (no_later_trans f (earlier (Some kept) x) x h.kept_later two.other_later) h.others_later;
    }

first_of : (faults : List ProgramFault) (kept f : ProgramFault) → first_from (Some kept) faults ≡ Some f → IsFirstOf f kept faults
first_of [] kept f h =
    subst (λ g. IsFirstOf g kept []) (same_Some kept f h)
    (record { one = inl refl; kept_later = same_is kept; others_later = All-nil (IsNoLater kept) })
first_of (x ∷ xs) kept f h = first_of_more f kept x xs (first_of xs (earlier (Some kept) x) f h)

there : (faults : List ProgramFault) (kept : ProgramFault) → first_from (Some kept) faults ≡ None → ⊥
there [] kept h = none-some kept (sym h)
there (x ∷ xs) kept h = there xs (earlier (Some kept) x) h

-- where there is no first fault there is none
pub none_first : (faults : List ProgramFault) → first_from None faults ≡ None → faults ≡ []
none_first [] h = refl
none_first (x ∷ xs) h = absurd (there xs x h)

-- a first fault is one of the faults, and no other one is before it
pub some_first : (faults : List ProgramFault) (f : ProgramFault) → first_from None faults ≡ Some f
    → Contains faults f × ((other : ProgramFault) → Contains faults other → IsNoLater f other)
some_first [] f h = absurd (none-some f h)
some_first (x ∷ xs) f h =
    let first = first_of xs x f h in (
      ⊎_elim (λ (e : f ≡ x). subst (λ g. Contains (x ∷ xs) g) (sym e) (in_front x xs)) (λ (e : Contains xs f). Contains-append_right (x ∷ []) xs f e) first.one,
      λ other there. All-contains (IsNoLater f) (x ∷ xs) other (All-cons (IsNoLater f) x xs first.kept_later first.others_later) there,
    )
