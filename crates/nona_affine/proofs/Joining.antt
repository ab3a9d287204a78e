-- A form whose terms were moved to those of another one is the sum of both.
use Rattle.std.proofs.Common.{◌≡◌, ℕ, ◌≤◌, Bool, true, false, not, ℤ, negsuc, ◌*ℤ◌, ◌+ℤ◌, List, length, refl, sym, ap, subst, ◌∙◌, arith, if◌then◌else◌, ◌&&◌, Some, None, IsTrue, FitsSigned}
use Rattle.std.proofs.lemmas.Int.{ints}
use Rattle.std.specs.declared.option.Option.{Option}
use Rattle.std.specs.Prelude.{nat_le}
use Rattle.std.specs.List.{list_all}
use Rattle.std.specs.Int.{w128}
use Rattle.std.specs.BTreeMap.{BTreeMap, btree_map_len}
use Rattle.nona_forms.specs.declared.limits.TheConstants.{TERMS}
use Rattle.nona_forms.specs.declared.terms.Term.{Term}
use Rattle.nona_forms.specs.Affine.{Affine, is_coefficient, is_constant, is_bounded, if_bounded, terms_at, sum_terms, sum_form}
use Rattle.nona_forms.proofs.Ordered.{RisesFrom, sum_rises}
use Rattle.nona_forms.proofs.Sums.{at_sum}
use Rattle.nona_affine.specs.Tallies.{AreUsed, IsPoured, IsTally, IsTooGreat, one_alone, signed, sum_at, terms_in}
use Rattle.nona_affine.proofs.Bools.{both_are}
use Rattle.nona_affine.proofs.Pouring.{signed_sum}
use Rattle.nona_affine.proofs.Alike.{alike, all_within, at_terms, length_in, rises, signed_within, within_at}

-- a constant within bounds is a number of 128 bits
pub constant_fits : (k : ℤ) → IsTrue (is_constant k) → FitsSigned w128 k
constant_fits k h = grind (arith, ints)

-- the form that a constant and a map stand for
abbrev pub form_in : ℤ → Bool → BTreeMap ℕ ℤ → Affine
form_in k b m = record { constant = k; terms = terms_in b m.entries }

-- the sign that the terms of a form have among those of another one
abbrev pub relative : Bool → Bool → Bool
relative b o = if b then not o else o

pub twice : (y : ℤ) → negsuc 0 *ℤ (negsuc 0 *ℤ y) ≡ y
twice y = omega (arith, ints)

signs : (b o : Bool) (x y : ℤ) → signed b (x +ℤ signed (relative b o) y) ≡ signed b x +ℤ signed o y
signs false o x y = refl
signs true true x y = signed_sum true x y
signs true false x y = signed_sum true x (negsuc 0 *ℤ y) ∙ ap (λ z. (negsuc 0 *ℤ x) +ℤ z) (twice y)

swapped : (a b : ℤ) → a +ℤ b ≡ b +ℤ a
swapped a b = omega (arith, ints)

-- what the terms add up to
added : (s : ℕ → ℤ) (b o : Bool) (m n r : BTreeMap ℕ ℤ) → sum_at s r.entries ≡ sum_at s m.entries +ℤ signed (relative b o) (sum_at s n.entries)
    → terms_at s (terms_in b r.entries) ≡ terms_at s (terms_in b m.entries) +ℤ terms_at s (terms_in o n.entries)
added s b o m n r h =
    at_terms s b r.entries ∙ ap (signed b) h ∙ signs b o (sum_at s m.entries) (sum_at s n.entries)
    ∙ ap (λ x. x +ℤ signed o (sum_at s n.entries)) (sym (at_terms s b m.entries)) ∙ ap (λ x. terms_at s (terms_in b m.entries) +ℤ x) (sym (at_terms s o n.entries))

in_order : (b : Bool) (m : BTreeMap ℕ ℤ) → AreUsed m → RisesFrom 0 (terms_in b m.entries)
in_order b m h = rises b m.entries h.rising h.all

-- the terms are those of the sum, whichever comes first
terms_are : (b o : Bool) (m n r : BTreeMap ℕ ℤ) → AreUsed m → AreUsed n → IsPoured (relative b o) m n r true → terms_in b r.entries ≡ sum_terms (terms_in b m.entries) (terms_in o n.entries)
terms_are b o m n r h g k =
    alike 0 (terms_in b r.entries) (sum_terms (terms_in b m.entries) (terms_in o n.entries)) (in_order b r k.1) (sum_rises 0 (terms_in b m.entries) (terms_in o n.entries) (in_order b m h) (in_order o n g))
    (λ s. added s b o m n r (k.0 s) ∙ sym (at_sum s (terms_in b m.entries) (terms_in o n.entries)))

sums_alike : (ts us : List Term) → RisesFrom 0 ts → RisesFrom 0 us → sum_terms ts us ≡ sum_terms us ts
sums_alike ts us h g =
    alike 0 (sum_terms ts us) (sum_terms us ts) (sum_rises 0 ts us h g) (sum_rises 0 us ts g h) (λ s. at_sum s ts us ∙ swapped (terms_at s ts) (terms_at s us) ∙ sym (at_sum s us ts))

sum_alike : (a c : ℤ) (b o : Bool) (m n : BTreeMap ℕ ℤ) → AreUsed m → AreUsed n → sum_form (form_in a b m) (form_in c o n) ≡ sum_form (form_in c o n) (form_in a b m)
sum_alike a c b o m n h g =
    ap (λ k. record { constant = k; terms = sum_terms (terms_in b m.entries) (terms_in o n.entries) }) (swapped a c)
    ∙ ap (λ ts. record { constant = c +ℤ a; terms = ts }) (sums_alike (terms_in b m.entries) (terms_in o n.entries) (in_order b m h) (in_order o n g))

three_true : (f : Affine) (a b c : Bool) → a ≡ true → b ≡ true → c ≡ true → (if (a && (b && c)) then Some f else None) ≡ Some f
three_true f true true true h g k = refl
three_true f true true false h g k = cc
three_true f true false c h g k = cc
three_true f false b c h g k = cc

pub none_first : (f : Affine) (a b : Bool) → a ≡ false → (if (a && b) then Some f else None) ≡ None
none_first f true b h = cc
none_first f false b h = refl

none_second : (f : Affine) (a b c : Bool) → b ≡ false → (if (a && (b && c)) then Some f else None) ≡ None
none_second f true true c h = cc
none_second f true false c h = refl
none_second f false b c h = refl

pub none_third : (f : Affine) (a b c : Bool) → (c ≡ true → false ≡ true) → (if (a && (b && c)) then Some f else None) ≡ None
none_third f true true true h = let no_way = h refl in cc
none_third f true true false h = refl
none_third f true false c h = refl
none_third f false b c h = refl

-- a map of few coefficients stands for a form within bounds
pub tally_bounded : (k : ℤ) (b : Bool) (m : BTreeMap ℕ ℤ) → is_constant k ≡ true → nat_le (btree_map_len m) TERMS ≡ true → AreUsed m → if_bounded (form_in k b m) ≡ Some (form_in k b m)
tally_bounded k b m h g u =
    three_true (form_in k b m) (is_constant k) (nat_le (length (terms_in b m.entries)) TERMS) (list_all (λ (t : Term). is_coefficient t.coefficient) (terms_in b m.entries)) h (ap (λ x. nat_le x TERMS) (length_in b m.entries) ∙ g) (all_within b m.entries u.all)

-- a map's terms, listed, are within a form's bounds
pub few_is : (n : ℕ) → n ≤ TERMS → nat_le n TERMS ≡ true
few_is n h = grind arith

pub listed_bounded : (k j : ℤ) (b : Bool) (m : BTreeMap ℕ ℤ) (ts : List Term) → IsTally k m → j ≡ k → ts ≡ terms_in b m.entries → IsTrue (is_bounded (record { constant = j; terms = ts }))
listed_bounded k j b m ts h e g =
    ap (λ x. is_bounded (record { constant = x; terms = ts })) e ∙ ap (λ xs. is_bounded (record { constant = k; terms = xs })) g
    ∙ both_are _ _ h.constant (both_are _ _ (ap (λ n. nat_le n TERMS) (length_in b m.entries) ∙ few_is (btree_map_len m) h.few) (all_within b m.entries h.used.all))

-- the sum where it is within bounds
join_is : (a c k : ℤ) (b o : Bool) (m n r : BTreeMap ℕ ℤ) → IsTally a m → IsTally c n → k ≡ a +ℤ c → is_constant k ≡ true → IsPoured (relative b o) m n r true → nat_le (btree_map_len r) TERMS ≡ true
    → Some (form_in k b r) ≡ if_bounded (sum_form (form_in a b m) (form_in c o n))
join_is a c k b o m n r h g e within poured few =
    sym (tally_bounded k b r within few poured.1)
    ∙ ap (λ x. if_bounded (record { constant = x; terms = terms_in b r.entries })) e
    ∙ ap (λ ts. if_bounded (record { constant = a +ℤ c; terms = ts })) (terms_are b o m n r h.used g.used poured)

-- there is none where the constant is out of bounds
no_constant : (a c k : ℤ) (b o : Bool) (m n : BTreeMap ℕ ℤ) → k ≡ a +ℤ c → is_constant k ≡ false → None ≡ if_bounded (sum_form (form_in a b m) (form_in c o n))
no_constant a c k b o m n e h = sym (none_first (sum_form (form_in a b m) (form_in c o n)) (is_constant (a +ℤ c)) _ (ap is_constant (sym e) ∙ h))

-- nor where a coefficient is
no_coefficient : (a c : ℤ) (b o : Bool) (m n : BTreeMap ℕ ℤ) → IsTally a m → IsTally c n → IsTooGreat (relative b o) m.entries n.entries → None ≡ if_bounded (sum_form (form_in a b m) (form_in c o n))
no_coefficient a c b o m n h g far =
    let ts = terms_in b m.entries in
    let us = terms_in o n.entries in
    let s = one_alone far.id in
    let at : terms_at s (sum_terms ts us) ≡ signed b (sum_at s m.entries +ℤ signed (relative b o) (sum_at s n.entries)) =
    at_sum s ts us ∙ ap (λ x. x +ℤ terms_at s us) (at_terms s b m.entries) ∙ ap (λ x. signed b (sum_at s m.entries) +ℤ x) (at_terms s o n.entries) ∙ sym (signs b o (sum_at s m.entries) (sum_at s n.entries)) in
    let out : is_coefficient (terms_at s (sum_terms ts us)) ≡ false = ap is_coefficient at ∙ signed_within b (sum_at s m.entries +ℤ signed (relative b o) (sum_at s n.entries)) ∙ far.far in
    sym (none_third (sum_form (form_in a b m) (form_in c o n)) _ _ _ (λ all. sym out ∙ within_at far.id 0 (sum_terms ts us) (sum_rises 0 ts us (in_order b m h.used) (in_order o n g.used)) all))

-- nor where there are too many terms
too_many : (a c : ℤ) (b o : Bool) (m n r : BTreeMap ℕ ℤ) → IsTally a m → IsTally c n → IsPoured (relative b o) m n r true → nat_le (btree_map_len r) TERMS ≡ false
    → None ≡ if_bounded (sum_form (form_in a b m) (form_in c o n))
too_many a c b o m n r h g poured many =
    sym (none_second (sum_form (form_in a b m) (form_in c o n)) _ _ _ (ap (λ ts. nat_le (length ts) TERMS) (sym (terms_are b o m n r h.used g.used poured)) ∙ ap (λ x. nat_le x TERMS) (length_in b r.entries) ∙ many))

-- the same of what a call says
pub call_joins : (a c k : ℤ) (b o d p : Bool) (m n r : BTreeMap ℕ ℤ) → IsTally a m → IsTally c n → k ≡ a +ℤ c → is_constant k ≡ true → d ≡ relative b o → p ≡ true → IsPoured d m n r p → nat_le (btree_map_len r) TERMS ≡ true
    → Some (form_in k b r) ≡ if_bounded (sum_form (form_in a b m) (form_in c o n))
call_joins a c k b o d p m n r h g e within same done poured few =
    join_is a c k b o m n r h g e within (subst (IsPoured (relative b o) m n r) done (subst (λ x. IsPoured x m n r p) same poured)) few

pub call_stops : (a c : ℤ) (b o d p : Bool) (m n r : BTreeMap ℕ ℤ) → IsTally a m → IsTally c n → d ≡ relative b o → p ≡ false → IsPoured d m n r p → None ≡ if_bounded (sum_form (form_in a b m) (form_in c o n))
call_stops a c b o d p m n r h g same stopped poured = no_coefficient a c b o m n h g (subst (IsPoured (relative b o) m n r) stopped (subst (λ x. IsPoured x m n r p) same poured))

pub call_fills : (a c : ℤ) (b o d p : Bool) (m n r : BTreeMap ℕ ℤ) → IsTally a m → IsTally c n → d ≡ relative b o → p ≡ true → IsPoured d m n r p → nat_le (btree_map_len r) TERMS ≡ false
    → None ≡ if_bounded (sum_form (form_in a b m) (form_in c o n))
call_fills a c b o d p m n r h g same done poured many =
    too_many a c b o m n r h g (subst (IsPoured (relative b o) m n r) done (subst (λ x. IsPoured x m n r p) same poured)) many

-- the same of the forms that are seen
pub seen : (a c : ℤ) (b o : Bool) (m n : BTreeMap ℕ ℤ) (f g : Affine) (r : Option Affine) → form_in a b m ≡ f → form_in c o n ≡ g → r ≡ if_bounded (sum_form (form_in a b m) (form_in c o n)) → r ≡ if_bounded (sum_form f g)
seen a c b o m n f g r h k e = e ∙ ap (λ x. if_bounded (sum_form x (form_in c o n))) h ∙ ap (λ x. if_bounded (sum_form f x)) k

pub seen_turned : (a c : ℤ) (b o : Bool) (m n : BTreeMap ℕ ℤ) (f g : Affine) (r : Option Affine) → IsTally a m → IsTally c n → form_in a b m ≡ f → form_in c o n ≡ g → r ≡ if_bounded (sum_form (form_in a b m) (form_in c o n))
    → r ≡ if_bounded (sum_form g f)
seen_turned a c b o m n f g r x y h k e = seen c a o b n m g f r k h (e ∙ ap if_bounded (sum_alike a c b o m n x.used y.used))
