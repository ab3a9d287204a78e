-- Which ids are among others.
use Rattle.std.proofs.Common.{◌≡◌, ℕ, zero, suc, ◌<◌, ◌≤◌, ◌-◌, ◌==◌, ◌&&◌, ◌||◌, Bool, true, false, not, List, [], ◌∷◌, ◌++◌, length, refl, sym, ap, ◌∙◌, subst, arith, if◌then◌else◌, nat_lt, ⊎_elim}
use Rattle.std.proofs.lemmas.Bool.{cases_lt}
use Rattle.std.proofs.lemmas.List.Sorted.{searched, list_any-IsPermutation, IsNonDecreasingBy-push, IsPermutation-reverse}
use Rattle.std.specs.List.{list_any}
use Rattle.std.specs.List.Sorted.{IsNonDecreasingBy, IsBinarySearchResult}
use Rattle.std.specs.Ordering.{nat_cmp}
use Rattle.std.specs.Prelude.{IsPermutation, Result, Ok, Err, is_ok, MatchResult, slice_index_or, reverse}
use Rattle.nona_forms.specs.Affine.{among}
use Rattle.nona_forms.specs.References.{missing_below}

any_or : (a b c : Bool) → b ≡ c → (if a then true else b) ≡ (a || c)
any_or true b c h = refl
any_or false b c h = h

pub among_is_any : (x : ℕ) (xs : List ℕ) → among x xs ≡ list_any (λ y. x == y) xs
among_is_any x [] = refl
among_is_any x (y ∷ ys) = any_or (x == y) (among x ys) (list_any (λ z. x == z) ys) (among_is_any x ys)

-- among two lists
either_if : (a b c : Bool) → (if a then true else (b || c)) ≡ ((if a then true else b) || c)
either_if true b c = refl
either_if false b c = refl

pub among_both : (x : ℕ) (xs ys : List ℕ) → among x (xs ++ ys) ≡ (among x xs || among x ys)
among_both x [] ys = refl
among_both x (y ∷ xs) ys = ap (λ b. if x == y then true else b) (among_both x xs ys) ∙ either_if (x == y) (among x xs) (among x ys)

pub among_either : (x : ℕ) (xs ys : List ℕ) → (among x xs || among x ys) ≡ among x (xs ++ ys)
among_either x xs ys = sym (among_both x xs ys)

-- in another order
pub among_permuted : (x : ℕ) (xs ys : List ℕ) → IsPermutation xs ys → among x ys ≡ among x xs
among_permuted x xs ys h = among_is_any x ys ∙ sym (list_any-IsPermutation (λ y. x == y) xs ys h) ∙ sym (among_is_any x xs)

missing_if : (n : ℕ) (b c : Bool) (xs ys : List ℕ) → b ≡ c → xs ≡ ys → (if b then xs else n ∷ xs) ≡ (if c then ys else n ∷ ys)
missing_if n b c xs ys h g = λ i. if h i then g i else n ∷ g i

pub missing_same : (n : ℕ) (xs ys : List ℕ) → ((x : ℕ) → among x xs ≡ among x ys) → missing_below n xs ≡ missing_below n ys
missing_same zero xs ys h = refl
missing_same (suc n) xs ys h = missing_if n (among n xs) (among n ys) (missing_below n xs) (missing_below n ys) (h n) (missing_same n xs ys h)

if_true : {A : Type 0} (b : Bool) (x y : A) → b ≡ true → (if b then x else y) ≡ x
if_true true x y h = refl
if_true false x y h = cc

if_false : {A : Type 0} (b : Bool) (x y : A) → b ≡ false → (if b then x else y) ≡ y
if_false true x y h = cc
if_false false x y h = refl

and_nothing : (a : Bool) → (a && false) ≡ false
and_nothing true = refl
and_nothing false = refl

same_number : (a b : ℕ) → (a == b) ≡ true → a ≡ b
same_number a b h = grind arith

other_less : (id n : ℕ) → (id == n) ≡ false → nat_lt id n ≡ nat_lt id (suc n)
other_less id n h = grind arith

less_next : (n : ℕ) → nat_lt n (suc n) ≡ true
less_next n = grind arith

none_less : (id : ℕ) → nat_lt id 0 ≡ false
none_less id = grind arith

missing_step : (id n : ℕ) (xs ms : List ℕ) (b same : Bool) → among n xs ≡ b → (id == n) ≡ same → among id ms ≡ (nat_lt id n && not (among id xs))
    → among id (if b then ms else n ∷ ms) ≡ (nat_lt id (suc n) && not (among id xs))
missing_step id n xs ms true true h e g =
    let there : among id xs ≡ true = ap (λ k. among k xs) (same_number id n e) ∙ h in
    g ∙ ap (λ c. nat_lt id n && not c) there ∙ and_nothing (nat_lt id n) ∙ sym (and_nothing (nat_lt id (suc n))) ∙ ap (λ c. nat_lt id (suc n) && not c) (sym there)
missing_step id n xs ms true false h e g = g ∙ ap (λ c. c && not (among id xs)) (other_less id n e)
missing_step id n xs ms false true h e g =
    let there : among id xs ≡ false = ap (λ k. among k xs) (same_number id n e) ∙ h in
    if_true (id == n) true (among id ms) e ∙ sym (ap (λ c. nat_lt id (suc n) && not c) there ∙ ap (λ k. nat_lt k (suc n) && true) (same_number id n e) ∙ ap (λ c. c && true) (less_next n))
missing_step id n xs ms false false h e g = if_false (id == n) true (among id ms) e ∙ g ∙ ap (λ c. c && not (among id xs)) (other_less id n e)

-- an id below n is missing where it isn't there
pub missing_has : (n : ℕ) (xs : List ℕ) (id : ℕ) → (nat_lt id n && not (among id xs)) ≡ among id (missing_below n xs)
missing_has zero xs id = ap (λ c. c && not (among id xs)) (none_less id)
missing_has (suc n) xs id = sym (missing_step id n xs (missing_below n xs) (among n xs) (id == n) refl refl (sym (missing_has n xs id)))

-- a binary search
equal_found : (a b : ℕ) → a ≡ b → (b == a) ≡ true
equal_found a b e = grind arith

first_if : (b rest : Bool) → b ≡ true → (if b then true else rest) ≡ true
first_if true rest h = refl
first_if false rest h = cc

later_if : (b rest : Bool) → rest ≡ true → (if b then true else rest) ≡ true
later_if true rest h = refl
later_if false rest h = h

neither_if : (b rest : Bool) → b ≡ false → rest ≡ false → (if b then true else rest) ≡ false
neither_if true rest h g = cc
neither_if false rest h g = g

among_at : (x : ℕ) (xs : List ℕ) (i : ℕ) → i < length xs → slice_index_or xs i 0 ≡ x → among x xs ≡ true
among_at x [] i within e = absurd (omega (arith, within))
among_at x (y ∷ ys) zero within e = first_if (x == y) (among x ys) (equal_found y x e)
among_at x (y ∷ ys) (suc i) within e = later_if (x == y) (among x ys) (among_at x ys i (omega (arith, within)) e)

by_test : (a b : ℕ) (t : Bool) → (a == b) ≡ t → (b ≡ a → ⊥) → t ≡ false
by_test a b true e h = absurd (h (sym (same_number a b e)))
by_test a b false e h = refl

unequal : (a b : ℕ) → (b ≡ a → ⊥) → (a == b) ≡ false
unequal a b h = by_test a b (a == b) refl h

pub among_none : (x : ℕ) (xs : List ℕ) → ((k : ℕ) → k < length xs → slice_index_or xs k 0 ≡ x → ⊥) → among x xs ≡ false
among_none x [] h = refl
among_none x (y ∷ ys) h =
    neither_if (x == y) (among x ys) (unequal x y (h 0 (omega arith))) (among_none x ys (λ k within. h (suc k) (omega (arith, within))))

search_found : (x : ℕ) (xs : List ℕ) (r : Result ℕ ℕ) → MatchResult r (λ i. (i < length xs) × (slice_index_or xs i 0 ≡ x)) (λ i. (i ≤ length xs) × ((k : ℕ) → k < i → slice_index_or xs k 0 < x) × ((k : ℕ) → i ≤ k → k < length xs → x < slice_index_or xs k 0)) → is_ok r ≡ among x xs
search_found x xs (Ok i) h = sym (among_at x xs i h.0 h.1)
search_found x xs (Err i) h =
    sym (among_none x xs (λ k within e. ⊎_elim (λ (less : k < i). omega (arith, h.1 k less, e)) (λ (more : i ≤ k). omega (arith, h.2 k more within, e)) (cases_lt k i)))

pub found : (x : ℕ) (xs : List ℕ) (r : Result ℕ ℕ) → IsNonDecreasingBy (λ (y : ℕ). y) xs → IsBinarySearchResult (λ y. nat_cmp y x) xs r → is_ok r ≡ among x xs
found x xs r sorted h = search_found x xs r (searched xs x r h (λ i j less within. sorted i j 0 less within))

-- the last id is the greatest
pub rising_push : (xs : List ℕ) (y last : ℕ) → last ≤ y → ((d : ℕ) → 0 < length xs → slice_index_or xs (length xs - 1) d ≡ last) → IsNonDecreasingBy (λ (x : ℕ). x) xs → IsNonDecreasingBy (λ (x : ℕ). x) (xs ++ y ∷ [])
rising_push xs y last less is h = IsNonDecreasingBy-push (λ (x : ℕ). x) xs y h (λ d some. subst (λ k. k ≤ y) (sym (is d some)) less)

-- the cases of tests
pub among_reversed : (x : ℕ) (xs : List ℕ) → among x xs ≡ among x (reverse xs)
among_reversed x xs = sym (among_permuted x xs (reverse xs) (IsPermutation-reverse xs))

less_found : (a b : ℕ) → a < b → nat_lt a b ≡ true
less_found a b h = grind arith

not_less_found : (a b : ℕ) → b ≤ a → nat_lt a b ≡ false
not_less_found a b h = grind arith

pub missing_then : (n : ℕ) (xs : List ℕ) (id : ℕ) (b : Bool) → id < n → b ≡ among id xs → not b ≡ among id (missing_below n xs)
missing_then n xs id b less e = ap not e ∙ sym (ap (λ c. c && not (among id xs)) (less_found id n less)) ∙ missing_has n xs id

pub missing_else : (n : ℕ) (xs : List ℕ) (id : ℕ) → n ≤ id → nat_lt id n ≡ among id (missing_below n xs)
missing_else n xs id more =
    not_less_found id n more ∙ sym (ap (λ c. c && not (among id xs)) (not_less_found id n more)) ∙ missing_has n xs id

pub either_then : (x : ℕ) (xs ys : List ℕ) (a : Bool) → a ≡ true → a ≡ among x xs → a ≡ among x (xs ++ ys)
either_then x xs ys a h e = h ∙ sym (ap (λ b. b || among x ys) (sym e ∙ h)) ∙ among_either x xs ys

pub either_else : (x : ℕ) (xs ys : List ℕ) (a b : Bool) → a ≡ false → a ≡ among x xs → b ≡ among x ys → b ≡ among x (xs ++ ys)
either_else x xs ys a b h e g = g ∙ sym (ap (λ c. c || among x ys) (sym e ∙ h)) ∙ among_either x xs ys
