-- Lists that grow at their end.
use Rattle.std.proofs.Common.{◌≡◌, ℕ, ℤ, zero, suc, List, [], ◌∷◌, ◌++◌, length, take, refl, sym, ◌∙◌, ap, subst, append_assoc, None, Some, slice_get}
use Rattle.std.proofs.lemmas.List.{append-nil}
use Rattle.nona_tree.specs.Memory.{Extends}
use Rattle.morta_task.specs.Legal.{EachFrom, last_from, last_in}

-- one more has the property, by all of those before
pub each_more : {A : Type 0} (P : List A → A → Type 0) (front xs : List A) (y : A) → EachFrom P front xs → P (front ++ xs) y → EachFrom P front (xs ++ y ∷ [])
each_more P front [] y each here = (subst (λ f. P f y) (append-nil front) here, tt)
each_more P front (x ∷ xs) y each here =
    (each.0, each_more P (front ++ x ∷ []) xs y each.1 (subst (λ f. P f y) (sym (append_assoc front (x ∷ []) xs)) here))

last_from_more : {A : Type 0} (x : A) (xs : List A) (y : A) → last_from x (xs ++ y ∷ []) ≡ y
last_from_more x [] y = refl
last_from_more x (z ∷ zs) y = last_from_more z zs y

-- the one that was added is the last
pub last_more : {A : Type 0} (xs : List A) (y : A) → last_in (xs ++ y ∷ []) ≡ Some y
last_more [] y = refl
last_more (x ∷ xs) y = ap Some (last_from_more x xs y)

-- a front of a list is as long as itself
take_length : {A : Type 0} (n : ℕ) (xs : List A) → take (length (take n xs)) xs ≡ take n xs
take_length zero xs = refl
take_length (suc n) [] = refl
take_length (suc n) (x ∷ xs) = ap (λ ys. x ∷ ys) (take_length n xs)

pub front_is : {A : Type 0} (xs front : List A) (n : ℕ) → front ≡ take n xs → front ≡ take (length front) xs
front_is xs front n is = is ∙ sym (take_length n xs) ∙ ap (λ ys. take (length ys) xs) (sym is)

-- what is printed stays printed
pub extends_same : (xs : List ℤ) → Extends xs xs
extends_same xs = ([], sym (append-nil xs))

pub extends_chain : (xs ys zs : List ℤ) → Extends xs ys → Extends ys zs → Extends xs zs
extends_chain xs ys zs h k = (h.0 ++ k.0, k.1 ∙ ap (λ l. l ++ k.0) h.1 ∙ append_assoc xs h.0 k.0)

none_some : {A : Type 0} (x : A) → None ≡ Some x → ⊥
none_some x e = cc

pub some_same : {A : Type 0} (x y : A) → Some x ≡ Some y → x ≡ y
some_same x y e = cc

-- a front with the next one
pub take_next : {A : Type 0} (n : ℕ) (xs : List A) (x : A) → slice_get xs n ≡ Some x → take (suc n) xs ≡ take n xs ++ x ∷ []
take_next zero [] x is = absurd (none_some x is)
take_next zero (y ∷ ys) x is = ap (λ z. z ∷ []) (some_same y x is)
take_next (suc n) [] x is = absurd (none_some x is)
take_next (suc n) (y ∷ ys) x is = ap (λ zs. y ∷ zs) (take_next n ys x is)
