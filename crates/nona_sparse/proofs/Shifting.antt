-- Lists behind room that is before them.
use Rattle.std.proofs.Common.{◌≡◌, ◌<◌, ◌≤◌, ◌+◌, ℕ, suc, List, ◌∷◌, ◌++◌, length, take, drop, slice_set, sym, ap, ◌∙◌, arith}
use Rattle.std.specs.List.{insert, remove}
use Rattle.std.proofs.lemmas.List.{drop-append-le, drop-drop, drop-take, drop-set-add, length-take-le}

-- an element that is put into a list behind room is put into the list
pub insert_behind : {X : Type 0} (start : ℕ) (xs : List X) (at : ℕ) (x : X) → start + at ≤ length xs → drop start (insert xs (start + at) x) ≡ insert (drop start xs) at x
insert_behind start xs at x within =
    drop-append-le start (take (start + at) xs) (x ∷ drop (start + at) xs) (omega (arith, length-take-le (start + at) xs within))
    ∙ (λ i. drop-take start at xs i ++ x ∷ sym (drop-drop at start xs) i)

-- and one that is taken away
pub remove_behind : {X : Type 0} (start : ℕ) (xs : List X) (at : ℕ) → start + at < length xs → drop start (remove xs (start + at)) ≡ remove (drop start xs) at
remove_behind start xs at within =
    let next : start + suc at ≡ suc (start + at) = omega arith in
    drop-append-le start (take (start + at) xs) (drop (suc (start + at)) xs) (omega (arith, length-take-le (start + at) xs (omega (arith, within))))
    ∙ (λ i. drop-take start at xs i ++ (ap (λ n. drop n xs) (sym next) ∙ sym (drop-drop (suc at) start xs)) i)

-- and one that is changed
pub set_behind : {X : Type 0} (start : ℕ) (xs : List X) (at : ℕ) (x : X) → drop start (slice_set xs (start + at) x) ≡ slice_set (drop start xs) at x
set_behind start xs at x = drop-set-add start xs at x
