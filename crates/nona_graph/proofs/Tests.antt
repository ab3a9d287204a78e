-- Tests on numbers, and two tests together.
use Rattle.std.proofs.Common.{◌≡◌, ℕ, ◌==◌, ◌&&◌, ◌||◌, Bool, true, false, if◌then◌else◌, refl, arith}

pub same_units : (i j : ℕ) → (i == j) ≡ true → i ≡ j
same_units i j e = grind arith

pub or_false : (a : Bool) → (a || false) ≡ a
or_false true = refl
or_false false = refl

pub or_true : (b c : Bool) → c ≡ true → (b || c) ≡ true
or_true true c e = refl
or_true false c e = e

pub either_is : (same b : Bool) → (if same then true else b) ≡ (same || b)
either_is true b = refl
either_is false b = refl

pub found_more : (f b r : Bool) → (f || (b || r)) ≡ ((f || b) || r)
found_more true b r = refl
found_more false b r = refl

pub and_more : (f b r : Bool) → (f && (b && r)) ≡ ((f && b) && r)
and_more true b r = refl
and_more false b r = refl
