-- Choices between two by a test.
use Rattle.std.proofs.Common.{◌≡◌, Bool, true, false, if◌then◌else◌, refl, ap}
use mathlib.Core.Bool.{not, beq}

pub pick_true : {X : Type 0} (b : Bool) (x y : X) → b ≡ true → (if b then x else y) ≡ x
pick_true true x y h = refl
pick_true false x y h = cc

pub pick_false : {X : Type 0} (b : Bool) (x y : X) → b ≡ false → (if b then x else y) ≡ y
pick_false true x y h = cc
pick_false false x y h = refl

-- between two that are one
pub same_either : {X : Type 0} (b : Bool) (x : X) → (if b then x else x) ≡ x
same_either true x = refl
same_either false x = refl

-- by tests that are one
pub pick : {X : Type 0} (b c : Bool) (x y : X) → b ≡ c → (if b then x else y) ≡ (if c then x else y)
pick b c x y is = ap (λ (t : Bool). if t then x else y) is

-- two tests that don't differ are one
pub same_test : (b c : Bool) → not (beq b c) ≡ false → b ≡ c
same_test true true h = refl
same_test true false h = cc
same_test false true h = cc
same_test false false h = refl
