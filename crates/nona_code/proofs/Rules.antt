-- Marks that are closed are all the marks of the code.
use Rattle.std.proofs.Common.{◌≡◌, ◌≢◌, ℕ, ◌≤◌, List, length, Option, Some, sym, ◌∙◌, arith}
use Rattle.std.specs.Prelude.{slice_get}
use Rattle.std.proofs.lemmas.Option.{slice_get_within}
use Rattle.nona_code.specs.declared.instr.Instr.{Instr}
use Rattle.nona_code.specs.declared.marks.Mark.{Mark}
use Rattle.nona_code.specs.Rule.{Way, begins, goes_on, start, HasTarget, UsesBelow, IsSound}
use Rattle.nona_code.specs.Marked.{HasMark, IsPassed}

-- nothing is left to be looked at
pub record IsClosed (code : List Instr) (marks : List (Option Mark)) : Type 0 where
  pub long : length marks ≡ length code
  pub first : HasMark marks 0 start
  pub passed : (pc : ℕ) (i : Instr) (m : Mark) → slice_get code pc ≡ Some i → HasMark marks pc m → IsPassed marks pc i m

pub marked : (code : List Instr) (marks : List (Option Mark)) → IsClosed code marks → (pc : ℕ) (m : Mark) → Way code pc m → HasMark marks pc m
marked code marks c _ _ begins = c.first
marked code marks c _ _ (goes_on pc to i m w is next) = (c.passed pc i m is (marked code marks c pc m w)).leads to next

same_mark : (marks : List (Option Mark)) (pc : ℕ) (a b : Mark) → HasMark marks pc a → HasMark marks pc b → a ≡ b
same_mark marks pc a b p q = let e : Some (Some a) ≡ Some (Some b) = sym p ∙ q in cc

pub closed_sound : (code : List Instr) (marks : List (Option Mark)) → IsClosed code marks → ((pc : ℕ) (i : Instr) → slice_get code pc ≡ Some i → HasTarget (length code) i) → UsesBelow 256 256 code → IsSound code
closed_sound code marks c targets numbered = record {
  one = λ pc a b v w. same_mark marks pc a b (marked code marks c pc a v) (marked code marks c pc b w);
  there = λ pc a w. omega (arith, slice_get_within marks pc (Some a) (marked code marks c pc a w), c.long);
  takes = λ pc i a w is. (c.passed pc i a is (marked code marks c pc a w)).takes;
  leaves = λ pc i a w is. (c.passed pc i a is (marked code marks c pc a w)).leaves;
  ends = λ pc i a w is. (c.passed pc i a is (marked code marks c pc a w)).ends;
  targets = targets;
  numbered = numbered;
}

-- where two ways come with different marks, or a way to no instruction, the rule is broken
pub two_marks : (code : List Instr) (pc : ℕ) (a b : Mark) → Way code pc a → Way code pc b → a ≢ b → IsSound code → ⊥
two_marks code pc a b v w differ sound = differ (sound.one pc a b v w)

pub runs_past : (code : List Instr) (pc : ℕ) (a : Mark) → Way code pc a → length code ≤ pc → IsSound code → ⊥
runs_past code pc a w past sound = absurd (omega (arith, past, sound.there pc a w))
