-- The greatest number of the first marks.
use Rattle.std.proofs.Common.{◌≡◌, ℕ, ◌+◌, ◌<◌, ◌≤◌, List, length, Option, Some, None, refl, sym, ap, subst, ◌∙◌, arith, ⊎_elim, inl, inr}
use Rattle.std.specs.Prelude.{slice_get, nat_le, Bool, true, false, max, ◌⊎◌, ◌≢◌}
use Rattle.std.proofs.Math.Nat.{le-max_left, le-max_right, max-eq_left, max-eq_right}
use Rattle.std.proofs.lemmas.Bool.{cases_eq, leb-true, leb-false}
use Rattle.std.proofs.lemmas.Option.{slice_get_within}
use Rattle.nona_code.specs.declared.marks.Mark.{Mark}
use Rattle.nona_code.specs.Marked.{HasMark, IsTop}

-- the same as IsTop, of the marks before a place; one of all marks has it
pub record IsSoFar (kind : Mark → ℕ) (marks : List (Option Mark)) (count most : ℕ) : Type 0 where
  pub bounds : (pc : ℕ) (m : Mark) → pc < count → HasMark marks pc m → kind m ≤ most
  pub place : ℕ
  pub mark : Mark
  pub reached : HasMark marks place mark
  pub is : kind mark ≡ most

pub less_of : (pc count : ℕ) → pc < count + 1 → pc ≢ count → pc < count
less_of pc count below d = grind (arith, below, d)

pub at_first : (kind : Mark → ℕ) (marks : List (Option Mark)) (m : Mark) → HasMark marks 0 m → IsSoFar kind marks 0 (kind m)
at_first kind marks m has = record { bounds = λ pc a below h. absurd (omega (arith, below)); place = 0; mark = m; reached = has; is = refl }

-- no mark at a place
pub skipped : (kind : Mark → ℕ) (marks : List (Option Mark)) (count most : ℕ) → slice_get marks count ≡ Some None → IsSoFar kind marks count most → IsSoFar kind marks (count + 1) most
skipped kind marks count most none s = record {
  bounds = λ pc a below h. ⊎_elim (λ (e : pc ≡ count). let b : Some (Some a) ≡ Some None = sym h ∙ ap (slice_get marks) e ∙ none in cc) (λ (d : pc ≢ count). s.bounds pc a (less_of pc count below d) h) (cases_eq pc count);
  place = s.place;
  mark = s.mark;
  reached = s.reached;
  is = s.is;
}

-- a mark at a place, by the greater of both numbers
pub seen_by : (kind : Mark → ℕ) (marks : List (Option Mark)) (count most x : ℕ) (m : Mark) → HasMark marks count m → most ≤ x → kind m ≤ x → (x ≡ most) ⊎ (x ≡ kind m) → IsSoFar kind marks count most → IsSoFar kind marks (count + 1) x
seen_by kind marks count most x m has more higher one s =
    let bounds_ : (pc : ℕ) (a : Mark) → pc < count + 1 → HasMark marks pc a → kind a ≤ x = λ pc a below h.
    ⊎_elim
    (λ (e : pc ≡ count).
    let b : Some (Some m) ≡ Some (Some a) = sym has ∙ ap (slice_get marks) (sym e) ∙ h in
    let same : m ≡ a = cc in
    subst (λ (y : Mark). kind y ≤ x) same higher)
    (λ (d : pc ≢ count). let old = s.bounds pc a (less_of pc count below d) h in omega (arith, old, more))
    (cases_eq pc count) in
    ⊎_elim
    (λ (e : x ≡ most). let r : IsSoFar kind marks (count + 1) x = record { bounds = bounds_; place = s.place; mark = s.mark; reached = s.reached; is = s.is ∙ sym e } in r)
    (λ (e : x ≡ kind m). let r : IsSoFar kind marks (count + 1) x = record { bounds = bounds_; place = count; mark = m; reached = has; is = sym e } in r)
    one

below_of : (a b : ℕ) → b < a → b ≤ a
below_of a b h = omega (arith, h)

one_of : (a b : ℕ) (t : Bool) → nat_le a b ≡ t → (max a b ≡ a) ⊎ (max a b ≡ b)
one_of a b true h = inr (max-eq_right (leb-true a b h))
one_of a b false h = inl (max-eq_left (below_of a b (leb-false a b h)))

pub seen : (kind : Mark → ℕ) (marks : List (Option Mark)) (count most : ℕ) (m : Mark) → HasMark marks count m → IsSoFar kind marks count most → IsSoFar kind marks (count + 1) (max most (kind m))
seen kind marks count most m has s =
    seen_by kind marks count most (max most (kind m)) m has (le-max_left most (kind m)) (le-max_right most (kind m)) (one_of most (kind m) (nat_le most (kind m)) refl) s

-- all marks
pub all_seen : (kind : Mark → ℕ) (marks : List (Option Mark)) (count most : ℕ) → length marks ≤ count → IsSoFar kind marks count most → IsTop kind marks most
all_seen kind marks count most all s = record {
  bounds = λ pc m h. s.bounds pc m (omega (arith, all, slice_get_within marks pc (Some m) h)) h;
  place = s.place;
  mark = s.mark;
  reached = s.reached;
  is = s.is;
}
