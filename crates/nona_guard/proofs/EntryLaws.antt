-- How an inner loop is walked.
use Rattle.std.proofs.Common.{◌≡◌, ℕ, zero, suc, ◌+◌, ◌≤◌, ◌<◌, ◌^◌, ◌&&◌, Bool, true, false, pos, ◌-ℤ◌, List, [], ◌∷◌, ◌++◌, length, refl, sym, ap, ◌∙◌, subst, arith, if◌then◌else◌, Some, None, length-append}
use Rattle.std.proofs.lemmas.List.Elements.{All-append}
use Rattle.std.specs.Prelude.{int_le, All}
use Rattle.std.specs.declared.option.Option.{Option}
use Rattle.nona_num.specs.declared.range.Range.{Range}
use Rattle.nona_tree.specs.Memory.{Memory}
use Rattle.nona_forms.specs.Affine.{Affine}
use Rattle.nona_forms.specs.Guards.{with_range, fits_turns, is_i64_range}
use Rattle.nona_forms.specs.Boxes.{form_range}
use Rattle.nona_affine.specs.Small.{IsSmallRange}
use Rattle.nona_guard.specs.declared.bounds.Bound.{Bound}
use Rattle.nona_guard.specs.declared.checks.Check.{Check, Turns}
use Rattle.nona_guard.specs.Checks.{holds_check, hold_all, ranges_by, IsThere, AreThere, check_nesting, checks_nesting, entry_of, by_entry}
use Rattle.nona_guard.proofs.CheckEquations.{holds-Turns, there-Turns, nesting-Turns, ranges_more}

turns_if : (a b c d : Bool) (body : Range → Bool) (r : Range)
    → (a && (b && (c && (if d then true else body r)))) ≡ by_entry (if a && (b && c) then (if d then Some None else Some (Some r)) else None) body
turns_if true true true true body r = refl
turns_if true true true false body r = refl
turns_if true true false d body r = refl
turns_if true false c d body r = refl
turns_if false b c d body r = refl

turns_by : (low high : Range) (n : ℕ) (body : Range → Bool) → fits_turns low high n body ≡ by_entry (entry_of low high n) body
turns_by low high n body =
    turns_if (is_i64_range low) (is_i64_range high) (int_le (high.high -ℤ low.low) (pos n)) (int_le high.high low.low) body (record { low = low.low; high = high.high -ℤ pos 1 })

-- what a check of an inner loop says
holds_by : (c : Check) (id : ℕ) (low high : Affine) (body : List Check) (ranges : ℕ → Range) (m : Memory) (n : ℕ) (e : Option (Option Range)) → c ≡ Turns id low high body
    → e ≡ entry_of (form_range ranges low) (form_range ranges high) n → holds_check c ranges m n ≡ by_entry e (λ r. hold_all body (with_range id r ranges) m n)
holds_by c id low high body ranges m n e is same =
    ap (λ x. holds_check x ranges m n) is ∙ holds-Turns id low high body ranges m n
    ∙ turns_by (form_range ranges low) (form_range ranges high) n (λ r. hold_all body (with_range id r ranges) m n)
    ∙ ap (λ x. by_entry x (λ r. hold_all body (with_range id r ranges) m n)) (sym same)

pub holds_none : (c : Check) (id : ℕ) (low high : Affine) (body : List Check) (ranges : ℕ → Range) (m : Memory) (n : ℕ) (e : Option (Option Range)) → c ≡ Turns id low high body
    → e ≡ entry_of (form_range ranges low) (form_range ranges high) n → e ≡ None → false ≡ holds_check c ranges m n
holds_none c id low high body ranges m n e is same none =
    sym (holds_by c id low high body ranges m n e is same ∙ ap (λ x. by_entry x (λ r. hold_all body (with_range id r ranges) m n)) none)

pub holds_empty : (c : Check) (id : ℕ) (low high : Affine) (body : List Check) (ranges : ℕ → Range) (m : Memory) (n : ℕ) (e : Option (Option Range)) → c ≡ Turns id low high body
    → e ≡ entry_of (form_range ranges low) (form_range ranges high) n → e ≡ Some None → true ≡ holds_check c ranges m n
holds_empty c id low high body ranges m n e is same none =
    sym (holds_by c id low high body ranges m n e is same ∙ ap (λ x. by_entry x (λ r. hold_all body (with_range id r ranges) m n)) none)

pub holds_walked : (c : Check) (id : ℕ) (low high : Affine) (body : List Check) (index : ℕ) (m : Memory) (bs : List Bound) (n : ℕ) (e : Option (Option Range)) (r : Range) → c ≡ Turns id low high body
    → e ≡ entry_of (form_range (ranges_by index m bs) low) (form_range (ranges_by index m bs) high) n → e ≡ Some (Some r)
    → hold_all body (ranges_by index m (bs ++ record { id = id; range = r } ∷ [])) m n ≡ holds_check c (ranges_by index m bs) m n
holds_walked c id low high body index m bs n e r is same some =
    ap (λ ranges. hold_all body ranges m n) (ranges_more index m bs id r)
    ∙ sym (holds_by c id low high body (ranges_by index m bs) m n e is same ∙ ap (λ x. by_entry x (λ q. hold_all body (with_range id q (ranges_by index m bs)) m n)) some)

pub there_in : (c : Check) (id : ℕ) (low high : Affine) (body : List Check) (arrays : ℕ) → c ≡ Turns id low high body → IsThere c arrays → AreThere body arrays
there_in c id low high body arrays is h = subst (λ P. P) (ap (λ x. IsThere x arrays) is ∙ there-Turns id low high body arrays) h

pub room_in : (c : Check) (id : ℕ) (low high : Affine) (body : List Check) (bs : List Bound) (b : Bound) → c ≡ Turns id low high body → length bs + check_nesting c ≤ 64 → length (bs ++ b ∷ []) + checks_nesting body ≤ 64
room_in c id low high body bs b is h =
    let deep : check_nesting c ≡ checks_nesting body + 1 = ap check_nesting is ∙ nesting-Turns id low high body in
    omega (arith, deep, h, length-append bs (b ∷ []))

pub room_for : (c : Check) (id : ℕ) (low high : Affine) (body : List Check) (n : ℕ) → c ≡ Turns id low high body → n + check_nesting c ≤ 64 → n < 64
room_for c id low high body n is h =
    let deep : check_nesting c ≡ checks_nesting body + 1 = ap check_nesting is ∙ nesting-Turns id low high body in
    omega (arith, deep, h)

one_small : (b : Bound) → IsSmallRange (2 ^ 64) b.range → All (λ (x : Bound). IsSmallRange (2 ^ 64) x.range) (b ∷ [])
one_small b h zero d within = h
one_small b h (suc k) d within = absurd (omega (arith, within))

pub small_in : (bs : List Bound) (b : Bound) → All (λ (x : Bound). IsSmallRange (2 ^ 64) x.range) bs → IsSmallRange (2 ^ 64) b.range → All (λ (x : Bound). IsSmallRange (2 ^ 64) x.range) (bs ++ b ∷ [])
small_in bs b h g = All-append (λ (x : Bound). IsSmallRange (2 ^ 64) x.range) bs (b ∷ []) h (one_small b g)
