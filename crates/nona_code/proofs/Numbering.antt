-- Numbers above those that instructions use.
use Rattle.std.proofs.Common.{◌≡◌, ℕ, ◌+◌, ◌<◌, ◌≤◌, List, length, Some, sym, ap, ◌∙◌, subst, arith, ⊎_elim}
use Rattle.std.specs.Prelude.{slice_get, slice_index_or, max, ◌≢◌}
use Rattle.std.proofs.Math.Nat.{le-max_left, le-max_right}
use Rattle.std.proofs.lemmas.Bool.{cases_eq}
use Rattle.std.proofs.lemmas.Option.{slice_get_within, slice_get-get_or}
use Rattle.nona_code.proofs.Highest.{less_of}
use Rattle.nona_code.specs.declared.instr.Instr.{Instr}
use Rattle.nona_code.specs.declared.instr.Instr.TheVariants as instr
use Rattle.nona_code.specs.Rule.{IsNumbered, UsesBelow}

pub numbered_more : (h k h' k' : ℕ) (i : Instr) → h ≤ h' → k ≤ k' → IsNumbered h k i → IsNumbered h' k' i
numbered_more h k h' k' (instr.Load id) p q b = omega (arith, p, b)
numbered_more h k h' k' (instr.Save id) p q b = omega (arith, p, b)
numbered_more h k h' k' (instr.Enter counter) p q b = omega (arith, q, b)
numbered_more h k h' k' (instr.Turn counter at) p q b = omega (arith, q, b)
numbered_more h k h' k' _ p q b = tt

-- one more instruction
pub numbered_on : (code : List Instr) (n h k a b : ℕ) (d : Instr) → n < length code → ((pc : ℕ) (i : Instr) → pc < n → slice_get code pc ≡ Some i → IsNumbered h k i)
    → IsNumbered a b (slice_index_or code n d) → (pc : ℕ) (i : Instr) → pc < n + 1 → slice_get code pc ≡ Some i → IsNumbered (max h a) (max k b) i
numbered_on code n h k a b d within before here pc i below is =
    ⊎_elim
    (λ (e : pc ≡ n).
    let same : Some (slice_index_or code n d) ≡ Some i = sym (slice_get-get_or code n d within) ∙ ap (slice_get code) (sym e) ∙ is in
    let j : slice_index_or code n d ≡ i = cc in
    subst (λ x. IsNumbered (max h a) (max k b) x) j (numbered_more a b (max h a) (max k b) (slice_index_or code n d) (le-max_right h a) (le-max_right k b) here))
    (λ (o : pc ≢ n). numbered_more h k (max h a) (max k b) i (le-max_left h a) (le-max_left k b) (before pc i (less_of pc n below o) is))
    (cases_eq pc n)

pub numbered_all : (code : List Instr) (n h k : ℕ) → length code ≤ n → ((pc : ℕ) (i : Instr) → pc < n → slice_get code pc ≡ Some i → IsNumbered h k i) → UsesBelow h k code
numbered_all code n h k all before pc i is = before pc i (omega (arith, all, slice_get_within code pc i is)) is
