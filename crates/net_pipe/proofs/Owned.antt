-- The iterations that are dealt to a task are those that it owns.
use Rattle.std.proofs.Common.{◌≡◌, ◌≢◌, ◌⊎◌, inl, inr, ℕ, zero, suc, ◌+◌, ◌-◌, ◌*◌, ◌/◌, ◌%◌, ◌==◌, ◌≤◌, Bool, true, false, List, [], ◌∷◌, ◌++◌, refl, sym, ap, ◌∙◌, arith, if◌then◌else◌, append-nil}
use Rattle.std.proofs.lemmas.Bool.Decides.{eqb_tells}
use Rattle.std.proofs.lemmas.Nat.{div-mul-add, mod-mul-add}
use Rattle.nona_fission.specs.Sharing.{owned_below}
use Rattle.nona_fission.proofs.Untied.{same_number}
use Rattle.net_flow.specs.Dealing.{dealt, due, number}
use Rattle.net_flow.specs.Shapes.{IsWorker}
use Rattle.net_flow.specs.Tracing.{numbers}
use Rattle.net_flow.proofs.Dealing.{dealt_none, dealt_here, dealt_other, dealt_number}
use Rattle.net_pipe.specs.Entries.{owner_of}

-- those among the first b
pub owned_are : (p : Bool) (W w b : ℕ) → 1 ≤ W → IsWorker p W w → owned_below (owner_of p W) w b ≡ numbers p W w (due p W w b)
owned_are false W w zero some is = refl
owned_are false W w (suc b) some is =
    ap (λ (t : ℕ). owned_below (owner_of false W) w b ++ (if 0 == t then b ∷ [] else [])) is
    ∙ ap (λ (ks : List ℕ). ks ++ b ∷ []) (owned_are false W w b some is)
owned_are true W w zero some is = sym (ap (numbers true W w) (dealt_none W w is))
owned_are true W w (suc b) some is = by_test (eqb_tells (b % W) w) (owned_are true W w b some is) where
  next : b + 1 ≡ suc b
  next = omega arith

  by_test : ((b % W == w) ≡ true) × (b % W ≡ w) ⊎ ((b % W == w) ≡ false) × (b % W ≢ w) → owned_below (owner_of true W) w b ≡ numbers true W w (dealt W w b)
      → owned_below (owner_of true W) w b ++ (if b % W == w then b ∷ [] else []) ≡ numbers true W w (dealt W w (suc b))
  by_test (inl h) before =
      let up : dealt W w (suc b) ≡ suc (dealt W w b) = ap (dealt W w) (sym next) ∙ dealt_here W w b some (sym h.1) ∙ (let z : dealt W w b + 1 ≡ suc (dealt W w b) = omega arith in z) in
      let at : b ≡ w + dealt W w b * W = dealt_number W w b some (sym h.1) in
      ap (λ (q : Bool). owned_below (owner_of true W) w b ++ (if q then b ∷ [] else [])) h.0
      ∙ ap (λ (ks : List ℕ). ks ++ b ∷ []) before
      ∙ ap (λ (k : ℕ). numbers true W w (dealt W w b) ++ k ∷ []) at
      ∙ sym (ap (numbers true W w) up)
  by_test (inr h) before =
      let same : dealt W w (suc b) ≡ dealt W w b = ap (dealt W w) (sym next) ∙ dealt_other W w b is (λ e. h.1 (sym e)) in
      ap (λ (q : Bool). owned_below (owner_of true W) w b ++ (if q then b ∷ [] else [])) h.0
      ∙ append-nil (owned_below (owner_of true W) w b) ∙ before ∙ sym (ap (numbers true W w) same)

-- a task owns its number behind d others, and as many come before it
pub own_number : (p : Bool) (W w d : ℕ) → IsWorker p W w → owner_of p W (number p W w d) ≡ w
own_number false W w d is = sym is
own_number true W w d is = let e : w + d * W ≡ d * W + w = omega arith in ap (λ (k : ℕ). k % W) e ∙ mod-mul-add d W w is

due_number : (p : Bool) (W w d : ℕ) → IsWorker p W w → due p W w (number p W w d) ≡ d
due_number false W w d is = refl
due_number true W w d is =
    let e : w + d * W + (W - 1 - w) ≡ d * W + (W - 1) = omega (arith, is) in
    ap (λ (k : ℕ). k / W) e ∙ div-mul-add d W (W - 1) (omega (arith, is))

pub owned_before : (p : Bool) (W w d : ℕ) → 1 ≤ W → IsWorker p W w → owned_below (owner_of p W) w (number p W w d) ≡ numbers p W w d
owned_before p W w d some is = owned_are p W w (number p W w d) some is ∙ ap (numbers p W w) (due_number p W w d is)

pub owned_with : (p : Bool) (W w d : ℕ) → 1 ≤ W → IsWorker p W w → owned_below (owner_of p W) w (suc (number p W w d)) ≡ numbers p W w (suc d)
owned_with p W w d some is =
    ap (λ (t : ℕ). owned_below (owner_of p W) w (number p W w d) ++ (if t == w then number p W w d ∷ [] else [])) (own_number p W w d is)
    ∙ ap (λ (b : Bool). owned_below (owner_of p W) w (number p W w d) ++ (if b then number p W w d ∷ [] else [])) (same_number w)
    ∙ ap (λ (ks : List ℕ). ks ++ number p W w d ∷ []) (owned_before p W w d some is)
