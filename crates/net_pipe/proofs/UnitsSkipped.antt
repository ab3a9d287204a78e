-- How a portion of a body goes on past units that aren't run, and by one that is.
use Rattle.std.proofs.Common.{◌≡◌, ◌≢◌, ℕ, zero, suc, ◌+◌, ◌<◌, ◌≤◌, Bool, true, false, ℤ, List, [], ◌∷◌, length, take, drop, get_or, refl, sym, ap, ◌∙◌, subst, arith, if◌then◌else◌, ⊎_elim}
use Rattle.std.specs.List.{Contains}
use Rattle.std.specs.List.Sorted.{IsStrictlyIncreasing}
use Rattle.std.proofs.lemmas.Bool.{cases_lt, cases_eq}
use Rattle.std.proofs.lemmas.List.{get_or_default}
use Rattle.std.proofs.lemmas.List.Kept.{AllPairs-from_increasing}
use Rattle.nona_tree.specs.declared.outcomes.Outcome.TheVariants as outcome
use Rattle.nona_tree.specs.declared.trees.Stmt.{Stmt}
use Rattle.nona_tree.specs.Memory.{Memory}
use Rattle.nona_tree.specs.Run.{Ran, then_do, run}
use Rattle.nona_tree.proofs.Depth.{was_done}
use Rattle.nona_forms.specs.Affine.{among}
use Rattle.nona_fission.proofs.Untied.{in_among}
use Rattle.nona_fission.specs.Fission.{skipped, portion}
use Rattle.net_share.specs.Works.{run_first}
use Rattle.net_pipe.specs.Works.{skipped_all}

-- units that aren't run
pub skip : (own : ℕ → Bool) (locals : ℕ → ℤ) (unit k : ℕ) (ss : List Stmt) (n : ℕ) (m : Memory) → ((i : ℕ) → i < k → own (unit + i) ≡ false)
    → portion own locals unit ss n m ≡ portion own locals (unit + k) (drop k ss) n (skipped_all locals (take k ss) m)
skip own locals unit zero ss n m none = ap (λ (u : ℕ). portion own locals u ss n m) (let e : unit ≡ unit + 0 = omega arith in e)
skip own locals unit (suc k) [] n m none = refl
skip own locals unit (suc k) (s ∷ rest) n m none =
    let first : own unit ≡ false = subst (λ (u : ℕ). own u ≡ false) (let e : unit + 0 ≡ unit = omega arith in e) (none 0 (omega arith)) in
    let later = skip own locals (suc unit) k rest n (skipped locals s m) (λ i below. subst (λ (u : ℕ). own u ≡ false) (let e : unit + suc i ≡ suc unit + i = omega arith in e) (none (suc i) (omega (arith, below)))) in
    ap (λ (b : Bool). if b then then_do (run s n m) (portion own locals (suc unit) rest n) else portion own locals (suc unit) rest n (skipped locals s m)) first
    ∙ later
    ∙ ap (λ (u : ℕ). portion own locals u (drop k rest) n (skipped_all locals (take k rest) (skipped locals s m))) (let e : suc unit + k ≡ unit + suc k = omega arith in e)

-- a unit that is run
module _ (own : ℕ → Bool) (locals : ℕ → ℤ) (unit : ℕ) (ss : List Stmt) (s : Stmt) (rest : List Stmt) (n : ℕ) (m : Memory) (first : ss ≡ s ∷ rest) (mine : own unit ≡ true)
    (ends : (portion own locals unit ss n m).end ≡ outcome.Done) where
  runs : portion own locals unit ss n m ≡ then_do (run s n m) (portion own locals (suc unit) rest n)
  runs =
      ap (λ (xs : List Stmt). portion own locals unit xs n m) first
      ∙ ap (λ (b : Bool). if b then then_do (run s n m) (portion own locals (suc unit) rest n) else portion own locals (suc unit) rest n (skipped locals s m)) mine

  unit_was_done : ((run s n m).end ≡ outcome.Done) × (then_do (run s n m) (portion own locals (suc unit) rest n) ≡ portion own locals (suc unit) rest n (run s n m).store)
  unit_was_done = was_done (run s n m).store (run s n m).end (portion own locals (suc unit) rest n) (sym (ap (λ (r : Ran). r.end) runs) ∙ ends)

  pub unit_done : (run s n m).end ≡ outcome.Done
  unit_done = unit_was_done.0

  pub goes_past : portion own locals unit ss n m ≡ portion own locals (suc unit) rest n (run_first ss n m).store
  goes_past =
      runs ∙ unit_was_done.1
      ∙ ap (λ (xs : List Stmt). portion own locals (suc unit) rest n (run_first xs n m).store) (sym first)

-- numbers between two neighbours of a rising list are none of it

pub never_true : (b : Bool) → (b ≡ true → ⊥) → b ≡ false
never_true true h = absurd (h refl)
never_true false h = refl

rises : (us : List ℕ) → IsStrictlyIncreasing us → (d i j : ℕ) → i < j → j < length us → get_or us i d < get_or us j d
rises us increasing d i j before within = AllPairs-from_increasing us increasing i j d before within

pub none_before : (us : List ℕ) → IsStrictlyIncreasing us → (d i : ℕ) → i < get_or us 0 d → among i us ≡ false
none_before us increasing d i below = never_true (among i us) (λ h. at (in_among i us h)) where
  at : Contains us i → ⊥
  at (k, within, is) =
      let here : get_or us k d ≡ i = get_or_default us k d i within ∙ is in
      ⊎_elim (λ (first : k ≡ 0). let same = ap (λ (j : ℕ). get_or us j d) first in omega (arith, here, same, below))
      (λ (later : k ≢ 0). let up = rises us increasing d 0 k (omega (arith, later)) within in omega (arith, up, here, below))
      (cases_eq k 0)

pub none_between : (us : List ℕ) → IsStrictlyIncreasing us → (d u i : ℕ) → u < length us → get_or us u d < i → i < get_or us (u + 1) d → among i us ≡ false
none_between us increasing d u i inside above below = never_true (among i us) (λ h. at (in_among i us h)) where
  at : Contains us i → ⊥
  at (k, within, is) =
      let here : get_or us k d ≡ i = get_or_default us k d i within ∙ is in
      ⊎_elim
      (λ (less : k < u). let up = rises us increasing d k u less inside in omega (arith, up, here, above))
      (λ (more : u ≤ k).
      ⊎_elim (λ (same : k ≡ u). let z = ap (λ (j : ℕ). get_or us j d) same in omega (arith, here, z, above))
      (λ (apart : k ≢ u).
      ⊎_elim (λ (next : k ≡ u + 1). let z = ap (λ (j : ℕ). get_or us j d) next in omega (arith, here, z, below))
      (λ (past : k ≢ u + 1). let up = rises us increasing d (u + 1) k (omega (arith, more, apart, past)) within in omega (arith, up, here, below))
      (cases_eq k (u + 1)))
      (cases_eq k u))
      (cases_lt k u)
