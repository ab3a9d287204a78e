-- The list of a loop's reductions has each of them with its fold, and nothing else.
use Rattle.std.proofs.Common.{◌≡◌, ℕ, zero, suc, ◌<◌, refl, sym, ap, ◌∙◌, arith, ⊎_elim}
use Rattle.std.specs.Prelude.{Some, None}
use Rattle.std.specs.List.{Contains}
use Rattle.std.specs.declared.option.Option.{Option}
use Rattle.std.proofs.lemmas.Bool.{cases_eq}
use Rattle.std.proofs.lemmas.Option.{same_Some}
use Rattle.std.proofs.lemmas.List.Elements.{Contains-append_left, Contains-append_right, Contains-append_cases}
use Rattle.nona_num.specs.declared.folds.Fold.{Fold}
use Rattle.nona_tree.specs.declared.trees.Loop.{Loop}
use Rattle.nona_plans.specs.Mentions.{reduction_of}
use Rattle.nona_plans.specs.Units.{with_fold, reductions_below, reductions_of}
use Rattle.nona_fission.proofs.Untied.{reduction_below}

last_listed : (l : Loop) (f : Fold) (n id : ℕ) (o : Option Fold) → reduction_of l n ≡ o → Contains (with_fold n o) (id, f) → reduction_of l id ≡ Some f
last_listed l f n id None e (k, within, is) = absurd (omega (arith, within))
last_listed l f n id (Some g) e (zero, within, is) =
    ap (reduction_of l) (sym (ap (λ (r : ℕ × Fold). r.0) is)) ∙ e ∙ ap (λ (r : ℕ × Fold). Some r.1) is
last_listed l f n id (Some g) e (suc k, within, is) = absurd (omega (arith, within))

listed_below : (l : Loop) (f : Fold) (n id : ℕ) → Contains (reductions_below l n) (id, f) → reduction_of l id ≡ Some f
listed_below l f zero id (k, within, is) = absurd (omega (arith, within))
listed_below l f (suc n) id c =
    ⊎_elim (λ before. listed_below l f n id before) (λ last. last_listed l f n id (reduction_of l n) refl last)
    (Contains-append_cases (reductions_below l n) (with_fold n (reduction_of l n)) (id, f) c)

pub listed : (l : Loop) (f : Fold) (id : ℕ) → Contains (reductions_of l) (id, f) → reduction_of l id ≡ Some f
listed l f id c = listed_below l f l.index.id id c

last_is_listed : (f : Fold) (n id : ℕ) (o : Option Fold) → n ≡ id → o ≡ Some f → Contains (with_fold n o) (id, f)
last_is_listed f n id None here e = cc
last_is_listed f n id (Some g) here e = (0, omega arith, λ i. (here i, same_Some g f e i))

is_listed_below : (l : Loop) (f : Fold) (n id : ℕ) → id < n → reduction_of l id ≡ Some f → Contains (reductions_below l n) (id, f)
is_listed_below l f zero id below e = absurd (omega (arith, below))
is_listed_below l f (suc n) id below e =
    ⊎_elim
    (λ (here : n ≡ id). Contains-append_right (reductions_below l n) (with_fold n (reduction_of l n)) (id, f) (last_is_listed f n id (reduction_of l n) here (ap (reduction_of l) here ∙ e)))
    (λ (apart : n ≡ id → ⊥). Contains-append_left (reductions_below l n) (with_fold n (reduction_of l n)) (id, f) (is_listed_below l f n id (omega (arith, below, apart)) e))
    (cases_eq n id)

pub is_listed : (l : Loop) (f : Fold) (id : ℕ) → reduction_of l id ≡ Some f → Contains (reductions_of l) (id, f)
is_listed l f id e = is_listed_below l f l.index.id id (reduction_below l f id e) e
