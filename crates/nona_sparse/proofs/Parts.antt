-- The groups of a page, as they are written one after another.
use Rattle.std.proofs.Common.{◌≡◌, ◌≢◌, ◌<◌, ◌≤◌, ◌+◌, ◌*◌, ◌/◌, ◌%◌, ◌==◌, ◌&&◌, ℕ, nat_lt, Bool, true, false, if◌then◌else◌, ℤ, Option, None, refl, sym, ap, ◌∙◌, arith, ◌⊎◌, inl, inr}
use Rattle.std.specs.Option.{unwrap_or}
use Rattle.std.proofs.lemmas.Bool.{cases_lt, eq-eqb, eqb-true, false≢true, lt-ltb, le-ltb}
use Rattle.nona_sparse.specs.declared.group.TheConstants.{GROUP}
use Rattle.nona_sparse.specs.declared.block.TheConstants.{WORDS}
use Rattle.nona_sparse.specs.declared.page.TheConstants.{PAGE}
use Rattle.nona_sparse.specs.Sparse.{of_group}

and_true : (b : Bool) → (b && true) ≡ b
and_true true = refl
and_true false = refl

-- what the parts of a whole before this one have at a place: where the place lies in the whole, and in which part of it
abbrev pub of_first : Bool → ℕ → ℕ → Option ℤ → Option ℤ
of_first here at part value = if here && nat_lt at part then value else None

-- one more part is written
next_of : (b here : Bool) (at part : ℕ) (own value : Option ℤ) (x : ℤ) → (b ≡ true → here ≡ true) → (b ≡ true → at ≡ part) → (b ≡ true → own ≡ value)
    → (b ≡ false → here ≡ true → at ≢ part) → unwrap_or (if b then own else None) (unwrap_or (of_first here at part value) x) ≡ unwrap_or (of_first here at (part + 1) value) x
next_of true true at part own value x inside is same other =
    ap (λ (t : Bool). unwrap_or own (unwrap_or (if t then value else None) x)) (le-ltb at part (omega (arith, is refl))) ∙ ap (λ o. unwrap_or o x) (same refl)
    ∙ ap (λ (t : Bool). unwrap_or (if t then value else None) x) (sym (lt-ltb at (part + 1) (omega (arith, is refl))))
next_of true false at part own value x inside is same other = absurd (false≢true (inside refl))
next_of false true at part own value x inside is same other = by (cases_lt at part) where
  by : (at < part) ⊎ (part ≤ at) → unwrap_or (of_first true at part value) x ≡ unwrap_or (of_first true at (part + 1) value) x
  by (inl below) =
      ap (λ (t : Bool). unwrap_or (if t then value else None) x) (lt-ltb at part below ∙ sym (lt-ltb at (part + 1) (omega (arith, below))))
  by (inr above) =
      let differs : at ≢ part = other refl refl in
      ap (λ (t : Bool). unwrap_or (if t then value else None) x) (le-ltb at part above ∙ sym (le-ltb at (part + 1) (omega (arith, above, differs))))
next_of false false at part own value x inside is same other = refl

-- what the first groups of a page have at a place of the array
abbrev pub of_groups : ℕ → ℕ → (ℕ → Option ℤ) → ℕ → Option ℤ
of_groups index many written q = of_first (q / PAGE == index) (q % PAGE / GROUP) many (written (q % PAGE))

-- at first none is
pub none_first : (index : ℕ) (written : ℕ → Option ℤ) (q : ℕ) (x : ℤ) → unwrap_or (of_groups index 0 written q) x ≡ x
none_first index written q x = by (q / PAGE == index) where
  by : (b : Bool) → unwrap_or (of_first b (q % PAGE / GROUP) 0 (written (q % PAGE))) x ≡ x
  by true = ap (λ (b : Bool). unwrap_or (if b then written (q % PAGE) else None) x) (le-ltb (q % PAGE / GROUP) 0 (omega arith))
  by false = refl

-- one more group is written
pub next_group : (index group : ℕ) (written own : ℕ → Option ℤ) → group < WORDS → ((p : ℕ) → p < GROUP → own p ≡ written (group * GROUP + p))
    → (q : ℕ) (x : ℤ) → unwrap_or (of_group (index * WORDS + group) own q) (unwrap_or (of_groups index group written q) x) ≡ unwrap_or (of_groups index (group + 1) written q) x
next_group index group written own few same = λ q x.
    next_of (q / GROUP == index * WORDS + group) (q / PAGE == index) (q % PAGE / GROUP) group (own (q % GROUP)) (written (q % PAGE)) x
    (λ t. eq-eqb (q / PAGE) index (omega (arith, eqb-true (q / GROUP) (index * WORDS + group) t, few)))
    (λ t. omega (arith, eqb-true (q / GROUP) (index * WORDS + group) t, few))
    (λ t.
    let place : group * GROUP + q % GROUP ≡ q % PAGE = omega (arith, eqb-true (q / GROUP) (index * WORDS + group) t, few) in
    same (q % GROUP) (omega arith) ∙ ap written place)
    (λ f here e. false≢true (sym f ∙ eq-eqb (q / GROUP) (index * WORDS + group) (omega (arith, e, eqb-true (q / PAGE) index here))))

-- once all are written, the page is
pub all_groups : (index many : ℕ) (written : ℕ → Option ℤ) (q : ℕ) (x : ℤ) → WORDS ≤ many
    → unwrap_or (of_groups index many written q) x ≡ unwrap_or (if q / PAGE == index then written (q % PAGE) else None) x
all_groups index many written q x all =
    ap (λ (b : Bool). unwrap_or (if q / PAGE == index && b then written (q % PAGE) else None) x) (lt-ltb (q % PAGE / GROUP) many (omega (arith, all)))
    ∙ ap (λ (b : Bool). unwrap_or (if b then written (q % PAGE) else None) x) (and_true (q / PAGE == index))
