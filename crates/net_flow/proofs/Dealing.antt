-- Iterations that are dealt out round robin.
use Rattle.std.proofs.Common.{◌≡◌, ◌≢◌, ◌<◌, ◌≤◌, ◌+◌, ◌-◌, ◌*◌, ◌/◌, ◌%◌, ℕ, refl, sym, ap, ◌∙◌, arith, inl, inr, ◌⊎◌, subst, zero, suc, Bool, true, false, Bool}
use Rattle.std.proofs.Math.Nat.{div-lt_iff_lt-mul, div-add-mod, mod-lt}
use Rattle.std.proofs.lemmas.Nat.{div-mul-add, mod-mul-add, same_from_place}
use Rattle.std.proofs.lemmas.Bool.{cases_lt, cases_eq}
use Rattle.net_flow.specs.Dealing.{dealt, number, over_link}
use Rattle.net_flow.specs.Shapes.{IsWorker, worker_on}

-- the law from which all others follow: link l has at most j of the first n iterations just where n is at most l + j * W
pub dealt_up : (W l n j : ℕ) → l < W → dealt W l n ≤ j → n ≤ l + j * W
dealt_up W l n j below few =
    let some : 0 < W = omega arith in
    let less : (n + (W - 1 - l)) / W < j + 1 = omega arith in
    let all = (div-lt_iff_lt-mul {k = W} {x = n + (W - 1 - l)} {y = j + 1} some).0 less in
    omega (arith, all)

pub dealt_down : (W l n j : ℕ) → l < W → n ≤ l + j * W → dealt W l n ≤ j
dealt_down W l n j below few =
    let some : 0 < W = omega arith in
    let less : n + (W - 1 - l) < (j + 1) * W = omega arith in
    let all = (div-lt_iff_lt-mul {k = W} {x = n + (W - 1 - l)} {y = j + 1} some).1 less in
    omega (arith, all)

pub dealt_none : (W l : ℕ) → l < W → dealt W l 0 ≡ 0
dealt_none W l below = let h = dealt_down W l 0 0 below (omega arith) in omega (arith, h)

pub dealt_mono : (W l m n : ℕ) → l < W → m ≤ n → dealt W l m ≤ dealt W l n
dealt_mono W l m n below within =
    let h = dealt_up W l n (dealt W l n) below (omega arith) in dealt_down W l m (dealt W l n) below (omega (arith, h))

-- how many come before iteration n on its own link
pub dealt_at : (W n : ℕ) → 0 < W → dealt W (n % W) n ≡ n / W
dealt_at W n some =
    let below : n % W < W = mod-lt n some in
    let split = div-add-mod n W in
    let e : n + (W - 1 - n % W) ≡ n / W * W + (W - 1) = omega (arith, split, below) in
    ap (λ (k : ℕ). k / W) e ∙ div-mul-add (n / W) W (W - 1) (omega arith)

dealt_on : (W n : ℕ) → 0 < W → dealt W (n % W) (n + 1) ≡ n / W + 1
dealt_on W n some =
    let below : n % W < W = mod-lt n some in
    let split = div-add-mod n W in
    let e : n + 1 + (W - 1 - n % W) ≡ (n / W + 1) * W + 0 = omega (arith, split, below) in
    ap (λ (k : ℕ). k / W) e ∙ div-mul-add (n / W + 1) W 0 some

-- one iteration more is one more on its own link, and none on another
pub dealt_here : (W l n : ℕ) → 0 < W → l ≡ n % W → dealt W l (n + 1) ≡ dealt W l n + 1
dealt_here W l n some here =
    let one : dealt W (n % W) (n + 1) ≡ dealt W (n % W) n + 1 = dealt_on W n some ∙ ap (λ (k : ℕ). k + 1) (sym (dealt_at W n some)) in
    subst (λ (k : ℕ). dealt W k (n + 1) ≡ dealt W k n + 1) (sym here) one

pub dealt_other : (W l n : ℕ) → l < W → l ≢ n % W → dealt W l (n + 1) ≡ dealt W l n
dealt_other W l n below other =
    let j = dealt W l n in
    let up = dealt_up W l n j below (omega arith) in
    let apart : n ≢ l + j * W = λ same. other (sym (mod-mul-add j W l below) ∙ ap (λ (k : ℕ). k % W) (let e : j * W + l ≡ n = omega (arith, same) in e)) in
    let few = dealt_down W l (n + 1) j below (omega (arith, up, apart)) in
    let more = dealt_mono W l n (n + 1) below (omega arith) in
    omega (arith, few, more)

-- an iteration is the one behind those that come before it on its own link
pub dealt_number : (W l n : ℕ) → 0 < W → l ≡ n % W → n ≡ l + dealt W l n * W
dealt_number W l n some here =
    let split = div-add-mod n W in
    let at = dealt_at W n some in
    let whole : n ≡ n % W + dealt W (n % W) n * W = omega (arith, split, ap (λ (k : ℕ). k * W) at) in
    subst (λ (k : ℕ). n ≡ k + dealt W k n * W) (sym here) whole

-- fewer on a link are fewer in all
pub dealt_less : (W l m n : ℕ) → l < W → dealt W l m < dealt W l n → m < n
dealt_less W l m n below less = by_cases (cases_lt m n) where
  by_cases : (m < n) ⊎ (n ≤ m) → m < n
  by_cases (inl h) = h
  by_cases (inr h) = let k = dealt_mono W l n m below h in absurd (omega (arith, k))

-- W iterations more are one more on each link
pub dealt_round : (W l n : ℕ) → l < W → dealt W l (n + W) ≡ dealt W l n + 1
dealt_round W l n below =
    let some : 0 < W = omega arith in
    let a = dealt_up W l n (dealt W l n) below (omega arith) in
    let b = dealt_down W l (n + W) (dealt W l n + 1) below (omega (arith, a)) in
    let c = dealt_up W l (n + W) (dealt W l (n + W)) below (omega arith) in
    let d : dealt W l n < dealt W l (n + W) = by_cases (dealt W l (n + W)) refl in
    omega (arith, b, d)
  where
    by_cases : (j : ℕ) → dealt W l (n + W) ≡ j → dealt W l n < dealt W l (n + W)
    by_cases zero is = let c = dealt_up W l (n + W) 0 below (omega (arith, is)) in absurd (omega (arith, c))
    by_cases (suc j) is =
        let c = dealt_up W l (n + W) (suc j) below (omega (arith, is)) in
        let d = dealt_down W l n j below (omega (arith, c)) in omega (arith, is, d)

-- an iteration of a link that was begun and not done is the one that its task is in
pub begun_one : (p : Bool) (W l j d b : ℕ) → l < W → b ≤ 1 → over_link p W l d ≤ j → j < over_link p W l (d + b) → (b ≡ 1) × (number p W (worker_on p l) d ≡ l + j * W)
begun_one true W l j d b below one least more = (omega (arith, one, least, more), (let e : d ≡ j = omega (arith, one, least, more) in ap (λ (i : ℕ). l + i * W) e))
begun_one false W l j d b below one least more = by_busy (cases_eq b 1) where
  by_link : b ≡ 1 → (l ≡ d % W) ⊎ (l ≢ d % W) → d ≡ l + j * W
  by_link in_it (inl here) =
      let some : 0 < W = omega (arith, below) in
      let up = dealt_here W l d some here in
      let more' : j < dealt W l (d + 1) = subst (λ (i : ℕ). j < dealt W l (d + i)) in_it more in
      let same : dealt W l d ≡ j = omega (arith, up, more', least) in
      dealt_number W l d some here ∙ ap (λ (i : ℕ). l + i * W) same
  by_link in_it (inr off) =
      let same = dealt_other W l d below off in
      let more' : j < dealt W l (d + 1) = subst (λ (i : ℕ). j < dealt W l (d + i)) in_it more in
      absurd (omega (arith, same, more', least))

  by_busy : (b ≡ 1) ⊎ (b ≢ 1) → (b ≡ 1) × (d ≡ l + j * W)
  by_busy (inl in_it) = (in_it, by_link in_it (cases_eq l (d % W)))
  by_busy (inr off) =
      let none : d + b ≡ d = omega (arith, one, off) in
      let more' : j < dealt W l d = subst (λ (i : ℕ). j < dealt W l i) none more in absurd (omega (arith, least, more'))

-- the iteration behind the first d ones of a task is the one behind j ones of its link just where its number says so
pub number_on : (p : Bool) (W w l j d : ℕ) → l < W → IsWorker p W w → number p W w d ≡ l + j * W → (w ≡ worker_on p l) × (over_link p W l d ≡ j) × (over_link p W l (d + 1) ≡ j + 1)
number_on true W w l j d below worker same =
    let e : d * W + w ≡ j * W + l = omega (arith, same) in
    let h = same_from_place d w j l W worker below (let z : d * W + w ≡ j * W + l = e in z) in
    (h.1, h.0, ap (λ (i : ℕ). i + 1) h.0)
number_on false W w l j d below worker same = (worker, least, more) where
  least : dealt W l d ≡ j
  least = by_cases (cases_lt (dealt W l d) j) where
    by_cases : (dealt W l d < j) ⊎ (j ≤ dealt W l d) → dealt W l d ≡ j
    by_cases (inl h) =
        let up = dealt_up W l d (j - 1) below (omega (arith, h)) in
        let times : (j - 1) * W + W ≡ j * W = let z : j ≡ j - 1 + 1 = omega (arith, h) in (let y : (j - 1) * W + W ≡ (j - 1 + 1) * W = omega arith in y ∙ ap (λ (i : ℕ). i * W) (sym z)) in
        absurd (omega (arith, up, same, times, below))
    by_cases (inr h) = let down = dealt_down W l d j below (omega (arith, same)) in omega (arith, h, down)

  more : dealt W l (d + 1) ≡ j + 1
  more = by_cases (cases_lt j (dealt W l (d + 1))) where
    by_cases : (j < dealt W l (d + 1)) ⊎ (dealt W l (d + 1) ≤ j) → dealt W l (d + 1) ≡ j + 1
    by_cases (inl h) = let down = dealt_down W l (d + 1) (j + 1) below (omega (arith, same, below)) in omega (arith, h, down)
    by_cases (inr h) = let up = dealt_up W l (d + 1) j below h in absurd (omega (arith, up, same))

-- an iteration of a link that is one of the first n ones of its task has its number among them
pub number_done : (p : Bool) (W l j n : ℕ) → l < W → j < over_link p W l n → (d : ℕ) × (d < n) × (number p W (worker_on p l) d ≡ l + j * W)
number_done true W l j n below less = (j, less, refl)
number_done false W l j n below less = (l + j * W, by_cases (cases_lt (l + j * W) n), refl) where
  by_cases : (l + j * W < n) ⊎ (n ≤ l + j * W) → l + j * W < n
  by_cases (inl h) = h
  by_cases (inr h) = let down = dealt_down W l n j below h in absurd (omega (arith, down, less))
