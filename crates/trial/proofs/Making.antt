-- What one turn more of the loops adds to the numbers and to the text.
use Rattle.std.proofs.Common.{◌≡◌, ◌<◌, ◌≤◌, ◌+◌, ◌-◌, ◌^◌, ◌++◌, ℕ, zero, suc, ℤ, List, [], ◌∷◌, length, refl, sym, ap, ◌∙◌, arith, append_assoc, append-nil, codes}
use Rattle.std.specs.Fmt.{digits}
use Rattle.trial.specs.Numbers.{trial_count, next_state, number_of_state, numbers_behind}
use Rattle.trial.specs.Text.{head_text, block_text, blocks_text, trial_text}

left : (count done : ℕ) → done < count → count - done ≡ suc (count - (done + 1))
left count done h = omega (arith, h)

-- one number more
pub one_number : (front whole : List ℤ) (count done state : ℕ) → done < count → front ++ numbers_behind (count - done) state ≡ whole
    → (front ++ number_of_state (next_state state) ∷ []) ++ numbers_behind (count - (done + 1)) (next_state state) ≡ whole
unfolding numbers_behind
one_number front whole count done state more h =
    append_assoc front (number_of_state (next_state state) ∷ []) (numbers_behind (count - (done + 1)) (next_state state))
    ∙ (sym (ap (λ k. front ++ numbers_behind k state) (left count done more)) ∙ h)

pub number_pushed : (front after whole : List ℤ) (x : ℤ) (count done state next : ℕ) → done < count → next ≡ next_state state → x ≡ number_of_state next
    → after ≡ front ++ x ∷ [] → front ++ numbers_behind (count - done) state ≡ whole → after ++ numbers_behind (count - (done + 1)) next ≡ whole
number_pushed front after whole x count done state next more next-is x-is after-is h = rw (after-is, x-is, next-is) (one_number front whole count done state more h)

-- no number is left
pub no_number : (front whole : List ℤ) (count done state : ℕ) → count ≤ done → front ++ numbers_behind (count - done) state ≡ whole → front ≡ whole
unfolding numbers_behind
no_number front whole count done state over h =
    let none : count - done ≡ 0 = omega (arith, over) in
    sym (append-nil front) ∙ (sym (ap (λ k. front ++ numbers_behind k state) none) ∙ h)

-- how many numbers there are
pub count_behind : (count state : ℕ) → length (numbers_behind count state) ≡ count
unfolding numbers_behind
count_behind zero state = refl
count_behind (suc more) state = ap suc (count_behind more (next_state state))

pub few_numbers : (n : ℕ) → trial_count n ≤ 29990
few_numbers n = omega arith

-- the text begins
pub first_text : head_text ++ blocks_text 16 1 ≡ trial_text
unfolding trial_text
first_text = refl

-- one block more
pub one_block : (front block : List ℕ) (done : ℕ) → done < 16 → block ≡ block_text (done + 1) → front ++ blocks_text (16 - done) (done + 1) ≡ trial_text
    → (front ++ block) ++ blocks_text (16 - (done + 1)) (done + 1 + 1) ≡ trial_text
unfolding blocks_text
one_block front block done more is h =
    let later : suc (done + 1) ≡ done + 1 + 1 = omega arith in
    ap (λ b. (front ++ b) ++ blocks_text (16 - (done + 1)) (done + 1 + 1)) is
    ∙ (append_assoc front (block_text (done + 1)) (blocks_text (16 - (done + 1)) (done + 1 + 1))
    ∙ (sym (ap (λ k. front ++ (block_text (done + 1) ++ blocks_text (16 - (done + 1)) k)) later)
    ∙ (sym (ap (λ k. front ++ blocks_text k (done + 1)) (left 16 done more)) ∙ h)))

-- no block is left
pub whole_text : (front : List ℕ) (done : ℕ) → 16 ≤ done → front ++ blocks_text (16 - done) (done + 1) ≡ trial_text → front ++ codes "print m;\n" ≡ trial_text
unfolding blocks_text
whole_text front done over h =
    let none : 16 - done ≡ 0 = omega (arith, over) in
    sym (ap (λ k. front ++ blocks_text k (done + 1)) none) ∙ h

text_length : length trial_text ≡ 2034
unfolding trial_text blocks_text digits
text_length = refl

pub short_text : length trial_text ≤ 2 ^ 20
short_text = omega (arith, text_length)
