-- The first line of a text, and the end of a line.
use Rattle.std.proofs.Common.{◌≡◌, ℕ, zero, suc, ◌-◌, ◌<◌, ◌≤◌, true, false, List, [], ◌∷◌, length, get_or, take, drop, refl, ap, ◌∙◌, arith, ne_eqb}
use Rattle.std.specs.List.{take_while}
use Rattle.nona_text.specs.Pieces.{is_in_line, lines_from, without_cr}
use Rattle.nona_text.proofs.Splitting.{by_test, taken_more, taken_none, taken_front}

-- a line that has begun reaches to the next LF
ended : (bs : List ℕ) → lines_from true bs ≡ lines_from false (drop 1 (drop (length (take_while is_in_line bs)) bs))
ended [] = refl
ended (b ∷ bs) =
    by_test (is_in_line b)
    (λ e. rw (taken_more is_in_line b bs e) (ap (λ t. lines_from t bs) e ∙ ended bs))
    (λ e. rw (taken_none is_in_line b bs e) (ap (λ t. lines_from t bs) e))

-- the first line of a text, and the lines behind its LF
pub first_line : (text bytes from : List ℕ) (len : ℕ)
    → 0 < length text → len ≡ length (take_while is_in_line text) → bytes ≡ take len text → from ≡ drop len text
    → lines_from false text ≡ bytes ∷ lines_from false (drop 1 from)
first_line [] bytes from len some n b f = absurd (omega arith)
first_line (b ∷ bs) bytes from len some n e f =
    let taken : bytes ≡ take_while is_in_line (b ∷ bs) = e ∙ ap (λ i. take i (b ∷ bs)) n ∙ taken_front is_in_line (b ∷ bs) in
    let left : from ≡ drop (length (take_while is_in_line (b ∷ bs))) (b ∷ bs) = f ∙ ap (λ i. drop i (b ∷ bs)) n in
    rw (taken, left) (ap (λ (ls : List (List ℕ)). take_while is_in_line (b ∷ bs) ∷ ls) (ended (b ∷ bs)))

-- a line of n bytes and one more, which is a CR or is none
without_last : (line : List ℕ) (n : ℕ) → length line ≡ suc n → get_or line n 0 ≡ 13 → take n line ≡ without_cr line
without_last [] n k e = absurd (omega arith)
without_last (b ∷ []) zero k e = rw e refl
without_last (b ∷ []) (suc n) k e = absurd (omega arith)
without_last (b ∷ c ∷ bs) zero k e = absurd (omega arith)
without_last (b ∷ c ∷ bs) (suc n) k e = ap (λ (l : List ℕ). b ∷ l) (without_last (c ∷ bs) n (omega arith) e)

with_last : (line : List ℕ) (n : ℕ) → length line ≡ suc n → (get_or line n 0 ≡ 13 → ⊥) → line ≡ without_cr line
with_last [] n k e = absurd (omega arith)
with_last (b ∷ []) zero k e = rw (ne_eqb b 13 e) refl
with_last (b ∷ []) (suc n) k e = absurd (omega arith)
with_last (b ∷ c ∷ bs) zero k e = absurd (omega arith)
with_last (b ∷ c ∷ bs) (suc n) k e = ap (λ (l : List ℕ). b ∷ l) (with_last (c ∷ bs) n (omega arith) e)

pub cr_dropped : (line : List ℕ) → 1 ≤ length line → get_or line (length line - 1) 0 ≡ 13 → take (length line - 1) line ≡ without_cr line
cr_dropped line some e = without_last line (length line - 1) (omega arith) e

pub line_kept : (line : List ℕ) → 1 ≤ length line → (get_or line (length line - 1) 0 ≡ 13 → ⊥) → line ≡ without_cr line
line_kept line some e = with_last line (length line - 1) (omega arith) e
