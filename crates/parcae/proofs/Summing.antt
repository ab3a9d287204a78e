-- Sums over what is left of a list.
use Rattle.std.proofs.Common.{◌≡◌, ℕ, ◌+◌, ◌<◌, ℤ, List, [], ◌∷◌, ◌++◌, drop, get_or, length, suc, map, fold, ap, sym, refl, ◌∙◌, arith}
use Rattle.std.proofs.Math.Seq.{drop-cons}
use Rattle.std.specs.List.{flat_map}
use Rattle.nona_num.specs.Numbers.{add_of}
use Rattle.parcae.specs.Summary.{text_of_lines}

-- the sum of the numbers that are left is that of the first of them and those behind
pub sum_on : (xs : List ℤ) (k : ℕ) (x d sum : ℤ) → k < length xs → x ≡ get_or xs k d
    → fold add_of sum (drop k xs) ≡ fold add_of (add_of sum x) (drop (k + 1) xs)
sum_on xs k x d sum lt same =
    let next : suc k ≡ k + 1 = omega arith in
    ap (fold add_of sum) (drop-cons xs k d lt) ∙ ap (λ (y : ℤ). fold add_of (add_of sum y) (drop (suc k) xs)) (sym same)
    ∙ ap (λ (n : ℕ). fold add_of (add_of sum x) (drop n xs)) next

-- the bytes of lines, one behind the other, are their text
pub text_is : {A : Type 0} (bytes : A → List ℕ) (lines : List A) → flat_map bytes lines ≡ text_of_lines (map bytes lines)
text_is bytes [] = refl
text_is bytes (line ∷ lines) = ap (λ (l : List ℕ). bytes line ++ l) (text_is bytes lines)
