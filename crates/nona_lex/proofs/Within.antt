-- A lexeme has at least one byte, and no more than the text.
use Rattle.std.proofs.Common.{◌≡◌, ℕ, zero, suc, ◌<◌, ◌≤◌, Bool, true, false, nat_lt, pos, ◌==◌, List, [], ◌∷◌, length, drop, refl, arith, None, Some}
use Rattle.std.specs.declared.option.Option.{Option}
use Rattle.std.specs.List.{take_while}
use Rattle.std.proofs.lemmas.Bool.Decides.{nat_tests}
use Rattle.std.proofs.lemmas.List.Sums.{take_while-cons}
use Rattle.nona_num.specs.declared.folds.Fold.{Fold}
use Rattle.nona_lex.specs.declared.tokens.Token.{Token}
use Rattle.nona_lex.specs.declared.tokens.Token.TheVariants as token
use Rattle.nona_lex.specs.declared.tokens.Fault.TheVariants as fault
use Rattle.nona_lex.specs.declared.lexemes.Lexeme.{Lexeme}
use Rattle.nona_lex.specs.declared.lexemes.Lexeme.TheVariants.{Found, Refused}
use Rattle.nona_text.specs.Bytes.{is_blank, is_digit, number_of}
use Rattle.nona_text.specs.declared.digits.TheConstants.{GREATEST}
use Rattle.nona_tree.specs.declared.limits.TheConstants.{NAME_BYTES}
use Rattle.nona_lex.specs.Words.{is_letter, is_word_byte, is_comment_byte, fold_word}
use Rattle.nona_lex.specs.Signs.{token_of_two, token_of_one}
use Rattle.nona_lex.specs.Lexis.{lexeme_of, sign_lexeme, sign_lexeme_of, single_lexeme, word_lexeme, fold_or_word, number_lexeme, begins_with}
use Rattle.nona_lex.specs.Progress.{FitsIn}
use Rattle.nona_lex.proofs.Choices.{either, letter_in_word}

-- no more bytes are taken than there are
taken_most : (p : ℕ → Bool) (bs : List ℕ) → length (take_while p bs) ≤ length bs
taken_most p [] = omega arith
taken_most p (b ∷ bs) = rw (take_while-cons p b bs)
    (either (λ l. length l ≤ length (b ∷ bs)) (p b) (b ∷ take_while p bs) [] (λ e. let more = taken_most p bs in omega arith) (λ e. omega arith))

-- at least one is taken where the first passes
taken_least : (p : ℕ → Bool) (b : ℕ) (bs : List ℕ) → p b ≡ true → 0 < length (take_while p (b ∷ bs))
taken_least p b bs h = rw (take_while-cons p b bs, h) (omega arith)

single_within : (o : Option Token) (n : ℕ) → FitsIn (single_lexeme o) (suc n)
single_within (Some t) n = (omega arith, omega arith)
single_within None n = tt

two_within : (o : Option Token) (b n : ℕ) → FitsIn (sign_lexeme_of o b) (suc (suc n))
two_within (Some t) b n = (omega arith, omega arith)
two_within None b n = single_within (token_of_one b) (suc n)

sign_within : (b : ℕ) (bs : List ℕ) → FitsIn (sign_lexeme b bs) (length (b ∷ bs))
sign_within b [] = single_within (token_of_one b) 0
sign_within b (c ∷ cs) = two_within (token_of_two b c) b (length cs)

-- where `=` stands behind n bytes, there are more than n
equals_within : (n : ℕ) (bs : List ℕ) → begins_with 61 (drop n bs) ≡ true → n < length bs
equals_within zero [] h = absurd (cc)
equals_within zero (b ∷ bs) h = omega arith
equals_within (suc n) [] h = absurd (cc)
equals_within (suc n) (b ∷ bs) h = let more = equals_within n bs h in omega arith

fold_within : (text word : List ℕ) (o : Option Fold) (q : Bool) → 0 < length word → length word ≤ length text
    → begins_with 61 (drop (length word) text) ≡ q → FitsIn (fold_or_word o q word) (length text)
fold_within text word (Some f) true p w e = let more = equals_within (length word) text e in (omega arith, omega arith)
fold_within text word (Some f) false p w e = (p, w)
fold_within text word None q p w e = (p, w)

word_within : (text word : List ℕ) → 0 < length word → length word ≤ length text → FitsIn (word_lexeme word (drop (length word) text)) (length text)
word_within text word p w =
    let equals : Bool = begins_with 61 (drop (length word) text) in
    either (λ x. FitsIn x (length text)) (nat_lt NAME_BYTES (length word)) (Refused fault.NameLong) (fold_or_word (fold_word word) equals word) (λ _. tt)
    (λ _. fold_within text word (fold_word word) equals p w refl)

number_within : (digits : List ℕ) (n : ℕ) → 0 < length digits → length digits ≤ n → FitsIn (number_lexeme digits) n
number_within digits n p w =
    let t : Token = token.Number (pos (number_of digits)) in
    either (λ x. FitsIn x n) (nat_lt GREATEST (number_of digits)) (Refused fault.Number) (Found t (length digits)) (λ _. tt) (λ _. (p, w))

hash_in_comment : (b : ℕ) → (b == 35) ≡ true → is_comment_byte b ≡ true
hash_in_comment b h = grind (arith, nat_tests)

pub lexeme_within : (b : ℕ) (bs : List ℕ) → FitsIn (lexeme_of b bs) (length (b ∷ bs))
unfolding lexeme_of
lexeme_within b bs =
    let P : Lexeme → Type 0 = λ x. FitsIn x (length (b ∷ bs)) in
    either P (is_blank b) _ _ (λ _. (omega arith, omega arith))
    (λ _. either P (b == 35) _ _ (λ h. (taken_least is_comment_byte b bs (hash_in_comment b h), taken_most is_comment_byte (b ∷ bs)))
    (λ _. either P (is_letter b) _ _
    (λ h. word_within (b ∷ bs) _ (taken_least is_word_byte b bs (letter_in_word b h)) (taken_most is_word_byte (b ∷ bs)))
    (λ _. either P (is_digit b) _ _ (λ h. number_within _ _ (taken_least is_digit b bs h) (taken_most is_digit (b ∷ bs)))
    (λ _. sign_within b bs))))
