-- No front of a text spells a token that is longer than the lexeme at its front.
use Rattle.std.proofs.Common.{◌≡◌, ℕ, zero, suc, ◌≤◌, Bool, true, false, nat_lt, pos, List, [], ◌∷◌, ◌++◌, length, take, drop, refl, ap, sym, subst, ◌∙◌, arith, None, Some}
use Rattle.std.specs.declared.option.Option.{Option}
use Rattle.std.specs.List.{list_all, take_while}
use Rattle.std.proofs.lemmas.List.{take-append-drop, length-take-le}
use Rattle.nona_num.specs.declared.folds.Fold.{Fold}
use Rattle.nona_num.specs.declared.folds.Fold.TheVariants as folds
use Rattle.nona_lex.specs.declared.tokens.Keyword.{Keyword}
use Rattle.nona_lex.specs.declared.tokens.Keyword.TheVariants as keyword
use Rattle.nona_lex.specs.declared.tokens.Operator.{Operator}
use Rattle.nona_lex.specs.declared.tokens.Operator.TheVariants as operator
use Rattle.nona_lex.specs.declared.tokens.Sign.{Sign}
use Rattle.nona_lex.specs.declared.tokens.Sign.TheVariants as sign
use Rattle.nona_lex.specs.declared.tokens.Token.{Token}
use Rattle.nona_lex.specs.declared.tokens.Token.TheVariants as token
use Rattle.nona_lex.specs.declared.tokens.Fault.TheVariants as fault
use Rattle.nona_lex.specs.declared.lexemes.Lexeme.{Lexeme}
use Rattle.nona_lex.specs.declared.lexemes.Lexeme.TheVariants.{Found, Refused}
use Rattle.nona_text.specs.Bytes.{is_digit, number_of}
use Rattle.nona_text.specs.declared.digits.TheConstants.{GREATEST}
use Rattle.nona_tree.specs.declared.limits.TheConstants.{NAME_BYTES}
use Rattle.nona_lex.specs.Words.{is_letter, is_word_byte, fold_word}
use Rattle.nona_lex.specs.Signs.{with_equals, doubled, token_of_two, operator_of_one, sign_of_one, token_of_one}
use Rattle.nona_lex.specs.Lexis.{lexeme_of, sign_lexeme, sign_lexeme_of, single_lexeme, word_lexeme, fold_or_word, number_lexeme, begins_with}
use Rattle.nona_lex.specs.Spelling.{keyword_text, fold_text, operator_text, sign_text, is_word, is_number, Spells}
use Rattle.nona_lex.specs.Laws.{HasAtLeast}
use Rattle.nona_lex.proofs.Choices.{either, first_test, second_test, at_letter, at_digit, letter_in_word, all_taken}

-- the lexeme at the front of whole bytes
abbrev pub lexeme_at : List ℕ → Lexeme
lexeme_at [] = Refused fault.Byte
lexeme_at (b ∷ bs) = lexeme_of b bs

-- where every text that begins with x has a lexeme of at least x's length
fixed : (x : List ℕ) → ((rest : List ℕ) → HasAtLeast (length x) (lexeme_at (x ++ rest)))
    → (b : ℕ) (bs : List ℕ) (k : ℕ) → k ≤ length (b ∷ bs) → take k (b ∷ bs) ≡ x → HasAtLeast k (lexeme_of b bs)
fixed x here b bs k w e =
    let whole : x ++ drop k (b ∷ bs) ≡ b ∷ bs = ap (λ y. y ++ drop k (b ∷ bs)) (sym e) ∙ take-append-drop k (b ∷ bs) in
    let many : length x ≡ k = ap length (sym e) ∙ length-take-le k (b ∷ bs) w in
    subst (λ n. HasAtLeast n (lexeme_of b bs)) many (subst (λ y. HasAtLeast (length x) (lexeme_at y)) whole (here (drop k (b ∷ bs))))

-- a token of one byte, whatever stands behind it
single_is : (t : Token) (o : Option Token) → o ≡ Some t → HasAtLeast 1 (single_lexeme o)
single_is t o e = subst (λ p. HasAtLeast 1 (single_lexeme p)) (sym e) (omega arith)

two_or_one : (b : ℕ) (o : Option Token) (t : Token) → token_of_one b ≡ Some t → HasAtLeast 1 (sign_lexeme_of o b)
two_or_one b (Some u) t e = omega arith
two_or_one b None t e = single_is t (token_of_one b) e

one : (b : ℕ) (t : Token) → token_of_one b ≡ Some t → (rest : List ℕ) → lexeme_of b rest ≡ sign_lexeme b rest → HasAtLeast 1 (lexeme_of b rest)
one b t e [] h = subst (HasAtLeast 1) (sym h) (single_is t (token_of_one b) e)
one b t e (c ∷ cs) h = subst (HasAtLeast 1) (sym h) (two_or_one b (token_of_two b c) t e)

folds_least : (f : Fold) (rest : List ℕ) → HasAtLeast (length (fold_text f)) (lexeme_at (fold_text f ++ rest))
unfolding lexeme_of with_equals doubled token_of_two
folds_least folds.Add rest = omega arith
folds_least folds.Mul rest = omega arith
folds_least folds.And rest = omega arith
folds_least folds.Or rest = omega arith
folds_least folds.Xor rest = omega arith
folds_least folds.Min rest = omega arith
folds_least folds.Max rest = omega arith

operators_least : (o : Operator) (rest : List ℕ) → HasAtLeast (length (operator_text o)) (lexeme_at (operator_text o ++ rest))
unfolding lexeme_of with_equals doubled token_of_two operator_of_one
operators_least operator.Add rest = one 43 (token.Operator operator.Add) refl rest refl
operators_least operator.Sub rest = one 45 (token.Operator operator.Sub) refl rest refl
operators_least operator.Mul rest = one 42 (token.Operator operator.Mul) refl rest refl
operators_least operator.Div rest = one 47 (token.Operator operator.Div) refl rest refl
operators_least operator.Rem rest = one 37 (token.Operator operator.Rem) refl rest refl
operators_least operator.And rest = one 38 (token.Operator operator.And) refl rest refl
operators_least operator.Or rest = one 124 (token.Operator operator.Or) refl rest refl
operators_least operator.Xor rest = one 94 (token.Operator operator.Xor) refl rest refl
operators_least operator.Shl rest = omega arith
operators_least operator.Shr rest = omega arith
operators_least operator.Eq rest = omega arith
operators_least operator.Ne rest = omega arith
operators_least operator.Lt rest = one 60 (token.Operator operator.Lt) refl rest refl
operators_least operator.Le rest = omega arith
operators_least operator.Gt rest = one 62 (token.Operator operator.Gt) refl rest refl
operators_least operator.Ge rest = omega arith
operators_least operator.Not rest = one 33 (token.Operator operator.Not) refl rest refl

signs_least : (s : Sign) (rest : List ℕ) → HasAtLeast (length (sign_text s)) (lexeme_at (sign_text s ++ rest))
unfolding lexeme_of with_equals doubled token_of_two operator_of_one sign_of_one
signs_least sign.Set rest = one 61 (token.Sign sign.Set) refl rest refl
signs_least sign.Semicolon rest = one 59 (token.Sign sign.Semicolon) refl rest refl
signs_least sign.Comma rest = one 44 (token.Sign sign.Comma) refl rest refl
signs_least sign.Range rest = omega arith
signs_least sign.Open rest = one 40 (token.Sign sign.Open) refl rest refl
signs_least sign.Close rest = one 41 (token.Sign sign.Close) refl rest refl
signs_least sign.OpenIndex rest = one 91 (token.Sign sign.OpenIndex) refl rest refl
signs_least sign.CloseIndex rest = one 93 (token.Sign sign.CloseIndex) refl rest refl
signs_least sign.OpenBlock rest = one 123 (token.Sign sign.OpenBlock) refl rest refl
signs_least sign.CloseBlock rest = one 125 (token.Sign sign.CloseBlock) refl rest refl

-- a reserved word is a word
keyword_is_word : (k : Keyword) → is_word (keyword_text k) ≡ true
keyword_is_word keyword.Array = refl
keyword_is_word keyword.Var = refl
keyword_is_word keyword.Let = refl
keyword_is_word keyword.If = refl
keyword_is_word keyword.Else = refl
keyword_is_word keyword.While = refl
keyword_is_word keyword.For = refl
keyword_is_word keyword.In = refl
keyword_is_word keyword.Seq = refl
keyword_is_word keyword.Print = refl
keyword_is_word keyword.Len = refl
keyword_is_word keyword.Wrap = refl
keyword_is_word keyword.Min = refl
keyword_is_word keyword.Max = refl
keyword_is_word keyword.Leave = refl
keyword_is_word keyword.When = refl

-- the lexeme of a word has at least the word's bytes
fold_least : (o : Option Fold) (q : Bool) (word : List ℕ) (k : ℕ) → k ≤ length word → HasAtLeast k (fold_or_word o q word)
fold_least (Some f) true word k w = omega arith
fold_least (Some f) false word k w = w
fold_least None q word k w = w

word_least : (word behind : List ℕ) (k : ℕ) → k ≤ length word → HasAtLeast k (word_lexeme word behind)
word_least word behind k w =
    either (HasAtLeast k) (nat_lt NAME_BYTES (length word)) (Refused fault.NameLong) (fold_or_word (fold_word word) (begins_with 61 behind) word)
    (λ e. tt) (λ e. fold_least (fold_word word) (begins_with 61 behind) word k w)

-- the lexeme of digits has at least their count
number_least : (digits : List ℕ) (k : ℕ) → k ≤ length digits → HasAtLeast k (number_lexeme digits)
number_least digits k w =
    either (HasAtLeast k) (nat_lt GREATEST (number_of digits)) (Refused fault.Number) (Found (token.Number (pos (number_of digits))) (length digits))
    (λ e. tt) (λ e. w)

-- a front that is a word
words_least : (b : ℕ) (bs : List ℕ) (k : ℕ) → k ≤ length (b ∷ bs) → is_word (take k (b ∷ bs)) ≡ true → HasAtLeast k (lexeme_of b bs)
words_least b bs zero w h = absurd (cc)
words_least b bs (suc k) w h =
    let letter = first_test (is_letter b) (list_all is_word_byte (take k bs)) h in
    let all : list_all is_word_byte (take (suc k) (b ∷ bs)) ≡ true =
    rw (letter_in_word b letter) (second_test (is_letter b) (list_all is_word_byte (take k bs)) h) in
    rw (at_letter b bs letter)
    (word_least _ (drop (length (take_while is_word_byte (b ∷ bs))) (b ∷ bs)) (suc k) (all_taken is_word_byte (suc k) (b ∷ bs) all w))

-- a front that is a number
numbers_least : (b : ℕ) (bs : List ℕ) (k : ℕ) → k ≤ length (b ∷ bs) → is_number (take k (b ∷ bs)) ≡ true → HasAtLeast k (lexeme_of b bs)
numbers_least b bs zero w h = absurd (cc)
numbers_least b bs (suc k) w h =
    rw (at_digit b bs (first_test (is_digit b) (list_all is_digit (take k bs)) h))
    (number_least _ (suc k) (all_taken is_digit (suc k) (b ∷ bs) h w))

pub front_is_longest : (b : ℕ) (bs : List ℕ) (k : ℕ) (t : Token) → k ≤ length (b ∷ bs) → Spells (take k (b ∷ bs)) t → HasAtLeast k (lexeme_of b bs)
front_is_longest b bs k (token.Word x) w h = words_least b bs k w (ap is_word h ∙ keyword_is_word x)
front_is_longest b bs k (token.Name n) w h = words_least b bs k w h.1
front_is_longest b bs k (token.Number v) w h = numbers_least b bs k w h.0
front_is_longest b bs k (token.Fold f) w h = fixed (fold_text f) (folds_least f) b bs k w h
front_is_longest b bs k (token.Operator o) w h = fixed (operator_text o) (operators_least o) b bs k w h
front_is_longest b bs k (token.Sign s) w h = fixed (sign_text s) (signs_least s) b bs k w h
