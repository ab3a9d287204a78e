-- The tokens of a text stand in it with blanks and comments between them alone.
use Rattle.std.proofs.Common.{◌≡◌, ℕ, zero, suc, ◌+◌, ◌≤◌, Bool, true, false, nat_lt, pos, ◌==◌, List, [], ◌∷◌, length, take, drop, refl, sym, subst, inl, inr, arith, None, Some}
use Rattle.std.specs.Prelude.{◌⊎◌}
use Rattle.std.specs.declared.option.Option.{Option}
use Rattle.std.specs.List.{take_while}
use Rattle.std.proofs.lemmas.Bool.Decides.{Decides-eqb}
use Rattle.std.proofs.lemmas.List.{length-drop}
use Rattle.nona_num.specs.declared.folds.Fold.{Fold}
use Rattle.nona_text.specs.Bytes.{is_blank, is_digit, number_of}
use Rattle.nona_text.specs.declared.digits.TheConstants.{GREATEST}
use Rattle.nona_tree.specs.declared.limits.TheConstants.{NAME_BYTES}
use Rattle.nona_lex.specs.declared.lexemes.Lexeme.{Lexeme}
use Rattle.nona_lex.specs.declared.lexemes.Lexeme.TheVariants.{Gap, Found, Refused}
use Rattle.nona_lex.specs.declared.tokens.Token.{Token}
use Rattle.nona_lex.specs.declared.tokens.Token.TheVariants as token
use Rattle.nona_lex.specs.declared.tokens.Fault.TheVariants as fault
use Rattle.nona_lex.specs.declared.tokens.Cut.{Cut}
use Rattle.nona_lex.specs.declared.tokens.Tokens.{Tokens}
use Rattle.nona_lex.specs.Words.{is_letter, is_word_byte, fold_word}
use Rattle.nona_lex.specs.Signs.{token_of_two, token_of_one}
use Rattle.nona_lex.specs.Lexis.{lexeme_of, fold_or_word, word_lexeme, number_lexeme, sign_lexeme, sign_lexeme_of, single_lexeme, begins_with, lexed_from}
use Rattle.nona_lex.specs.Bounds.{Counts, no_counts, behind_token, admitted, bounded_from, tokens_of}
use Rattle.nona_lex.specs.Progress.{FitsIn}
use Rattle.nona_lex.specs.Spelling.{Spells}
use Rattle.nona_lex.specs.Laws.{IsSpelled, lexeme_and_rest, comment_length, IsLaidOut, tokens-end, blank-is, comment-is, token-is, IsLeft, AreSpread}
use Rattle.nona_lex.proofs.Choices.{either}
use Rattle.nona_lex.proofs.Within.{lexeme_within}
use Rattle.nona_lex.proofs.Spelled.{front_is_spelled}
use Rattle.nona_lex.proofs.Lexing.{lexemes_follow}

-- a lexeme that is no gap
abbrev pub IsNoGap : Lexeme → Type 0
IsNoGap (Gap len) = ⊥
IsNoGap (Found t len) = Unit {0}
IsNoGap (Refused f) = Unit {0}

fold_no_gap : (o : Option Fold) (q : Bool) (word : List ℕ) → IsNoGap (fold_or_word o q word)
fold_no_gap (Some f) true word = tt
fold_no_gap (Some f) false word = tt
fold_no_gap None q word = tt

word_no_gap : (word behind : List ℕ) → IsNoGap (word_lexeme word behind)
word_no_gap word behind =
    either IsNoGap (nat_lt NAME_BYTES (length word)) (Refused fault.NameLong) (fold_or_word (fold_word word) (begins_with 61 behind) word)
    (λ _. tt) (λ _. fold_no_gap (fold_word word) (begins_with 61 behind) word)

number_no_gap : (digits : List ℕ) → IsNoGap (number_lexeme digits)
number_no_gap digits =
    either IsNoGap (nat_lt GREATEST (number_of digits)) (Refused fault.Number) (Found (token.Number (pos (number_of digits))) (length digits)) (λ _. tt) (λ _. tt)

single_no_gap : (o : Option Token) → IsNoGap (single_lexeme o)
single_no_gap (Some t) = tt
single_no_gap None = tt

two_no_gap : (o : Option Token) (b : ℕ) → IsNoGap (sign_lexeme_of o b)
two_no_gap (Some t) b = tt
two_no_gap None b = single_no_gap (token_of_one b)

sign_no_gap : (b : ℕ) (bs : List ℕ) → IsNoGap (sign_lexeme b bs)
sign_no_gap b [] = single_no_gap (token_of_one b)
sign_no_gap b (c ∷ cs) = two_no_gap (token_of_two b c) b

-- a gap is a blank or a comment
abbrev pub IsGap : ℕ → List ℕ → Lexeme → Type 0
IsGap b bs (Gap len) = ((is_blank b ≡ true) × (len ≡ 1)) ⊎ ((b ≡ 35) × (len ≡ comment_length (b ∷ bs)))
IsGap b bs (Found t len) = Unit {0}
IsGap b bs (Refused f) = Unit {0}

no_gap : (b : ℕ) (bs : List ℕ) (l : Lexeme) → IsNoGap l → IsGap b bs l
no_gap b bs (Gap len) none = absurd none
no_gap b bs (Found t len) none = tt
no_gap b bs (Refused f) none = tt

gap_is : (b : ℕ) (bs : List ℕ) → IsGap b bs (lexeme_of b bs)
unfolding lexeme_of
gap_is b bs =
    let P : Lexeme → Type 0 = IsGap b bs in
    either P (is_blank b) _ _ (λ h. inl (h, refl))
    (λ _. either P (b == 35) _ _ (λ h. inr ((Decides-eqb b 35).0 h, refl))
    (λ _. either P (is_letter b) _ _ (λ _. no_gap b bs _ (word_no_gap (take_while is_word_byte (b ∷ bs)) (drop (length (take_while is_word_byte (b ∷ bs))) (b ∷ bs))))
    (λ _. either P (is_digit b) _ _ (λ _. no_gap b bs _ (number_no_gap (take_while is_digit (b ∷ bs))))
    (λ _. no_gap b bs _ (sign_no_gap b bs)))))

-- the tokens that may stand behind some counts
abbrev pub kept : Counts → Tokens → Tokens
kept c tokens = bounded_from c tokens.spots tokens.cut

-- behind the first bytes the text has the same end
same_end : (at len : ℕ) (bytes : List ℕ) (cut : Option Cut) (rest : List ℕ) → len ≤ length bytes → IsLeft cut (at + len + length (drop len bytes)) rest
    → IsLeft cut (at + length bytes) rest
same_end at len bytes cut rest within left =
    let e : at + len + length (drop len bytes) ≡ at + length bytes = omega (arith, length-drop len bytes) in subst (λ end. IsLeft cut end rest) e left

-- behind a gap
blank_spread : (at b len : ℕ) (bs : List ℕ) (tokens : Tokens) → len ≤ length (b ∷ bs) → is_blank b ≡ true → len ≡ 1
    → AreSpread (at + len) (drop len (b ∷ bs)) tokens → AreSpread at (b ∷ bs) tokens
blank_spread at b len bs tokens within blank one (rest, laid, left) =
    let behind = subst (λ n. IsLaidOut (at + n) (drop n (b ∷ bs)) tokens.spots rest) one laid in
    (rest, blank-is at b bs rest tokens.spots blank behind, same_end at len (b ∷ bs) tokens.cut rest within left)

comment_spread : (at b len : ℕ) (bs : List ℕ) (tokens : Tokens) → len ≤ length (b ∷ bs) → b ≡ 35 → len ≡ comment_length (b ∷ bs)
    → AreSpread (at + len) (drop len (b ∷ bs)) tokens → AreSpread at (b ∷ bs) tokens
comment_spread at b len bs tokens within hash long (rest, laid, left) =
    let behind = subst (λ n. IsLaidOut (at + n) (drop n (b ∷ bs)) tokens.spots rest) long laid in
    let at_hash = subst (λ x. IsLaidOut (at + comment_length (x ∷ bs)) (drop (comment_length (x ∷ bs)) (x ∷ bs)) tokens.spots rest) hash behind in (
      rest,
      subst (λ x. IsLaidOut at (x ∷ bs) tokens.spots rest) (sym hash) (comment-is at bs rest tokens.spots at_hash),
      same_end at len (b ∷ bs) tokens.cut rest within left,
    )

gap_spread : (at b len : ℕ) (bs : List ℕ) (tokens : Tokens) → len ≤ length (b ∷ bs) → IsGap b bs (Gap len)
    → AreSpread (at + len) (drop len (b ∷ bs)) tokens → AreSpread at (b ∷ bs) tokens
gap_spread at b len bs tokens within (inl blank) later = blank_spread at b len bs tokens within blank.0 blank.1 later
gap_spread at b len bs tokens within (inr comment) later = comment_spread at b len bs tokens within comment.0 comment.1 later

-- behind a token, where it may stand
token_spread : (at b len : ℕ) (bs : List ℕ) (t : Token) (o : Option Counts) (later : Counts → Tokens) → len ≤ length (b ∷ bs) → Spells (take len (b ∷ bs)) t
    → ((d : Counts) → AreSpread (at + len) (drop len (b ∷ bs)) (later d)) → AreSpread at (b ∷ bs) (admitted o (record { token = t; at = at }) later)
token_spread at b len bs t (Some d) later within spelled more =
    let m = more d in
    (m.0, token-is at len t (b ∷ bs) m.0 (later d).spots within spelled m.1, same_end at len (b ∷ bs) (later d).cut m.0 within m.2)
token_spread at b len bs t None later within spelled more = (b ∷ bs, tokens-end at (b ∷ bs), (omega arith, refl))

-- bytes of at most this length, whatever stands before them
abbrev pub SpreadUpTo : ℕ → Type 0
SpreadUpTo n = (c : Counts) (at : ℕ) (bytes : List ℕ) → length bytes ≤ n → AreSpread at bytes (kept c (lexed_from 0 at bytes))

lexeme_spread : (n : ℕ) → SpreadUpTo n → (c : Counts) (at b : ℕ) (bs : List ℕ) → length bs ≤ n → (l : Lexeme) → FitsIn l (length (b ∷ bs)) → IsGap b bs l
    → IsSpelled (b ∷ bs) l → AreSpread at (b ∷ bs) (kept c (lexeme_and_rest l at (b ∷ bs)))
unfolding bounded_from
lexeme_spread n again c at b bs short (Gap len) fits gap spelled =
    gap_spread at b len bs _ fits.1 gap (again c (at + len) (drop len (b ∷ bs)) (omega (arith, fits.0, length-drop len (b ∷ bs))))
lexeme_spread n again c at b bs short (Found t len) fits gap spelled =
    let later : Tokens = lexed_from 0 (at + len) (drop len (b ∷ bs)) in
    token_spread at b len bs t (behind_token t c) (λ d. kept d later) fits.1 spelled
    (λ d. again d (at + len) (drop len (b ∷ bs)) (omega (arith, fits.0, length-drop len (b ∷ bs))))
lexeme_spread n again c at b bs short (Refused f) fits gap spelled = (b ∷ bs, tokens-end at (b ∷ bs), (omega arith, refl))

spread : (n : ℕ) → SpreadUpTo n
unfolding bounded_from lexed_from
spread n c at [] short = ([], tokens-end at [], refl)
spread zero c at (b ∷ bs) short = absurd (omega arith)
spread (suc n) c at (b ∷ bs) short =
    subst (λ tokens. AreSpread at (b ∷ bs) (kept c tokens)) (sym (lexemes_follow at b bs))
    (lexeme_spread n (spread n) c at b bs (omega arith) (lexeme_of b bs) (lexeme_within b bs) (gap_is b bs) (front_is_spelled b bs))

pub tokens_spread : (text : List ℕ) → AreSpread 0 text (tokens_of text)
tokens_spread text = spread (length text) no_counts 0 text (omega arith)
