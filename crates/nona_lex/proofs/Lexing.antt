-- How the tokens of a text go on behind a lexeme.
use Rattle.std.proofs.Common.{◌≡◌, ℕ, zero, suc, ◌+◌, ◌-◌, ◌<◌, ◌≤◌, List, [], ◌∷◌, ◌++◌, length, drop, refl, ap, sym, ◌∙◌, arith, None, Some, append_assoc}
use Rattle.std.specs.declared.option.Option.{Option}
use Rattle.std.proofs.Math.ListN.{drop_of_length-le}
use Rattle.std.proofs.lemmas.List.{append-nil, drop-drop}
use Rattle.nona_lex.specs.declared.tokens.Token.{Token}
use Rattle.nona_lex.specs.declared.tokens.Fault.{Fault}
use Rattle.nona_lex.specs.declared.tokens.Fault.TheVariants as fault
use Rattle.nona_lex.specs.declared.tokens.Spot.{Spot}
use Rattle.nona_lex.specs.declared.tokens.Cut.{Cut}
use Rattle.nona_lex.specs.declared.tokens.Tokens.{Tokens}
use Rattle.nona_lex.specs.declared.lexemes.Lexeme.{Lexeme}
use Rattle.nona_lex.specs.declared.lexemes.Lexeme.TheVariants.{Gap, Found, Refused}
use Rattle.nona_lex.specs.Lexis.{lexeme_of, lexed_from, goes_on, with_spot, cut_off}
use Rattle.nona_lex.specs.Bounds.{Counts, behind_token, admitted, bounded_from}
use Rattle.nona_lex.specs.Progress.{IsLexeme, tokens_behind}
use Rattle.nona_lex.specs.Laws.{lexeme_and_rest}
use Rattle.nona_lex.proofs.Within.{lexeme_within}

-- bytes that belong to the lexeme before are passed over
passed_over : (k at : ℕ) (bs : List ℕ) → k ≤ length bs → lexed_from k at bs ≡ lexed_from 0 (at + k) (drop k bs)
unfolding lexed_from
passed_over zero at bs h = ap (λ n. lexed_from 0 n bs) (omega arith)
passed_over (suc k) at [] h = refl
passed_over (suc k) at (b ∷ bs) h =
    passed_over k (at + 1) bs (omega arith) ∙ ap (λ n. lexed_from 0 n (drop k bs)) (omega arith)

-- the tokens behind a lexeme of len bytes
behind_lexeme : (at len b : ℕ) (bs : List ℕ) → 0 < len → len ≤ length (b ∷ bs)
    → lexed_from (len - 1) (at + 1) bs ≡ lexed_from 0 (at + len) (drop len (b ∷ bs))
behind_lexeme at zero b bs p h = absurd (omega arith)
behind_lexeme at (suc len) b bs p h =
    let e : suc len - 1 ≡ len = omega arith in
    rw e (passed_over len (at + 1) bs (omega arith) ∙ ap (λ n. lexed_from 0 n (drop len bs)) (omega arith))

-- the tokens of bytes are what their first lexeme makes of those behind it
by_lexeme : (b : ℕ) (bs : List ℕ) (at : ℕ) (lexeme : Lexeme) → IsLexeme (b ∷ bs) lexeme
    → lexed_from 0 at (b ∷ bs) ≡ goes_on lexeme at (λ more. lexed_from more (at + 1) bs)
unfolding lexed_from
by_lexeme b bs at lexeme h = ap (λ p. goes_on p at (λ more. lexed_from more (at + 1) bs)) (sym h.0)

-- a lexeme is no longer than the bytes that it stands in front of
pub gap_within : (bytes : List ℕ) (len : ℕ) → IsLexeme bytes (Gap len) → (0 < len) × (len ≤ length bytes)
gap_within [] len h = absurd h
gap_within (b ∷ bs) len h = h.1

pub found_within : (bytes : List ℕ) (t : Token) (len : ℕ) → IsLexeme bytes (Found t len) → (0 < len) × (len ≤ length bytes)
found_within [] t len h = absurd h
found_within (b ∷ bs) t len h = h.1

gap_step : (bytes : List ℕ) (at len : ℕ) → IsLexeme bytes (Gap len)
    → lexed_from 0 (at + len) (drop len bytes) ≡ lexed_from 0 at bytes
gap_step [] at len h = absurd h
gap_step (b ∷ bs) at len h = sym (by_lexeme b bs at (Gap len) h ∙ behind_lexeme at len b bs h.1.0 h.1.1)

found_step : (bytes : List ℕ) (at len : ℕ) (t : Token) → IsLexeme bytes (Found t len)
    → with_spot (record { token = t; at = at }) (lexed_from 0 (at + len) (drop len bytes)) ≡ lexed_from 0 at bytes
found_step [] at len t h = absurd h
found_step (b ∷ bs) at len t h =
    sym (by_lexeme b bs at (Found t len) h ∙ ap (with_spot (record { token = t; at = at })) (behind_lexeme at len b bs h.1.0 h.1.1))

refused_step : (bytes : List ℕ) (at : ℕ) (f : Fault) → IsLexeme bytes (Refused f)
    → cut_off (Some (record { fault = f; at = at })) ≡ lexed_from 0 at bytes
refused_step [] at f h = absurd h
refused_step (b ∷ bs) at f h = sym (by_lexeme b bs at (Refused f) h)

-- one token more in front, where it may stand
admitted_step : (front : List Spot) (c d : Counts) (spot : Spot) (later : Tokens) → Some d ≡ behind_token spot.token c
    → tokens_behind (front ++ spot ∷ []) d later ≡ tokens_behind front c (with_spot spot later)
unfolding bounded_from
admitted_step front c d spot later e =
    let after : Option Counts → Tokens = λ o. admitted o spot (λ x. bounded_from x later.spots later.cut) in
    ap (λ (l : List Spot). record { spots = l; cut = (bounded_from d later.spots later.cut).cut }) (append_assoc front (spot ∷ []) (bounded_from d later.spots later.cut).spots)
    ∙ ap (λ o. record { spots = front ++ (after o).spots; cut = (after o).cut }) e

-- no token more, where it may not stand
deep_step : (front : List Spot) (c : Counts) (spot : Spot) (later : Tokens) → None ≡ behind_token spot.token c
    → record { spots = front; cut = Some (record { fault = fault.Deep; at = spot.at }) } ≡ tokens_behind front c (with_spot spot later)
unfolding bounded_from
deep_step front c spot later e =
    let after : Option Counts → Tokens = λ o. admitted o spot (λ x. bounded_from x later.spots later.cut) in
    ap (λ (l : List Spot). record { spots = l; cut = Some (record { fault = fault.Deep; at = spot.at }) }) (sym (append-nil front))
    ∙ ap (λ o. record { spots = front ++ (after o).spots; cut = (after o).cut }) e

-- the end of the list
end_step : (front : List Spot) (c : Counts) (cut : Option Cut) → record { spots = front; cut = cut } ≡ tokens_behind front c (cut_off cut)
unfolding bounded_from
end_step front c cut = ap (λ (l : List Spot). record { spots = l; cut = cut }) (sym (append-nil front))

-- a text is read lexeme by lexeme
read_on : (at b : ℕ) (bs : List ℕ) (lexeme : Lexeme) → IsLexeme (b ∷ bs) lexeme → lexed_from 0 at (b ∷ bs) ≡ lexeme_and_rest lexeme at (b ∷ bs)
read_on at b bs (Gap len) h = sym (gap_step (b ∷ bs) at len h)
read_on at b bs (Found t len) h = sym (found_step (b ∷ bs) at len t h)
read_on at b bs (Refused f) h = sym (refused_step (b ∷ bs) at f h)

pub lexemes_follow : (at b : ℕ) (bs : List ℕ) → lexed_from 0 at (b ∷ bs) ≡ lexeme_and_rest (lexeme_of b bs) at (b ∷ bs)
lexemes_follow at b bs = read_on at b bs (lexeme_of b bs) (refl, lexeme_within b bs)

pub told_gap : (front : List Spot) (c : Counts) (all : Tokens) (text : List ℕ) (at len : ℕ)
    → tokens_behind front c (lexed_from 0 at (drop at text)) ≡ all → IsLexeme (drop at text) (Gap len)
    → tokens_behind front c (lexed_from 0 (at + len) (drop (at + len) text)) ≡ all
told_gap front c all text at len told here =
    ap (λ bs. tokens_behind front c (lexed_from 0 (at + len) bs)) (sym (drop-drop len at text))
    ∙ ap (tokens_behind front c) (gap_step (drop at text) at len here) ∙ told

pub told_found : (front : List Spot) (c d : Counts) (all : Tokens) (text : List ℕ) (at len : ℕ) (t : Token)
    → tokens_behind front c (lexed_from 0 at (drop at text)) ≡ all → IsLexeme (drop at text) (Found t len) → Some d ≡ behind_token t c
    → tokens_behind (front ++ record { token = t; at = at } ∷ []) d (lexed_from 0 (at + len) (drop (at + len) text)) ≡ all
told_found front c d all text at len t told here may =
    let spot : Spot = record { token = t; at = at } in
    ap (λ bs. tokens_behind (front ++ spot ∷ []) d (lexed_from 0 (at + len) bs)) (sym (drop-drop len at text))
    ∙ admitted_step front c d spot (lexed_from 0 (at + len) (drop len (drop at text))) may
    ∙ ap (tokens_behind front c) (found_step (drop at text) at len t here) ∙ told

pub told_deep : (front : List Spot) (c : Counts) (all : Tokens) (bytes : List ℕ) (at len : ℕ) (t : Token)
    → tokens_behind front c (lexed_from 0 at bytes) ≡ all → IsLexeme bytes (Found t len) → None ≡ behind_token t c
    → record { spots = front; cut = Some (record { fault = fault.Deep; at = at }) } ≡ all
told_deep front c all bytes at len t told here may =
    deep_step front c (record { token = t; at = at }) (lexed_from 0 (at + len) (drop len bytes)) may
    ∙ ap (tokens_behind front c) (found_step bytes at len t here) ∙ told

pub told_refused : (front : List Spot) (c : Counts) (all : Tokens) (bytes : List ℕ) (at : ℕ) (f : Fault)
    → tokens_behind front c (lexed_from 0 at bytes) ≡ all → IsLexeme bytes (Refused f)
    → record { spots = front; cut = Some (record { fault = f; at = at }) } ≡ all
told_refused front c all bytes at f told here =
    end_step front c (Some (record { fault = f; at = at })) ∙ ap (tokens_behind front c) (refused_step bytes at f here) ∙ told

pub told_end : (front : List Spot) (c : Counts) (all : Tokens) (text : List ℕ) (at : ℕ)
    → tokens_behind front c (lexed_from 0 at (drop at text)) ≡ all → length text ≤ at → record { spots = front; cut = None } ≡ all
unfolding lexed_from
told_end front c all text at told past =
    let e : drop at text ≡ [] = drop_of_length-le text past in
    end_step front c None ∙ ap (λ bs. tokens_behind front c (lexed_from 0 at bs)) (sym e) ∙ told
