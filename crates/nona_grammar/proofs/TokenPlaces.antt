-- The tokens of a text stand one behind another.
use Rattle.std.proofs.Common.{ℕ, zero, suc, ◌+◌, ◌-◌, ◌≤◌, ◌<◌, List, [], ◌∷◌, None, Some, arith}
use Rattle.std.specs.declared.option.Option.{Option}
use Rattle.std.specs.List.{AllByRecursion}
use Rattle.nona_lex.specs.declared.lexemes.Lexeme.{Lexeme}
use Rattle.nona_lex.specs.declared.lexemes.Lexeme.TheVariants.{Gap, Found, Refused}
use Rattle.nona_lex.specs.declared.tokens.Cut.{Cut}
use Rattle.nona_lex.specs.declared.tokens.Spot.{Spot}
use Rattle.nona_lex.specs.declared.tokens.Tokens.{Tokens}
use Rattle.nona_lex.specs.Bounds.{Counts, no_counts, behind_token, admitted, bounded_from, tokens_of}
use Rattle.nona_lex.specs.Lexis.{lexeme_of, goes_on, lexed_from, lexed}
use Rattle.nona_tree.specs.Places.{AreRising}
use Rattle.nona_grammar.specs.Places.{token_places}

-- numbers that rise, and of which none is below n
abbrev pub RiseFrom : ℕ → List ℕ → Type 0
RiseFrom n [] = Unit {0}
RiseFrom n (x ∷ xs) = (n ≤ x) × RiseFrom (x + 1) xs

rise_from_less : (m n : ℕ) (l : List ℕ) → m ≤ n → RiseFrom n l → RiseFrom m l
rise_from_less m n [] less h = tt
rise_from_less m n (x ∷ xs) less h = (omega (arith, h.0), h.1)

rise_above : (m n : ℕ) (l : List ℕ) → m < n → RiseFrom n l → AllByRecursion (λ y. m < y) l
rise_above m n [] less h = tt
rise_above m n (x ∷ xs) less h = (omega (arith, h.0), rise_above m (x + 1) xs (omega (arith, h.0)) h.1)

rise_from : (n : ℕ) (l : List ℕ) → RiseFrom n l → AreRising l
rise_from n [] h = tt
rise_from n (x ∷ xs) h = (rise_above x (x + 1) xs (omega arith) h.1, rise_from (x + 1) xs h.1)

-- a token stands at its own place, and the later ones behind it
lexeme_rises : (lexeme : Lexeme) (at : ℕ) (later : ℕ → Tokens) → ((more : ℕ) → RiseFrom (at + 1) (token_places (later more).spots))
    → RiseFrom at (token_places (goes_on lexeme at later).spots)
lexeme_rises (Gap len) at later h = rise_from_less at (at + 1) _ (omega arith) (h (len - 1))
lexeme_rises (Found t len) at later h = (omega arith, h (len - 1))
lexeme_rises (Refused f) at later h = tt

-- from each place on
lexed_rise : (passed at : ℕ) (bs : List ℕ) → RiseFrom at (token_places (lexed_from passed at bs).spots)
unfolding lexed_from
lexed_rise passed at [] = tt
lexed_rise (suc passed) at (b ∷ bs) = rise_from_less at (at + 1) _ (omega arith) (lexed_rise passed (at + 1) bs)
lexed_rise zero at (b ∷ bs) = lexeme_rises (lexeme_of b bs) at (λ more. lexed_from more (at + 1) bs) (λ more. lexed_rise more (at + 1) bs)

admitted_rise : (n : ℕ) (o : Option Counts) (x : Spot) (later : Counts → Tokens) → n ≤ x.at
    → ((d : Counts) → RiseFrom (x.at + 1) (token_places (later d).spots)) → RiseFrom n (token_places (admitted o x later).spots)
admitted_rise n (Some d) x later from h = (from, h d)
admitted_rise n None x later from h = tt

-- the bounds leave tokens out, and move none
bounded_rise : (n : ℕ) (d : Counts) (ss : List Spot) (cut : Option Cut) → RiseFrom n (token_places ss) → RiseFrom n (token_places (bounded_from d ss cut).spots)
unfolding bounded_from
bounded_rise n d [] cut h = tt
bounded_rise n d (x ∷ ss) cut h =
    admitted_rise n (behind_token x.token d) x (λ e. bounded_from e ss cut) h.0 (λ e. bounded_rise (x.at + 1) e ss cut h.1)

pub tokens_rise : (text : List ℕ) → AreRising (token_places (tokens_of text).spots)
tokens_rise text = rise_from 0 _ (bounded_rise 0 no_counts (lexed text).spots (lexed text).cut (lexed_rise 0 0 text))
