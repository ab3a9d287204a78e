-- A text has no more tokens than bytes.
use Rattle.std.proofs.Common.{ℕ, zero, suc, ◌+◌, ◌-◌, ◌≤◌, List, [], ◌∷◌, length, None, Some, arith}
use Rattle.std.specs.declared.option.Option.{Option}
use Rattle.nona_lex.specs.declared.lexemes.Lexeme.{Lexeme}
use Rattle.nona_lex.specs.declared.lexemes.Lexeme.TheVariants.{Gap, Found, Refused}
use Rattle.nona_lex.specs.declared.tokens.Cut.{Cut}
use Rattle.nona_lex.specs.declared.tokens.Spot.{Spot}
use Rattle.nona_lex.specs.declared.tokens.Tokens.{Tokens}
use Rattle.nona_lex.specs.Bounds.{Counts, no_counts, behind_token, admitted, bounded_from, tokens_of}
use Rattle.nona_lex.specs.Lexis.{lexeme_of, goes_on, lexed_from, lexed}

-- a lexeme is one token at most
few_on : (p : Lexeme) (at n : ℕ) (later : ℕ → Tokens) → ((more : ℕ) → length (later more).spots ≤ n) → length (goes_on p at later).spots ≤ n + 1
few_on (Gap len) at n later few = let h = few (len - 1) in omega arith
few_on (Found t len) at n later few = let h = few (len - 1) in omega arith
few_on (Refused f) at n later few = omega arith

-- from each place on
few_from : (passed at : ℕ) (bs : List ℕ) → length (lexed_from passed at bs).spots ≤ length bs
unfolding lexed_from
few_from passed at [] = omega arith
few_from (suc passed) at (b ∷ bs) = let h = few_from passed (at + 1) bs in omega arith
few_from zero at (b ∷ bs) =
    let h = few_on (lexeme_of b bs) at (length bs) (λ more. lexed_from more (at + 1) bs) (λ more. few_from more (at + 1) bs) in omega arith

-- a token that may stand is one
few_admitted : (o : Option Counts) (x : Spot) (n : ℕ) (later : Counts → Tokens) → ((d : Counts) → length (later d).spots ≤ n) → length (admitted o x later).spots ≤ n + 1
few_admitted (Some d) x n later few = let h = few d in omega arith
few_admitted None x n later few = omega arith

-- the bounds leave tokens out, and add none
few_bounded : (d : Counts) (ss : List Spot) (cut : Option Cut) → length (bounded_from d ss cut).spots ≤ length ss
unfolding bounded_from
few_bounded d [] cut = omega arith
few_bounded d (x ∷ ss) cut =
    let h = few_admitted (behind_token x.token d) x (length ss) (λ e. bounded_from e ss cut) (λ e. few_bounded e ss cut) in omega arith

pub tokens_few : (text : List ℕ) → length (tokens_of text).spots ≤ length text
tokens_few text =
    let bounded = few_bounded no_counts (lexed text).spots (lexed text).cut in
    let from = few_from 0 0 text in
    omega arith
