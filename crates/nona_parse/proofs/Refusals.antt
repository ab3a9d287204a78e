-- What the machine makes of tokens, in words of the grammar, and that a text that is a program is refused for want of memory alone.
use Rattle.std.proofs.Common.{◌≡◌, ℕ, ◌+◌, ◌^◌, ◌<◌, ◌≤◌, List, length, [], ◌∷◌, ◌++◌, refl, ap, sym, ◌∙◌, subst, append_assoc, append-nil, Ok, Err, None, Some, inl, inr, arith}
use Rattle.std.specs.Prelude.{◌⊎◌, MatchResult}
use Rattle.std.specs.declared.option.Option.{Option}
use Rattle.std.specs.declared.result.Result.{Result}
use Rattle.nona_lex.specs.declared.bounds.TheConstants.{BRACKETS}
use Rattle.nona_lex.specs.Bounds.{bounded, tokens_of}
use Rattle.nona_lex.specs.Lexis.{lexed}
use Rattle.nona_lex.specs.declared.tokens.Cut.{Cut}
use Rattle.nona_lex.specs.declared.tokens.Fault.{Fault}
use Rattle.nona_lex.specs.declared.tokens.Fault.TheVariants as lex
use Rattle.nona_lex.specs.declared.tokens.Spot.{Spot}
use Rattle.nona_lex.specs.declared.tokens.Tokens.{Tokens}
use Rattle.nona_tree.specs.Smallness.{IsSmall, size_of, nesting_of}
use Rattle.nona_tree.specs.declared.trees.Program.{Program}
use Rattle.nona_tree.specs.declared.trees.Stmt.{Stmt}
use Rattle.nona_grammar.specs.Faults.{IsViable, StopsAt, IsShort, FirstFault, IsText, FaultAt}
use Rattle.nona_grammar.specs.Grammar.{IsProgram}
use Rattle.nona_grammar.specs.Machine.{built}
use Rattle.nona_grammar.specs.Stack.{Trees, whole_of}
use Rattle.nona_parse.specs.declared.fault.ParseFault.{ParseFault}
use Rattle.nona_parse.specs.declared.fault.ParseFault.TheVariants as parse
use Rattle.nona_parse.specs.declared.fault.ReadFault.{ReadFault}
use Rattle.nona_parse.specs.declared.fault.ReadFault.TheVariants.{Syntax, Ended, NoMemory}
use Rattle.nona_parse.specs.Reading.{IsReading, IsRefusal, IsCutAt, IsSyntaxBefore}
use Rattle.nona_parse.specs.Steps.{IsStuck, IsUnread, refusal_of}

-- the law that no list of tokens is read as what is no program
abbrev pub Sound : Type 0
Sound = (end : ℕ) (ss : List Spot) (out : Trees) → built end ss ≡ Ok out → (p : Program) × IsProgram ss p × (out ≡ whole_of p)

-- the law of the machine's faults
abbrev pub Exact : Type 0
Exact = (end : ℕ) (ss : List Spot) (at : ℕ) → built end ss ≡ Err at → FaultAt end ss at

-- the outermost block
outermost : List (List Stmt) → List Stmt
outermost [] = []
outermost (b ∷ bs) = b

-- trees of a whole program are of no other
one_whole : (p q : Program) → whole_of p ≡ whole_of q → q ≡ p
unfolding outermost
one_whole p q is = ap (λ (v : Trees). record { arrays = v.arrays; vars = v.vars; body = outermost v.blocks }) (sym is)

-- what the machine reads is a program
pub read_sound : Sound → (ss : List Spot) (p : Program) → ((end : ℕ) → built end ss ≡ Ok (whole_of p)) → IsProgram ss p
read_sound sound ss p built = let s = sound 0 ss (whole_of p) (built 0) in subst (λ q. IsProgram ss q) (one_whole p s.0 s.2) s.1

-- a place behind those of all tokens
beyond : List Spot → ℕ
beyond [] = 0
beyond (x ∷ ss) = x.at + 1 + beyond ss

-- no token stands there
before_beyond : (front : List Spot) (x : Spot) (later : List Spot) → x.at < beyond (front ++ x ∷ later)
unfolding beyond
before_beyond [] x later = omega arith
before_beyond (y ∷ front) x later = let h = before_beyond front x later in omega arith

not_beyond : (ss : List Spot) → StopsAt IsText ss (beyond ss) → ⊥
not_beyond ss (front, x, later, is, at, front_is, none) =
    let lt : x.at < beyond ss = subst (λ l. x.at < beyond l) (sym is) (before_beyond front x later) in omega (arith, at, lt)

-- where the machine is stuck at a token whatever place the end has, that token fits nowhere; at the end, the tokens are short
pub stuck_exact : Exact → (f : ReadFault) (ss : List Spot) → IsStuck f ss → IsUnread f ss
stuck_exact exact NoMemory ss stuck = tt
stuck_exact exact Ended ss stuck = at_end (exact (beyond ss) ss (beyond ss) (stuck (beyond ss)))
  where
    at_end : FaultAt (beyond ss) ss (beyond ss) → IsShort IsText ss
    at_end (inl stops) = absurd (not_beyond ss stops)
    at_end (inr short) = short.1
stuck_exact exact (Syntax at) ss stuck = at_token (exact (at + 1) ss at (stuck (at + 1)))
  where
    at_token : FaultAt (at + 1) ss at → StopsAt IsText ss at
    at_token (inl stops) = stops
    at_token (inr short) = let h : at ≡ at + 1 = short.0 in absurd (omega (arith, h))

-- no token of a program fits nowhere
no_stop : (ss : List Spot) (at : ℕ) → IsText ss → StopsAt IsText ss at → ⊥
no_stop ss at text (front, x, later, is, at_is, front_is, none) =
    none (later, subst (λ (l : List Spot). IsText l) (is ∙ sym (append_assoc front (x ∷ []) later)) text)

-- and a program is not short of a token
no_fault : (end : ℕ) (ss : List Spot) (at : ℕ) → IsText ss → FirstFault IsText end ss at → ⊥
no_fault end ss at text (inl stops) = no_stop ss at text stops
no_fault end ss at text (inr short) = short.1.1 text

no_syntax : (cut : Option Cut) (end : ℕ) (ss : List Spot) (at : ℕ) → IsText ss → IsSyntaxBefore cut end ss at → ⊥
no_syntax None end ss at text fault = no_fault end ss at text fault
no_syntax (Some c) end ss at text fault = no_stop ss at text fault

no_cut : (text : List ℕ) (p : Program) (f : Fault) (at : ℕ) → IsReading text p → IsCutAt text f at → ⊥
no_cut text p f at read cut = let none = read.0 in let some = cut.0 in absurd (cc (none, some))

-- a text that is a program is refused for want of memory alone
pub refused_program : (text : List ℕ) (p : Program) (f : ParseFault) → IsReading text p → IsRefusal text f → f ≡ parse.NoMemory
refused_program text p (parse.Byte at) read refusal = absurd (no_cut text p _ at read refusal)
refused_program text p (parse.Number at) read refusal = absurd (no_cut text p _ at read refusal)
refused_program text p (parse.NameLong at) read refusal = absurd (no_cut text p _ at read refusal)
refused_program text p (parse.Deep at) read refusal = absurd (no_cut text p _ at read refusal)
refused_program text p (parse.Syntax at) read refusal = absurd (no_syntax (tokens_of text).cut _ (tokens_of text).spots at (p, read.1) refusal)
refused_program text p parse.NoMemory read refusal = refl

-- the tokens before a cut are refused for its fault
pub cut_refused : (text : List ℕ) (f : Fault) (at : ℕ) → Some (record { fault = f; at = at }) ≡ (tokens_of text).cut → IsViable IsText (tokens_of text).spots
    → IsRefusal text (refusal_of f at)
cut_refused text lex.Byte at is front = (sym is, front)
cut_refused text lex.Number at is front = (sym is, front)
cut_refused text lex.NameLong at is front = (sym is, front)
cut_refused text lex.Deep at is front = (sym is, front)

-- a program is the front of one
pub whole_front : (ss : List Spot) (p : Program) → IsProgram ss p → IsViable IsText ss
whole_front ss p program = ([], (p, subst (λ (l : List Spot). IsProgram l p) (sym (append-nil ss)) program))

-- the law that no tokens are two programs
abbrev pub OneTree : Type 0
OneTree = (ss : List Spot) (p q : Program) → IsProgram ss p → IsProgram ss q → p ≡ q

-- each program is read, where memory suffices
pub every_read : OneTree → (text : List ℕ) (r : Result Program ParseFault) → MatchResult r (λ p. IsReading text p) (λ f. IsRefusal text f)
    → (p : Program) → IsReading text p → (r ≡ Ok p) ⊎ (r ≡ Err parse.NoMemory)
every_read one text (Ok q) read p is = inl (ap Ok (one (tokens_of text).spots q p read.1 is.1))
every_read one text (Err f) refusal p is = inr (ap Err (refused_program text p f is refusal))

-- the law that the tokens of a text are no more than its bytes
abbrev pub Few : Type 0
Few = (text : List ℕ) → length (tokens_of text).spots ≤ length text

-- the laws of the size and the nesting of a program
abbrev pub FitsTokens : Type 0
FitsTokens = (ss : List Spot) (p : Program) → IsProgram ss p → size_of p ≤ length ss

abbrev pub FitsBrackets : Type 0
FitsBrackets = (tokens : Tokens) (p : Program) → IsProgram (bounded tokens).spots p → nesting_of p ≤ BRACKETS

-- the program of a text of at most 2^20 bytes is small
pub small_program : Few → FitsTokens → FitsBrackets → (text : List ℕ) (p : Program) → length text ≤ 2 ^ 20 → IsReading text p → IsSmall p
small_program few size nesting text p short read =
    let tokens = few text in
    let fits = size (tokens_of text).spots p read.1 in
    (omega (arith, tokens, fits, short), nesting (lexed text) p read.1)

-- what was answered of the tokens of a text
pub answered : (text : List ℕ) (tokens : Tokens) (spots : List Spot) (read : Result Program ReadFault) (r : Result Program ParseFault) → tokens ≡ tokens_of text → spots ≡ tokens.spots
    → MatchResult read (λ p. IsProgram spots p) (λ f. IsUnread f spots)
    → ((t : List ℕ) → length text ≡ length t → tokens.cut ≡ (tokens_of t).cut → MatchResult read (λ p. IsProgram (tokens_of t).spots p) (λ f. IsUnread f (tokens_of t).spots)
    → MatchResult r (λ p. IsReading t p) (λ f. IsRefusal t f))
    → MatchResult r (λ p. IsReading text p) (λ f. IsRefusal text f)
answered text tokens spots read r exact whole read_is answer =
    let is : spots ≡ (tokens_of text).spots = whole ∙ ap (λ (t : Tokens). t.spots) exact in
    answer text refl (ap (λ (t : Tokens). t.cut) exact) (subst (λ ss. MatchResult read (λ p. IsProgram ss p) (λ f. IsUnread f ss)) is read_is)
