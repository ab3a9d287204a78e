-- Which program a text is, and why it is none.
use Rattle.std.specs.Prelude.{◌≡◌, ◌≢◌, ◌⊎◌, ℕ, List, length, None, Some}
use Rattle.std.specs.declared.option.Option.{Option}
use Rattle.nona_tree.specs.declared.trees.Program.{Program}
use Rattle.nona_lex.specs.declared.tokens.Fault.{Fault}
use Rattle.nona_lex.specs.declared.tokens.Fault.TheVariants as lex
use Rattle.nona_lex.specs.declared.tokens.Cut.{Cut}
use Rattle.nona_lex.specs.declared.tokens.Spot.{Spot}
use Rattle.nona_lex.specs.Bounds.{tokens_of}
use Rattle.nona_grammar.specs.Faults.{IsViable, StopsAt, FirstFault, IsText}
use Rattle.nona_grammar.specs.Grammar.{IsProgram}
use Rattle.nona_parse.specs.declared.fault.ParseFault.{ParseFault}
use Rattle.nona_parse.specs.declared.fault.ParseFault.TheVariants.{Byte, Number, NameLong, Syntax, Deep, NoMemory}

-- the text is tokens to its end, and they are this program
abbrev pub IsReading : List ℕ → Program → Type 0
IsReading text p = ((tokens_of text).cut ≡ None) × IsProgram (tokens_of text).spots p

-- the cut of the token list is the answer where the tokens before it are the front of a program
abbrev pub IsCutAt : List ℕ → Fault → ℕ → Type 0
IsCutAt text fault at = ((tokens_of text).cut ≡ Some (record { fault = fault; at = at })) × IsViable IsText (tokens_of text).spots

-- the place of a fault of the tokens before a cut, or of all: with a cut one of them fits nowhere; without one, that or the end of the text comes too early
abbrev pub IsSyntaxBefore : Option Cut → ℕ → List Spot → ℕ → Type 0
IsSyntaxBefore None end spots at = FirstFault IsText end spots at
IsSyntaxBefore (Some c) end spots at = StopsAt IsText spots at

-- the place of a fault of the tokens of a text
abbrev pub IsSyntaxAt : List ℕ → ℕ → Type 0
IsSyntaxAt text at = IsSyntaxBefore (tokens_of text).cut (length text) (tokens_of text).spots at

-- why the text is no program; that memory ran out says nothing of the text
abbrev pub IsRefusal : List ℕ → ParseFault → Type 0
IsRefusal text (Byte at) = IsCutAt text lex.Byte at
IsRefusal text (Number at) = IsCutAt text lex.Number at
IsRefusal text (NameLong at) = IsCutAt text lex.NameLong at
IsRefusal text (Syntax at) = IsSyntaxAt text at
IsRefusal text (Deep at) = IsCutAt text lex.Deep at
IsRefusal text NoMemory = Unit {0}

-- a refusal that says why the text is no program
abbrev pub IsRefusedFor : List ℕ → ParseFault → Type 0
IsRefusedFor text fault = (fault ≢ NoMemory) × IsRefusal text fault

-- a text is a program, or it is refused for a reason
abbrev pub IsReadOrRefused : List ℕ → Type 0
IsReadOrRefused text = ((p : Program) × IsReading text p) ⊎ ((fault : ParseFault) × IsRefusedFor text fault)
