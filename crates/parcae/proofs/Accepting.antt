-- A text is one accepted program at most, and an accepted one is not refused.
use Rattle.std.proofs.Common.{◌≡◌, ℕ, List, [], ◌∷◌, ◌++◌, None, Some, append_assoc, ap, sym, ◌∙◌, subst, inl, inr, arith}
use Rattle.std.specs.Prelude.{Contains}
use Rattle.std.specs.declared.option.Option.{Option}
use Rattle.nona_lex.specs.declared.tokens.Cut.{Cut}
use Rattle.nona_lex.specs.declared.tokens.Spot.{Spot}
use Rattle.nona_lex.specs.declared.tokens.Fault.{Fault}
use Rattle.nona_lex.specs.Bounds.{tokens_of}
use Rattle.nona_grammar.specs.Faults.{StopsAt, FirstFault, IsText}
use Rattle.nona_tree.specs.declared.faults.ProgramFault.{ProgramFault}
use Rattle.nona_tree.specs.declared.trees.Program.{Program}
use Rattle.nona_tree.specs.Faults.{faults_of}
use Rattle.nona_tree.specs.Ids.{ids_of}
use Rattle.nona_parse.specs.Reading.{IsReading, IsCutAt, IsSyntaxBefore}
use Rattle.parcae.specs.declared.refusal.Kind.TheVariants as kind
use Rattle.parcae.specs.declared.refusal.Refusal.{Refusal}
use Rattle.parcae.specs.Accepted.{IsAccepted, HasFault}
use Rattle.parcae.specs.Files.{RefusesProgram, program_text}

-- no text is read as two trees, so none has two trees with ids
pub one_accepted : ((text : List ℕ) (p q : Program) → IsReading text p → IsReading text q → p ≡ q)
    → (text : List ℕ) (a b : Program) → IsAccepted text a → IsAccepted text b → a ≡ b
one_accepted one text a b x y = x.3 ∙ ap ids_of (one text x.0 y.0 x.1 y.1) ∙ sym y.3

-- the text of a program has no cut
uncut : (text : List ℕ) (p : Program) (fault : Fault) (at : ℕ) → IsReading text p → IsCutAt text fault at → ⊥
uncut text p fault at reading cut =
    let is : None ≡ Some (record { fault = fault; at = at }) = sym reading.0 ∙ cut.0 in
    cc

-- an item between two lists stands at the end of the first
front_with : (front : List Spot) (x : Spot) (later : List Spot) → front ++ x ∷ later ≡ (front ++ x ∷ []) ++ later
front_with front x later = sym (append_assoc front (x ∷ []) later)

-- tokens that are a text of a kind don't stop being a front of one
unstopped : (kind : List Spot → Type 0) (ss : List Spot) (at : ℕ) → kind ss → StopsAt kind ss at → ⊥
unstopped kind ss at is (front, x, later, split, place, before, not_with) =
    not_with (later, subst kind (split ∙ front_with front x later) is)

-- the program's text is no place of a fault
faultless_at : (end : ℕ) (ss : List Spot) (at : ℕ) → IsText ss → FirstFault IsText end ss at → ⊥
faultless_at end ss at is (inl stops) = unstopped IsText ss at is stops
faultless_at end ss at is (inr short) = short.1.1 is

-- the same of the tokens before a cut, or of all
faultless_before : (cut : Option Cut) (end : ℕ) (ss : List Spot) (at : ℕ) → IsText ss → IsSyntaxBefore cut end ss at → ⊥
faultless_before None end ss at is h = faultless_at end ss at is h
faultless_before (Some c) end ss at is h = unstopped IsText ss at is h

-- nothing stands in an empty list
none_in : (fault : ProgramFault) → Contains [] fault → ⊥
none_in fault h = absurd (omega (arith, h.1))

-- no fault stands in an accepted program
faultless : (text : List ℕ) (tree : Program) (fault : ProgramFault)
    → ((p q : Program) → IsReading text p → IsReading text q → p ≡ q) → IsAccepted text tree → HasFault text fault → ⊥
faultless text tree fault one accepted (read, reading, first) =
    let same : read ≡ accepted.0 = one read accepted.0 reading accepted.1 in
    let empty : faults_of read ≡ [] = ap faults_of same ∙ accepted.2 in
    none_in fault (subst (λ (l : List ProgramFault). Contains l fault) empty first.0)

-- an accepted text is not refused
pub not_refused : (text : List ℕ) (tree : Program) → ((p q : Program) → IsReading text p → IsReading text q → p ≡ q)
    → IsAccepted text tree → (r : Refusal) → RefusesProgram text r → ⊥
not_refused text tree one accepted r (program_text kind.Byte at h) = uncut text accepted.0 _ at accepted.1 h
not_refused text tree one accepted r (program_text kind.Number at h) = uncut text accepted.0 _ at accepted.1 h
not_refused text tree one accepted r (program_text kind.NameLong at h) = uncut text accepted.0 _ at accepted.1 h
not_refused text tree one accepted r (program_text kind.Syntax at h) =
    faultless_before (tokens_of text).cut _ (tokens_of text).spots at (accepted.0, accepted.1.1) h
not_refused text tree one accepted r (program_text kind.Deep at h) = uncut text accepted.0 _ at accepted.1 h
not_refused text tree one accepted r (program_text kind.Unknown at h) = faultless text tree _ one accepted h
not_refused text tree one accepted r (program_text kind.Twice at h) = faultless text tree _ one accepted h
not_refused text tree one accepted r (program_text kind.KindWrong at h) = faultless text tree _ one accepted h
not_refused text tree one accepted r (program_text kind.IndexAssigned at h) = faultless text tree _ one accepted h
not_refused text tree one accepted r (program_text kind.InputWritten at h) = faultless text tree _ one accepted h
not_refused text tree one accepted r (program_text kind.Cells at h) = faultless text tree _ one accepted h
not_refused text tree one accepted r (program_text kind.Units at h) = faultless text tree _ one accepted h
