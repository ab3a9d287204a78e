-- A text is a program, or it is refused for one reason.
use Rattle.std.proofs.Common.{◌≡◌, ℕ, List, length, [], ◌∷◌, ◌++◌, ap, sym, ◌∙◌, subst, append_assoc, Ok, Err, None, Some, inl, inr, refl}
use Rattle.std.specs.Prelude.{◌⊎◌}
use Rattle.std.specs.declared.option.Option.{Option}
use Rattle.std.specs.declared.result.Result.{Result}
use Rattle.nona_lex.specs.Bounds.{tokens_of}
use Rattle.nona_lex.specs.declared.tokens.Cut.{Cut}
use Rattle.nona_lex.specs.declared.tokens.Fault.{Fault}
use Rattle.nona_lex.specs.declared.tokens.Fault.TheVariants as lex
use Rattle.nona_lex.specs.declared.tokens.Spot.{Spot}
use Rattle.nona_tree.specs.declared.trees.Program.{Program}
use Rattle.nona_grammar.specs.Faults.{IsViable, StopsAt, IsShort, FirstFault, IsText, FaultAt}
use Rattle.nona_grammar.specs.Grammar.{IsProgram}
use Rattle.nona_grammar.specs.Machine.{built}
use Rattle.nona_grammar.specs.Stack.{Trees}
use Rattle.nona_parse.specs.declared.fault.ParseFault.{ParseFault}
use Rattle.nona_parse.specs.declared.fault.ParseFault.TheVariants as parse
use Rattle.nona_parse.specs.Reading.{IsReading, IsCutAt, IsSyntaxAt, IsSyntaxBefore, IsRefusedFor, IsReadOrRefused}
use Rattle.nona_parse.specs.Steps.{refusal_of}
use Rattle.nona_parse.proofs.Refusals.{Sound, Exact, whole_front, cut_refused, refused_program}

-- ---- one reason

-- the first of a list
first_of : Spot → List Spot → Spot
first_of x [] = x
first_of x (y ∷ ss) = y

rest_of : List Spot → List Spot
rest_of [] = []
rest_of (y ∷ ss) = ss

same_first : (x y : Spot) (ls bs : List Spot) → (x ∷ ls) ≡ (y ∷ bs) → x ≡ y
unfolding first_of
same_first x y ls bs is = ap (first_of x) is

same_rest : (x y : Spot) (ls bs : List Spot) → (x ∷ ls) ≡ (y ∷ bs) → ls ≡ bs
unfolding rest_of
same_rest x y ls bs is = ap rest_of is

-- the token where a list stops is one
stops_once : (kind : List Spot → Type 0) (a b : List Spot) (x y : Spot) (ls bs : List Spot) → (a ++ x ∷ ls) ≡ (b ++ y ∷ bs)
    → IsViable kind a → (IsViable kind (a ++ x ∷ []) → ⊥) → IsViable kind b → (IsViable kind (b ++ y ∷ []) → ⊥) → x ≡ y
stops_once kind [] [] x y ls bs is fa na fb nb = same_first x y ls bs is
stops_once kind [] (t ∷ b) x y ls bs is fa na (more, text) nb =
    absurd (na (b ++ more, subst (λ u. kind (u ∷ (b ++ more))) (sym (same_first x t ls (b ++ y ∷ bs) is)) text))
stops_once kind (s ∷ a) [] x y ls bs is (more, text) na fb nb =
    absurd (nb (a ++ more, subst (λ u. kind (u ∷ (a ++ more))) (same_first s y (a ++ x ∷ ls) bs is) text))
stops_once kind (s ∷ a) (t ∷ b) x y ls bs is fa na fb nb =
    let e : t ≡ s = sym (same_first s t (a ++ x ∷ ls) (b ++ y ∷ bs) is) in
    let fb' : IsViable kind (s ∷ b) = subst (λ u. IsViable kind (u ∷ b)) e fb in
    let nb' : IsViable kind (s ∷ (b ++ y ∷ [])) → ⊥ = subst (λ u. IsViable kind (u ∷ (b ++ y ∷ [])) → ⊥) e nb in
    stops_once (λ l. kind (s ∷ l)) a b x y ls bs (same_rest s t (a ++ x ∷ ls) (b ++ y ∷ bs) is) fa na fb' nb'

same_stop : (ss : List Spot) (f g : ℕ) → StopsAt IsText ss f → StopsAt IsText ss g → f ≡ g
same_stop ss f g (a, x, ls, is, at, front, none) (b, y, bs, is', at', front', none') =
    at ∙ ap (λ (s : Spot). s.at) (stops_once IsText a b x y ls bs (sym is ∙ is') front none front' none') ∙ sym at'

-- a list that is the front of a program stops nowhere
front_goes_on : (ss : List Spot) (at : ℕ) → IsViable IsText ss → StopsAt IsText ss at → ⊥
front_goes_on ss at (more, text) (front, x, later, is, at_is, front_is, none) =
    none (later ++ more, subst (λ (l : List Spot). IsText l) (ap (λ (l : List Spot). l ++ more) is ∙ append_assoc front (x ∷ later) more ∙ sym (append_assoc front (x ∷ []) (later ++ more))) text)

same_fault : (end : ℕ) (ss : List Spot) (f g : ℕ) → FirstFault IsText end ss f → FirstFault IsText end ss g → f ≡ g
same_fault end ss f g (inl a) (inl b) = same_stop ss f g a b
same_fault end ss f g (inl a) (inr b) = absurd (front_goes_on ss f b.1.0 a)
same_fault end ss f g (inr a) (inl b) = absurd (front_goes_on ss g a.1.0 b)
same_fault end ss f g (inr a) (inr b) = a.0 ∙ sym b.0

same_syntax : (cut : Option Cut) (end : ℕ) (ss : List Spot) (f g : ℕ) → IsSyntaxBefore cut end ss f → IsSyntaxBefore cut end ss g → f ≡ g
same_syntax None end ss f g a b = same_fault end ss f g a b
same_syntax (Some c) end ss f g a b = same_stop ss f g a b

-- a reason is the cut, or a token that fits nowhere
abbrev pub Reason : List ℕ → ParseFault → Type 0
Reason text f =
    ((fault : Fault) × (at : ℕ) × IsCutAt text fault at × (f ≡ refusal_of fault at)) ⊎ ((at : ℕ) × IsSyntaxAt text at × (f ≡ parse.Syntax at))

reason_of : (text : List ℕ) (f : ParseFault) → IsRefusedFor text f → Reason text f
reason_of text (parse.Byte at) r = inl (lex.Byte, at, r.1, refl)
reason_of text (parse.Number at) r = inl (lex.Number, at, r.1, refl)
reason_of text (parse.NameLong at) r = inl (lex.NameLong, at, r.1, refl)
reason_of text (parse.Deep at) r = inl (lex.Deep, at, r.1, refl)
reason_of text (parse.Syntax at) r = inr (at, r.1, refl)
reason_of text parse.NoMemory r = absurd (r.0 refl)

refusal_at : Option Cut → ParseFault
refusal_at None = parse.NoMemory
refusal_at (Some c) = refusal_of c.fault c.at

same_cut : (text : List ℕ) (f g : Fault) (m n : ℕ) → IsCutAt text f m → IsCutAt text g n → refusal_of f m ≡ refusal_of g n
unfolding refusal_at
same_cut text f g m n a b = ap refusal_at (sym a.0 ∙ b.0)

no_syntax_at_cut : (text : List ℕ) (f : Fault) (m n : ℕ) → IsCutAt text f m → IsSyntaxAt text n → ⊥
no_syntax_at_cut text f m n cut syntax =
    front_goes_on (tokens_of text).spots n cut.1 (subst (λ c. IsSyntaxBefore c (length text) (tokens_of text).spots n) cut.0 syntax)

same_reason : (text : List ℕ) (f g : ParseFault) → Reason text f → Reason text g → f ≡ g
same_reason text f g (inl (fault, m, cut, is)) (inl (fault', n, cut', is')) = is ∙ same_cut text fault fault' m n cut cut' ∙ sym is'
same_reason text f g (inl (fault, m, cut, is)) (inr (n, syntax, is')) = absurd (no_syntax_at_cut text fault m n cut syntax)
same_reason text f g (inr (m, syntax, is)) (inl (fault, n, cut, is')) = absurd (no_syntax_at_cut text fault n m cut syntax)
same_reason text f g (inr (m, syntax, is)) (inr (n, syntax', is')) =
    is ∙ ap (λ at. parse.Syntax at) (same_syntax (tokens_of text).cut (length text) (tokens_of text).spots m n syntax syntax') ∙ sym is'

pub one_reason : (text : List ℕ) (f g : ParseFault) → IsRefusedFor text f → IsRefusedFor text g → f ≡ g
one_reason text f g a b = same_reason text f g (reason_of text f a) (reason_of text g b)

-- ---- no reason

pub program_kept : (text : List ℕ) (p : Program) (f : ParseFault) → IsReading text p → IsRefusedFor text f → ⊥
program_kept text p f read refused = refused.0 (refused_program text p f read refused.1)

-- ---- some reason

-- no refusal for a cut is for want of memory
cut_is_reason : (fault : Fault) (at : ℕ) → refusal_of fault at ≡ parse.NoMemory → ⊥
cut_is_reason lex.Byte at e = absurd (cc)
cut_is_reason lex.Number at e = absurd (cc)
cut_is_reason lex.NameLong at e = absurd (cc)
cut_is_reason lex.Deep at e = absurd (cc)

syntax_is_reason : (at : ℕ) → parse.Syntax at ≡ parse.NoMemory → ⊥
syntax_is_reason at e = absurd (cc)

-- at a cut behind the front of a program
at_cut : (text : List ℕ) (c : Cut) → (tokens_of text).cut ≡ Some c → IsViable IsText (tokens_of text).spots → IsReadOrRefused text
at_cut text c is front = inr (refusal_of c.fault c.at, (cut_is_reason c.fault c.at, cut_refused text c.fault c.at (sym is) front))

-- at a token that fits nowhere
at_token : (text : List ℕ) (at : ℕ) → IsSyntaxAt text at → IsReadOrRefused text
at_token text at syntax = inr (parse.Syntax at, (syntax_is_reason at, syntax))

-- what becomes of tokens, by their cut
by_program : (text : List ℕ) (o : Option Cut) → (tokens_of text).cut ≡ o → (p : Program) → IsProgram (tokens_of text).spots p → IsReadOrRefused text
by_program text None is p program = inl (p, (is, program))
by_program text (Some c) is p program = at_cut text c is (whole_front (tokens_of text).spots p program)

by_stop : (text : List ℕ) (o : Option Cut) → (tokens_of text).cut ≡ o → (at : ℕ) → StopsAt IsText (tokens_of text).spots at → IsReadOrRefused text
by_stop text None is at stops =
    at_token text at (subst (λ c. IsSyntaxBefore c (length text) (tokens_of text).spots at) (sym is) (inl stops))
by_stop text (Some c) is at stops =
    at_token text at (subst (λ c. IsSyntaxBefore c (length text) (tokens_of text).spots at) (sym is) stops)

by_short : (text : List ℕ) (o : Option Cut) → (tokens_of text).cut ≡ o → IsShort IsText (tokens_of text).spots → IsReadOrRefused text
by_short text None is short =
    at_token text (length text) (subst (λ c. IsSyntaxBefore c (length text) (tokens_of text).spots (length text)) (sym is) (inr (refl, short)))
by_short text (Some c) is short = at_cut text c is short.0

by_fault : (text : List ℕ) (at : ℕ) → FaultAt (length text) (tokens_of text).spots at → IsReadOrRefused text
by_fault text at (inl stops) = by_stop text (tokens_of text).cut refl at stops
by_fault text at (inr short) = by_short text (tokens_of text).cut refl short.1

by_built : Sound → Exact → (text : List ℕ) (r : Result Trees ℕ) → built (length text) (tokens_of text).spots ≡ r → IsReadOrRefused text
by_built sound exact text (Ok out) is =
    let s = sound (length text) (tokens_of text).spots out is in by_program text (tokens_of text).cut refl s.0 s.1
by_built sound exact text (Err at) is = by_fault text at (exact (length text) (tokens_of text).spots at is)

pub read_or_refused : Sound → Exact → (text : List ℕ) → IsReadOrRefused text
read_or_refused sound exact text = by_built sound exact text (built (length text) (tokens_of text).spots) refl
