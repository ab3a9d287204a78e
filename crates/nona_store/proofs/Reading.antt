-- The numbers of an input, token by token.
use Rattle.std.proofs.Common.{◌≡◌, ℕ, zero, suc, ◌+◌, ◌-◌, ◌≤◌, Bool, true, false, nat_lt, List, [], ◌∷◌, ◌++◌, length, ℤ, cond, refl, ap, sym, ◌∙◌, arith, None, Some, Ok, Err, append_assoc}
use Rattle.std.specs.declared.option.Option.{Option}
use Rattle.std.specs.declared.result.Result.{Result}
use Rattle.std.proofs.lemmas.Bool.{ltb-true, ltb-false}
use Rattle.std.proofs.lemmas.List.{append-nil, length_push}
use Rattle.nona_text.specs.Bytes.{is_blank}
use Rattle.nona_text.specs.declared.pieces.FirstPiece.{FirstPiece}
use Rattle.nona_text.specs.Pieces.{Piece, pieces_from}
use Rattle.nona_text.specs.Digits.{signed_of}
use Rattle.nona_text.specs.Fronts.{IsFront}
use Rattle.nona_store.specs.declared.input.InputFault.{InputFault}
use Rattle.nona_store.specs.declared.input.InputFault.TheVariants.{Count}
use Rattle.nona_store.specs.Input.{number_bound, then_numbers, or_token, numbers_from, added, with_token}

-- these numbers, and then those of later pieces
abbrev pub behind : List ℤ → Result (List ℤ) InputFault → Result (List ℤ) InputFault
behind front (Ok later) = Ok (front ++ later)
behind front (Err fault) = Err fault

-- these numbers, and then those of the bytes from a place on
abbrev pub all_numbers : List ℤ → ℕ → List ℕ → Result (List ℤ) InputFault
all_numbers front at bytes = behind front (numbers_from (number_bound - length front) (pieces_from is_blank false at bytes))

-- a number before the later ones is one behind the others
moved : (front : List ℤ) (v : ℤ) (later : Result (List ℤ) InputFault) → behind (front ++ v ∷ []) later ≡ behind front (then_numbers v later)
moved front v (Ok later) = ap (λ (l : List ℤ). Ok l) (append_assoc front (v ∷ []) later)
moved front v (Err fault) = refl

-- a token is one number more, or it ends the list
one_more : (front next : List ℤ) (o : Option ℤ) (at : ℕ) → added front o at ≡ Ok next → length next ≡ length front + 1
one_more front next (Some v) at e =
    let whole : front ++ v ∷ [] ≡ next = cc in
    sym (ap length whole) ∙ length_push front v
one_more front next None at e = absurd (cc)

goes_on : (front next : List ℤ) (o : Option ℤ) (at : ℕ) (later : Result (List ℤ) InputFault)
    → added front o at ≡ Ok next → behind next later ≡ behind front (or_token o at later)
goes_on front next (Some v) at later e =
    let whole : front ++ v ∷ [] ≡ next = cc in
    ap (λ (l : List ℤ). behind l later) (sym whole) ∙ moved front v later
goes_on front next None at later e = absurd (cc)

ends : (front : List ℤ) (o : Option ℤ) (at : ℕ) (later : Result (List ℤ) InputFault) (fault : InputFault)
    → added front o at ≡ Err fault → behind front (or_token o at later) ≡ Err fault
ends front (Some v) at later fault e = absurd (cc)
ends front None at later fault e = e

-- the same, where a number more may be there or may not
admitted : (front next : List ℤ) (at : ℕ) (token : List ℕ) (t : Bool) → nat_lt (length front) number_bound ≡ t
    → cond t (added front (signed_of token) at) (Err Count) ≡ Ok next
    → (length next ≤ number_bound) × ((ps : List Piece) → behind next (numbers_from (number_bound - length next) ps)
    ≡ behind front (numbers_from (number_bound - length front) (record { at = at; bytes = token } ∷ ps)))
admitted front next at token true t e =
    let few = ltb-true _ _ t in
    let more = one_more front next (signed_of token) at e in
    let room : number_bound - length front ≡ suc (number_bound - length next) = omega arith in
    (omega arith, λ ps. rw room (goes_on front next (signed_of token) at (numbers_from (number_bound - length next) ps) e))
admitted front next at token false t e = absurd (cc)

refused : (front : List ℤ) (at : ℕ) (token : List ℕ) (fault : InputFault) (t : Bool) → nat_lt (length front) number_bound ≡ t
    → cond t (added front (signed_of token) at) (Err Count) ≡ Err fault
    → (ps : List Piece) → behind front (numbers_from (number_bound - length front) (record { at = at; bytes = token } ∷ ps)) ≡ Err fault
refused front at token fault true t e ps =
    let few = ltb-true _ _ t in
    let room : number_bound - length front ≡ suc (number_bound - length front - 1) = omega arith in
    rw room (ends front (signed_of token) at (numbers_from (number_bound - length front - 1) ps) fault e)
refused front at token fault false t e ps =
    let many = ltb-false _ _ t in
    let room : number_bound - length front ≡ zero = omega arith in
    rw room e

-- a turn of the loop
pub told_token : (front next : List ℤ) (all : Result (List ℤ) InputFault) (at : ℕ) (rest : List ℕ) (first : FirstPiece)
    → all_numbers front at rest ≡ all → IsFront is_blank rest first → with_token front (at + first.blanks) first.bytes.now ≡ Ok next
    → (length next ≤ number_bound) × (all_numbers next (at + first.blanks + length first.bytes.now) first.behind.now ≡ all)
told_token front next all at rest first told here e =
    let step = admitted front next (at + first.blanks) first.bytes.now (nat_lt (length front) number_bound) refl e in
    (step.0, step.1 _ ∙ ap (λ ps. behind front (numbers_from (number_bound - length front) ps)) (sym (here.pieces at)) ∙ told)

pub told_refused : (front : List ℤ) (all : Result (List ℤ) InputFault) (at : ℕ) (rest : List ℕ) (first : FirstPiece) (fault : InputFault)
    → all_numbers front at rest ≡ all → IsFront is_blank rest first → with_token front (at + first.blanks) first.bytes.now ≡ Err fault
    → all ≡ Err fault
told_refused front all at rest first fault told here e =
    sym told ∙ ap (λ ps. behind front (numbers_from (number_bound - length front) ps)) (here.pieces at)
    ∙ refused front (at + first.blanks) first.bytes.now fault (nat_lt (length front) number_bound) refl e _

pub told_end : (front : List ℤ) (all : Result (List ℤ) InputFault) (at : ℕ) (rest : List ℕ)
    → all_numbers front at rest ≡ all → ((n : ℕ) → pieces_from is_blank false n rest ≡ []) → all ≡ Ok front
told_end front all at rest told none =
    sym told ∙ ap (λ ps. behind front (numbers_from (number_bound - length front) ps)) (none at) ∙ ap (λ (l : List ℤ). Ok l) (append-nil front)
