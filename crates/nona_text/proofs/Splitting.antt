-- The first piece of bytes, and what stands behind it.
use Rattle.std.proofs.Common.{◌≡◌, ℕ, ◌+◌, ◌<◌, Bool, true, false, not, cond, eqb, List, [], ◌∷◌, length, take, drop, refl, ap, sym, ◌∙◌, arith}
use Rattle.std.specs.List.{take_while}
use Rattle.std.proofs.lemmas.Bool.{eqb-true, eqb-false}
use Rattle.std.proofs.lemmas.List.{length-take, length-drop, nil_from_length}
use Rattle.std.proofs.lemmas.List.Sums.{take_while-cons}
use Rattle.nona_text.specs.declared.pieces.FirstPiece.{FirstPiece}
use Rattle.nona_text.specs.Pieces.{Piece, pieces_from}
use Rattle.nona_text.specs.Fronts.{IsFront}

-- a test passes or fails
pub by_test : {P : Type 0} (t : Bool) → (t ≡ true → P) → (t ≡ false → P) → P
by_test true f g = f refl
by_test false f g = g refl

-- what is taken from bytes of which the first passes, or fails
pub taken_more : (p : ℕ → Bool) (b : ℕ) (bs : List ℕ) → p b ≡ true → take_while p (b ∷ bs) ≡ b ∷ take_while p bs
taken_more p b bs e = take_while-cons p b bs ∙ ap (λ t. cond t (b ∷ take_while p bs) []) e

pub taken_none : (p : ℕ → Bool) (b : ℕ) (bs : List ℕ) → p b ≡ false → take_while p (b ∷ bs) ≡ []
taken_none p b bs e = take_while-cons p b bs ∙ ap (λ t. cond t (b ∷ take_while p bs) []) e

-- the bytes that are taken are a front
pub taken_front : (p : ℕ → Bool) (bs : List ℕ) → take (length (take_while p bs)) bs ≡ take_while p bs
taken_front p [] = refl
taken_front p (b ∷ bs) =
    by_test (p b) (λ e. rw (taken_more p b bs e) (ap (λ l. b ∷ l) (taken_front p bs))) (λ e. rw (taken_none p b bs e) refl)

-- blanks at the front are passed over
skipped : (blank : ℕ → Bool) (at : ℕ) (bs : List ℕ)
    → pieces_from blank false at bs ≡ pieces_from blank false (at + length (take_while blank bs)) (drop (length (take_while blank bs)) bs)
skipped blank at [] = refl
skipped blank at (b ∷ bs) =
    by_test (blank b)
    (λ e. rw (taken_more blank b bs e) (ap (λ t. cond t (pieces_from blank false (at + 1) bs) (record { at = at; bytes = b ∷ take_while (λ c. not (blank c)) bs } ∷ pieces_from blank true (at + 1) bs)) e ∙ skipped blank (at + 1) bs
    ∙ ap (λ n. pieces_from blank false n (drop (length (take_while blank bs)) bs)) (omega arith)))
    (λ e. rw (taken_none blank b bs e) (ap (λ n. pieces_from blank false n (b ∷ bs)) (omega arith)))

-- a piece that has begun reaches to the next blank
ended : (blank : ℕ → Bool) (at : ℕ) (bs : List ℕ)
    → pieces_from blank true at bs ≡ pieces_from blank false (at + length (take_while (λ c. not (blank c)) bs)) (drop (length (take_while (λ c. not (blank c)) bs)) bs)
ended blank at [] = refl
ended blank at (b ∷ bs) =
    by_test (blank b)
    (λ e. rw (taken_none (λ c. not (blank c)) b bs (ap not e))
    (ap (λ t. cond t (pieces_from blank false (at + 1) bs) (pieces_from blank true (at + 1) bs)) e
    ∙ ap (λ t. cond t (pieces_from blank false (at + 1) bs) (record { at = at; bytes = b ∷ take_while (λ c. not (blank c)) bs } ∷ pieces_from blank true (at + 1) bs)) (sym e)
    ∙ ap (λ n. pieces_from blank false n (b ∷ bs)) (omega arith)))
    (λ e. rw (taken_more (λ c. not (blank c)) b bs (ap not e))
    (ap (λ t. cond t (pieces_from blank false (at + 1) bs) (pieces_from blank true (at + 1) bs)) e ∙ ended blank (at + 1) bs
    ∙ ap (λ n. pieces_from blank false n (drop (length (take_while (λ c. not (blank c)) bs)) bs)) (omega arith)))

-- bytes whose first one, if there is one, is no blank
abbrev pub IsAhead : (ℕ → Bool) → List ℕ → Type 0
IsAhead blank [] = Unit {0}
IsAhead blank (b ∷ bs) = blank b ≡ false

ahead : (blank : ℕ → Bool) (bs : List ℕ) → IsAhead blank (drop (length (take_while blank bs)) bs)
ahead blank [] = tt
ahead blank (b ∷ bs) =
    by_test (blank b) (λ e. rw (taken_more blank b bs e) (ahead blank bs)) (λ e. rw (taken_none blank b bs e) e)

-- the pieces of bytes that begin with one
begun : (blank : ℕ → Bool) (at : ℕ) (bs : List ℕ) → IsAhead blank bs → 0 < length bs
    → pieces_from blank false at bs ≡ record { at = at; bytes = take_while (λ c. not (blank c)) bs }
    ∷ pieces_from blank false (at + length (take_while (λ c. not (blank c)) bs)) (drop (length (take_while (λ c. not (blank c)) bs)) bs)
begun blank at [] h some = absurd (omega arith)
begun blank at (b ∷ bs) h some =
    let inside : List Piece = record { at = at; bytes = b ∷ take_while (λ c. not (blank c)) bs } ∷ pieces_from blank true (at + 1) bs in
    rw (taken_more (λ c. not (blank c)) b bs (ap not h))
    (ap (λ t. cond t (pieces_from blank false (at + 1) bs) inside) h
    ∙ ap (λ (ps : List Piece). record { at = at; bytes = b ∷ take_while (λ c. not (blank c)) bs } ∷ ps)
    (ended blank (at + 1) bs ∙ ap (λ n. pieces_from blank false n (drop (length (take_while (λ c. not (blank c)) bs)) bs)) (omega arith)))

begun_some : (blank : ℕ → Bool) (bs : List ℕ) → IsAhead blank bs → 0 < length bs → 0 < length (take_while (λ c. not (blank c)) bs)
begun_some blank [] h some = absurd (omega arith)
begun_some blank (b ∷ bs) h some = rw (taken_more (λ c. not (blank c)) b bs (ap not h)) (omega arith)

-- bytes without a piece
pub no_piece : (blank : ℕ → Bool) (bs from : List ℕ) (blanks : ℕ)
    → blanks ≡ length (take_while blank bs) → from ≡ drop blanks bs → eqb (length from) 0 ≡ true → (at : ℕ) → pieces_from blank false at bs ≡ []
no_piece blank bs from blanks k f none at =
    let there : from ≡ drop (length (take_while blank bs)) bs = f ∙ ap (λ i. drop i bs) k in
    let empty : from ≡ [] = nil_from_length from (eqb-true _ _ none) in
    skipped blank at bs ∙ ap (pieces_from blank false (at + length (take_while blank bs))) (sym there ∙ empty)

-- the first piece of bytes that have one, with the bytes from there on and how many of those are its own
pub first_piece : (blank : ℕ → Bool) (bs from : List ℕ) (first : FirstPiece) (len : ℕ)
    → first.blanks ≡ length (take_while blank bs) → from ≡ drop first.blanks bs → eqb (length from) 0 ≡ false
    → len ≡ length (take_while (λ c. not (blank c)) from) → first.bytes.now ≡ take len from → first.behind.now ≡ drop len from
    → IsFront blank bs first
first_piece blank bs from first len k f full n b r =
    let some : 0 < length from = omega (arith, eqb-false _ _ full) in
    let there : from ≡ drop (length (take_while blank bs)) bs = f ∙ ap (λ i. drop i bs) k in
    let here : IsAhead blank from = rw there (ahead blank bs) in
    let taken : first.bytes.now ≡ take_while (λ c. not (blank c)) from = b ∙ ap (λ i. take i from) n ∙ taken_front (λ c. not (blank c)) from in
    let left : first.behind.now ≡ drop (length (take_while (λ c. not (blank c)) from)) from = r ∙ ap (λ i. drop i from) n in
    record {
      pieces = λ at. rw (taken, left, k)
          (skipped blank at bs ∙ ap (pieces_from blank false (at + length (take_while blank bs))) (sym there)
          ∙ begun blank (at + length (take_while blank bs)) from here some);
      whole = omega (arith, ap length f, length-drop first.blanks bs, ap length b, length-take len from, ap length r, length-drop len from);
      some = rw taken (begun_some blank from here some);
    }
