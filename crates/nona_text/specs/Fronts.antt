-- What stands behind the first piece of bytes.
use Rattle.std.specs.Prelude.{◌≡◌, ℕ, ◌+◌, ◌<◌, Bool, false, List, [], ◌∷◌, length, None, Some}
use Rattle.std.specs.declared.option.Option.{Option}
use Rattle.nona_text.specs.declared.pieces.FirstPiece.{FirstPiece}
use Rattle.nona_text.specs.Pieces.{Piece, pieces_from}

-- the first piece at a place, and those of the bytes behind it
abbrev pub with_first : (ℕ → Bool) → ℕ → FirstPiece → List Piece
with_first blank at first =
    record { at = at + first.blanks; bytes = first.bytes.now }
    ∷ pieces_from blank false (at + first.blanks + length first.bytes.now) first.behind.now

-- wherever these bytes stand, their pieces are this one, which isn't empty, and those of the bytes behind it
pub record IsFront (blank : ℕ → Bool) (bytes : List ℕ) (first : FirstPiece) : Type 0 where
  pub pieces : (at : ℕ) → pieces_from blank false at bytes ≡ with_first blank at first
  pub whole : first.blanks + length first.bytes.now + length first.behind.now ≡ length bytes
  pub some : 0 < length first.bytes.now

-- the first piece of these bytes, or none where they have none
abbrev pub IsFirstPiece : (ℕ → Bool) → List ℕ → Option FirstPiece → Type 0
IsFirstPiece blank bytes None = (at : ℕ) → pieces_from blank false at bytes ≡ []
IsFirstPiece blank bytes (Some first) = IsFront blank bytes first
