-- What a put does to the bytes that a sink has, where those are told.
use Rattle.std.specs.Prelude.{◌≡◌, ℕ, List, ◌++◌, Ok, Err}
use Rattle.std.specs.declared.option.Option.{Option}
use Rattle.std.specs.declared.result.Result.{Result}
use Rattle.std.specs.Io.KnownBytes.{Appends}

-- the sink has a front of the piece behind what it had
abbrev pub AppendsFront : Option (List ℕ) → Option (List ℕ) → List ℕ → Type 0
AppendsFront old new piece = (front rest : List ℕ) × (piece ≡ front ++ rest) × Appends old new front

-- the sink has the whole piece behind what it had, or after a failure a front of it
abbrev pub Puts : {T E : Type 0} → Option (List ℕ) → Option (List ℕ) → List ℕ → Result T E → Type 0
Puts old new piece (Ok x) = Appends old new piece
Puts old new piece (Err e) = AppendsFront old new piece

-- what a sink over a writer shows: the bytes that the writer has, where that is told, and how many puts failed
pub record OutView : Type 0 where
  pub written : Option (List ℕ)
  pub faults : ℕ
