-- What a line adds to the commands before it.
use Rattle.std.specs.Prelude.{ℕ, false, List, [], ◌∷◌, ◌++◌, length, map, nat_lt, if◌then◌else◌, None, Some, Ok, Err}
use Rattle.std.specs.declared.option.Option.{Option}
use Rattle.std.specs.declared.result.Result.{Result}
use Rattle.nona_text.specs.Pieces.{Piece, is_space, pieces_from}
use Rattle.morta_script.specs.declared.script.Command.{Command}
use Rattle.morta_script.specs.declared.line.Kind.{Kind}
use Rattle.morta_script.specs.declared.line.Kind.TheVariants as kind
use Rattle.morta_script.specs.Lines.{Line, Nothing, Says, Wrong, command_bound}

-- the words of bytes that stand at a place
abbrev pub words_from : ℕ → List ℕ → List (List ℕ)
words_from at bytes = map (λ (p : Piece). p.bytes) (pieces_from is_space false at bytes)

-- a line with a command, or one that may not stand there
abbrev pub said : Option Command → Line
said (Some c) = Says c
said None = Wrong

-- a line that was read
abbrev pub meant : Kind → Line
meant kind.Nothing = Nothing
meant (kind.Says c) = Says c
meant kind.Wrong = Wrong

-- these commands, and behind them that of a line with a number, where it may stand there and there may be one more
abbrev pub with_kind : List Command → Line → ℕ → Result (List Command) ℕ
with_kind front Nothing number = Ok front
with_kind front (Says c) number = if nat_lt (length front) command_bound then Ok (front ++ c ∷ []) else Err number
with_kind front Wrong number = Err number
