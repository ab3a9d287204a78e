-- The commands of a script's text.
use Rattle.std.specs.Prelude.{ℕ, zero, suc, ◌+◌, ◌==◌, Bool, false, if◌then◌else◌, List, [], ◌∷◌, map, None, Some, Ok, Err, codes}
use Rattle.std.specs.declared.option.Option.{Option}
use Rattle.std.specs.declared.result.Result.{Result}
use Rattle.std.specs.Str.{bytes_eq}
use Rattle.nona_text.specs.Pieces.{Piece, is_space, pieces, lines_of, without_cr}
use Rattle.nona_text.specs.Digits.{number_within}
use Rattle.morta_task.specs.declared.limits.TheConstants.{TURNS, WORKERS}
use Rattle.morta_task.specs.declared.schemes.Config.{Config}
use Rattle.morta_task.specs.declared.schemes.Scheme.{Scheme}
use Rattle.morta_task.specs.declared.schemes.Scheme.TheVariants.{Seq, Any, Pipe}
use Rattle.morta_script.specs.declared.limits.TheConstants.{LAST_TASK, MOVES}
use Rattle.morta_script.specs.declared.limits.TheConstants.{COMMANDS}
use Rattle.morta_script.specs.declared.script.Command.{Command}
use Rattle.morta_script.specs.declared.script.Command.TheVariants.{Use, Step, Pause}

-- what a line is: no command, a command, or a line that may not stand there
pub data Line : Type 0 where
  Nothing : Line
  Says : Command → Line
  Wrong : Line

-- the words of a line, between spaces and tabs
abbrev pub words_of : List ℕ → List (List ℕ)
words_of line = map (λ (p : Piece). p.bytes) (pieces is_space (without_cr line))

-- whether a word begins a comment
abbrev pub is_comment : List ℕ → Bool
is_comment [] = false
is_comment (b ∷ bs) = b == 35

-- a version with a number of workers, where there is one
abbrev pub config_with : Scheme → Option ℕ → Option Config
config_with scheme None = None
config_with scheme (Some workers) = Some (record { scheme = scheme; workers = workers })

-- the configuration that two words are: `seq` with 1, or `any` or `pipe` with a number from 1 to the most workers
abbrev pub config_of : List ℕ → List ℕ → Option Config
config_of scheme workers =
    if bytes_eq scheme (codes "seq") then config_with Seq (number_within 1 1 workers)
    else if bytes_eq scheme (codes "any") then config_with Any (number_within 1 WORKERS workers)
    else if bytes_eq scheme (codes "pipe") then config_with Pipe (number_within 1 WORKERS workers) else None

-- a configuration until so many iterations, where they are a number from 1 to the most turns of a loop
abbrev pub until_line : Config → Option ℕ → Line
until_line config None = Wrong
until_line config (Some k) = Says (Use config (Some k))

-- what stands behind a configuration: nothing, or `until K`
abbrev pub after_config : Config → List (List ℕ) → Line
after_config config [] = Says (Use config None)
after_config config (word ∷ []) = Wrong
after_config config (word ∷ k ∷ []) = if bytes_eq word (codes "until") then until_line config (number_within 1 TURNS k) else Wrong
after_config config (word ∷ k ∷ more ∷ words) = Wrong

-- a configuration, where there is one, and what stands behind it
abbrev pub with_config : Option Config → List (List ℕ) → Line
with_config None words = Wrong
with_config (Some config) words = after_config config words

-- what stands behind `use`: a configuration, and what may follow it
abbrev pub after_use : List (List ℕ) → Line
after_use [] = Wrong
after_use (scheme ∷ []) = Wrong
after_use (scheme ∷ workers ∷ words) = with_config (config_of scheme workers) words

-- a task that steps until it has moved so often, where both are numbers in their ranges
abbrev pub step_line : Option ℕ → Option ℕ → Line
step_line None moves = Wrong
step_line (Some task) None = Wrong
step_line (Some task) (Some moves) = Says (Step task moves)

-- what stands behind `step`: a task from 0 to the last one, and from 1 to the most moves of a command
abbrev pub after_step : List (List ℕ) → Line
after_step [] = Wrong
after_step (task ∷ []) = Wrong
after_step (task ∷ moves ∷ []) = step_line (number_within 0 LAST_TASK task) (number_within 1 MOVES moves)
after_step (task ∷ moves ∷ more ∷ words) = Wrong

-- what stands behind `pause`: nothing
abbrev pub after_pause : List (List ℕ) → Line
after_pause [] = Says Pause
after_pause (word ∷ words) = Wrong

-- a line by its first word and those behind it: a `use`, a `step` or a `pause`
abbrev pub line_named : List ℕ → List (List ℕ) → Line
line_named word words =
    if bytes_eq word (codes "use") then after_use words
    else if bytes_eq word (codes "step") then after_step words
    else if bytes_eq word (codes "pause") then after_pause words else Wrong

-- a line by its words: blank, a comment, or a command
abbrev pub line_by : List (List ℕ) → Line
line_by [] = Nothing
line_by (word ∷ words) = if is_comment word then Nothing else line_named word words

-- the most commands of a script
abbrev pub command_bound : ℕ
command_bound = COMMANDS

-- a command before others, where those may stand there
abbrev pub then_commands : Command → Result (List Command) ℕ → Result (List Command) ℕ
then_commands c (Ok later) = Ok (c ∷ later)
then_commands c (Err line) = Err line

-- a command, where there is room for one more, and else the number of its line
abbrev pub with_room : ℕ → ℕ → Command → (ℕ → Result (List Command) ℕ) → Result (List Command) ℕ
with_room zero number c later = Err number
with_room (suc room) number c later = then_commands c (later room)

-- the commands of a line and of those behind it, or the number of the line that is refused
abbrev pub with_line : Line → ℕ → ℕ → (ℕ → Result (List Command) ℕ) → Result (List Command) ℕ
with_line Nothing room number later = later room
with_line (Says c) room number later = with_room room number c later
with_line Wrong room number later = Err number

-- the commands of these lines, of which the first has this number, with room for so many, or the number of the first line
-- that is refused
abbrev pub commands_from : List (List ℕ) → ℕ → ℕ → Result (List Command) ℕ
commands_from [] number room = Ok []
commands_from (line ∷ lines) number room = with_line (line_by (words_of line)) room number (λ left. commands_from lines (number + 1) left)

-- the commands of a script's text, or the number, from 1, of the first line that is refused
abbrev pub commands_of : List ℕ → Result (List Command) ℕ
commands_of text = commands_from (lines_of text) 1 command_bound
