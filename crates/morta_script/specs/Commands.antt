-- The numbers of a script's commands.
use Rattle.std.specs.Prelude.{ℕ, ◌≤◌, List, All, None, Some}
use Rattle.std.specs.declared.option.Option.{Option}
use Rattle.morta_task.specs.Running.{IsConfig}
use Rattle.morta_task.specs.declared.limits.TheConstants.{TURNS}
use Rattle.morta_script.specs.declared.limits.TheConstants.{LAST_TASK, MOVES}
use Rattle.morta_script.specs.declared.script.Command.{Command}
use Rattle.morta_script.specs.declared.script.Command.TheVariants.{Use, Step, Pause}

-- how many iterations an interval may be asked to end after
abbrev pub IsUntil : Option ℕ → Type 0
IsUntil None = Unit {0}
IsUntil (Some k) = (1 ≤ k) × (k ≤ TURNS)

-- a command with its numbers in range: a configuration with as many workers as it may have, as many iterations as a loop may have
-- turns, a task up to the last one, and as many moves as a command may have
abbrev pub IsCommand : Command → Type 0
IsCommand (Use config until) = IsConfig config × IsUntil until
IsCommand (Step task moves) = (task ≤ LAST_TASK) × (1 ≤ moves) × (moves ≤ MOVES)
IsCommand Pause = Unit {0}

-- commands with their numbers in range
abbrev pub AreCommands : List Command → Type 0
AreCommands commands = All IsCommand commands
