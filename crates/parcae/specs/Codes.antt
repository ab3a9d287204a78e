-- The exit statuses of the program.
use Rattle.std.specs.Prelude.{ℕ}
use Rattle.parcae.specs.declared.status.Status.{Status}
use Rattle.parcae.specs.declared.status.Status.TheVariants as status

-- the exit status that tells of a call's status
abbrev pub code_of : Status → ℕ
code_of status.Done = 0
code_of status.Trap = 1
code_of status.OutOfTurns = 2
code_of status.Usage = 10
code_of status.Refused = 11
code_of status.Input = 12
code_of status.Script = 13
code_of status.ReadFailed = 14
code_of status.WriteFailed = 15
code_of status.NoMemory = 16
code_of status.TooLong = 17
code_of status.LogFull = 18
