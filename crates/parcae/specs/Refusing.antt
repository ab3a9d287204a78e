-- The refusals of a program's text.
use Rattle.nona_tree.specs.declared.faults.ProgramFault.{ProgramFault}
use Rattle.nona_tree.specs.declared.faults.ProgramFault.TheVariants as program
use Rattle.nona_parse.specs.declared.fault.ParseFault.{ParseFault}
use Rattle.nona_parse.specs.declared.fault.ParseFault.TheVariants as parse
use Rattle.parcae.specs.declared.refusal.Kind.TheVariants as kind
use Rattle.parcae.specs.declared.refusal.Refusal.{Refusal}
use Rattle.parcae.specs.declared.refusal.Refusal.TheVariants as refusal
use Rattle.parcae.specs.declared.refusal.Stop.{Stop}
use Rattle.parcae.specs.declared.refusal.Stop.TheVariants as stop

-- why a text was not read
abbrev pub unread : ParseFault → Stop
unread (parse.Byte at) = stop.Refused (refusal.Text kind.Byte at)
unread (parse.Number at) = stop.Refused (refusal.Text kind.Number at)
unread (parse.NameLong at) = stop.Refused (refusal.Text kind.NameLong at)
unread (parse.Syntax at) = stop.Refused (refusal.Text kind.Syntax at)
unread (parse.Deep at) = stop.Refused (refusal.Text kind.Deep at)
unread parse.NoMemory = stop.NoMemory

-- the refusal of a program with a fault
abbrev pub faulty : ProgramFault → Refusal
faulty (program.Unknown at) = refusal.Text kind.Unknown at
faulty (program.Twice at) = refusal.Text kind.Twice at
faulty (program.KindWrong at) = refusal.Text kind.KindWrong at
faulty (program.IndexAssigned at) = refusal.Text kind.IndexAssigned at
faulty (program.InputWritten at) = refusal.Text kind.InputWritten at
faulty (program.Cells at) = refusal.Text kind.Cells at
faulty (program.Units at) = refusal.Text kind.Units at
