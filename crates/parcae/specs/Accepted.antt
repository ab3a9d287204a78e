-- Which texts are accepted programs, and which are refused.
use Rattle.std.specs.Prelude.{◌≡◌, ℕ, List, []}
use Rattle.nona_tree.specs.declared.faults.ProgramFault.{ProgramFault}
use Rattle.nona_tree.specs.declared.faults.ProgramFault.TheVariants as program
use Rattle.nona_tree.specs.declared.trees.Program.{Program}
use Rattle.nona_tree.specs.Faults.{faults_of, IsFirstFault}
use Rattle.nona_tree.specs.Ids.{ids_of}
use Rattle.nona_parse.specs.declared.fault.ParseFault.TheVariants as parse
use Rattle.nona_parse.specs.Reading.{IsReading, IsRefusal}
use Rattle.parcae.specs.declared.refusal.Kind.{Kind}
use Rattle.parcae.specs.declared.refusal.Kind.TheVariants as kind

-- a text is that of a program of the grammar in which no fault stands; this is its tree with ids
abbrev pub IsAccepted : List ℕ → Program → Type 0
IsAccepted text tree = (read : Program) × IsReading text read × (faults_of read ≡ []) × (tree ≡ ids_of read)

-- the text is that of a program of the grammar whose first fault is this one
abbrev pub HasFault : List ℕ → ProgramFault → Type 0
HasFault text fault = (read : Program) × IsReading text read × IsFirstFault fault read

-- a text is refused for a fault of this kind at this place: it is no program of the grammar, or one with a fault
abbrev pub IsRefused : List ℕ → Kind → ℕ → Type 0
IsRefused text kind.Byte at = IsRefusal text (parse.Byte at)
IsRefused text kind.Number at = IsRefusal text (parse.Number at)
IsRefused text kind.NameLong at = IsRefusal text (parse.NameLong at)
IsRefused text kind.Syntax at = IsRefusal text (parse.Syntax at)
IsRefused text kind.Deep at = IsRefusal text (parse.Deep at)
IsRefused text kind.Unknown at = HasFault text (program.Unknown at)
IsRefused text kind.Twice at = HasFault text (program.Twice at)
IsRefused text kind.KindWrong at = HasFault text (program.KindWrong at)
IsRefused text kind.IndexAssigned at = HasFault text (program.IndexAssigned at)
IsRefused text kind.InputWritten at = HasFault text (program.InputWritten at)
IsRefused text kind.Cells at = HasFault text (program.Cells at)
IsRefused text kind.Units at = HasFault text (program.Units at)
