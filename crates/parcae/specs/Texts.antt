-- The lines of what is refused. Each ends with LF.
use Rattle.std.specs.Prelude.{ℕ, List, [], ◌∷◌, ◌++◌, codes}
use Rattle.std.specs.Fmt.{decimal}
use Rattle.parcae.specs.declared.refusal.Source.{Source}
use Rattle.parcae.specs.declared.refusal.Source.TheVariants.{Program, Input, Script}
use Rattle.parcae.specs.declared.refusal.Kind.{Kind}
use Rattle.parcae.specs.declared.refusal.Kind.TheVariants as kind
use Rattle.parcae.specs.declared.refusal.Refusal.{Refusal}
use Rattle.parcae.specs.declared.refusal.Refusal.TheVariants as refusal
use Rattle.parcae.specs.declared.status.Status.{Status}
use Rattle.parcae.specs.declared.status.Status.TheVariants as status

-- what a file is called in a line
abbrev pub source_word : Source → List ℕ
source_word Program = codes "program"
source_word Input = codes "input"
source_word Script = codes "script"

-- what a fault of a program's text is called
abbrev pub kind_word : Kind → List ℕ
kind_word kind.Byte = codes "byte"
kind_word kind.Number = codes "number"
kind_word kind.NameLong = codes "name"
kind_word kind.Syntax = codes "syntax"
kind_word kind.Deep = codes "deep"
kind_word kind.Unknown = codes "unknown"
kind_word kind.Twice = codes "twice"
kind_word kind.KindWrong = codes "kind"
kind_word kind.IndexAssigned = codes "index"
kind_word kind.InputWritten = codes "input"
kind_word kind.Cells = codes "cells"
kind_word kind.Units = codes "units"

-- the line of a refusal
abbrev pub refusal_line : Refusal → List ℕ
refusal_line refusal.Usage = codes "usage\n"
refusal_line (refusal.Failed source) = codes "read failed " ++ (source_word source ++ 10 ∷ [])
refusal_line (refusal.Long source) = codes "too long " ++ (source_word source ++ 10 ∷ [])
refusal_line (refusal.Text kind at) = codes "refused " ++ (kind_word kind ++ (codes " at " ++ (decimal at ++ 10 ∷ [])))
refusal_line (refusal.Token at) = codes "refused input at " ++ (decimal at ++ 10 ∷ [])
refusal_line refusal.Count = codes "refused input count\n"
refusal_line (refusal.Line n) = codes "refused script line " ++ (decimal n ++ 10 ∷ [])

-- the status of a refusal
abbrev pub refusal_status : Refusal → Status
refusal_status refusal.Usage = status.Usage
refusal_status (refusal.Failed source) = status.ReadFailed
refusal_status (refusal.Long source) = status.TooLong
refusal_status (refusal.Text kind at) = status.Refused
refusal_status (refusal.Token at) = status.Input
refusal_status refusal.Count = status.Input
refusal_status (refusal.Line n) = status.Script

-- no interval more goes into the log
abbrev pub full_line : List ℕ
full_line = codes "log full\n"
