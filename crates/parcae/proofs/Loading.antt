-- What a file gives follows from its content.
use Rattle.std.proofs.Common.{◌≡◌, ◌≢◌, ℕ, List, [], append-nil, sym, refl, ◌∙◌, Ok, Err}
use Rattle.std.specs.Prelude.{IfErr}
use Rattle.std.specs.declared.result.Result.{Result}
use Rattle.nona_tree.specs.declared.faults.ProgramFault.{ProgramFault}
use Rattle.nona_tree.specs.declared.faults.ProgramFault.TheVariants as program
use Rattle.nona_tree.specs.declared.trees.Program.{Program}
use Rattle.nona_tree.specs.Faults.{IsFirstFault}
use Rattle.nona_parse.specs.declared.fault.ParseFault.{ParseFault}
use Rattle.nona_parse.specs.declared.fault.ParseFault.TheVariants as parse
use Rattle.nona_parse.specs.Reading.{IsReading, IsRefusal}
use Rattle.nona_store.specs.declared.input.InputFault.TheVariants as input
use Rattle.parcae.specs.declared.refusal.Source.{Source}
use Rattle.parcae.specs.declared.refusal.Kind.TheVariants as kind
use Rattle.parcae.specs.declared.refusal.Stop.{Stop}
use Rattle.parcae.specs.declared.refusal.Stop.TheVariants as stop
use Rattle.fate_io.specs.Reading.{Looked}
use Rattle.fate_io.specs.Outside.{Outside}
use Rattle.parcae.specs.Refusing.{unread, faulty}
use Rattle.parcae.specs.Files.{IsContent, Refuses, IsBad, text, RefusesProgram, program_text, Stopped, StopsText}

-- a text that was not read is refused for that
pub unread_stops : (bytes : List ℕ) (fault : ParseFault) → IsRefusal bytes fault → StopsText (RefusesProgram bytes) (unread fault)
unread_stops bytes (parse.Byte at) h = program_text kind.Byte at h
unread_stops bytes (parse.Number at) h = program_text kind.Number at h
unread_stops bytes (parse.NameLong at) h = program_text kind.NameLong at h
unread_stops bytes (parse.Syntax at) h = program_text kind.Syntax at h
unread_stops bytes (parse.Deep at) h = program_text kind.Deep at h
unread_stops bytes parse.NoMemory h = tt

-- a program that was read and has a first fault is refused for that
pub faulty_stops : (bytes : List ℕ) (read : Program) (fault : ProgramFault) → IsReading bytes read → IsFirstFault fault read → RefusesProgram bytes (faulty fault)
faulty_stops bytes read (program.Unknown at) r h = program_text kind.Unknown at (read, r, h)
faulty_stops bytes read (program.Twice at) r h = program_text kind.Twice at (read, r, h)
faulty_stops bytes read (program.KindWrong at) r h = program_text kind.KindWrong at (read, r, h)
faulty_stops bytes read (program.IndexAssigned at) r h = program_text kind.IndexAssigned at (read, r, h)
faulty_stops bytes read (program.InputWritten at) r h = program_text kind.InputWritten at (read, r, h)
faulty_stops bytes read (program.Cells at) r h = program_text kind.Cells at (read, r, h)
faulty_stops bytes read (program.Units at) r h = program_text kind.Units at (read, r, h)

-- a token that is refused doesn't say that memory ran out
pub token_not : (at : ℕ) → input.Token at ≢ input.NoMemory
token_not at e = cc

-- nor does the count
pub count_not : input.Count ≢ input.NoMemory
count_not e = cc

-- a file whose text gives nothing gives nothing
stopped_text : (src : Source) (outside : Outside) (file bytes : List ℕ) (looked : Looked) → looked.failed ≡ looked.failed_before
    → IsContent src (outside.held file) bytes → (s : Stop) → StopsText (Refuses src bytes) s → Stopped (IsBad src outside file) looked s
stopped_text src outside file bytes looked e content (stop.Refused r) h =
    ([], e ∙ sym (append-nil looked.failed_before), text bytes r refl content h)
stopped_text src outside file bytes looked e content stop.NoMemory h = e

-- the same of each error of a result
pub stopped_texts : {T : Type 0} (result : Result T Stop) (src : Source) (outside : Outside) (file bytes : List ℕ) (looked : Looked)
    → looked.failed ≡ looked.failed_before → IsContent src (outside.held file) bytes
    → IfErr result (StopsText (Refuses src bytes)) → IfErr result (Stopped (IsBad src outside file) looked)
stopped_texts (Ok x) src outside file bytes looked e content h = tt
stopped_texts (Err s) src outside file bytes looked e content h = stopped_text src outside file bytes looked e content s h
