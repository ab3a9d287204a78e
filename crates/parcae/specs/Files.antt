-- What the files of a command give, and what is due where one of them gives nothing.
use Rattle.std.specs.Prelude.{◌≡◌, ℕ, ◌<◌, ◌≤◌, ℤ, List, [], ◌∷◌, ◌++◌, length, None, Some, Ok, Err, IfSome, IsSomeAnd}
use Rattle.std.specs.declared.option.Option.{Option}
use Rattle.nona_tree.specs.declared.trees.Program.{Program}
use Rattle.nona_store.specs.declared.input.InputFault.TheVariants as input
use Rattle.nona_store.specs.Input.{numbers_of}
use Rattle.morta_script.specs.declared.script.Command.{Command as Order}
use Rattle.morta_task.specs.LogView.{empty_log}
use Rattle.morta_script.specs.Lines.{commands_of}
use Rattle.parcae.specs.declared.files.TheConstants.{TEXT_BYTES, INPUT_BYTES}
use Rattle.parcae.specs.declared.refusal.Source.{Source}
use Rattle.parcae.specs.declared.refusal.Source.TheVariants as source
use Rattle.parcae.specs.declared.refusal.Kind.{Kind}
use Rattle.parcae.specs.declared.refusal.Refusal.{Refusal}
use Rattle.parcae.specs.declared.refusal.Refusal.TheVariants as refusal
use Rattle.parcae.specs.declared.refusal.Stop.{Stop}
use Rattle.parcae.specs.declared.refusal.Stop.TheVariants as stop
use Rattle.fate_io.specs.Reading.{Held, Looked}
use Rattle.fate_io.specs.Outside.{Outside}
use Rattle.parcae.specs.Texts.{refusal_line, refusal_status}
use Rattle.parcae.specs.Told.{bare}
use Rattle.parcae.specs.Accepted.{IsAccepted, IsRefused}
use Rattle.parcae.specs.Ends.{Way, Whole, Unbegun}
use Rattle.parcae.specs.Leads.{Lead, script_leads, control_leads}
use Rattle.parcae.specs.Words.{Leader, by_script, by_control}

-- what is seen outside through a shelf
abbrev pub seen : {S : Type 0} → (S → List ℕ → Held) → S → Outside
seen held shelf = record { held = held shelf }

-- the most bytes of a file
abbrev pub limit_of : Source → ℕ
limit_of source.Program = TEXT_BYTES
limit_of source.Input = INPUT_BYTES
limit_of source.Script = TEXT_BYTES

-- a file's content is these bytes, within its limit, as far as the shelf tells it
abbrev pub IsContent : Source → Held → List ℕ → Type 0
IsContent source held bytes = (length bytes ≤ limit_of source) × IfSome held (λ content. content ≡ Some bytes)

-- a file's content is longer than its limit, as far as the shelf tells it
abbrev pub IsLong : Source → Held → Type 0
IsLong source held = IfSome held (λ content. IsSomeAnd content (λ bytes. limit_of source < length bytes))

-- why a program's text is refused
pub data RefusesProgram (bytes : List ℕ) : Refusal → Type 0 where
  program_text : (kind : Kind) (at : ℕ) → IsRefused bytes kind at → RefusesProgram bytes (refusal.Text kind at)

-- why an input's text is refused
pub data RefusesInput (bytes : List ℕ) : Refusal → Type 0 where
  input_token : (at : ℕ) → numbers_of bytes ≡ Err (input.Token at) → RefusesInput bytes (refusal.Token at)
  input_count : numbers_of bytes ≡ Err input.Count → RefusesInput bytes refusal.Count

-- why a script's text is refused
pub data RefusesScript (bytes : List ℕ) : Refusal → Type 0 where
  script_line : (n : ℕ) → commands_of bytes ≡ Err n → RefusesScript bytes (refusal.Line n)

-- why a file's text is refused: by its first fault
abbrev pub Refuses : Source → List ℕ → Refusal → Type 0
Refuses source.Program = RefusesProgram
Refuses source.Input = RefusesInput
Refuses source.Script = RefusesScript

-- Why a file gives nothing, with the names of failed reads that the call adds: its read failed; it is too long; or its text
-- is refused.
pub data IsBad (source : Source) (outside : Outside) (file : List ℕ) (added : List (List ℕ)) : Refusal → Type 0 where
  failed : added ≡ file ∷ [] → IsBad source outside file added (refusal.Failed source)
  long : added ≡ [] → IsLong source (outside.held file) → IsBad source outside file added (refusal.Long source)
  text : (bytes : List ℕ) (r : Refusal) → added ≡ [] → IsContent source (outside.held file) bytes → Refuses source bytes r
      → IsBad source outside file added r

-- a program's file gives this tree
abbrev pub GivesProgram : Outside → List ℕ → Program → Type 0
GivesProgram outside file tree = (bytes : List ℕ) × IsContent source.Program (outside.held file) bytes × IsAccepted bytes tree

-- an input's file gives these numbers; without a file there are none
abbrev pub GivesInput : Outside → Option (List ℕ) → List ℤ → Type 0
GivesInput outside None numbers = numbers ≡ []
GivesInput outside (Some file) numbers =
    (bytes : List ℕ) × IsContent source.Input (outside.held file) bytes × (numbers_of bytes ≡ Ok numbers)

-- an input's file gives none
abbrev pub NoInput : Outside → Option (List ℕ) → List (List ℕ) → Refusal → Type 0
NoInput outside None added r = ⊥
NoInput outside (Some file) added r = IsBad source.Input outside file added r

-- a script's file gives these commands
abbrev pub GivesScript : Outside → List ℕ → List Order → Type 0
GivesScript outside file commands =
    (bytes : List ℕ) × IsContent source.Script (outside.held file) bytes × (commands_of bytes ≡ Ok commands)

-- what leads a replay, with links that hold so many messages: the script that its file gives; a controller needs no file
abbrev pub GivesLead : Outside → ℕ → Leader → Lead → Type 0
GivesLead outside links (by_script file) lead = (commands : List Order) × GivesScript outside file commands × (lead ≡ script_leads links commands)
GivesLead outside links (by_control workers) lead = lead ≡ control_leads workers

-- a script's file gives none
abbrev pub NoLead : Outside → Leader → List (List ℕ) → Refusal → Type 0
NoLead outside (by_script file) added r = IsBad source.Script outside file added r
NoLead outside (by_control workers) added r = ⊥

-- the line of a refusal is due, with its status
abbrev pub refusing : Refusal → Way
refusing r = Whole (bare (refusal_status r)) [] (refusal_line r)

-- a file gave nothing: it is refused, with the names that the call added to those of failed reads; or memory ran out
abbrev pub Stopped : (List (List ℕ) → Refusal → Type 0) → Looked → Stop → Type 0
Stopped bad looked (stop.Refused r) = (added : List (List ℕ)) × (looked.failed ≡ looked.failed_before ++ added) × bad added r
Stopped bad looked stop.NoMemory = looked.failed ≡ looked.failed_before

-- a text that gives nothing is refused, or memory ran out
abbrev pub StopsText : (Refusal → Type 0) → Stop → Type 0
StopsText refuses (stop.Refused r) = refuses r
StopsText refuses stop.NoMemory = Unit {0}

-- What is due of a command at one of its files: it gives nothing, and that is refused; memory runs out; or it gives
-- something, and what follows is due.
pub data DueOf {A : Type 0} (bad : List (List ℕ) → Refusal → Type 0) (gives : A → Type 0) (next : A → List (List ℕ) → Way → Type 0)
    (added : List (List ℕ)) (way : Way) : Type 0 where
  stops : (r : Refusal) → bad added r → way ≡ refusing r → DueOf bad gives next added way
  starves : added ≡ [] → way ≡ Unbegun empty_log → DueOf bad gives next added way
  follows : (x : A) → gives x → next x added way → DueOf bad gives next added way
