-- What the kinds in memory show, and when they fail.
use Rattle.std.specs.Prelude.{◌≡◌, ℕ, ◌<◌, ◌≤◌, ◌+◌, ◌-◌, ◌/◌, min, take, List, [], ◌∷◌, ◌⊎◌, length, Contains, None, Some, Ok, Err, if◌then◌else◌, string_bytes}
use Rattle.std.specs.Str.{bytes_eq}
use Rattle.std.specs.declared.string.String.{String}
use Rattle.std.specs.declared.vec.Vec.{Vec}
use Rattle.std.specs.declared.alloc.Global.{Global}
use Rattle.std.specs.declared.option.Option.{Option}
use Rattle.std.specs.declared.result.Result.{Result}
use Rattle.fate_io.specs.Causes.{next_number}
use Rattle.fate_io.specs.declared.shelves.ShelfFault.{ShelfFault}
use Rattle.fate_io.specs.declared.shelves.ShelfFault.TheVariants.{Failed, Long, NoMemory}

-- what a shelf in memory shows: its files, the numbers of the reads that fail, how many reads were answered, and the names that failed
pub record ShelfView : Type 0 where
  pub files : List (List ℕ × List ℕ)
  pub failing : List ℕ
  pub reads : ℕ
  pub failed : List (List ℕ)

-- the name and the content of a file
abbrev pub named_content : String Global × Vec ℕ Global → List ℕ × List ℕ
named_content file = (string_bytes file.0, file.1.items)

-- what the first file of a name holds
abbrev pub file_of : List (List ℕ × List ℕ) → List ℕ → Option (List ℕ)
file_of [] name = None
file_of (file ∷ files) name = if bytes_eq file.0 name then Some file.1 else file_of files name

-- files in memory tell of each name whether it is there and what it holds
abbrev pub shelf_holds : List (List ℕ × List ℕ) → List ℕ → Option (Option (List ℕ))
shelf_holds files name = Some (file_of files name)

-- a read fails exactly where it is listed or nothing has the name, unless memory runs out
abbrev pub FailsWhereListed : {T : Type 0} → Type 0 → Option (List ℕ) → Result T ShelfFault → Type 0
FailsWhereListed listed content (Ok x) = ¬ listed
FailsWhereListed listed content (Err Long) = ¬ listed
FailsWhereListed listed content (Err Failed) = listed ⊎ (content ≡ None)
FailsWhereListed listed content (Err NoMemory) = Unit {0}

-- what a sink in memory shows: what was written, its room in bytes, the numbers of the puts that fail, how many puts there were, and how many failed
pub record SinkView : Type 0 where
  pub written : List ℕ
  pub room : ℕ
  pub failing : List ℕ
  pub puts : ℕ
  pub faults : ℕ

-- the next put is listed, or its piece does not fit in the room
abbrev pub Refuses : SinkView → List ℕ → Type 0
Refuses sink piece = Contains sink.failing (next_number sink.puts) ⊎ (sink.room < length sink.written + length piece)

-- the next put is not listed, and its piece fits in the room
abbrev pub Accepts : SinkView → List ℕ → Type 0
Accepts sink piece = (¬ (Contains sink.failing (next_number sink.puts))) × (length sink.written + length piece ≤ sink.room)

-- what a put that fails adds: the first half of the piece, rounded down, or what fits where that is less
abbrev pub kept_half : SinkView → List ℕ → List ℕ
kept_half sink piece = take (min (length piece / 2) (sink.room - length sink.written)) piece
