-- The lines that a run writes. Each ends with LF.
use Rattle.std.specs.Prelude.{ℕ, zero, suc, ◌-◌, ◌==◌, if◌then◌else◌, ℤ, List, [], ◌∷◌, ◌++◌, length, None, Some, slice_get, codes}
use Rattle.std.specs.declared.option.Option.{Option}
use Rattle.std.specs.Fmt.{decimal, signed_decimal}
use Rattle.std.specs.List.{flat_map}
use Rattle.fate_io.specs.Numbered.{texts_from}
use Rattle.nona_tree.specs.declared.outcomes.Outcome.{Outcome}
use Rattle.nona_tree.specs.declared.outcomes.Outcome.TheVariants as outcome
use Rattle.nona_tree.specs.declared.outcomes.TrapKind.{TrapKind}
use Rattle.nona_tree.specs.declared.outcomes.TrapKind.TheVariants as trap
use Rattle.nona_tree.specs.declared.trees.ArrayDecl.{ArrayDecl}
use Rattle.nona_tree.specs.declared.trees.VarDecl.{VarDecl}
use Rattle.nona_tree.specs.declared.trees.Program.{Program}
use Rattle.nona_tree.specs.Memory.{Memory, scalar_at, cells_of}
use Rattle.nona_tree.specs.Value.{is_zero}
use Rattle.morta_task.specs.declared.schemes.Scheme.{Scheme}
use Rattle.morta_task.specs.declared.schemes.Scheme.TheVariants.{Seq, Any, Pipe}
use Rattle.morta_task.specs.declared.schemes.Config.{Config}
use Rattle.morta_task.specs.declared.intervals.Cut.{Cut}
use Rattle.morta_task.specs.declared.intervals.Cut.TheVariants as cut
use Rattle.morta_task.specs.declared.intervals.Work.{Work}
use Rattle.morta_task.specs.declared.intervals.Ran.{Ran}
use Rattle.morta_task.specs.declared.intervals.Interval.{Interval}
use Rattle.morta_task.specs.Entries.{EntryView}
use Rattle.morta_task.specs.LogView.{LogView}
use Rattle.morta_task.specs.Legal.{entry_number}

-- a printed number
abbrev pub number_line : ℤ → List ℕ
number_line n = signed_decimal n ++ 10 ∷ []

-- the printed numbers, each on a line
abbrev pub number_lines : List ℤ → List ℕ
number_lines numbers = flat_map number_line numbers

-- the word for the kind of a trap
abbrev pub trap_word : TrapKind → List ℕ
trap_word trap.Index = codes "index"
trap_word trap.Empty = codes "empty"
trap_word trap.Divide = codes "divide"

-- how a run ended: nothing where it is done
abbrev pub outcome_text : Outcome → List ℕ
outcome_text outcome.Done = []
outcome_text (outcome.Trap t) = codes "trap " ++ (trap_word t.kind ++ (codes " at " ++ (decimal t.at ++ 10 ∷ [])))
outcome_text (outcome.OutOfTurns at) = codes "out of turns at " ++ (decimal at ++ 10 ∷ [])

-- a variable and its value
abbrev pub var_line : List ℕ → ℤ → List ℕ
var_line name v = codes "var " ++ (name ++ (codes " = " ++ (signed_decimal v ++ 10 ∷ [])))

-- an array and the number of its cells
abbrev pub array_line : List ℕ → ℕ → List ℕ
array_line name count = codes "array " ++ (name ++ (codes " " ++ (decimal count ++ 10 ∷ [])))

-- a cell and its value
abbrev pub cell_line : List ℕ → ℕ → ℤ → List ℕ
cell_line name place v = name ++ (codes "[" ++ (decimal place ++ (codes "] = " ++ (signed_decimal v ++ 10 ∷ []))))

-- the line of a cell that isn't 0
abbrev pub cell_text : List ℕ → ℕ → ℤ → List ℕ
cell_text name place v = if is_zero v then [] else cell_line name place v

-- an array, and then each of its cells that isn't 0, in order
abbrev pub array_text : List ℕ → List ℤ → List ℕ
array_text name cells = array_line name (length cells) ++ texts_from (cell_text name) 0 cells

-- a declared variable in a store, by its number among the variables, from 0
abbrev pub var_text : Memory → ℕ → VarDecl → List ℕ
var_text m number d = var_line d.name.text (scalar_at m number)

-- a declared array in a store, by its number among the arrays, of which the input is 0
abbrev pub declared_text : Memory → ℕ → ArrayDecl → List ℕ
declared_text m number d = array_text d.name.text (cells_of m number)

-- a store of a program: each variable in text order, and then each declared array in text order
abbrev pub memory_text : Program → Memory → List ℕ
memory_text p m = texts_from (var_text m) 0 p.vars ++ texts_from (declared_text m) 1 p.arrays

-- the word for a version
abbrev pub scheme_word : Scheme → List ℕ
scheme_word Seq = codes "seq"
scheme_word Any = codes "any"
scheme_word Pipe = codes "pipe"

-- the word for why an interval ended
abbrev pub cut_word : Cut → List ℕ
cut_word cut.Limit = codes "limit"
cut_word cut.Paused = codes "paused"
cut_word (cut.Trap t) = codes "trap"
cut_word (cut.Turns at) = codes "turns"

-- a configuration
abbrev pub config_text : Config → List ℕ
config_text c = scheme_word c.scheme ++ (codes " " ++ decimal c.workers)

-- the work of an interval, where it was counted
abbrev pub work_text : Option Work → List ℕ
work_text None = []
work_text (Some w) = codes " steps " ++ (decimal w.steps ++ (codes " waits " ++ decimal w.waits))

-- the end of an interval's line, from its work on
abbrev pub interval_end : Ran → List ℕ
interval_end done = work_text done.work ++ (codes " ticks " ++ (decimal done.ticks ++ (codes " end " ++ (cut_word done.cut ++ 10 ∷ []))))

-- an interval
abbrev pub interval_line : Interval → List ℕ
interval_line i =
    codes "from " ++ (signed_decimal i.from ++ (codes " to " ++ (signed_decimal i.done.to
    ++ (codes " asked " ++ (config_text i.asked.config ++ (codes " ran " ++ (config_text i.ran ++ interval_end i.done)))))))

-- an entry
abbrev pub entry_line : EntryView → List ℕ
entry_line e =
    codes "entry " ++ (decimal e.number ++ (codes " region " ++ (decimal e.region
    ++ (codes " low " ++ (signed_decimal e.low ++ (codes " high " ++ (signed_decimal e.high ++ 10 ∷ [])))))))

-- the entry of an interval, where it is there
abbrev pub entry_text : Option EntryView → List ℕ
entry_text None = []
entry_text (Some e) = entry_line e

-- the number of the entry of the interval before this one, and 0 where there is none
abbrev pub entry_before : List Interval → ℕ → ℕ
entry_before is zero = 0
entry_before is (suc place) = entry_number (slice_get is place)

-- the entry with this number, where the interval before this place is of another one
abbrev pub entry_if_new : LogView → ℕ → ℕ → List ℕ
entry_if_new log place number = if entry_before log.intervals place == number then [] else entry_text (slice_get log.entries (number - 1))

-- an interval of a log, by its place from 0, and before the first one of an entry that entry
abbrev pub interval_text : LogView → ℕ → Interval → List ℕ
interval_text log place i = entry_if_new log place i.entry ++ interval_line i

-- how many intervals a log has
abbrev pub intervals_line : ℕ → List ℕ
intervals_line count = codes "intervals " ++ (decimal count ++ 10 ∷ [])

-- a log: each entry and its intervals, in order, and then how many intervals there are
abbrev pub log_text : LogView → List ℕ
log_text log = texts_from (interval_text log) 0 log.intervals ++ intervals_line (length log.intervals)
