-- The marks of code, as they are found.
use Rattle.std.specs.Prelude.{◌≡◌, ◌≢◌, ℕ, ◌+◌, ◌≤◌, Bool, true, false, List, [], ◌∷◌, ◌++◌, length, Option, Some, None, slice_get, slice_set, ◌⊎◌}
use Rattle.std.specs.List.{Contains}
use Rattle.nona_code.specs.declared.instr.Instr.{Instr}
use Rattle.nona_code.specs.declared.marks.Mark.{Mark}
use Rattle.nona_code.specs.Rule.{Way, takes, leaves, after, start, IsNext, EndsEmpty, IsSound}

-- the mark of an instruction is known
abbrev pub HasMark : List (Option Mark) → ℕ → Mark → Type 0
HasMark marks pc m = slice_get marks pc ≡ Some (Some m)

-- an instruction with this mark takes no more than there is, and what it leads to has the mark behind it
pub record IsPassed (marks : List (Option Mark)) (pc : ℕ) (i : Instr) (m : Mark) : Type 0 where
  pub takes : takes i ≤ m.depth
  pub leaves : leaves i ≤ m.declared
  pub ends : EndsEmpty i m.depth
  pub leads : (to : ℕ) → IsNext i pc to → HasMark marks to (after i m)

-- each mark that is known stands on a way
abbrev pub AreFound : List Instr → List (Option Mark) → Type 0
AreFound code marks = (pc : ℕ) (m : Mark) → HasMark marks pc m → Way code pc m

-- the first instruction has its mark, and each that has one is passed, but for those that are still to be looked at
pub record IsSearch (code : List Instr) (marks : List (Option Mark)) (todo : List ℕ) : Type 0 where
  pub long : length marks ≡ length code
  pub found : AreFound code marks
  pub first : HasMark marks 0 start
  pub passed : (pc : ℕ) (i : Instr) (m : Mark) → slice_get code pc ≡ Some i → HasMark marks pc m → Contains todo pc ⊎ IsPassed marks pc i m

-- how many instructions have no mark yet
abbrev pub nones : List (Option Mark) → ℕ
nones [] = 0
nones (None ∷ rest) = nones rest + 1
nones (Some m ∷ rest) = nones rest

-- some instructions that had no mark, all of this kind, have this one, and are still to be looked at
pub data Spread (Is : ℕ → Type 0) (mark : Mark) (marks : List (Option Mark)) (todo : List ℕ) : List (Option Mark) → List ℕ → Type 0 where
  same : Spread Is mark marks todo marks todo
  more : (to : ℕ) (ms : List (Option Mark)) (ts : List ℕ) → Is to → slice_get ms to ≡ Some None → Spread Is mark marks todo ms ts
      → Spread Is mark marks todo (slice_set ms to (Some mark)) (ts ++ to ∷ [])

-- an instruction can't have this mark: it isn't there, or has another one
abbrev pub Clashes : List (Option Mark) → ℕ → Mark → Type 0
Clashes marks to mark = (length marks ≤ to) ⊎ ((other : Mark) × HasMark marks to other × (other ≢ mark))

-- the instruction at to has the mark now, or it can't have it
abbrev pub HasReached : ℕ → Mark → List (Option Mark) → List ℕ → List (Option Mark) → List ℕ → Bool → Type 0
HasReached to mark marks todo ms ts true = Spread (λ j. j ≡ to) mark marks todo ms ts × HasMark ms to mark
HasReached to mark marks todo ms ts false = (ms ≡ marks) × (ts ≡ todo) × Clashes marks to mark

-- what an instruction leads to has the mark now, or some of it can't have it
abbrev pub HasSpread : Instr → ℕ → Mark → List (Option Mark) → List ℕ → List (Option Mark) → List ℕ → Bool → Type 0
HasSpread i pc mark marks todo ms ts true = Spread (IsNext i pc) mark marks todo ms ts × ((to : ℕ) → IsNext i pc to → HasMark ms to mark)
HasSpread i pc mark marks todo ms ts false = Spread (IsNext i pc) mark marks todo ms ts × ((to : ℕ) × IsNext i pc to × Clashes ms to mark)

-- a mark is no higher than there are marks
pub record IsLow (marks : List (Option Mark)) (m : Mark) : Type 0 where
  pub depth : m.depth + nones marks ≤ length marks
  pub declared : m.declared + nones marks ≤ length marks

abbrev pub AreLow : List (Option Mark) → Type 0
AreLow marks = (pc : ℕ) (m : Mark) → HasMark marks pc m → IsLow marks m

-- an instruction was looked at: the search goes on, with as much to do; or the rule is broken
abbrev pub HasVisited : List Instr → List (Option Mark) → List ℕ → List (Option Mark) → List ℕ → Bool → Type 0
HasVisited code marks todo ms ts true = IsSearch code ms ts × AreLow ms × (nones ms + length ts ≡ nones marks + length todo)
HasVisited code marks todo ms ts false = IsSound code → ⊥

-- the greatest number of this kind of all marks: none has a greater one, and one has it
pub record IsTop (kind : Mark → ℕ) (marks : List (Option Mark)) (most : ℕ) : Type 0 where
  pub bounds : (pc : ℕ) (m : Mark) → HasMark marks pc m → kind m ≤ most
  pub place : ℕ
  pub mark : Mark
  pub reached : HasMark marks place mark
  pub is : kind mark ≡ most

-- the greatest depth, and the greatest count of declared scalars
pub record IsHighest (marks : List (Option Mark)) (most : Mark) : Type 0 where
  pub depth : IsTop (λ m. m.depth) marks most.depth
  pub declared : IsTop (λ m. m.declared) marks most.declared
