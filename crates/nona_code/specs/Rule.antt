-- The stack rule.
use Rattle.std.specs.Prelude.{◌≡◌, ℕ, ◌+◌, ◌-◌, ◌≤◌, ◌<◌, List, Some, slice_get, length, ◌⊎◌}
use Rattle.nona_code.specs.declared.marks.Mark.{Mark}
use Rattle.nona_code.specs.declared.instr.Instr.{Instr}
use Rattle.nona_code.specs.declared.instr.Instr.TheVariants as instr
use Rattle.nona_code.specs.Machine.{first_hidden, places}

-- how many numbers an instruction takes from the stack
abbrev pub takes : Instr → ℕ
takes (instr.Save id) = 1
takes instr.Drop = 1
takes instr.Print = 1
takes instr.Declare = 1
takes (instr.Bound a w at) = 1
takes (instr.Get a) = 1
takes (instr.Put a) = 2
takes (instr.FoldPut a f) = 2
takes (instr.FoldSave id f) = 1
takes instr.Neg = 1
takes instr.Not = 1
takes (instr.Binary op at) = 2
takes (instr.Zero t) = 1
takes (instr.Region r) = 2
takes _ = 0

-- how many numbers it puts there
abbrev pub puts : Instr → ℕ
puts (instr.Push v) = 1
puts (instr.Load id) = 1
puts (instr.Len a) = 1
puts (instr.Bound a w at) = 1
puts (instr.Get a) = 1
puts instr.Neg = 1
puts instr.Not = 1
puts (instr.Binary op at) = 1
puts _ = 0

-- how many scalars it leaves, and how many it declares
abbrev pub leaves : Instr → ℕ
leaves (instr.Leave count) = count
leaves _ = 0

abbrev pub declares : Instr → ℕ
declares instr.Declare = 1
declares _ = 0

-- the mark behind an instruction
abbrev pub after : Instr → Mark → Mark
after i m = record { depth = m.depth - takes i + puts i; declared = m.declared - leaves i + declares i }

-- the mark of the first instruction
abbrev pub start : Mark
start = record { depth = 0; declared = 0 }

-- an instruction at pc leads to another one
abbrev pub IsNext : Instr → ℕ → ℕ → Type 0
IsNext (instr.Jump target) pc to = to ≡ target
IsNext (instr.Zero target) pc to = (to ≡ target) ⊎ (to ≡ pc + 1)
IsNext instr.Stop pc to = ⊥
IsNext _ pc to = to ≡ pc + 1

-- a way through the code comes to the instruction at a place with this mark
pub data Way (code : List Instr) : ℕ → Mark → Type 0 where
  begins : Way code 0 start
  goes_on : (pc to : ℕ) (i : Instr) (m : Mark) → Way code pc m → slice_get code pc ≡ Some i → IsNext i pc to → Way code to (after i m)

-- where the code ends, nothing is on the stack
abbrev pub EndsEmpty : Instr → ℕ → Type 0
EndsEmpty instr.Stop depth = depth ≡ 0
EndsEmpty _ depth = Unit {0}

-- its hidden scalar and its counter have numbers below these
abbrev pub IsNumbered : ℕ → ℕ → Instr → Type 0
IsNumbered hidden counters (instr.Load id) = id < first_hidden + hidden
IsNumbered hidden counters (instr.Save id) = id < first_hidden + hidden
IsNumbered hidden counters (instr.Enter counter) = counter < counters
IsNumbered hidden counters (instr.Turn counter at) = counter < counters
IsNumbered hidden counters _ = Unit {0}

-- all hidden scalars and counters of the code have numbers below these
abbrev pub UsesBelow : ℕ → ℕ → List Instr → Type 0
UsesBelow hidden counters code = (pc : ℕ) (i : Instr) → slice_get code pc ≡ Some i → IsNumbered hidden counters i

-- its target is one of so many instructions
abbrev pub HasTarget : ℕ → Instr → Type 0
HasTarget count (instr.Jump target) = target < count
HasTarget count (instr.Zero target) = target < count
HasTarget count _ = Unit {0}

-- the stack rule: on every way that reaches an instruction, the stack has the same depth and as many scalars are
-- declared; there is an instruction, it takes and leaves no more than there is, and the code ends with an empty stack; each
-- target is an instruction, and hidden scalars and counters are among those that a frame has
pub record IsSound (code : List Instr) : Type 0 where
  pub one : (pc : ℕ) (a b : Mark) → Way code pc a → Way code pc b → a ≡ b
  pub there : (pc : ℕ) (a : Mark) → Way code pc a → pc < length code
  pub takes : (pc : ℕ) (i : Instr) (a : Mark) → Way code pc a → slice_get code pc ≡ Some i → takes i ≤ a.depth
  pub leaves : (pc : ℕ) (i : Instr) (a : Mark) → Way code pc a → slice_get code pc ≡ Some i → leaves i ≤ a.declared
  pub ends : (pc : ℕ) (i : Instr) (a : Mark) → Way code pc a → slice_get code pc ≡ Some i → EndsEmpty i a.depth
  pub targets : (pc : ℕ) (i : Instr) → slice_get code pc ≡ Some i → HasTarget (length code) i
  pub numbered : UsesBelow places places code

-- the greatest number of this kind on all ways: none has a greater one, and one has it
pub record IsGreatest (kind : Mark → ℕ) (code : List Instr) (most : ℕ) : Type 0 where
  pub bounds : (pc : ℕ) (a : Mark) → Way code pc a → kind a ≤ most
  pub place : ℕ
  pub mark : Mark
  pub reached : Way code place mark
  pub is : kind mark ≡ most
