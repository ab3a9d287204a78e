-- What an instruction needs.
use Rattle.std.specs.Prelude.{◌≡◌, ◌<◌, ◌≤◌, ℕ, ◌+◌, ◌-◌, Bool, true, false, nat_lt, if◌then◌else◌, ℤ, pos, List, [], ◌∷◌, length, slice_index_or, Option}
use Rattle.nona_num.specs.declared.folds.Fold.{Fold}
use Rattle.nona_num.specs.Folds.{join_of}
use Rattle.nona_tree.specs.Memory.{Memory, scalar_at, cells_of, cell_at, assign, put_cell}
use Rattle.nona_code.specs.declared.instr.Instr.{Instr}
use Rattle.nona_code.specs.declared.instr.Instr.TheVariants as instr
use Rattle.nona_code.specs.declared.registers.Registers.{Registers}
use Rattle.nona_code.specs.declared.step.Step.{Step}
use Rattle.nona_code.specs.declared.step.Step.TheVariants as step
use Rattle.nona_code.specs.Machine.{State, Next, goes, halts, ended, region, act, open_at, is_place, first_hidden}
use Rattle.nona_store.specs.Banks.{HasRoom}

-- a number stands on top, of which this holds
abbrev pub with_one : List ℤ → (ℤ → Type 0) → Type 0
with_one [] P = ⊥
with_one (v ∷ rest) P = P v

-- two numbers stand on top, of which this holds: the lower one first
abbrev pub with_two : List ℤ → (ℤ → ℤ → Type 0) → Type 0
with_two [] P = ⊥
with_two (b ∷ []) P = ⊥
with_two (b ∷ a ∷ rest) P = P a b

-- a scalar with this id, visible or hidden, is there
abbrev pub IsThereBy : Bool → ℕ → ℕ → ℕ → Type 0
IsThereBy true id visible hidden = id < visible
IsThereBy false id visible hidden = (id - first_hidden) < hidden

abbrev pub IsThereIn : ℕ → ℕ → ℕ → Type 0
IsThereIn id visible hidden = IsThereBy (nat_lt id first_hidden) id visible hidden

abbrev pub IsThere : ℕ → State → Type 0
IsThere id s = IsThereIn id (length s.store.scalars) (length s.hidden)

-- the scalar with this id, visible or hidden
abbrev pub loaded : ℕ → Memory → List ℤ → ℤ
loaded id m hidden = if nat_lt id first_hidden then scalar_at m id else slice_index_or hidden (id - first_hidden) (pos 0)

-- the instruction has what it needs
abbrev pub IsReady : Instr → ℕ → State → Type 0
IsReady (instr.Push v) out s = Unit {0}
IsReady (instr.Load id) out s = IsThere id s
IsReady (instr.Len array) out s = array < length s.store.arrays
IsReady (instr.Save id) out s = with_one s.stack (λ v. IsThere id s)
IsReady instr.Drop out s = with_one s.stack (λ v. Unit {0})
IsReady instr.Print out s = with_one s.stack (λ v. Unit {0})
IsReady instr.Declare out s = with_one s.stack (λ v. Unit {0})
IsReady (instr.Leave count) out s = count ≤ length s.store.scalars
IsReady (instr.Bound array wrap at) out s = with_one s.stack (λ v. (array < length s.store.arrays) × (out ≤ length s.store.scalars))
IsReady (instr.Get array) out s = with_one s.stack (λ v. is_place (length (cells_of s.store array)) v ≡ true)
IsReady (instr.Put array) out s = with_two s.stack (λ place v. is_place (length (cells_of s.store array)) place ≡ true)
IsReady (instr.FoldPut array f) out s = with_two s.stack (λ place v. is_place (length (cells_of s.store array)) place ≡ true)
IsReady (instr.FoldSave id f) out s = with_one s.stack (λ v. id < length s.store.scalars)
IsReady instr.Neg out s = with_one s.stack (λ v. Unit {0})
IsReady instr.Not out s = with_one s.stack (λ v. Unit {0})
IsReady (instr.Binary op at) out s = with_two s.stack (λ a b. out ≤ length s.store.scalars)
IsReady (instr.Jump target) out s = Unit {0}
IsReady (instr.Zero target) out s = with_one s.stack (λ v. Unit {0})
IsReady (instr.Enter counter) out s = counter < length s.counters
IsReady (instr.Turn counter at) out s = (counter < length s.counters) × (out ≤ length s.store.scalars)
IsReady (instr.Region number) out s = with_two s.stack (λ low high. Unit {0})
IsReady instr.Stop out s = Unit {0}

-- a scalar may be declared, where the instruction does that
abbrev pub HasPlace : Instr → Option ℕ → ℕ → Type 0
HasPlace instr.Declare room count = HasRoom room (count + 1)
HasPlace _ room count = Unit {0}

-- the state of registers at an instruction, over a store
abbrev pub state_of : Registers → ℕ → Memory → State
state_of r pc m = record { pc = pc; stack = r.stack.items; hidden = r.hidden.items; counters = r.counters.items; store = m }

-- what an instruction at pc of the code does there
abbrev pub does : List Instr → ℕ → ℕ → Instr → Registers → Memory → Next
does code n pc i r m = act i (open_at code pc) n (state_of r pc m)

-- what a step of the code says; only a bank that isn't firm runs out of memory
abbrev pub IsStep : Next → Step → ℕ → Registers → Memory → Bool → Type 0
IsStep next (step.On at) pc r m firm = next ≡ goes (state_of r at m)
IsStep next (step.Ended end) pc r m firm = next ≡ halts (ended (record { store = m; end = end }))
IsStep next (step.Region number low high) pc r m firm = next ≡ halts (region number low high (state_of r (pc + 1) m))
IsStep next step.NoMemory pc r m firm = firm ≡ false

-- where the code stops, its hidden scalars and counters are as they were
abbrev pub EndKeeps : Step → Registers → Registers → Type 0
EndKeeps (step.On at) old new = Unit {0}
EndKeeps _ old new = (new.hidden.items ≡ old.hidden.items) × (new.counters.items ≡ old.counters.items)

-- the store with a number joined into a cell, and into a scalar
abbrev pub joined_cell : ℕ → ℕ → Fold → ℤ → Memory → Memory
joined_cell array place fold v m = put_cell array place (join_of fold (cell_at m array place) v) m

abbrev pub joined_scalar : ℕ → Fold → ℤ → Memory → Memory
joined_scalar id fold v m = assign id (join_of fold (scalar_at m id) v) m
