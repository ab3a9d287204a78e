-- What an instruction finds.
use Rattle.std.specs.Prelude.{◌≡◌, ◌<◌, ℕ, ◌+◌, Bool, false, ℤ, ◌∷◌, length}
use Rattle.nona_tree.specs.Memory.{Memory}
use Rattle.nona_tree.specs.Value.{from_test}
use Rattle.nona_code.specs.declared.finding.Found.{Found}
use Rattle.nona_code.specs.declared.finding.Found.TheVariants as found
use Rattle.nona_code.specs.declared.registers.Registers.{Registers}
use Rattle.nona_code.specs.Machine.{State, Next, goes, halts, ended, region}
use Rattle.nona_code.specs.Pile.{Pile}
use Rattle.nona_code.specs.Ready.{state_of}

-- the state with one more number on the stack
abbrev pub with_top : ℤ → State → State
with_top v s = record s { stack = v ∷ s.stack }

-- what an instruction does is what it found, with these registers over a store; only a bank that isn't firm runs out of memory
abbrev pub IsFound : Next → Found → ℕ → Registers → Memory → Bool → Type 0
IsFound next (found.Put v) pc r m firm = next ≡ goes (with_top v (state_of r (pc + 1) m))
IsFound next (found.Number v) pc r m firm = next ≡ goes (with_top v (state_of r (pc + 1) m))
IsFound next (found.Test holds) pc r m firm = next ≡ goes (with_top (from_test holds) (state_of r (pc + 1) m))
IsFound next found.Next pc r m firm = next ≡ goes (state_of r (pc + 1) m)
IsFound next (found.To at) pc r m firm = next ≡ goes (state_of r at m)
IsFound next (found.Ended end) pc r m firm = next ≡ halts (ended (record { store = m; end = end }))
IsFound next (found.Region number low high) pc r m firm = next ≡ halts (region number low high (state_of r (pc + 1) m))
IsFound next found.NoMemory pc r m firm = firm ≡ false

-- a number that was found has room on the stack
abbrev pub HasRoomFor : Found → Pile → Type 0
HasRoomFor (found.Put v) stack = length stack.items < stack.room
HasRoomFor (found.Number v) stack = length stack.items < stack.room
HasRoomFor (found.Test holds) stack = length stack.items < stack.room
HasRoomFor _ stack = Unit {0}

-- where the code stops, its hidden scalars and counters are as they were
abbrev pub StopKeeps : Found → Registers → Registers → Type 0
StopKeeps (found.Ended end) old new = (new.hidden.items ≡ old.hidden.items) × (new.counters.items ≡ old.counters.items)
StopKeeps (found.Region number low high) old new = (new.hidden.items ≡ old.hidden.items) × (new.counters.items ≡ old.counters.items)
StopKeeps found.NoMemory old new = (new.hidden.items ≡ old.hidden.items) × (new.counters.items ≡ old.counters.items)
StopKeeps _ old new = Unit {0}
