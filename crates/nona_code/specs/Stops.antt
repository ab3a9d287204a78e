-- How code stops, as its frame says.
use Rattle.std.specs.Prelude.{◌≡◌, ◌≤◌, ℕ, ◌+◌, Bool, false, List, length, drop, Option, Some, None}
use Rattle.nona_tree.specs.Memory.{Memory}
use Rattle.nona_code.specs.declared.instr.Instr.{Instr}
use Rattle.nona_code.specs.declared.registers.Registers.{Registers}
use Rattle.nona_code.specs.declared.run.Stopped.{Stopped}
use Rattle.nona_code.specs.declared.run.Stopped.TheVariants as stopped
use Rattle.nona_store.specs.Banks.{HasRoom}
use Rattle.nona_code.specs.Machine.{State, Halt, ended, region, stuck, Trace, trace, most_steps}
use Rattle.nona_code.specs.Ready.{state_of}
use Rattle.nona_code.specs.declared.marks.Mark.{Mark}
use Rattle.nona_code.specs.Rule.{Way}

-- how code takes its course from the instruction at pc on, with these registers over a store
abbrev pub course : List Instr → ℕ → Registers → ℕ → Memory → Trace
course code n r pc m = trace code n (most_steps code n) (state_of r pc m)

-- code has stopped, and not for want of anything
abbrev pub IsOver : Option Halt → Type 0
IsOver None = ⊥
IsOver (Some (ended ran)) = Unit {0}
IsOver (Some (region number low high s)) = Unit {0}
IsOver (Some stuck) = ⊥

-- these registers are those of code that has stopped; only a bank that isn't firm runs out of memory
abbrev pub HasStopped : Option Halt → Stopped → Registers → Memory → Bool → Type 0
HasStopped end (stopped.Ended outcome) r m firm = end ≡ Some (ended (record { store = m; end = outcome }))
HasStopped end (stopped.Region number low high next) r m firm = end ≡ Some (region number low high (state_of r next m))
HasStopped end stopped.NoMemory r m firm = firm ≡ false

-- a way of the code leads to a state: its stack is as high as the way says, and it has as many scalars over base as are declared
pub record Follows (code : List Instr) (base : ℕ) (s : State) : Type 0 where
  pub declared : ℕ
  pub way : Way code s.pc (record { depth = length s.stack; declared = declared })
  pub scalars : length s.store.scalars ≡ base + declared

-- a way of the code leads to these registers at pc, over a store; and each way has room on the stack, and in the bank for the
-- scalars that it declares
pub record IsOnWay (code : List Instr) (room : Option ℕ) (r : Registers) (pc : ℕ) (m : Memory) : Type 0 where
  pub base : ℕ
  pub follows : Follows code base (state_of r pc m)
  pub high : (to : ℕ) (a : Mark) → Way code to a → a.depth ≤ r.stack.room
  pub many : (to : ℕ) (a : Mark) → Way code to a → HasRoom room (base + a.declared)

-- hidden scalars and counters from these numbers on are as they were, and so are their counts
pub record KeepsFrom (first_hidden first_counter : ℕ) (old new : Registers) : Type 0 where
  pub hidden : drop first_hidden new.hidden.items ≡ drop first_hidden old.hidden.items
  pub counters : drop first_counter new.counters.items ≡ drop first_counter old.counters.items
  pub all_hidden : length new.hidden.items ≡ length old.hidden.items
  pub all_counters : length new.counters.items ≡ length old.counters.items
