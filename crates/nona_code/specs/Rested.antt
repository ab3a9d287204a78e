-- Registers between two units.
use Rattle.std.specs.Prelude.{◌≡◌, ℕ, [], pos, drop, length, replicate}
use Rattle.nona_code.specs.declared.registers.Registers.{Registers}
use Rattle.nona_code.specs.Machine.{places}

-- nothing is on the stack, and all hidden scalars and counters are 0
pub record IsRested (r : Registers) : Type 0 where
  pub empty : r.stack.items ≡ []
  pub hidden : r.hidden.items ≡ replicate places (pos 0)
  pub counters : r.counters.items ≡ replicate places 0

-- hidden scalars and counters from these numbers on are 0
pub record AreKept (first_hidden first_counter : ℕ) (r : Registers) : Type 0 where
  pub hidden : drop first_hidden r.hidden.items ≡ drop first_hidden (replicate places (pos 0))
  pub counters : drop first_counter r.counters.items ≡ drop first_counter (replicate places 0)
  pub all_hidden : length r.hidden.items ≡ places
  pub all_counters : length r.counters.items ≡ places

-- a frame as contracts see it: how many numbers its stack has room for
pub record FrameView : Type 0 where
  pub room : ℕ
