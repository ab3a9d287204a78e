-- What a bank allows.
use Rattle.std.specs.Prelude.{◌≡◌, ℕ, ◌≤◌, Bool, true, false, None, Some}
use Rattle.std.specs.declared.option.Option.{Option}
use Rattle.nona_tree.specs.Memory.{Memory}
use Rattle.nona_tree.specs.Deeds.{Deed, reads, sets, folds, loads, stores, joins, prints}

-- which cells of an array may be loaded and which saved, how many scalars may stand where there is a bound, whether numbers
-- may be printed, whether memory never runs out, the store beside which a bank writes, where it does so, for how many
-- scalars room was reserved, and the name of the loan of what it writes to, where that is lent
pub record Limits : Type 0 where
  pub loads : ℕ → ℕ → Bool
  pub saves : ℕ → ℕ → Bool
  pub room : Option ℕ
  pub prints : Bool
  pub firm : Bool
  pub base : Option Memory
  pub reserved : ℕ
  pub loan : Option ℕ

-- so many scalars may stand
abbrev pub HasRoom : Option ℕ → ℕ → Type 0
HasRoom None count = Unit {0}
HasRoom (Some room) count = count ≤ room

-- a deed that these limits allow: each deed on a scalar, and those on a cell and of printing by what they need
abbrev pub Allows : Limits → Deed → Type 0
Allows l (loads array place) = l.loads array place ≡ true
Allows l (stores array place) = l.saves array place ≡ true
Allows l (joins f array place) = (l.loads array place ≡ true) × (l.saves array place ≡ true)
Allows l prints = l.prints ≡ true
Allows l (reads id) = Unit {0}
Allows l (sets id) = Unit {0}
Allows l (folds f id) = Unit {0}

-- what a whole store allows: every cell, any number of scalars, and prints; its memory may run out, no room is reserved, and nothing is lent
abbrev pub all_allowed : Limits
all_allowed = record {
  loads = λ array place. true;
  saves = λ array place. true;
  room = None;
  prints = true;
  firm = false;
  base = None;
  reserved = 0;
  loan = None;
}
