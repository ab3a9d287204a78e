-- What one of several tasks sees of a store.
use Rattle.std.specs.Prelude.{ℕ, ◌++◌, true, false, ℤ, List, None, Some}
use Rattle.std.specs.declared.option.Option.{Option}
use Rattle.nona_tree.specs.Memory.{Memory}
use Rattle.nona_store.specs.Banks.{Limits}
use Rattle.nona_store.specs.Overlays.{over_of, arrays_under}

-- a task's own scalars, the cells that it has written, and what it has printed; and for how many scalars it has room
pub record ShareView : Type 0 where
  pub scalars : List ℤ
  pub written : List (List (List (Option ℤ)))
  pub printed : List ℤ
  pub room : ℕ

-- the store that a task sees: its own scalars, the cells of a store under those that it has written, and behind what the store
-- has printed what it has printed itself
abbrev pub shared : Memory → ShareView → Memory
shared m share = record { scalars = share.scalars; arrays = arrays_under (over_of share.written) 0 m.arrays; printed = m.printed ++ share.printed }

-- every cell may be loaded and saved, any number of scalars may stand, and numbers may be printed; memory may run out; what is
-- written stands beside this store; room is reserved for so many scalars; and what is written to is lent by this loan
abbrev pub all_beside : Memory → ℕ → ℕ → Limits
all_beside m reserved loan = record {
  loads = λ array place. true;
  saves = λ array place. true;
  room = None;
  prints = true;
  firm = false;
  base = Some m;
  reserved = reserved;
  loan = Some loan;
}
