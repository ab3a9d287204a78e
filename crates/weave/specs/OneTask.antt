-- The machine of an interval under `seq`, as it is kept.
use Rattle.std.specs.Prelude.{◌≡◌, ℕ, ◌<◌, ◌≤◌, pos, ◌+ℤ◌, FitsSigned, List, [], ◌∷◌, drop, length}
use Rattle.std.specs.Int.{w64}
use Rattle.nona_tree.specs.declared.trees.Stmt.{Stmt}
use Rattle.nona_tree.specs.Memory.{Memory, cut_to}
use Rattle.morta_task.specs.Entries.{IsEntered, before}
use Rattle.morta_task.specs.declared.limits.TheConstants.{TURNS}
use Rattle.weave.specs.declared.one_task.Position.{Position}
use Rattle.weave.specs.declared.one_task.Position.TheVariants as place
use Rattle.weave.specs.declared.one_task.OneTask.{OneTask}
use Rattle.weave.specs.SeqNet.{SeqNet, Stand, Claims, Unit_of, Finished}
use Rattle.weave.specs.SeqState.{IsSound}

-- before the first of these units, or before a claim where there is none
abbrev pub place_before : List Stmt → Stand
place_before [] = Claims
place_before (s ∷ rest) = Unit_of s rest

-- the store there: at the end of an iteration its scalars are gone
abbrev pub store_before : ℕ → List Stmt → Memory → Memory
store_before depth [] m = cut_to depth m
store_before depth (s ∷ rest) m = m

-- where the task of a machine with these units stands
abbrev pub stand_of : List Stmt → Position → Stand
stand_of units place.Claims = Claims
stand_of units (place.Unit at) = place_before (drop at units)
stand_of units place.Finished = Finished

-- a unit of an iteration has a number among them
abbrev pub IsPlace : List Stmt → Position → Type 0
IsPlace units place.Claims = Unit {0}
IsPlace units (place.Unit at) = at < length units
IsPlace units place.Finished = Unit {0}

-- the machine, as the definitions see it
abbrev pub net_of : OneTask → SeqNet
net_of n = record {
  entry = n.entry.now;
  before = before n.entry.now n.from;
  limit = n.limit;
  granted = n.granted;
  paused = n.paused;
  place = stand_of n.units.now.body n.place;
  store = n.store;
  end = n.end;
  moves = n.moves;
}

-- what stands of it at each step: its units are those of the entry's loop, and its frame has room for them; the scalars around
-- them are those of the entry's store; it begins at an index of the entry, and each index up to its limit is a number of 64 bits;
-- the limit is at most as many turns as a loop may have; and its place is one of its units
pub record IsSet (n : OneTask) : Type 0 where
  pub entered : IsEntered n.entry.now
  pub units : n.units.now.body ≡ n.entry.now.looped.body
  pub room : n.units.now.room ≤ n.frame.room
  pub depth : n.depth ≡ length n.entry.now.store.scalars
  pub from : n.from ≡ n.entry.now.low +ℤ pos (before n.entry.now n.from)
  pub fits : (k : ℕ) → k ≤ n.limit → FitsSigned w64 (n.from +ℤ pos k)
  pub few : n.limit ≤ TURNS
  pub place : IsPlace n.units.now.body n.place

-- it has what one thread has there
pub record IsOneTask (n : OneTask) : Type 0 where
  pub set : IsSet n
  pub sound : IsSound (net_of n)
