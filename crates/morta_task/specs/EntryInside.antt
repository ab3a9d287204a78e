-- What an entry keeps.
use Rattle.std.specs.Prelude.{◌≡◌, ◌≤◌}
use Rattle.nona_tree.specs.Entries.{last_of}
use Rattle.morta_task.specs.declared.limits.TheConstants.{TURNS}
use Rattle.morta_task.specs.declared.entry.Entry.TheInside.{Inside}
use Rattle.morta_task.specs.Entries.{EntryView}

-- an entry, as contracts see it
abbrev pub view_of : Inside → EntryView
view_of a = record {
  number = a.number;
  region = a.region;
  looped = a.code.value.looped;
  plan = a.code.value.plan;
  low = a.low;
  high = a.high;
  turns = a.turns;
  any = a.any;
  pipe = a.pipe;
  store = a.store.value;
}

-- the number behind its last index is the one that its bounds and its turns give, of which there are as many as there may be
pub record IsEntry (a : Inside) : Type 0 where
  pub last : a.last ≡ last_of a.low a.high a.turns
  pub some_turns : 1 ≤ a.turns
  pub few_turns : a.turns ≤ TURNS
