use Rattle.std.proofs.Common.{◌≡◌, length}
use Rattle.nona_store.specs.Overlays.{changes_on_page}
use Rattle.net_share.proofs.Gathering.{AreChangedBehindBelow}
use Rattle.net_share.specs.Tasks.{share_of}
use Rattle.net_share.proofs.settling.keep_page.Given as goal

-- the first task is as it was, the others so far have of the page only what isn't in the store already, and the rest are as they were
abbrev pub invariant-tasks : goal.invariant-tasks
invariant-tasks l = record {
  kept : AreChangedBehindBelow share_of l.number (changes_on_page l.array l.index l.store) l.initial.tasks.items l.tasks.items;
  many : length l.tasks.items ≡ length l.initial.tasks.items;
}
