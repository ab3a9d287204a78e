use Rattle.std.proofs.Common.{◌≡◌, drop, length}
use Rattle.nona_store.specs.Overlays.{written_off}
use Rattle.net_share.proofs.Gathering.{AreChangedBelow}
use Rattle.net_share.specs.Gathered.{with_page}
use Rattle.net_share.specs.Tasks.{share_of}
use Rattle.net_share.proofs.settling.move_page.Given as goal

-- what the tasks that are left have on the page ends as what all have, the others have nothing on it, and no task or array is gone
abbrev pub invariant-tasks : goal.invariant-tasks
invariant-tasks l = record {
  store : with_page share_of l.array l.index (drop l.number l.initial.tasks.items) l.store ≡ with_page share_of l.array l.index l.initial.tasks.items l.initial.store;
  tasks : AreChangedBelow share_of l.number (written_off l.array l.index) l.initial.tasks.items l.tasks.items;
  many : length l.tasks.items ≡ length l.initial.tasks.items;
  arrays : length l.store.arrays ≡ length l.initial.store.arrays;
}
