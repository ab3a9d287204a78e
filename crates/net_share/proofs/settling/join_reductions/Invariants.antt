use Rattle.std.proofs.Common.{◌≡◌, drop, length}
use Rattle.net_share.specs.Gathered.{with_joined}
use Rattle.net_share.specs.Tasks.{share_of}
use Rattle.net_share.proofs.settling.join_reductions.Given as goal

-- joining the reductions that are left ends as joining all of them, and no scalar is gone
abbrev pub invariant-reductions : goal.invariant-reductions
invariant-reductions l =
    record {
      left : with_joined share_of (drop l.id-index l.reductions) l.tasks l.store ≡ with_joined share_of l.reductions l.tasks l.initial.store;
      many : length l.store.scalars ≡ length l.initial.store.scalars;
    }
