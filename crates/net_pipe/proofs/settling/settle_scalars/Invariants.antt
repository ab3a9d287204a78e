use Rattle.std.proofs.Common.{◌≡◌, ◌-◌, length}
use Rattle.net_pipe.specs.Gathered.{with_scalars}
use Rattle.net_pipe.proofs.settling.settle_scalars.Given as goal

-- settling the scalars that are left ends as settling all of them, and no scalar is gone
abbrev pub invariant-scalars : goal.invariant-scalars
invariant-scalars l =
    record {
      left : with_scalars l.reductions l.tasks l.id (length l.initial.store.scalars - l.id) l.store
          ≡ with_scalars l.reductions l.tasks 0 (length l.initial.store.scalars) l.initial.store;
      many : length l.store.scalars ≡ length l.initial.store.scalars;
    }
