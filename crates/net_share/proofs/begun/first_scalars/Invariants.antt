use Rattle.std.proofs.Common.{◌≡◌, ◌≤◌, drop, length}
use Rattle.std.specs.Prelude.{vec_capacity}
use Rattle.nona_fission.specs.Sharing.{with_units}
use Rattle.net_share.proofs.begun.first_scalars.Given as goal

-- giving the reductions that are left their units ends as giving all of them theirs; no scalar is gone; and the room is there
abbrev pub invariant-loop-id : goal.invariant-loop-id
invariant-loop-id l =
    record {
      left : (with_units (drop l.id-index l.reductions) (record l.store { scalars = l.scalars.items })).scalars ≡ (with_units l.reductions l.store).scalars;
      many : length l.scalars.items ≡ length l.store.scalars;
      room : l.room ≤ vec_capacity l.scalars;
    }
