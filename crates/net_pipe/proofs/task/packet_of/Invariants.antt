use Rattle.std.proofs.Common.{◌≡◌, ◌++◌, drop, length, map}
use Rattle.net_share.specs.Gathered.{own_scalar}
use Rattle.net_pipe.proofs.task.packet_of.Given as goal

-- the values so far, and those of the ids that are left, are those of all
abbrev pub invariant-loop-id : goal.invariant-loop-id
invariant-loop-id l =
    record {
      values : l.packet.items ++ map (λ id. own_scalar id l.share) (drop l.id-index l.ids) ≡ map (λ id. own_scalar id l.share) l.ids;
      count : length l.packet.items ≡ l.id-index;
    }
