use Rattle.std.proofs.Common.{◌≡◌, ◌++◌, ◌+◌, ◌<◌, ◌^◌, length}
use Rattle.std.specs.Vec.Iter.{into_iter_items}
use Rattle.nona_stages.specs.Seen.{regions_of}
use Rattle.nona_stages.specs.Walking.{seen_marked}
use Rattle.nona_stages.proofs.outer.seen_by.Given as goal

-- what is seen so far and of the marks that are left is what is seen of all, and the numbers that are left fit
abbrev pub invariant-loop-mark : goal.invariant-loop-mark
invariant-loop-mark l =
    record {
      seen : l.all.items ++ seen_marked l.number (into_iter_items l.mark-iterator) ≡ seen_marked 1 l.fn.marks.items;
      few : length (regions_of (seen_marked l.number (into_iter_items l.mark-iterator))) + l.number < 2 ^ 32;
    }
