use Rattle.std.proofs.Common.{◌≡◌, ◌≤◌, ◌<◌, ◌-◌, length, drop, true, pos, nat_lt}
use Rattle.std.specs.Prelude.{slice_index_or}
use Rattle.nona_forms.specs.Verdicts.{invariant_terms, same_terms}
use Rattle.nona_affine.proofs.pairs.same_before.Given as goal

abbrev pub invariant-loop-i : goal.invariant-loop-i
invariant-loop-i l = record {
  in_left : l.i ≤ length l.left;
  in_right : l.j ≤ length l.right;
  here_left : l.i < length l.left → nat_lt (slice_index_or l.left l.i (record { id = 0; coefficient = pos 0 })).id l.fn.index ≡ true;
  here_right : l.j < length l.right → nat_lt (slice_index_or l.right l.j (record { id = 0; coefficient = pos 0 })).id l.fn.index ≡ true;
  same : same_terms (invariant_terms l.fn.index l.left) (invariant_terms l.fn.index l.right) ≡ same_terms (invariant_terms l.fn.index (drop l.i l.left)) (invariant_terms l.fn.index (drop l.j l.right));
}

abbrev pub decreases-loop-i : goal.decreases-loop-i
decreases-loop-i l = length l.left - l.i
