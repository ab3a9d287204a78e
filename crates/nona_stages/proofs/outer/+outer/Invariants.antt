use Rattle.std.proofs.Common.{◌≡◌, ◌++◌, drop}
use Rattle.std.specs.Prelude.{map}
use Rattle.nona_stages.specs.Seen.{is_parallel, outer_all}
use Rattle.nona_stages.specs.Walking.{AreFew, mark_of}
use Rattle.nona_stages.proofs.outer.+outer.Given as goal

-- the marks so far and those of the statements that are left are those of all, and the loops that are left have few units
abbrev pub invariant-add_all-loop-stmt : goal.invariant-add_all-loop-stmt
invariant-add_all-loop-stmt l =
    record {
      marks : l.marks.items ++ map mark_of (outer_all is_parallel (drop l.stmt-index l.body)) ≡ l.initial.marks.items ++ map mark_of (outer_all is_parallel l.body);
      few : AreFew (outer_all is_parallel (drop l.stmt-index l.body));
    }
