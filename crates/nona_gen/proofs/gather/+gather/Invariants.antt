use Rattle.std.proofs.Common.{◌≡◌, ◌++◌, drop}
use Rattle.nona_tree.specs.Entries.{regions_all}
use Rattle.nona_gen.specs.Gathered.{is_seen, loops_of}
use Rattle.nona_gen.proofs.gather.+gather.Given as goal

-- the loops so far and those of the statements that are left are those of all
abbrev pub invariant-gather_all-loop-s : goal.invariant-gather_all-loop-s
invariant-gather_all-loop-s l =
    loops_of l.loops.items ++ regions_all (is_seen l.plans) (drop l.s-index l.body)
    ≡ loops_of l.initial.loops.items ++ regions_all (is_seen l.plans) l.body
