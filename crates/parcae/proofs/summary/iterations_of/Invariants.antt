use Rattle.std.proofs.Common.{◌≡◌, ◌+◌, ◌*◌, ◌^◌, ◌≤◌, drop}
use Rattle.parcae.specs.Summary.{iterations_of}
use Rattle.parcae.proofs.summary.iterations_of.Given as goal

-- the total so far, with the iterations of the intervals that are left, is that of all, and each interval adds less than 2^64
abbrev pub invariant-loop-interval : goal.invariant-loop-interval
invariant-loop-interval l = record {
  sum : l.total + iterations_of (drop l.interval-index l.intervals) ≡ iterations_of l.intervals;
  few : l.total ≤ l.interval-index * 2 ^ 64;
}
