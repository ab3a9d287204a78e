use Rattle.std.proofs.Common.{◌≡◌, drop, fold}
use Rattle.nona_num.specs.Numbers.{add_of}
use Rattle.parcae.specs.Summary.{sum_of}
use Rattle.parcae.proofs.summary.sum_of.Given as goal

-- the sum so far, with the numbers that are left, is that of all
abbrev pub invariant-loop-number : goal.invariant-loop-number
invariant-loop-number l = fold add_of l.sum (drop l.number-index l.numbers) ≡ sum_of l.numbers
