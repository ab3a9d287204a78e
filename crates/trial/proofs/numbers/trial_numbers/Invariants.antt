use Rattle.std.proofs.Common.{◌≡◌, ◌-◌, ◌++◌, length, All}
use Rattle.nona_tree.specs.Numbers.{IsI64}
use Rattle.trial.specs.Numbers.{numbers_behind, trial_numbers}
use Rattle.trial.proofs.numbers.trial_numbers.Given as goal

-- the numbers so far, and those behind the state, are the numbers of the trial
abbrev pub invariant-loop-done : goal.invariant-loop-done
invariant-loop-done l = record {
  count : length l.numbers.items ≡ l.done;
  told : l.numbers.items ++ numbers_behind (l.count - l.done) l.state ≡ trial_numbers l.n;
  fit : All IsI64 l.numbers.items;
}
