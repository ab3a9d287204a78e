use Rattle.std.proofs.Common.{◌≡◌, ◌+◌, ◌-◌, ◌++◌}
use Rattle.trial.specs.declared.text.TheConstants.{BLOCKS}
use Rattle.trial.specs.Text.{blocks_text, trial_text}
use Rattle.trial.proofs.text.trial_text.Given as goal

-- the text so far, and the blocks to come, are the text
abbrev pub invariant-loop-done : goal.invariant-loop-done
invariant-loop-done l = l.text.items ++ blocks_text (BLOCKS - l.done) (l.done + 1) ≡ trial_text
