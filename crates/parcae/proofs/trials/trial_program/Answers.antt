use Rattle.trial.specs.Text.{trial_text}
use Rattle.trial.specs.Tree.{trial_tree}
use Rattle.parcae.proofs.Accepting.{not_refused}
use Rattle.parcae.proofs.trials.trial_program.Goals as goal

-- the text of the trials is accepted, so it is not refused
pub unreachable-requires : goal.unreachable-requires
unreachable-requires c =
    let told = rw c.in-Err-Refused.field-0-is at c.in-Err-Refused.ensures in
    not_refused trial_text trial_tree (c.reads_one_tree.ensures trial_text) c.trial_is_a_program.ensures.accepted _
    (rw (c.deref.ensures.value, c.in_ok-text.ensures.text) at told.refused)
