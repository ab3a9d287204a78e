use Rattle.parcae.proofs.Completing.{completes}
use Rattle.parcae.proofs.still.parcae_still.Goals as goal

pub returns-clause-complete : goal.returns-clause-complete
returns-clause-complete g c = completes c.reads_one_tree.ensures _ _ _ _ c.still.ensures.answers
