use Rattle.net_pipe.specs.Entries.{staging_in, stages_meaning}
use Rattle.net_pipe.proofs.Placed.{can_step}
use Rattle.net_pipe.proofs.StageNets.{is_pipeline, stages_may, stages_move, stages_pause, stages_step}
use Rattle.net_pipe.proofs.laws.stages_go_on.Goals as goal

pub returns-clause-steps : goal.returns-clause-steps
returns-clause-steps c = λ e p W capacity first limit t net h here below goes. stages_step e p W capacity first limit h net here t below goes

pub returns-clause-pauses : goal.returns-clause-pauses
returns-clause-pauses c = stages_pause

pub returns-clause-may : goal.returns-clause-may
returns-clause-may c = λ e p W capacity first limit t net h here below. stages_may e p W capacity first limit h net here t below

pub returns-clause-can : goal.returns-clause-can
returns-clause-can c = λ e p W capacity first limit t net h few here below.
    let g = staging_in e p W capacity first in
    can_step g (stages_meaning e g first) limit (is_pipeline e p W capacity first limit h) few net here t below (stages_may e p W capacity first limit h net here t below)

pub returns-clause-never_stuck : goal.returns-clause-never_stuck
returns-clause-never_stuck c = λ e p W capacity first limit net h here going. stages_move e p W capacity first limit h net here going
