use Rattle.net_share.proofs.EntryNets.{steps, pauses, may_step}
use Rattle.net_share.proofs.laws.sharing_goes_on.Goals as goal

pub returns-clause-steps : goal.returns-clause-steps
returns-clause-steps c = λ e first limit W t net h here below goes. steps e first limit W net here h t below goes

pub returns-clause-pauses : goal.returns-clause-pauses
returns-clause-pauses c = λ e first limit W net h here. pauses e first limit W net here h

pub returns-clause-may : goal.returns-clause-may
returns-clause-may c = λ e first limit W t net h here below. may_step e first limit W net here h t below
