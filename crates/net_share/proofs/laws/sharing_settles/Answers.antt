use Rattle.net_share.proofs.EntryNets.{granted_few, moves_are, ends}
use Rattle.net_share.proofs.SettledViews.{settled_is_done}
use Rattle.net_share.proofs.laws.sharing_settles.Goals as goal

pub returns-clause-settled : goal.returns-clause-settled
returns-clause-settled c = λ e first limit W net m h here over settled. settled_is_done e first limit W net m h here over settled

pub returns-clause-moves : goal.returns-clause-moves
returns-clause-moves c = moves_are

pub returns-clause-granted : goal.returns-clause-granted
returns-clause-granted c = granted_few

pub returns-clause-ends : goal.returns-clause-ends
returns-clause-ends c = λ e first limit W net h here. ends e first limit W net here h
