use Rattle.nona_tree.proofs.FirstFault.{one_first}
use Rattle.nona_tree.proofs.checked_laws.first_fault_is_one.Goals as goal

pub returns : goal.returns
returns c = one_first
