use Rattle.nona_grammar.proofs.Exact.{fault_at}
use Rattle.nona_grammar.proofs.fault_is_exact.Goals as goal

pub returns : goal.returns
returns c = fault_at
