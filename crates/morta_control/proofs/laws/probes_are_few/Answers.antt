use Rattle.morta_control.proofs.Counting.{few_probes}
use Rattle.morta_control.proofs.laws.probes_are_few.Goals as goal

pub returns : goal.returns
returns c = few_probes
