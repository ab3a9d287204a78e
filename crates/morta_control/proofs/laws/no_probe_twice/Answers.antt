use Rattle.morta_control.proofs.Counting.{none_is_kept}
use Rattle.morta_control.proofs.laws.no_probe_twice.Goals as goal

pub returns : goal.returns
returns c = none_is_kept
