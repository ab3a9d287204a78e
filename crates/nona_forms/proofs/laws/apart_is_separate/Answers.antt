use Rattle.nona_forms.proofs.Sound.{loop_apart, loop_exact}
use Rattle.nona_forms.proofs.laws.apart_is_separate.Goals as goal

pub returns-clause-exact : goal.returns-clause-exact
returns-clause-exact c = loop_exact

pub returns-clause-separate : goal.returns-clause-separate
returns-clause-separate c = loop_apart
