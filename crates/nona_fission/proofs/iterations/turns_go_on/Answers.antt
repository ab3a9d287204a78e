use Rattle.nona_fission.proofs.Whole.{goes_on, deeds_go_on, front_done}
use Rattle.nona_fission.proofs.iterations.turns_go_on.Goals as goal

pub returns-clause-turns : goal.returns-clause-turns
returns-clause-turns c = goes_on

pub returns-clause-deeds : goal.returns-clause-deeds
returns-clause-deeds c = deeds_go_on

pub returns-clause-front : goal.returns-clause-front
returns-clause-front c = front_done
