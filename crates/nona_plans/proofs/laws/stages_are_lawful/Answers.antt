use Rattle.nona_plans.proofs.LawfulStages.{all_lawful}
use Rattle.nona_plans.proofs.laws.stages_are_lawful.Goals as goal

pub returns : goal.returns
returns c = all_lawful
