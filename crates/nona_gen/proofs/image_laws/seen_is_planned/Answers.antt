use Rattle.nona_stages.specs.Seen.{seen_of}
use Rattle.nona_gen.proofs.ByPlans.{image_planned, regions_calm}
use Rattle.nona_gen.proofs.image_laws.seen_is_planned.Goals as goal

pub returns-clause-calm : goal.returns-clause-calm
returns-clause-calm c = λ p checked.
    regions_calm p (seen_of p) (c.regions_are_planned.ensures.places p checked.4) (c.regions_are_planned.ensures.parallel p) c.regions_are_planned.ensures.calm

pub returns-clause-image : goal.returns-clause-image
returns-clause-image c = λ p checked.
    image_planned p (seen_of p) (c.regions_are_planned.ensures.places p checked.4) (c.regions_are_planned.ensures.plans p checked.4)
