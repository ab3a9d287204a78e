use Rattle.nona_stages.proofs.Steps.{joined_is}
use Rattle.nona_stages.proofs.placing.joined.Goals as goal

pub returns : goal.returns
returns c = joined_is c.args.choice c.args.place c.taken-component.result c.taken-component.new.left c.in_ok-stage.stage c.taken-component.ensures.item c.taken-component.ensures.rest c.in_ok-stage.ensures
