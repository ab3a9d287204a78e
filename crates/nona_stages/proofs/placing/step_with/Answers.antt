use Rattle.std.proofs.Common.{◌&&◌, Some}
use Rattle.nona_plans.specs.Stages.{is_ready, same_kind}
use Rattle.nona_stages.specs.Choices.{Steps, component_at, others_at, joined_choice}
use Rattle.nona_stages.proofs.Steps.{if_same, joins_same, found_in}
use Rattle.nona_stages.proofs.placing.step_with.Goals as goal

pub returns-in-Some : goal.returns-in-Some
returns-in-Some c =
    let first = found_in c.args.graph.now c.args.choice (λ ps x. same_kind c.args.choice.stage.sequential x.sequential && is_ready c.args.graph.now ps x) c.args.all.now c.as_slice.result.now (Some c.in-Some.place) c.requires.all c.as_slice.ensures c.in-Some.ensures.first in
    if_same c.joined.result (joined_choice c.args.choice (component_at c.args.choice.left c.in-Some.place) (others_at c.args.choice.left c.in-Some.place)) (Steps c.args.graph.now c.args.choice) c.joined.ensures
    (joins_same c.args.graph.now c.args.choice (component_at c.args.choice.left c.in-Some.place) (others_at c.args.choice.left c.in-Some.place) first)
