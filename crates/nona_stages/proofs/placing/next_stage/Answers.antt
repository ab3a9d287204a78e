use Rattle.std.proofs.Common.{arith, Some, None}
use Rattle.nona_plans.specs.Stages.{is_ready}
use Rattle.nona_stages.specs.Choices.{Steps, component_at, others_at, begun_choice, closed_choice, ended_choice}
use Rattle.nona_stages.proofs.Steps.{if_same, begins_same, ends_full, ends_none, found_in}
use Rattle.nona_stages.proofs.placing.next_stage.Goals as goal

pub returns-then-choice-eq0 : goal.returns-then-choice-eq0
returns-then-choice-eq0 c =
    if_same c.closed_and_ended.result (ended_choice (closed_choice c.args.graph.now c.args.choice)) (Steps c.args.graph.now c.args.choice) c.closed_and_ended.ensures
    (ends_full c.args.graph.now c.args.choice c.requires.some c.requires.none c.if-choice-eq0.true)

pub returns-in-Some : goal.returns-in-Some
returns-in-Some c =
    let first = found_in c.args.graph.now c.args.choice (is_ready c.args.graph.now) c.args.all.now c.as_slice.result.now (Some c.in-Some.place) c.requires.all c.as_slice.ensures c.in-Some.ensures.first in
    if_same c.closed_and_begun.result (begun_choice (closed_choice c.args.graph.now c.args.choice) (component_at c.args.choice.left c.in-Some.place) (others_at c.args.choice.left c.in-Some.place)) (Steps c.args.graph.now c.args.choice) c.closed_and_begun.ensures
    (begins_same c.args.graph.now c.args.choice (component_at c.args.choice.left c.in-Some.place) (others_at c.args.choice.left c.in-Some.place) c.requires.none first (let no_room = c.if-choice-eq0.false in omega (arith, no_room)))

pub returns-in-None : goal.returns-in-None
returns-in-None c =
    let first = found_in c.args.graph.now c.args.choice (is_ready c.args.graph.now) c.args.all.now c.as_slice.result.now None c.requires.all c.as_slice.ensures c.in-None.ensures.first in
    if_same c.closed_and_ended-in-None.result (ended_choice (closed_choice c.args.graph.now c.args.choice)) (Steps c.args.graph.now c.args.choice) c.closed_and_ended-in-None.ensures
    (ends_none c.args.graph.now c.args.choice c.requires.some c.requires.none first (let no_room = c.if-choice-eq0.false in omega (arith, no_room)))
