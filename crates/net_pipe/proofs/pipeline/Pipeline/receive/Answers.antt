use Rattle.std.proofs.Common.{◌≡◌, ◌-◌, ◌∙◌, ◌∷◌, ℕ, [], refl, sym, ap}
use Rattle.net_flow.specs.Flow.{Receives}
use Rattle.net_flow.specs.Net.{Packet, End}
use Rattle.net_flow.specs.Shapes.{link_of}
use Rattle.net_pipe.specs.Works.{shape_of}
use Rattle.net_pipe.specs.declared.link.Message.{Message}
use Rattle.net_pipe.specs.Kept.{net_of, work_of}
use Rattle.net_pipe.specs.Links.{message_view}
use Rattle.net_pipe.specs.Staged.{staging_of}
use Rattle.net_pipe.proofs.Moves.{at_position, empty_is, end_received, packet_received, waits_here}
use Rattle.net_pipe.proofs.Stepping.{around_receive, in_back, in_read, links_same, packet_fits, receives_inside, receives_place, stage_back, stage_read, with_links}
use Rattle.net_pipe.proofs.pipeline.Pipeline.receive.Goals as goal

pub link_index-index-requires : goal.link_index-index-requires
link_index-index-requires c =
    let n = c.args.self.now in
    let stage = ap (λ (s : ℕ). s - 1) (stage_read n c.args.task c.requires.there c.index-2.result.now c.stage.result (sym c.index-2.ensures) c.stage.ensures) in
    let lane = in_read n c.args.task c.requires.there c.index.result.now c.incoming-link.result c.args.ends (sym c.index.ensures) (c.incoming-link.ensures n.store) in
    receives_inside n c.args.task c.requires.there c.requires.sound c.requires.may (c.stage.result - 1) c.incoming-link.result c.args.ends
    (link_of (shape_of (staging_of n.stages)) (c.stage.result - 1) c.incoming-link.result) c.requires.receives stage lane refl

pub begins-requires-clause-fits : goal.begins-requires-clause-fits
begins-requires-clause-fits c =
    let n = c.args.self.now in
    let there = c.requires.there in
    let r = c.stage.result - 1 in
    let k = c.incoming-link.result in
    let stage = ap (λ (s : ℕ). s - 1) (stage_read n c.args.task there c.index-2.result.now c.stage.result (sym c.index-2.ensures) c.stage.ensures) in
    let lane = in_read n c.args.task there c.index.result.now k c.args.ends (sym c.index.ensures) (c.incoming-link.ensures n.store) in
    let inside = receives_inside n c.args.task there c.requires.sound c.requires.may r k c.args.ends c.link_index-index.result c.requires.receives stage lane c.link_index-index.ensures.index in
    let place = receives_place n c.args.task there c.requires.sound c.requires.may r k c.args.ends c.requires.receives stage lane in
    packet_fits n c.args.task there c.requires.sound c.requires.may c.link_index-index.result c.index_mut.result.now inside (sym c.index_mut.ensures.value) r k
    c.in-Some-Packet.iteration c.in-Some-Packet.values.items c.take.new.self.messages c.link_index-index.ensures.index place.0 place.1
    (c.in-Some-Packet.ensures.0 ∙ ap (λ (x : Message). message_view x ∷ c.take.new.self.messages) c.in-Some-Packet.field-0-is)

pub begins-requires-clause-around : goal.begins-requires-clause-around
begins-requires-clause-around c =
    let y = c.index_mut-in-Some-Packet.result.now in
    around_receive c.args.self.now c.args.task c.requires.there c.requires.may y (sym c.index_mut-in-Some-Packet.ensures.value) c.args.ends c.requires.receives

pub returns-in-None-clause-acts : goal.returns-in-None-clause-acts
returns-in-None-clause-acts c =
    let n = c.args.self.now in
    let there = c.requires.there in
    let r = c.stage.result - 1 in
    let k = c.incoming-link.result in
    let x = c.index.result.now in
    let at_stage = ap (λ (s : ℕ). s - 1) (stage_read n c.args.task there c.index-2.result.now c.stage.result (sym c.index-2.ensures) c.stage.ensures) in
    let lane = in_read n c.args.task there x k c.args.ends (sym c.index.ensures) (c.incoming-link.ensures n.store) in
    let inside = receives_inside n c.args.task there c.requires.sound c.requires.may r k c.args.ends c.link_index-index.result c.requires.receives at_stage lane c.link_index-index.ensures.index in
    waits_here (work_of n) (net_of n) _ c.args.task (Receives c.args.ends) c.requires.receives
    (sym (empty_is (work_of n) n.granted n.stages.limit n.paused n.store n.tasks.items n.links.items n.waits c.args.task x there (sym c.index.ensures) r k c.link_index-index.result c.index_mut.result.now
    inside (sym c.index_mut.ensures.value) c.link_index-index.ensures.index c.args.ends [] (stage_back n c.args.task there (λ s. s - 1) x r (sym c.index.ensures) at_stage) (c.incoming-link.ensures n.store) c.in-None.ensures.0))
    (ap (with_links (net_of n)) (links_same n c.args.task there c.requires.sound c.requires.may c.link_index-index.result c.index_mut.result.now inside (sym c.index_mut.ensures.value) c.take.new.self c.in-None.ensures.1))

pub returns-in-Some-Packet-clause-acts : goal.returns-in-Some-Packet-clause-acts
returns-in-Some-Packet-clause-acts c =
    let n = c.args.self.now in
    let there = c.requires.there in
    let r = c.stage.result - 1 in
    let k = c.incoming-link.result in
    let y = c.index_mut-in-Some-Packet.result.now in
    let here = sym c.index_mut-in-Some-Packet.ensures.value in
    let at_stage = ap (λ (s : ℕ). s - 1) (stage_read n c.args.task there c.index-2.result.now c.stage.result (sym c.index-2.ensures) c.stage.ensures) in
    let at_lane = in_read n c.args.task there c.index.result.now k c.args.ends (sym c.index.ensures) (c.incoming-link.ensures n.store) in
    let inside = receives_inside n c.args.task there c.requires.sound c.requires.may r k c.args.ends c.link_index-index.result c.requires.receives at_stage at_lane c.link_index-index.ensures.index in
    let stage = stage_back n c.args.task there (λ s. s - 1) y r here at_stage in
    let lane = in_back n c.args.task there y k c.args.ends here at_lane in
    let first : c.index_mut.result.now.messages ≡ Packet c.in-Some-Packet.iteration c.in-Some-Packet.values.items ∷ c.take.new.self.messages =
    c.in-Some-Packet.ensures.0 ∙ ap (λ (x : Message). message_view x ∷ c.take.new.self.messages) c.in-Some-Packet.field-0-is in
    at_position (work_of n) (net_of n) _ c.args.task (Receives c.args.ends) c.requires.receives
    (sym (empty_is (work_of n) n.granted n.stages.limit n.paused n.store n.tasks.items n.links.items n.waits c.args.task y there here r k c.link_index-index.result c.index_mut.result.now
    inside (sym c.index_mut.ensures.value) c.link_index-index.ensures.index c.args.ends (Packet c.in-Some-Packet.iteration c.in-Some-Packet.values.items ∷ c.take.new.self.messages) stage lane first))
    (packet_received (work_of n) n.granted n.stages.limit n.paused n.store n.tasks.items n.links.items n.waits c.args.task y there here r k c.link_index-index.result c.index_mut.result.now
    inside (sym c.index_mut.ensures.value) c.link_index-index.ensures.index c.args.ends c.in-Some-Packet.iteration c.in-Some-Packet.values.items c.begins.new.self c.take.new.self stage lane first (c.begins.ensures.task n.store))

pub returns-in-Some-End-clause-acts : goal.returns-in-Some-End-clause-acts
returns-in-Some-End-clause-acts c =
    let n = c.args.self.now in
    let there = c.requires.there in
    let r = c.stage.result - 1 in
    let k = c.incoming-link.result in
    let y = c.index_mut-in-Some-End.result.now in
    let here = sym c.index_mut-in-Some-End.ensures.value in
    let at_stage = ap (λ (s : ℕ). s - 1) (stage_read n c.args.task there c.index-2.result.now c.stage.result (sym c.index-2.ensures) c.stage.ensures) in
    let at_lane = in_read n c.args.task there c.index.result.now k c.args.ends (sym c.index.ensures) (c.incoming-link.ensures n.store) in
    let inside = receives_inside n c.args.task there c.requires.sound c.requires.may r k c.args.ends c.link_index-index.result c.requires.receives at_stage at_lane c.link_index-index.ensures.index in
    let stage = stage_back n c.args.task there (λ s. s - 1) y r here at_stage in
    let lane = in_back n c.args.task there y k c.args.ends here at_lane in
    let first : c.index_mut.result.now.messages ≡ End ∷ c.take.new.self.messages =
    c.in-Some-End.ensures.0 ∙ ap (λ (x : Message). message_view x ∷ c.take.new.self.messages) c.in-Some-End.field-0-is in
    at_position (work_of n) (net_of n) _ c.args.task (Receives c.args.ends) c.requires.receives
    (sym (empty_is (work_of n) n.granted n.stages.limit n.paused n.store n.tasks.items n.links.items n.waits c.args.task y there here r k c.link_index-index.result c.index_mut.result.now
    inside (sym c.index_mut.ensures.value) c.link_index-index.ensures.index c.args.ends (End ∷ c.take.new.self.messages) stage lane first))
    (end_received (work_of n) n.granted n.stages.limit n.paused n.store n.tasks.items n.links.items n.waits c.args.task y there here r k c.link_index-index.result c.index_mut.result.now
    inside (sym c.index_mut.ensures.value) c.link_index-index.ensures.index c.args.ends c.takes_end.new.self c.take.new.self stage lane first (c.takes_end.ensures.task n.store))
