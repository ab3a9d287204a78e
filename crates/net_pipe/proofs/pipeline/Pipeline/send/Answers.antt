use Rattle.std.proofs.Common.{◌∙◌, ◌++◌, ◌∷◌, [], List, ℤ, refl, sym, ap}
use Rattle.net_flow.specs.Flow.{Sends}
use Rattle.net_flow.specs.Net.{Message, is_full, link_at}
use Rattle.net_flow.specs.Shapes.{link_of}
use Rattle.net_pipe.specs.Works.{shape_of}
use Rattle.net_pipe.specs.Kept.{net_of, work_of}
use Rattle.net_pipe.specs.Links.{LinkView}
use Rattle.net_pipe.specs.Staged.{staging_of}
use Rattle.net_pipe.proofs.Moves.{at_position, packet_sent, waits_here}
use Rattle.net_pipe.proofs.Stepping.{has_room_at, is_full_at, links_same, out_back, out_read, sends_inside, sent_back, stage_back, stage_read, with_links}
use Rattle.net_pipe.proofs.pipeline.Pipeline.send.Goals as goal

pub link_index-index-requires : goal.link_index-index-requires
link_index-index-requires c =
    let n = c.args.self.now in
    let stage = stage_read n c.args.task c.requires.there c.index-2.result.now c.stage.result (sym c.index-2.ensures) c.stage.ensures in
    let lane = out_read n c.args.task c.requires.there c.index.result.now c.outgoing-link.result.0 (sym c.index.ensures) (c.outgoing-link.ensures.link n.store) in
    sends_inside n c.args.task c.requires.there c.requires.sound c.requires.may c.stage.result c.outgoing-link.result.0
    (link_of (shape_of (staging_of n.stages)) c.stage.result c.outgoing-link.result.0) c.requires.sends stage lane refl

pub returns-then-not-send-clause-acts : goal.returns-then-not-send-clause-acts
returns-then-not-send-clause-acts c =
    let n = c.args.self.now in
    let there = c.requires.there in
    let stage = stage_read n c.args.task there c.index-2.result.now c.stage.result (sym c.index-2.ensures) c.stage.ensures in
    let lane = out_read n c.args.task there c.index.result.now c.outgoing-link.result.0 (sym c.index.ensures) (c.outgoing-link.ensures.link n.store) in
    let inside = sends_inside n c.args.task there c.requires.sound c.requires.may c.stage.result c.outgoing-link.result.0 c.link_index-index.result c.requires.sends stage lane c.link_index-index.ensures.index in
    let full = is_full_at n c.args.task there c.requires.sound c.requires.may c.link_index-index.result c.index_mut.result.now inside (sym c.index_mut.ensures.value) c.stage.result c.outgoing-link.result.0
    c.link_index-index.ensures.index c.if-not-send.ensures.full.0 in
    waits_here (work_of n) (net_of n) _ c.args.task Sends c.requires.sends
    ((λ i. is_full (work_of n) (link_at (work_of n) (net_of n) (sym stage i) (sym lane i))) ∙ full)
    (ap (with_links (net_of n)) (links_same n c.args.task there c.requires.sound c.requires.may c.link_index-index.result c.index_mut.result.now inside (sym c.index_mut.ensures.value) c.send.new.self c.if-not-send.ensures.full.1))

pub returns-clause-acts : goal.returns-clause-acts
returns-clause-acts c =
    let n = c.args.self.now in
    let there = c.requires.there in
    let y = c.index_mut-2.result.now in
    let here = sym c.index_mut-2.ensures.value in
    let at_stage = stage_read n c.args.task there c.index-2.result.now c.stage.result (sym c.index-2.ensures) c.stage.ensures in
    let at_lane = out_read n c.args.task there c.index.result.now c.outgoing-link.result.0 (sym c.index.ensures) (c.outgoing-link.ensures.link n.store) in
    let inside = sends_inside n c.args.task there c.requires.sound c.requires.may c.stage.result c.outgoing-link.result.0 c.link_index-index.result c.requires.sends at_stage at_lane c.link_index-index.ensures.index in
    let sent = c.if-not-send.ensures.sent in
    let room = has_room_at n c.args.task there c.requires.sound c.requires.may c.link_index-index.result c.index_mut.result.now inside (sym c.index_mut.ensures.value) c.stage.result c.outgoing-link.result.0
    c.link_index-index.ensures.index sent.0 in
    let message = sent_back n c.args.task there c.index.result.now y _ (sym c.index.ensures) here (c.outgoing-link.ensures.message n.store) in
    at_position (work_of n) (net_of n) _ c.args.task Sends c.requires.sends
    ((λ i. is_full (work_of n) (link_at (work_of n) (net_of n) (sym at_stage i) (sym at_lane i))) ∙ room)
    (packet_sent (work_of n) n.granted n.stages.limit n.paused n.store n.tasks.items n.links.items n.waits c.args.task y there here c.stage.result c.outgoing-link.result.0 c.link_index-index.result
    c.index_mut.result.now inside (sym c.index_mut.ensures.value) c.link_index-index.ensures.index c.leaves.new.self c.send.new.self
    (stage_back n c.args.task there (λ s. s) y c.stage.result here at_stage) (out_back n c.args.task there y c.outgoing-link.result.0 here at_lane)
    (ap (λ (l : LinkView). l.messages) sent.1 ∙ ap (λ (z : Message (List ℤ)). c.index_mut.result.now.messages ++ z ∷ []) message) (c.leaves.ensures.task n.store))
