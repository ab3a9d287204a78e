use Rattle.std.proofs.Common.{◌∙◌, sym, ap}
use Rattle.net_flow.specs.Flow.{SendsEnd}
use Rattle.net_flow.specs.Net.{is_full, link_at}
use Rattle.net_pipe.specs.Kept.{net_of, work_of}
use Rattle.net_pipe.specs.Links.{LinkView}
use Rattle.net_pipe.proofs.Moves.{at_position, end_sent, waits_here}
use Rattle.net_pipe.proofs.Stepping.{ends_inside, has_room_at, is_full_at, links_same, stage_back, stage_read, with_links}
use Rattle.net_pipe.proofs.pipeline.Pipeline.send_end.Goals as goal

pub returns-then-not-send-clause-acts : goal.returns-then-not-send-clause-acts
returns-then-not-send-clause-acts c =
    let n = c.args.self.now in
    let there = c.requires.there in
    let stage = stage_read n c.args.task there c.index.result.now c.stage.result (sym c.index.ensures) c.stage.ensures in
    let inside = ends_inside n c.args.task there c.requires.sound c.requires.may c.stage.result c.args.link c.link_index-index.result c.requires.sends stage c.link_index-index.ensures.index in
    let full = is_full_at n c.args.task there c.requires.sound c.requires.may c.link_index-index.result c.index_mut.result.now inside (sym c.index_mut.ensures.value) c.stage.result c.args.link
    c.link_index-index.ensures.index c.if-not-send.ensures.full.0 in
    waits_here (work_of n) (net_of n) _ c.args.task (SendsEnd c.args.link) c.requires.sends
    (ap (λ s. is_full (work_of n) (link_at (work_of n) (net_of n) s c.args.link)) (sym stage) ∙ full)
    (ap (with_links (net_of n)) (links_same n c.args.task there c.requires.sound c.requires.may c.link_index-index.result c.index_mut.result.now inside (sym c.index_mut.ensures.value) c.send.new.self c.if-not-send.ensures.full.1))

pub returns-clause-acts : goal.returns-clause-acts
returns-clause-acts c =
    let n = c.args.self.now in
    let there = c.requires.there in
    let y = c.index_mut-2.result.now in
    let here = sym c.index_mut-2.ensures.value in
    let at_stage = stage_read n c.args.task there c.index.result.now c.stage.result (sym c.index.ensures) c.stage.ensures in
    let inside = ends_inside n c.args.task there c.requires.sound c.requires.may c.stage.result c.args.link c.link_index-index.result c.requires.sends at_stage c.link_index-index.ensures.index in
    let sent = c.if-not-send.ensures.sent in
    let room = has_room_at n c.args.task there c.requires.sound c.requires.may c.link_index-index.result c.index_mut.result.now inside (sym c.index_mut.ensures.value) c.stage.result c.args.link
    c.link_index-index.ensures.index sent.0 in
    at_position (work_of n) (net_of n) _ c.args.task (SendsEnd c.args.link) c.requires.sends
    (ap (λ s. is_full (work_of n) (link_at (work_of n) (net_of n) s c.args.link)) (sym at_stage) ∙ room)
    (end_sent (work_of n) n.granted n.stages.limit n.paused n.store n.tasks.items n.links.items n.waits c.args.task y there here c.stage.result c.args.link c.link_index-index.result
    c.index_mut.result.now inside (sym c.index_mut.ensures.value) c.link_index-index.ensures.index c.sends_end.new.self c.send.new.self
    (stage_back n c.args.task there (λ s. s) y c.stage.result here at_stage)
    (ap (λ (l : LinkView). l.messages) sent.1) (c.sends_end.ensures.task n.store))
