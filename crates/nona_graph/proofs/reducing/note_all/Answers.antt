use Rattle.std.proofs.Common.{arith, ◌∙◌}
use Rattle.nona_graph.proofs.Folding.{noted_next}
use Rattle.nona_graph.proofs.reducing.note_all.Goals as goal

pub loop-mention-preserved : goal.loop-mention-preserved
loop-mention-preserved c = record {
  size = c.note.ensures.size ∙ c.loop-mention.invariant.size;
  uses = λ empty. noted_next c.args.mentions.now c.loop-mention.mention-index _ c.loop-mention.uses c.note.new.uses c.loop-mention-test.true c.note.ensures.size c.note.ensures.uses (c.loop-mention.invariant.uses empty);
}
