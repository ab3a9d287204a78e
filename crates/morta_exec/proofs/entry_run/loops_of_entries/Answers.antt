use Rattle.morta_exec.proofs.Loops.{loops_are}
use Rattle.morta_exec.proofs.entry_run.loops_of_entries.Goals as goal

pub returns : goal.returns
returns c = loops_are (record {
  whole = c.loop_is_after.ensures.whole;
  starves = c.loop_is_after.ensures.starved;
  ended = c.loop_is_after.ensures.ended;
  next = c.after_next.ensures.next;
  stays = c.after_next.ensures.stays;
  grows = c.printed_grows.ensures.turns;
})
