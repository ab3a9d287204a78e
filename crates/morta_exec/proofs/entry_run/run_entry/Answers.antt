use Rattle.std.proofs.Common.{length, ap, subst, arith}
use Rattle.morta_exec.specs.Began.{began}
use Rattle.morta_exec.specs.EntryRun.{GoesOnAt}
use Rattle.morta_exec.proofs.Stopping.{stopped_full}
use Rattle.morta_exec.proofs.entry_run.run_entry.Goals as goal

-- the entry goes on
pub loop-pending-preserved : goal.loop-pending-preserved
loop-pending-preserved g c = record {
  stands = subst (GoesOnAt g.M.Morta.promise (began c.args.start.now) c.run_and_show.new.morta c.args.entry.now c.run_and_show.new.log c.in_ok-after.after) c.in_default.is c.in_ok-after.ensures.goes_on;
  put = c.in_ok-after.ensures.put;
  few = omega (arith, c.in_ok-after.ensures.added, ap length c.intervals.ensures, c.loop-pending-test.true);
  more = omega (arith, c.in_ok-after.ensures.added, c.loop-pending.invariant.more);
}

-- the log is full
pub returns-clause-stopped : goal.returns-clause-stopped
returns-clause-stopped g c =
    stopped_full c.loops_of_entries.ensures g.M.Morta.promise (began c.args.start.now) c.loop-pending.morta c.args.entry.now c.loop-pending.log c.loop-pending.pending _
    c.requires.entry c.loop-pending.invariant.stands c.loop-pending.invariant.put (omega (arith, c.loop-pending.invariant.few, ap length c.intervals.ensures, c.loop-pending-test.false))
