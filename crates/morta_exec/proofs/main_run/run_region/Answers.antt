use Rattle.std.proofs.Common.{sym, subst}
use Rattle.fate_io.specs.Sending.{sent_since}
use Rattle.morta_exec.specs.Began.{began}
use Rattle.morta_exec.specs.Puts.{HasPut}
use Rattle.morta_exec.proofs.Onward.{leave_on, between_on, run_over}
use Rattle.morta_exec.proofs.main_run.run_region.Goals as goal

pub leave-requires : goal.leave-requires
leave-requires g c =
    record {
      left = leave_on g.M.Morta.promise (g.F.MainFrame.left c.args.frame.now) (began c.args.start.now) c.args.morta.now c.run_entry.new.morta
          c.args.log.now c.run_entry.new.log c.args.start.now.turns c.args.arrival.entry c.in_ok-store.store c.in_ok-store.end
          c.requires.at c.in_ok-store.ensures.ended c.in_default.not-Done;
    }

pub returns-in-Done-clause-goes_on : goal.returns-in-Done-clause-goes_on
returns-in-Done-clause-goes_on g c =
    between_on g.M.Morta.promise (g.F.MainFrame.left c.args.frame.now c.args.start.now.turns) (began c.args.start.now) c.args.morta.now c.run_entry.new.morta
    c.args.log.now c.run_entry.new.log c.args.arrival.entry c.in_ok-store.store c.in_ok-store.end
    c.requires.at c.in_ok-store.ensures.ended c.in-Done.is c.in_ok-store.ensures.few

pub returns-clause-goes_on : goal.returns-clause-goes_on
returns-clause-goes_on g c =
    let n = c.args.start.now.turns in
    run_over g.M.Morta.promise (g.F.MainFrame.left c.args.frame.now n) (began c.args.start.now) c.args.morta.now c.run_entry.new.morta
    c.args.log.now c.run_entry.new.log c.args.arrival.entry c.in_ok-store.store c.leave.new.store c.in_ok-store.end
    c.requires.at c.in_ok-store.ensures.ended (c.leave.ensures.leaves n c.in_ok-store.end c.requires.at.rest c.in_default.not-Done) c.in_ok-store.ensures.few

pub returns-clause-put : goal.returns-clause-put
returns-clause-put g c =
    subst (HasPut (sent_since g.K.Sink.written g.K.Sink.faults c.args.start.now.out.value c.run_entry.new.out)) (sym c.leave.ensures.printed) c.in_ok-store.ensures.put
