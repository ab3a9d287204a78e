use Rattle.fate_io.proofs.Texts.{sends_both, sends_first}
use Rattle.morta_text.specs.Texts.{interval_line}
use Rattle.morta_text.proofs.log_lines.send_interval.Goals as goal

-- the entry went out where it is due, and then the interval as far as it did
pub returns-in-Ok-clause-sent : goal.returns-in-Ok-clause-sent
returns-in-Ok-clause-sent g c =
    sends_both _ _ _ _ _ _ _ (interval_line c.args.interval) c.send_interval_line.result c.in-Ok.ensures.sent c.in-Ok.ensures.later c.send_interval_line.ensures.sent

-- the sink broke off within the entry's line
pub returns-in-Err-clause-sent : goal.returns-in-Err-clause-sent
returns-in-Err-clause-sent g c = sends_first _ _ (interval_line c.args.interval) c.in-Err.fault c.in-Err.ensures.sent
