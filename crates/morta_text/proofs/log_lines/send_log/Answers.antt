use Rattle.std.proofs.Common.{length}
use Rattle.fate_io.proofs.Texts.{sends_both, sends_first}
use Rattle.fate_io.specs.Numbered.{texts_from}
use Rattle.morta_text.specs.Texts.{interval_text, intervals_line}
use Rattle.morta_text.proofs.log_lines.send_log.Goals as goal

-- the intervals went out, and then the line of how many there are as far as it did
pub returns-in-Ok-clause-sent : goal.returns-in-Ok-clause-sent
returns-in-Ok-clause-sent g c =
    let log = c.args.log.now in
    sends_both _ _ _ _ _ _ (texts_from (interval_text log) 0 log.intervals) (intervals_line (length log.intervals))
    c.send_count.result c.in-Ok.ensures.sent c.in-Ok.ensures.later (rw c.intervals.ensures at c.send_count.ensures.sent)

-- the sink broke off within the intervals
pub returns-in-Err-clause-sent : goal.returns-in-Err-clause-sent
returns-in-Err-clause-sent g c =
    let log = c.args.log.now in
    sends_first _ (texts_from (interval_text log) 0 log.intervals) (intervals_line (length log.intervals)) c.in-Err.fault c.in-Err.ensures.sent
