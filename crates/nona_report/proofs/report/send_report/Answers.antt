use Rattle.std.proofs.Common.{codes}
use Rattle.std.specs.List.{flat_map}
use Rattle.fate_io.proofs.Texts.{sends_both, sends_first}
use Rattle.nona_report.specs.Report.{seen_text}
use Rattle.nona_report.proofs.report.send_report.Goals as goal

-- what is seen of each loop went out, and then the last line as far as it did
pub returns-in-Ok-clause-sent : goal.returns-in-Ok-clause-sent
returns-in-Ok-clause-sent g c =
    sends_both _ _ _ _ _ _ (flat_map seen_text c.args.seen.now) _ c.send.result c.in-Ok.ensures.sent c.in-Ok.ensures.later c.send.ensures.sent

-- the sink broke off within what is seen of the loops
pub returns-in-Err-clause-sent : goal.returns-in-Err-clause-sent
returns-in-Err-clause-sent g c =
    sends_first _ (flat_map seen_text c.args.seen.now) (codes "ok\n") c.in-Err.fault c.in-Err.ensures.sent
