use Rattle.fate_io.proofs.Texts.{sends_both, sends_first}
use Rattle.fate_io.specs.Numbered.{texts_from}
use Rattle.nona_report.specs.Report.{stage_line, region_line}
use Rattle.nona_report.proofs.report.send_region.Goals as goal

-- the line of the region went out, and then those of its stages as far as they did
pub returns-in-Ok-clause-sent : goal.returns-in-Ok-clause-sent
returns-in-Ok-clause-sent g c =
    sends_both _ _ _ _ _ _ (region_line c.args.region.now) _ c.send_stages.result c.in-Ok.ensures.sent c.in-Ok.ensures.later
    (rw (← c.as_slice.ensures) c.send_stages.ensures.sent)

-- the sink broke off at the line of the region
pub returns-in-Err-clause-sent : goal.returns-in-Err-clause-sent
returns-in-Err-clause-sent g c =
    sends_first _ (region_line c.args.region.now) (texts_from stage_line 1 c.args.region.now.plan.pipe) c.in-Err.fault c.in-Err.ensures.sent
