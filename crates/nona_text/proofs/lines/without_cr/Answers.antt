use Rattle.nona_text.proofs.LineEnds.{cr_dropped, line_kept}
use Rattle.nona_text.proofs.lines.without_cr.Goals as goal

pub returns-then-last-eq13 : goal.returns-then-last-eq13
returns-then-last-eq13 c = cr_dropped _ c.in-len1-up.len_at_least c.if-last-eq13.true

pub returns-else-last-eq13 : goal.returns-else-last-eq13
returns-else-last-eq13 c = line_kept _ c.in-len1-up.len_at_least c.if-last-eq13.false
