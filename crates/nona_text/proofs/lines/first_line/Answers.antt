use Rattle.nona_text.proofs.LineEnds.{first_line}
use Rattle.nona_text.proofs.lines.first_line.Goals as goal

pub returns-clause-lines : goal.returns-clause-lines
returns-clause-lines c =
    rw c.behind_first.ensures (first_line _ _ _ _ c.requires c.line_len.ensures c.split_at.ensures.front c.split_at.ensures.back)
