use Rattle.std.proofs.Common.{◌∙◌, ap, subst, string_bytes, List, ℕ}
use Rattle.fate_io.specs.Sending.{Sends, sent_since}
use Rattle.parcae.specs.Summary.{text_of_lines}
use Rattle.parcae.proofs.Summing.{text_is}
use Rattle.parcae.proofs.summary.send_summary.Goals as goal

-- the lines went out with their result
pub returns-in-Ok-clause-sent : goal.returns-in-Ok-clause-sent
returns-in-Ok-clause-sent g c =
    subst (λ (text : List ℕ). Sends (sent_since g.K.Sink.written g.K.Sink.faults c.args.out.now c.send_lines.new.out) text c.send_lines.result)
    (text_is string_bytes c.in-Ok.lines.items ∙ ap text_of_lines c.in-Ok.ensures)
    (rw c.as_slice.ensures.value at c.send_lines.ensures.sent)
