use Rattle.std.proofs.Common.{◌∙◌, arith, pos, rules}
use Rattle.std.proofs.lemmas.Result.{err_from_is_err_and}
use Rattle.morta_text.specs.Texts.{number_line}
use Rattle.fate_io.proofs.Texts.{sends_more, sends_stop}
use Rattle.morta_text.proofs.number_lines.put_numbers.Goals as goal

-- the sink broke off at this number's line
pub returns-in_err-put_number-clause-sent : goal.returns-in_err-put_number-clause-sent
returns-in_err-put_number-clause-sent g c =
    let written = g.K.Sink.written in
    let faults = g.K.Sink.faults in
    let told = err_from_is_err_and c.from_residual.result c.from_residual.ensures.1 in
    rw (told.1, told.2) (sends_stop number_line c.args.numbers.now c.loop-number.number-index _ (pos 0)
    (written c.args.out.now) (written c.loop-number.out) (written c.put_number.new.out)
    (faults c.args.out.now) (faults c.loop-number.out) (faults c.put_number.new.out) c.in_err-put_number.field-0.0
    (omega arith) (search rules) c.loop-number.invariant.sent c.loop-number.invariant.later c.in_err-put_number.ensures.sent)

-- one more line went out
pub loop-number-preserved : goal.loop-number-preserved
loop-number-preserved g c =
    let written = g.K.Sink.written in
    record {
      later = omega (arith, c.loop-number.invariant.later, c.put_number.ensures.later);
      sent = sends_more number_line c.args.numbers.now c.loop-number.number-index _ (pos 0)
          (written c.args.out.now) (written c.loop-number.out) (written c.put_number.new.out)
          (omega arith) (search rules) c.loop-number.invariant.sent c.in_ok-put_number.ensures.sent;
      kept = c.in_ok-put_number.ensures.kept ∙ c.loop-number.invariant.kept;
    }
