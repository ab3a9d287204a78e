use Rattle.std.proofs.Common.{sym, ◌∙◌, arith}
use Rattle.std.proofs.lemmas.Bool.{eqb-true}
use Rattle.morta_script.proofs.Walk.{told_line, told_end}
use Rattle.morta_script.proofs.Ranges.{in_range}
use Rattle.morta_script.proofs.reading.read_script.Goals as goal

pub loop-rest-preserved : goal.loop-rest-preserved
loop-rest-preserved c =
    let i = c.loop-rest.invariant in
    record {
      place = omega (arith, c.first_line-line.ensures.shorter);
      told = told_line c.loop-rest.commands.items c.add_line.new.commands.items _ c.loop-rest.number c.loop-rest.rest.now c.first_line-line.result.bytes.now c.first_line-line.result.behind.now i.told c.first_line-line.ensures.lines c.in_ok-add_line.ensures;
    }

pub returns-clause-valid : goal.returns-clause-valid
returns-clause-valid c =
    in_range c.args.text.now c.loop-rest.commands.items
    (told_end c.loop-rest.commands.items _ c.loop-rest.number c.loop-rest.rest.now c.loop-rest.invariant.told
    (eqb-true _ _ (sym c.is_empty.ensures ∙ c.loop-rest-test.false)))
