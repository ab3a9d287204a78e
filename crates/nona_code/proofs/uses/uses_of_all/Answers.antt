use Rattle.std.proofs.Common.{◌≤◌, pos, sym, subst, arith}
use Rattle.std.specs.Prelude.{max}
use Rattle.std.proofs.Math.Nat.{max-le}
use Rattle.nona_code.specs.declared.instr.Instr.TheVariants as instr
use Rattle.nona_code.specs.Rule.{IsNumbered}
use Rattle.nona_code.proofs.Numbering.{numbered_on, numbered_all}
use Rattle.nona_code.proofs.uses.uses_of_all.Goals as goal

pub loop-instr-preserved : goal.loop-instr-preserved
loop-instr-preserved c =
    let l = c.loop-instr in
    let u = c.uses_of-uses in
    record {
      uses = λ pc i below is. subst (λ x. IsNumbered x c.max-in-loop-instr.result i) (sym c.max.ensures) (subst (λ x. IsNumbered (max l.most.hidden u.result.hidden) x i) (sym c.max-in-loop-instr.ensures)
          (numbered_on c.args.code.now l.instr-index l.most.hidden l.most.counters u.result.hidden u.result.counters (instr.Push (pos 0)) (omega (arith, c.loop-instr-test.true)) l.invariant.uses u.ensures.uses pc i below is));
      hidden = subst (λ x. x ≤ 256) (sym c.max.ensures) (max-le l.invariant.hidden u.ensures.hidden);
      counters = subst (λ x. x ≤ 256) (sym c.max-in-loop-instr.ensures) (max-le l.invariant.counters u.ensures.counters);
    }

pub returns-clause-uses : goal.returns-clause-uses
returns-clause-uses c =
    numbered_all c.args.code.now c.loop-instr.instr-index c.loop-instr.most.hidden c.loop-instr.most.counters (omega (arith, c.loop-instr-test.false)) c.loop-instr.invariant.uses
