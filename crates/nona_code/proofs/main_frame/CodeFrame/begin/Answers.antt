use Rattle.std.proofs.Common.{length, refl, sym, subst, arith}
use Rattle.nona_tree.specs.declared.outcomes.Outcome.TheVariants as outcome
use Rattle.nona_code.specs.Course.{course_of}
use Rattle.nona_code.specs.Main.{Left}
use Rattle.nona_code.specs.Ready.{state_of}
use Rattle.nona_code.proofs.MainPrints.{left_prints}
use Rattle.nona_code.proofs.Running.{follows_first}
use Rattle.nona_code.proofs.UnitRuns.{start_is}
use Rattle.nona_code.proofs.main_frame.CodeFrame.begin.Goals as goal

pub returns : goal.returns
returns c = λ chosen ss stands n m scoped fits.
    let r = c.in_ok-registers.registers in
    let rested = c.in_ok-registers.ensures.rested in
    let code = c.args.code.now.instrs in
    let whole = course_of chosen 1 ss n m in
    let left : Left code n (state_of r 0 m) outcome.Done whole =
    subst (λ s. Left code n s outcome.Done whole) (sym (start_is r m rested.empty rested.hidden rested.counters)) (stands n m scoped fits) in
    record {
      left = left;
      prints = left_prints code n _ outcome.Done whole left;
      room = omega (arith, c.in_ok-registers.ensures.room, c.deepest.ensures);
      base = length m.scalars;
      follows = follows_first code (state_of r 0 m) refl rested.empty;
    }
