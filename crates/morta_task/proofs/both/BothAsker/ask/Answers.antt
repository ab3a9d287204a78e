use Rattle.std.proofs.Common.{ℤ, w64, subst, rules}
use Rattle.std.proofs.lemmas.Int.{to_z-of_z}
use Rattle.morta_task.proofs.Says.{says_on}
use Rattle.morta_task.proofs.both.BothAsker.ask.Goals as goal

-- the asker has asked where it asks alone, and a runner that is led runs whatever is asked
pub returns-clause-asked : goal.returns-clause-asked
returns-clause-asked g c = λ log hand h. (
  says_on h.0 c.ask.ensures.keeps.alone.0,
  (λ alone. subst (λ (x : ℤ). g.A.Morta.promise.asked c.ask.new.self log c.args.entry.now x c.ask.result) (to_z-of_z w64 c.args.next (search rules))
      (c.ask.ensures.asked log hand (h.1 (c.ask.ensures.keeps.alone.1 alone)))),
  (λ led. g.met.R.Runner.led.by_any c.args.self.now.runner log c.args.entry.now c.args.next c.ask.result led hand (h.2 led)),
)
