use Rattle.std.proofs.Common.{◌∙◌, ◌≡◌, ◌+◌, ◌++◌, ◌∷◌, [], length, ap, arith, length-append, w64, to_z, of_z}
use Rattle.std.proofs.lemmas.Int.{to_z-of_z}
use Rattle.std.proofs.lemmas.List.Elements.{All-append, All-cons, All-nil}
use Rattle.nona_tree.specs.Numbers.{IsI64}
use Rattle.trial.proofs.Making.{number_pushed, no_number}
use Rattle.trial.proofs.numbers.trial_numbers.Goals as goal

pub loop-done-preserved : goal.loop-done-preserved
loop-done-preserved c =
    let x = c.number_of_state.result in
    let written : to_z w64 (of_z w64 x) ≡ x = to_z-of_z w64 x c.number_of_state.ensures.fits in
    let pushed : c.push.new.self.items ≡ c.loop-done.numbers.items ++ x ∷ [] = c.in_ok-push.ensures.items ∙ ap (λ z. c.loop-done.numbers.items ++ z ∷ []) written in
    let count : length c.push.new.self.items ≡ length c.loop-done.numbers.items + 1 = ap length pushed ∙ length-append c.loop-done.numbers.items (x ∷ []) in
    record {
      count = omega (arith, count, c.loop-done.invariant.count);
      told = number_pushed c.loop-done.numbers.items c.push.new.self.items _ x c.trial_count-count.result c.loop-done.done c.loop-done.state c.next_state-state.result c.loop-done-test.true c.next_state-state.ensures c.number_of_state.ensures.number pushed c.loop-done.invariant.told;
      fit = rw pushed (All-append IsI64 c.loop-done.numbers.items (x ∷ []) c.loop-done.invariant.fit (All-cons IsI64 x [] c.number_of_state.ensures.fits (All-nil IsI64)));
    }

pub returns-clause-numbers : goal.returns-clause-numbers
returns-clause-numbers c = no_number c.loop-done.numbers.items _ c.trial_count-count.result c.loop-done.done c.loop-done.state c.loop-done-test.false c.loop-done.invariant.told
