use Rattle.std.proofs.Common.{◌≤◌, ◌^◌, ◌∙◌, List, length, sym, subst}
use Rattle.trial.proofs.Making.{first_text, one_block, whole_text, short_text}
use Rattle.trial.proofs.text.trial_text.Goals as goal

pub loop-done-init : goal.loop-done-init
loop-done-init c = rw (c.in_ok-text.ensures.items, c.as_bytes.ensures.value) first_text

pub loop-done-preserved : goal.loop-done-preserved
loop-done-preserved c =
    rw c.in_ok-extend_from_slice.ensures.items
    (one_block c.loop-done.text.items c.as_bytes-in-loop-done.result.now c.loop-done.done c.loop-done-test.true
    (c.as_bytes-in-loop-done.ensures.value ∙ c.in_ok-block.ensures) c.loop-done.invariant)

pub returns-clause-text : goal.returns-clause-text
returns-clause-text c =
    rw (c.in_ok-extend_from_slice-2.ensures.items, c.as_bytes-2.ensures.value)
    (whole_text c.loop-done.text.items c.loop-done.done c.loop-done-test.false c.loop-done.invariant)

pub returns-clause-short : goal.returns-clause-short
returns-clause-short c =
    rw (c.in_ok-extend_from_slice-2.ensures.items, c.as_bytes-2.ensures.value)
    (subst (λ (text : List _). length text ≤ 2 ^ 20) (sym (whole_text c.loop-done.text.items c.loop-done.done c.loop-done-test.false c.loop-done.invariant)) short_text)
