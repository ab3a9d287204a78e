use Rattle.std.proofs.Common.{◌≡◌, ◌+◌, ◌++◌, suc, pos, ap, ◌∙◌, arith}
use Rattle.std.specs.Prelude.{replicate, slice_set}
use Rattle.nona_code.proofs.Resting.{rested, rested_more, rested_all}
use Rattle.nona_code.proofs.registers.rest_hidden.Goals as goal

pub loop-k-preserved : goal.loop-k-preserved
loop-k-preserved c =
    let k = c.loop-k.k in
    let old = c.args.hidden.now.items in
    let next : suc k ≡ k + 1 = omega arith in
    ap (λ xs. slice_set xs k (pos 0)) c.loop-k.invariant
    ∙ rested_more k (pos 0) old (omega (arith, c.loop-k-test.true, c.requires.few, c.requires.all))
    ∙ ap (λ j. rested j (pos 0) old) next

pub returns : goal.returns
returns c =
    let k = c.loop-k.k in
    let all : k ≡ c.args.count = omega (arith, c.loop-k-test.false, c.loop-k.auto.k-end) in
    c.loop-k.invariant
    ∙ ap (λ j. rested j (pos 0) c.args.hidden.now.items) all
    ∙ ap (λ xs. replicate c.args.count (pos 0) ++ xs) c.requires.kept
    ∙ rested_all c.args.count 256 (pos 0) c.requires.few
