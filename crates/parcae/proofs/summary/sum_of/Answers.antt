use Rattle.std.proofs.Common.{◌≡◌, ◌∙◌, ◌+◌, ℤ, ap, drop, fold, get_or, sym, pos, rules, w64, of_z, to_z}
use Rattle.std.proofs.lemmas.Int.{to_z-of_z}
use Rattle.nona_num.specs.Numbers.{add_of}
use Rattle.parcae.proofs.Summing.{sum_on}
use Rattle.parcae.proofs.summary.sum_of.Goals as goal

pub loop-number-preserved : goal.loop-number-preserved
loop-number-preserved c =
    let xs = c.args.numbers.now in
    let at = c.loop-number.number-index in
    let now = to_z w64 c.loop-number.sum-bits in
    let x = to_z w64 (of_z w64 (get_or xs at (pos 0))) in
    let same : to_z w64 (of_z w64 c.add-sum.result) ≡ add_of now x =
    to_z-of_z w64 c.add-sum.result (record { sfits = c.add-sum.type_inv }) ∙ c.add-sum.ensures in
    ap (λ (v : ℤ). fold add_of v (drop (at + 1) xs)) same
    ∙ sym (sum_on xs at x (pos 0) now c.loop-number-test.true (search rules)) ∙ c.loop-number.invariant
