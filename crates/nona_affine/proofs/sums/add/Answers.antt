use Rattle.std.proofs.Common.{◌+ℤ◌, ◌∙◌, ap, w64, to_z, of_z}
use Rattle.std.proofs.lemmas.Int.{to_z-of_z}
use Rattle.std.specs.Int.{w128}
use Rattle.nona_affine.specs.Tallies.{value_at, sum_at}
use Rattle.nona_affine.proofs.Entries.{sum_added}
use Rattle.nona_affine.proofs.sums.add.Goals as goal

pub returns-in_ok-set : goal.returns-in_ok-set
returns-in_ok-set c =
    let o = value_at c.args.id c.args.sums.now.entries in
    let h = to_z-of_z w64 c.narrowed.result (record { sfits = c.narrowed.type_inv }) ∙ c.narrowed.ensures ∙ to_z-of_z w128 c.sum-sum.result (record { sfits = c.sum-sum.type_inv }) ∙ c.sum-sum.ensures
    ∙ ap (λ x. x +ℤ to_z w64 (of_z w64 c.args.coefficient)) (to_z-of_z w64 c.value.result (record { sfits = c.value.type_inv }) ∙ c.value.ensures) ∙ ap (λ x. o +ℤ x) (to_z-of_z w64 c.args.coefficient c.ranges.coefficient) in
    (λ scalar. sum_added (sum_at scalar c.set.new.sums.entries) (sum_at scalar c.args.sums.now.entries) o _ c.args.coefficient (scalar c.args.id) h (c.in_ok-set.ensures.sum scalar), c.in_ok-set.ensures.used)
