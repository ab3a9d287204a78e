use Rattle.std.proofs.Common.{ℕ}
use Rattle.std.proofs.lemmas.List.Sorted.{IsNonDecreasingBy-from_sort}
use Rattle.nona_affine.proofs.Members.{missing_same, among_permuted}
use Rattle.nona_affine.proofs.names.Invariants.of.Goals as goal

pub invariant_of-result : goal.invariant_of-result
invariant_of-result c = IsNonDecreasingBy-from_sort (λ (x : ℕ). x) c.sort_unstable.new.self.items c.sort_unstable.ensures.sorted

pub returns : goal.returns
returns c =
    missing_same c.args.below c.sort_unstable.new.self.items c.args.assigned.items (λ x. among_permuted x c.args.assigned.items c.sort_unstable.new.self.items c.sort_unstable.ensures.permutation)
