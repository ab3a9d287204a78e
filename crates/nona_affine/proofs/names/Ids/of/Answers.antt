use Rattle.std.proofs.Common.{◌∙◌, ℕ, sym}
use Rattle.std.proofs.lemmas.List.Sorted.{IsNonDecreasingBy-from_sort}
use Rattle.nona_affine.proofs.Members.{among_reversed, among_permuted}
use Rattle.nona_affine.proofs.names.Ids.of.Goals as goal

pub invariant_of-result : goal.invariant_of-result
invariant_of-result c = λ e. IsNonDecreasingBy-from_sort (λ (x : ℕ). x) c.sort_unstable.new.self.items c.sort_unstable.ensures.sorted

pub returns : goal.returns
returns c = λ id. sym (among_reversed id c.sort_unstable.new.self.items) ∙ among_permuted id c.args.ids.items c.sort_unstable.new.self.items c.sort_unstable.ensures.permutation
