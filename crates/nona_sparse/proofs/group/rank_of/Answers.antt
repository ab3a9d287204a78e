use Rattle.std.proofs.Common.{◌∙◌, ◌-◌, ap}
use Rattle.std.specs.Int.RustNames.{bit_and, count_ones}
use Rattle.std.proofs.lemmas.Nat.{and_mask, one_shl}
use Rattle.nona_sparse.proofs.Marking.{counted}
use Rattle.nona_sparse.proofs.group.rank_of.Goals as goal

pub returns : goal.returns
returns c =
    let marks = c.args.marks in
    let place = c.args.place in
    ap (λ m. count_ones (bit_and marks (m - 1))) (one_shl place 64 c.requires) ∙ ap count_ones (and_mask marks place) ∙ counted marks place
