use Rattle.std.proofs.Common.{to_z, of_z}
use Rattle.std.proofs.lemmas.Int.{to_z-of_z}
use Rattle.std.specs.Int.{w128}
use Rattle.nona_affine.proofs.Joining.{constant_fits, listed_bounded}
use Rattle.nona_affine.proofs.tallies.Tally.into_form.Goals as goal

pub of-requires : goal.of-requires
of-requires c =
    let x = c.self.inside in
    listed_bounded x.constant (to_z w128 (of_z w128 x.constant)) x.turned x.coefficients c.in_ok-terms.terms.items c.self.invariant (to_z-of_z w128 x.constant (constant_fits x.constant c.self.invariant.constant)) c.in_ok-terms.ensures
