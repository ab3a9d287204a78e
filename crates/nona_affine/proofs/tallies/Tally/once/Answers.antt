use Rattle.std.proofs.Common.{to_z, of_z}
use Rattle.std.proofs.lemmas.Int.{to_z-of_z}
use Rattle.std.specs.Int.{w128}
use Rattle.nona_affine.proofs.Joining.{constant_fits}
use Rattle.nona_affine.proofs.Scaling.{once_is}
use Rattle.nona_affine.proofs.tallies.Tally.once.Goals as goal

pub returns : goal.returns
returns c =
    let x = c.self.inside in
    once_is x.constant (to_z w128 (of_z w128 x.constant)) x.turned x.coefficients c.args.self c.self.invariant c.self.view_is (to_z-of_z w128 x.constant (constant_fits x.constant c.self.invariant.constant))
