use Rattle.std.proofs.Common.{◌*ℤ◌, negsuc, not, ◌∙◌, ap, refl, to_z, of_z}
use Rattle.std.proofs.lemmas.Int.{to_z-of_z}
use Rattle.std.specs.Int.{w128}
use Rattle.nona_affine.proofs.Joining.{constant_fits}
use Rattle.nona_affine.proofs.Scaling.{turned_is, turned_bounded}
use Rattle.nona_affine.proofs.tallies.Tally.turned.Goals as goal

pub returns-clause-opposite : goal.returns-clause-opposite
returns-clause-opposite c =
    let x = c.self.inside in
    turned_is x.constant (to_z w128 (of_z w128 c.opposite.result)) x.turned (not x.turned) x.coefficients c.args.self c.self.invariant.used c.self.view_is
    (to_z-of_z w128 c.opposite.result (record { sfits = c.opposite.type_inv }) ∙ c.opposite.ensures ∙ ap (λ v. negsuc 0 *ℤ v) (to_z-of_z w128 x.constant (constant_fits x.constant c.self.invariant.constant)))
    refl

pub returns-clause-bounded : goal.returns-clause-bounded
returns-clause-bounded c =
    let x = c.self.inside in
    turned_bounded x.constant (to_z w128 (of_z w128 c.opposite.result)) x.turned (not x.turned) x.coefficients c.args.self c.self.invariant c.self.view_is
    (to_z-of_z w128 c.opposite.result (record { sfits = c.opposite.type_inv }) ∙ c.opposite.ensures ∙ ap (λ v. negsuc 0 *ℤ v) (to_z-of_z w128 x.constant (constant_fits x.constant c.self.invariant.constant)))
    refl
