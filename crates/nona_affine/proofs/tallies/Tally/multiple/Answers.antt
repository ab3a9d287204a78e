use Rattle.std.proofs.Common.{◌*ℤ◌, ◌∙◌, ap, sym, to_z, of_z, w64}
use Rattle.std.proofs.lemmas.Int.{to_z-of_z}
use Rattle.std.specs.Int.{w128}
use Rattle.std.specs.List.{list_all}
use Rattle.std.specs.BTreeMap.{values}
use Rattle.nona_forms.specs.Affine.{is_coefficient}
use Rattle.nona_affine.specs.Tallies.{scaled}
use Rattle.nona_affine.proofs.Joining.{constant_fits}
use Rattle.nona_affine.proofs.Scaling.{multiple_is, multiple_kept, no_product}
use Rattle.nona_affine.proofs.tallies.Tally.multiple.Goals as goal

pub returns-then-not-can_scale : goal.returns-then-not-can_scale
returns-then-not-can_scale c =
    let x = c.self.inside in
    let within = ap (λ k. list_all (λ v. is_coefficient (k *ℤ v)) (values x.coefficients)) (sym (to_z-of_z w64 c.args.factor c.ranges.factor)) ∙ sym c.can_scale.ensures ∙ c.if-not-can_scale.true in
    no_product c.args.factor x.constant x.turned x.coefficients c.args.self c.requires c.self.invariant.used c.self.view_is within

pub invariant_of-result : goal.invariant_of-result
invariant_of-result c =
    let x = c.self.inside in
    let within = ap (λ k. list_all (λ v. is_coefficient (k *ℤ v)) (values x.coefficients)) (sym (to_z-of_z w64 c.args.factor c.ranges.factor)) ∙ sym c.can_scale.ensures ∙ c.if-not-can_scale.false in
    multiple_kept c.args.factor x.constant (to_z w128 (of_z w128 c.multiplied-product.result)) x.coefficients c.scale.new.sums c.requires c.self.invariant (sym c.is_constant.ensures ∙ c.if-not-is_constant.false) within
    (c.scale.ensures.entries ∙ ap (λ k. scaled k x.coefficients.entries) (to_z-of_z w64 c.args.factor c.ranges.factor)) c.scale.ensures.rising

pub returns : goal.returns
returns c =
    let x = c.self.inside in
    let within = ap (λ k. list_all (λ v. is_coefficient (k *ℤ v)) (values x.coefficients)) (sym (to_z-of_z w64 c.args.factor c.ranges.factor)) ∙ sym c.can_scale.ensures ∙ c.if-not-can_scale.false in
    let product =
    to_z-of_z w128 c.multiplied-product.result (record { sfits = c.multiplied-product.type_inv }) ∙ c.multiplied-product.ensures
    ∙ ap (λ k. k *ℤ to_z w128 (of_z w128 x.constant)) (to_z-of_z w64 c.args.factor c.ranges.factor) ∙ ap (λ v. c.args.factor *ℤ v) (to_z-of_z w128 x.constant (constant_fits x.constant c.self.invariant.constant)) in
    multiple_is c.args.factor x.constant (to_z w128 (of_z w128 c.multiplied-product.result)) x.turned x.coefficients c.scale.new.sums c.args.self c.requires c.self.invariant c.self.view_is
    product (sym c.is_constant.ensures ∙ c.if-not-is_constant.false) within
    (c.scale.ensures.entries ∙ ap (λ k. scaled k x.coefficients.entries) (to_z-of_z w64 c.args.factor c.ranges.factor)) c.scale.ensures.rising
