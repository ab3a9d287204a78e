use Rattle.std.proofs.Common.{◌≡◌, ◌+ℤ◌, ◌∙◌, ap, sym, Some, None, to_z, of_z}
use Rattle.std.proofs.lemmas.Int.{to_z-of_z}
use Rattle.std.specs.Int.{w128}
use Rattle.nona_affine.proofs.Joining.{call_fills, call_joins, call_stops, constant_fits, form_in, seen, seen_turned}
use Rattle.nona_affine.proofs.tallies.join.Goals as goal

pub returns-then-not-branch-clause-first : goal.returns-then-not-branch-clause-first
returns-then-not-branch-clause-first c =
    let x = c.larger.inside in
    let y = c.smaller.inside in
    seen x.constant y.constant x.turned y.turned x.coefficients y.coefficients c.args.larger c.args.smaller None c.larger.view_is c.smaller.view_is
    (call_stops x.constant y.constant x.turned y.turned c.relative.result c.in_ok-pour.field-0 x.coefficients y.coefficients c.pour.new.into c.larger.invariant c.smaller.invariant c.relative.ensures c.if-not-branch.true c.in_ok-pour.ensures)

pub returns-then-not-branch-clause-second : goal.returns-then-not-branch-clause-second
returns-then-not-branch-clause-second c =
    let x = c.larger.inside in
    let y = c.smaller.inside in
    seen_turned x.constant y.constant x.turned y.turned x.coefficients y.coefficients c.args.larger c.args.smaller None c.larger.invariant c.smaller.invariant c.larger.view_is c.smaller.view_is
    (call_stops x.constant y.constant x.turned y.turned c.relative.result c.in_ok-pour.field-0 x.coefficients y.coefficients c.pour.new.into c.larger.invariant c.smaller.invariant c.relative.ensures c.if-not-branch.true c.in_ok-pour.ensures)

pub returns-then-not-are_few-clause-first : goal.returns-then-not-are_few-clause-first
returns-then-not-are_few-clause-first c =
    let x = c.larger.inside in
    let y = c.smaller.inside in
    seen x.constant y.constant x.turned y.turned x.coefficients y.coefficients c.args.larger c.args.smaller None c.larger.view_is c.smaller.view_is
    (call_fills x.constant y.constant x.turned y.turned c.relative.result c.in_ok-pour.field-0 x.coefficients y.coefficients c.pour.new.into c.larger.invariant c.smaller.invariant c.relative.ensures c.if-not-branch.false c.in_ok-pour.ensures (sym c.are_few.ensures ∙ c.if-not-are_few.true))

pub returns-then-not-are_few-clause-second : goal.returns-then-not-are_few-clause-second
returns-then-not-are_few-clause-second c =
    let x = c.larger.inside in
    let y = c.smaller.inside in
    seen_turned x.constant y.constant x.turned y.turned x.coefficients y.coefficients c.args.larger c.args.smaller None c.larger.invariant c.smaller.invariant c.larger.view_is c.smaller.view_is
    (call_fills x.constant y.constant x.turned y.turned c.relative.result c.in_ok-pour.field-0 x.coefficients y.coefficients c.pour.new.into c.larger.invariant c.smaller.invariant c.relative.ensures c.if-not-branch.false c.in_ok-pour.ensures (sym c.are_few.ensures ∙ c.if-not-are_few.true))

pub returns-clause-first : goal.returns-clause-first
returns-clause-first c =
    let x = c.larger.inside in
    let y = c.smaller.inside in
    let sum = to_z w128 (of_z w128 c.summed-sum.result) in
    let is : sum ≡ x.constant +ℤ y.constant =
    to_z-of_z w128 c.summed-sum.result (record { sfits = c.summed-sum.type_inv }) ∙ c.summed-sum.ensures
    ∙ ap (λ v. v +ℤ to_z w128 (of_z w128 y.constant)) (to_z-of_z w128 x.constant (constant_fits x.constant c.larger.invariant.constant)) ∙ ap (λ v. x.constant +ℤ v) (to_z-of_z w128 y.constant (constant_fits y.constant c.smaller.invariant.constant)) in
    seen x.constant y.constant x.turned y.turned x.coefficients y.coefficients c.args.larger c.args.smaller (Some (form_in (to_z w128 (of_z w128 c.summed-sum.result)) x.turned c.pour.new.into)) c.larger.view_is c.smaller.view_is
    (call_joins x.constant y.constant sum x.turned y.turned c.relative.result c.in_ok-pour.field-0 x.coefficients y.coefficients c.pour.new.into c.larger.invariant c.smaller.invariant is (sym c.is_constant.ensures ∙ c.if-not-is_constant.false) c.relative.ensures c.if-not-branch.false c.in_ok-pour.ensures (sym c.are_few.ensures ∙ c.if-not-are_few.false))

pub returns-clause-second : goal.returns-clause-second
returns-clause-second c =
    let x = c.larger.inside in
    let y = c.smaller.inside in
    let sum = to_z w128 (of_z w128 c.summed-sum.result) in
    let is : sum ≡ x.constant +ℤ y.constant =
    to_z-of_z w128 c.summed-sum.result (record { sfits = c.summed-sum.type_inv }) ∙ c.summed-sum.ensures
    ∙ ap (λ v. v +ℤ to_z w128 (of_z w128 y.constant)) (to_z-of_z w128 x.constant (constant_fits x.constant c.larger.invariant.constant)) ∙ ap (λ v. x.constant +ℤ v) (to_z-of_z w128 y.constant (constant_fits y.constant c.smaller.invariant.constant)) in
    seen_turned x.constant y.constant x.turned y.turned x.coefficients y.coefficients c.args.larger c.args.smaller (Some (form_in (to_z w128 (of_z w128 c.summed-sum.result)) x.turned c.pour.new.into)) c.larger.invariant c.smaller.invariant c.larger.view_is c.smaller.view_is
    (call_joins x.constant y.constant sum x.turned y.turned c.relative.result c.in_ok-pour.field-0 x.coefficients y.coefficients c.pour.new.into c.larger.invariant c.smaller.invariant is (sym c.is_constant.ensures ∙ c.if-not-is_constant.false) c.relative.ensures c.if-not-branch.false c.in_ok-pour.ensures (sym c.are_few.ensures ∙ c.if-not-are_few.false))
