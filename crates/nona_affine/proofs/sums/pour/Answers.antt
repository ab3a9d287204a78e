use Rattle.std.proofs.Common.{◌*ℤ◌, ◌+ℤ◌, ◌∙◌, ap, subst, sym, w64}
use Rattle.std.proofs.lemmas.Int.{to_z-of_z}
use Rattle.nona_forms.specs.Affine.{is_coefficient}
use Rattle.nona_affine.specs.Tallies.{IsAdded, value_at, sum_at, signed}
use Rattle.nona_affine.proofs.Pouring.{pour_step, pour_stops, used_first, used_rest, coefficient_fits}
use Rattle.nona_affine.proofs.sums.pour.Goals as goal

pub returns-then-not-branch : goal.returns-then-not-branch
returns-then-not-branch c =
    let used = used_first c.loop-id.from c.in-Some.id c.in-Some.coefficient c.pop_first.new.self.entries c.in-Some.ensures.removal c.loop-id.invariant.from in
    let same = to_z-of_z w64 c.signed.result (record { sfits = c.signed.type_inv }) ∙ c.signed.ensures ∙ ap (signed c.args.turned) (to_z-of_z w64 c.in-Some.coefficient (coefficient_fits c.in-Some.coefficient used.within)) in
    let far = subst (IsAdded c.in-Some.id _ c.loop-id.into c.add.new.sums) c.if-not-branch.true c.in_ok-add.ensures in
    pour_stops c.args.turned c.args.into.now c.args.from.now c.loop-id.into c.loop-id.from c.pop_first.new.self.entries c.in-Some.id c.in-Some.coefficient c.loop-id.invariant.into c.loop-id.invariant.from c.in-Some.ensures.removal c.loop-id.invariant.total
    (ap (λ x. is_coefficient (value_at c.in-Some.id c.loop-id.into.entries +ℤ x)) (sym same) ∙ far)

pub loop-id-preserved : goal.loop-id-preserved
loop-id-preserved c =
    let used = used_first c.loop-id.from c.in-Some.id c.in-Some.coefficient c.pop_first.new.self.entries c.in-Some.ensures.removal c.loop-id.invariant.from in
    let same = to_z-of_z w64 c.signed.result (record { sfits = c.signed.type_inv }) ∙ c.signed.ensures ∙ ap (signed c.args.turned) (to_z-of_z w64 c.in-Some.coefficient (coefficient_fits c.in-Some.coefficient used.within)) in
    let added = subst (IsAdded c.in-Some.id _ c.loop-id.into c.add.new.sums) c.if-not-branch.false c.in_ok-add.ensures in
    record {
      into = added.1;
      from = used_rest c.loop-id.from c.pop_first.new.self c.in-Some.id c.in-Some.coefficient c.in-Some.ensures.removal c.pop_first.ensures.ordered c.loop-id.invariant.from;
      total = λ scalar. pour_step scalar c.args.turned c.loop-id.into.entries c.loop-id.from.entries c.pop_first.new.self.entries c.add.new.sums.entries c.in-Some.id c.in-Some.coefficient _ c.in-Some.ensures.removal (added.0 scalar ∙ ap (λ x. sum_at scalar c.loop-id.into.entries +ℤ (x *ℤ scalar c.in-Some.id)) same) (c.loop-id.invariant.total scalar);
    }
