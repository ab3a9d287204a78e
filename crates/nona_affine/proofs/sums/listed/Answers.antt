use Rattle.std.proofs.Common.{◌∙◌, ap, w64}
use Rattle.std.proofs.lemmas.Int.{to_z-of_z}
use Rattle.nona_affine.specs.Tallies.{signed, terms_in}
use Rattle.nona_affine.proofs.Pouring.{coefficient_fits, list_step, used_first, used_rest}
use Rattle.nona_affine.proofs.sums.listed.Goals as goal

pub loop-id-preserved : goal.loop-id-preserved
loop-id-preserved c =
    let v = c.in-Some.coefficient in
    let used = used_first c.loop-id.sums c.in-Some.id v c.pop_first.new.self.entries c.in-Some.ensures.removal c.loop-id.invariant.used in
    let same = to_z-of_z w64 c.signed.result (record { sfits = c.signed.type_inv }) ∙ c.signed.ensures ∙ ap (signed c.args.turned) (to_z-of_z w64 v (coefficient_fits v used.within)) in
    record {
      used = used_rest c.loop-id.sums c.pop_first.new.self c.in-Some.id v c.in-Some.ensures.removal c.pop_first.ensures.ordered c.loop-id.invariant.used;
      listed = list_step c.args.turned c.loop-id.terms.items c.push.new.self.items (terms_in c.args.turned c.args.sums.now.entries) c.loop-id.sums.entries c.pop_first.new.self.entries c.in-Some.id v _ c.in-Some.ensures.removal same c.in_ok-push.ensures.items c.loop-id.invariant.listed;
    }
