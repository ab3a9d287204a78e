use Rattle.std.proofs.Common.{◌≡◌, None, ◌∙◌}
use Rattle.nona_tree.specs.Faults.{declarations_faults, all_faults}
use Rattle.nona_tree.specs.Seen.{seen_first, declarations, seen_behind_all, seen_by_body}
use Rattle.nona_check.specs.First.{first_from}
use Rattle.nona_check.proofs.CheckLaws.{first_of_all}
use Rattle.nona_check.proofs.resolve.Goals as goal

pub returns-clause-faults : goal.returns-clause-faults
returns-clause-faults c =
    let p = c.args.program.now in
    let declared : c.declare_all.new.first ≡ first_from None (declarations_faults (declarations p.arrays p.vars) seen_first 0) =
    c.in_ok-declare_all.ensures.faults
    ∙ (λ i. first_from None (declarations_faults (declarations (c.as_slice-arrays.ensures i) (c.as_slice-vars.ensures i)) (c.in_ok-scope.ensures i) 0)) in
    let scope : c.declare_all.new.scope ≡ seen_by_body p =
    c.in_ok-declare_all.ensures.seen ∙ (λ i. seen_behind_all (declarations (c.as_slice-arrays.ensures i) (c.as_slice-vars.ensures i)) (c.in_ok-scope.ensures i)) in
    first_of_all p c.declare_all.new.first c.resolve_all.new.first declared
    (c.in_ok-body.ensures.faults ∙ (λ i. first_from c.declare_all.new.first (all_faults (c.as_slice.ensures i) (scope i))))
