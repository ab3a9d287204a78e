use Rattle.std.proofs.Common.{◌≡◌, IfOk, sym, ap, subst, ◌∙◌}
use Rattle.std.specs.declared.option.Option.{Option}
use Rattle.nona_tree.specs.declared.faults.ProgramFault.{ProgramFault}
use Rattle.nona_tree.specs.declared.trees.Expr.{Expr, Binary}
use Rattle.nona_tree.specs.Faults.{expr_faults}
use Rattle.nona_tree.specs.Ids.{expr_ids}
use Rattle.nona_tree.proofs.CheckEquations.{faults-Binary, ids_at-Binary}
use Rattle.nona_check.specs.First.{first_from}
use Rattle.nona_check.proofs.FirstLaws.{first_from-append, whenever}
use Rattle.nona_check.proofs.exprs.+expr.Goals as goal

pub resolve_boxed-returns-in_ok-right-in-Binary-clause-ids : goal.resolve_boxed-returns-in_ok-right-in-Binary-clause-ids
resolve_boxed-returns-in_ok-right-in-Binary-clause-ids t c =
    let b = c.in-Binary in
    let seen = c.args.scope.now in
    let left = c.in_ok-left-in-Binary.ensures.ids ∙ ap (λ (e : Expr). expr_ids e seen) c.get-in-Binary.ensures in
    let right = c.in_ok-right-in-Binary.ensures.ids ∙ ap (λ (e : Expr). expr_ids e seen) c.get-in-Binary-2.ensures in
    subst (λ (both : Expr). IfOk c.boxed_binary.result (λ e. e ≡ both))
    ((λ i. Binary b.op b.at (left i) (right i))
    ∙ sym (ap (λ (e : Expr). expr_ids e seen) b.is ∙ ids_at-Binary b.op b.at b.left b.right seen))
    c.boxed_binary.ensures

pub resolve_boxed-returns-in_ok-right-in-Binary-clause-faults : goal.resolve_boxed-returns-in_ok-right-in-Binary-clause-faults
resolve_boxed-returns-in_ok-right-in-Binary-clause-faults t c =
    let b = c.in-Binary in
    let seen = c.args.scope.now in
    let first = c.args.first.now in
    let kept = c.resolve_boxed-in-Binary.new.first in
    whenever _ c.boxed_binary.result
    (c.in_ok-right-in-Binary.ensures.faults ∙ ap (λ (e : Expr). first_from kept (expr_faults e seen)) c.get-in-Binary-2.ensures
    ∙ ap (λ (f : Option ProgramFault). first_from f (expr_faults b.right seen))
    (c.in_ok-left-in-Binary.ensures.faults ∙ ap (λ (e : Expr). first_from first (expr_faults e seen)) c.get-in-Binary.ensures)
    ∙ sym (ap (λ (e : Expr). first_from first (expr_faults e seen)) b.is
    ∙ ap (λ fs. first_from first fs) (faults-Binary b.op b.at b.left b.right seen)
    ∙ first_from-append first (expr_faults b.left seen) (expr_faults b.right seen)))
