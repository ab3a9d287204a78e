use Rattle.std.proofs.Common.{◌∙◌, negsuc, [], ◌∷◌, ◌++◌, ap, subst, sym, IfOk}
use Rattle.nona_forms.specs.Affine.{form_by, form_of, if_bounded, on_form, times_form}
use Rattle.nona_affine.specs.Put.{IsPut, scope_ids}
use Rattle.nona_affine.proofs.FormEquations.{form-Binary, form-Neg}
use Rattle.nona_affine.proofs.Putting.{combined, none_behind, none_inside, some_inside, turned}
use Rattle.nona_affine.proofs.of_expr.+put_form.Goals as goal

pub returns-else-not-branch : goal.returns-else-not-branch
returns-else-not-branch t c =
    let ns = scope_ids c.args.scope.now in
    let start = c.args.forms.now.items in
    let first = c.put_form.new.forms.items in
    let last = c.act_on.new.forms.items in
    let is =
    ap (λ e. form_of e ns) c.in-Neg.is ∙ form-Neg c.in-Neg.part ns
    ∙ ap (λ e. on_form (form_of e ns) (λ f. if_bounded (times_form (negsuc 0) f))) (sym c.get.ensures) in
    subst (λ o. IfOk c.act_on.result (IsPut o start last)) (sym is)
    (some_inside (form_of c.get.result.now ns) (λ f. if_bounded (times_form (negsuc 0) f)) start start first last c.in_ok-put_form-in-Neg.field-0 c.act_on.result
    c.if-not-branch.false c.in_ok-put_form-in-Neg.ensures
    (λ f h. turned c.act_on.result c.args.e.now c.in-Neg.part ns first last c.in-Neg.is c.act_on.ensures start f h))

pub returns-then-not-branch-2 : goal.returns-then-not-branch-2
returns-then-not-branch-2 t c =
    let b = c.in-Binary in
    let ns = scope_ids c.args.scope.now in
    ap (λ e. form_of e ns) b.is ∙ form-Binary b.op b.at b.left b.right ns
    ∙ ap (λ e. on_form (form_of e ns) (λ f. on_form (form_of b.right ns) (λ g. form_by b.op f g))) (sym c.get-in-Binary.ensures)
    ∙ none_inside (form_of c.get-in-Binary.result.now ns) (λ f. on_form (form_of b.right ns) (λ g. form_by b.op f g)) c.args.forms.now.items c.put_form-in-Binary.new.forms.items c.in_ok-put_form-in-Binary.field-0
    c.if-not-branch-2.true c.in_ok-put_form-in-Binary.ensures

pub returns-then-not-branch-3 : goal.returns-then-not-branch-3
returns-then-not-branch-3 t c =
    let b = c.in-Binary in
    let ns = scope_ids c.args.scope.now in
    ap (λ e. form_of e ns) b.is ∙ form-Binary b.op b.at b.left b.right ns
    ∙ ap (λ e. on_form (form_of b.left ns) (λ f. on_form (form_of e ns) (λ g. form_by b.op f g))) (sym c.get-in-Binary-2.ensures)
    ∙ none_behind (form_of b.left ns) (λ f. on_form (form_of c.get-in-Binary-2.result.now ns) (λ g. form_by b.op f g))
    (λ f. none_inside (form_of c.get-in-Binary-2.result.now ns) (λ g. form_by b.op f g) c.put_form-in-Binary.new.forms.items c.put_form-in-Binary-2.new.forms.items c.in_ok-put_form-in-Binary-2.field-0
    c.if-not-branch-3.true c.in_ok-put_form-in-Binary-2.ensures)

pub returns-else-not-branch-3 : goal.returns-else-not-branch-3
returns-else-not-branch-3 t c =
    let b = c.in-Binary in
    let ns = scope_ids c.args.scope.now in
    let start = c.args.forms.now.items in
    let first = c.put_form-in-Binary.new.forms.items in
    let second = c.put_form-in-Binary-2.new.forms.items in
    let last = c.act_on-in-Binary.new.forms.items in
    let is =
    ap (λ e. form_of e ns) b.is ∙ form-Binary b.op b.at b.left b.right ns
    ∙ ap (λ e. on_form (form_of e ns) (λ f. on_form (form_of b.right ns) (λ g. form_by b.op f g))) (sym c.get-in-Binary.ensures)
    ∙ ap (λ e. on_form (form_of c.get-in-Binary.result.now ns) (λ f. on_form (form_of e ns) (λ g. form_by b.op f g))) (sym c.get-in-Binary-2.ensures) in
    subst (λ o. IfOk c.act_on-in-Binary.result (IsPut o start last)) (sym is)
    (some_inside (form_of c.get-in-Binary.result.now ns) (λ f. on_form (form_of c.get-in-Binary-2.result.now ns) (λ g. form_by b.op f g)) start start first last c.in_ok-put_form-in-Binary.field-0 c.act_on-in-Binary.result
    c.if-not-branch-2.false c.in_ok-put_form-in-Binary.ensures
    (λ f h. some_inside (form_of c.get-in-Binary-2.result.now ns) (λ g. form_by b.op f g) start first second last c.in_ok-put_form-in-Binary-2.field-0 c.act_on-in-Binary.result
    c.if-not-branch-3.false c.in_ok-put_form-in-Binary-2.ensures
    (λ g k. combined c.act_on-in-Binary.result c.args.e.now b.op b.at b.left b.right ns second last b.is c.act_on-in-Binary.ensures start f g (k ∙ ap (λ xs. xs ++ g ∷ []) h))))
