use Rattle.std.proofs.Common.{◌≡◌, ◌+◌, ◌++◌, length, sym, ap, ◌∙◌, arith}
use Rattle.nona_tree.specs.Entries.{count_all}
use Rattle.nona_gen.specs.Code.{expr_code, flip_code, lets_all, bounds_code}
use Rattle.nona_gen.specs.MainCode.{main_all}
use Rattle.nona_gen.specs.MainParts.{main_block, main_loop}
use Rattle.nona_gen.specs.Gathered.{is_seen}
use Rattle.nona_gen.proofs.Emitting.{on_ok_as, if_ok_as}
use Rattle.nona_gen.proofs.Patching.{if_emitted, while_emitted, for_emitted}
use Rattle.nona_gen.proofs.MainEmitting.{count_if, count_while, count_for, code_if, code_while, code_for}
use Rattle.nona_gen.proofs.main_code.+main.Goals as goal

pub emit_main_for-returns-clause-code : goal.emit_main_for-returns-clause-code
emit_main_for-returns-clause-code t c =
    let l = c.args.l.now in
    let chosen = is_seen c.args.plans.now in
    let first = c.args.at.first in
    let d = c.args.at.depth in
    let c1 = c.open_for.new.code.items in
    for_emitted c.args.code.now.items (bounds_code d (expr_code l.low) (expr_code l.high)) (main_all chosen first l.body (d + 1)) l.index.id d l.at (lets_all l.body) _ _ _ _
    c.in_ok-top.ensures.top c.in_ok-top.ensures.opened
    (c.in_ok-next.ensures.code ∙ ap (λ z. c1 ++ main_block chosen z.first c.as_slice.result.now z.depth (length c1)) c.in_ok-inside.ensures.inside ∙ ap (λ ss. c1 ++ main_block chosen first ss (d + 1) (length c1)) c.as_slice.ensures)
    c.in_ok-close_for.ensures

pub emit_main_while-returns-clause-code : goal.emit_main_while-returns-clause-code
emit_main_while-returns-clause-code t c =
    let chosen = is_seen c.args.plans.now in
    let first = c.args.at.first in
    let d = c.args.at.depth in
    let c1 = c.open_while.new.code.items in
    while_emitted c.args.code.now.items (flip_code c.args.test.now) (main_block chosen first c.args.body.now (d + 1)) d c.args.word _ _ _ _
    c.in_ok-begin.ensures.begin c.in_ok-begin.ensures.opened
    (c.in_ok-next.ensures.code ∙ ap (λ z. c1 ++ main_block chosen z.first c.args.body.now z.depth (length c1)) c.in_ok-inside.ensures.inside)
    c.in_ok-close_while.ensures

pub emit_main-returns-in_ok-close_if-in-If-clause-code : goal.emit_main-returns-in_ok-close_if-in-If-clause-code
emit_main-returns-in_ok-close_if-in-If-clause-code t c =
    let chosen = is_seen c.args.plans.now in
    let first = c.args.at.first in
    let d = c.args.at.depth in
    let b = c.in-If in
    let old = c.args.code.now.items in
    let c1 = c.open_if.new.code.items in
    let c3 = c.turn_if.new.code.items in
    let next : c.in_ok-first-in-If.first ≡ first + count_all chosen b.yes = c.in_ok-first-in-If.ensures.next ∙ ap (λ ss. first + count_all chosen ss) c.as_slice.ensures in
    if_emitted old (expr_code b.test) (main_block chosen first b.yes d) (main_block chosen (first + count_all chosen b.yes) b.no d) _ _ _ _ _ _ _
    c.in_ok-hole-in-If.ensures.hole c.in_ok-hole-in-If.ensures.opened
    (c.in_ok-first-in-If.ensures.code ∙ ap (λ ss. c1 ++ main_block chosen first ss d (length c1)) c.as_slice.ensures)
    c.in_ok-last-in-If.ensures.last c.in_ok-last-in-If.ensures.turned
    (c.in_ok-next-in-If.ensures.code ∙ ap (λ z. c3 ++ main_block chosen z c.as_slice-in-If.result.now d (length c3)) next ∙ ap (λ ss. c3 ++ main_block chosen (first + count_all chosen b.yes) ss d (length c3)) c.as_slice-in-If.ensures)
    c.in_ok-close_if-in-If.ensures
    ∙ ap (λ xs. old ++ xs) (sym (code_if chosen first _ b.test b.yes b.no d (length old) b.is))

pub emit_main-returns-in_ok-close_if-in-If-clause-next : goal.emit_main-returns-in_ok-close_if-in-If-clause-next
emit_main-returns-in_ok-close_if-in-If-clause-next t c =
    let chosen = is_seen c.args.plans.now in
    let b = c.in-If in
    omega (arith, c.in_ok-first-in-If.ensures.next, ap (count_all chosen) c.as_slice.ensures, c.in_ok-next-in-If.ensures.next, ap (count_all chosen) c.as_slice-in-If.ensures, count_if chosen _ b.test b.yes b.no b.is)

pub emit_main-returns-in-While-clause-code : goal.emit_main-returns-in-While-clause-code
emit_main-returns-in-While-clause-code t c =
    let chosen = is_seen c.args.plans.now in
    let first = c.args.at.first in
    let d = c.args.at.depth in
    let b = c.in-While in
    let old = c.args.code.now.items in
    on_ok_as c.emit_main_while.result _ _
    (λ e. e ∙ ap (λ ss. old ++ main_loop chosen first b.test ss b.word d (length old)) c.as_slice-in-While.ensures ∙ ap (λ xs. old ++ xs) (sym (code_while chosen first _ b.test b.body b.word d (length old) b.is)))
    c.emit_main_while.ensures.code

pub emit_main-returns-in-While-clause-next : goal.emit_main-returns-in-While-clause-next
emit_main-returns-in-While-clause-next t c =
    let chosen = is_seen c.args.plans.now in
    let b = c.in-While in
    if_ok_as c.emit_main_while.result _ _
    (λ next e. e ∙ ap (λ ss. c.args.at.first + count_all chosen ss) c.as_slice-in-While.ensures ∙ ap (λ k. c.args.at.first + k) (sym (count_while chosen _ b.test b.body b.word b.is)))
    c.emit_main_while.ensures.next

pub emit_main-returns-else-has-clause-code : goal.emit_main-returns-else-has-clause-code
emit_main-returns-else-has-clause-code t c =
    let chosen = is_seen c.args.plans.now in
    let first = c.args.at.first in
    let d = c.args.at.depth in
    let old = c.args.code.now.items in
    on_ok_as c.emit_main_for.result _ _
    (λ e. e ∙ ap (λ xs. old ++ xs) (sym (code_for chosen first _ c.in-For.l d (length old) c.in-For.is (sym c.has.ensures ∙ c.if-has.false))))
    c.emit_main_for.ensures.code

pub emit_main-returns-else-has-clause-next : goal.emit_main-returns-else-has-clause-next
emit_main-returns-else-has-clause-next t c =
    let chosen = is_seen c.args.plans.now in
    if_ok_as c.emit_main_for.result _ _
    (λ next e. e ∙ ap (λ k. c.args.at.first + k) (sym (count_for chosen _ c.in-For.l c.in-For.is (sym c.has.ensures ∙ c.if-has.false))))
    c.emit_main_for.ensures.next
