use Rattle.std.proofs.Common.{rules, arith, ◌≡◌, ◌+◌, ◌<◌, ◌^◌, List, ◌∷◌, ◌++◌, length, drop, sym, ap, subst, ◌∙◌, append_assoc}
use Rattle.nona_tree.specs.declared.trees.Stmt.{Stmt, For, the_lemmas}
use Rattle.nona_tree.specs.Faults.{all_faults}
use Rattle.nona_tree.specs.Ids.{all_ids}
use Rattle.nona_tree.specs.Seen.{Seen}
use Rattle.nona_tree.specs.Smallness.{stmt_size, all_size}
use Rattle.nona_check.specs.After.{narrowed_to}
use Rattle.nona_check.specs.First.{first_from}
use Rattle.nona_check.proofs.AfterLaws.{block_leaves}
use Rattle.nona_check.proofs.StmtLaws.{room_in_if, room_in_while, room_in_for, ids_in_if, faults_in_if, ids_in_while, faults_in_while, next_is, ids_next, faults_next, seen_next, room_next}
use Rattle.nona_check.proofs.stmts.+stmt.Goals as goal

pub resolve_all-loop-stmt-preserved : goal.resolve_all-loop-stmt-preserved
resolve_all-loop-stmt-preserved t c =
    let l = c.loop-stmt in
    let s = c.stmt-item.result in
    let all = c.args.stmts.now in
    let rest = drop (l.stmt-index + 1) all in
    let ensured = c.in_ok-resolve_stmt.ensures in
    let after = c.resolve_stmt.new.scope in
    let here : drop l.stmt-index all ≡ s ∷ rest = next_is all l.stmt-index s (omega (arith, c.loop-stmt-test.true)) c.stmt-item.is in (
      l.invariant.0 ∙ ap (λ (ss : List Stmt). l.resolved ++ ss) (ids_next s _ _ rest l.scope after here ensured.ids ensured.seen)
          ∙ sym (append_assoc l.resolved (c.in_ok-resolve_stmt.field-0 ∷ _) _)
          ∙ ap (λ (ss : List Stmt). ss ++ all_ids rest after) (sym c.in_ok-push.ensures.ok),
      l.invariant.1 ∙ faults_next s _ rest l.scope after l.first c.resolve_stmt.new.first here ensured.faults ensured.seen,
      l.invariant.2 ∙ seen_next s _ rest l.scope after here ensured.seen,
      room_next s _ rest l.scope after here ensured.seen l.invariant.3,
    )

pub resolve_block-returns-clause-seen : goal.resolve_block-returns-clause-seen
resolve_block-returns-clause-seen t c =
    c.cut.ensures ∙ ap (λ (seen : Seen). narrowed_to c.count-count.result seen) c.in_ok-resolved.ensures.seen
    ∙ block_leaves c.args.stmts.now c.count-count.result c.args.scope.now c.count-count.ensures

pub resolve_loop-resolve_block-requires : goal.resolve_loop-resolve_block-requires
resolve_loop-resolve_block-requires t c =
    let l = c.args.l.now in
    let room : length c.args.scope.now.scalars + stmt_size (For l) < 2 ^ 32 = c.requires in
    let after = c.declare_scalar.new.self in (
      search (rules, the_lemmas, c.decreases, c.as_slice.ensures),
      subst (λ (ss : List Stmt). length after.scalars + all_size ss < 2 ^ 32) (sym c.as_slice.ensures) (room_in_for l _ c.args.scope.now after room c.in_ok-declare_scalar.ensures),
    )

pub resolve_stmt-resolve_block-requires : goal.resolve_stmt-resolve_block-requires
resolve_stmt-resolve_block-requires t c =
    let room = room_in_if _ _ _ _ (length c.args.scope.now.scalars) c.in-If.is c.requires in
    (search (rules, the_lemmas, c.decreases, c.in-If.is, c.as_slice.ensures), rw c.as_slice.ensures room.0)

pub resolve_stmt-resolve_block-requires-in-If : goal.resolve_stmt-resolve_block-requires-in-If
resolve_stmt-resolve_block-requires-in-If t c =
    let room = room_in_if _ _ _ _ (length c.args.scope.now.scalars) c.in-If.is c.requires in
    (search (rules, the_lemmas, c.decreases, c.in-If.is, c.as_slice-in-If.ensures), rw (c.as_slice-in-If.ensures, c.in_ok-resolve_block-in-If.ensures.seen) room.1)

pub resolve_stmt-resolve_block-requires-in-While : goal.resolve_stmt-resolve_block-requires-in-While
resolve_stmt-resolve_block-requires-in-While t c =
    let room = room_in_while _ _ _ _ (length c.args.scope.now.scalars) c.in-While.is c.requires in
    (search (rules, the_lemmas, c.decreases, c.in-While.is, c.as_slice-in-While.ensures), rw c.as_slice-in-While.ensures room)

pub resolve_stmt-returns-in_ok-resolve_block-in-If-2-clause-ids : goal.resolve_stmt-returns-in_ok-resolve_block-in-If-2-clause-ids
resolve_stmt-returns-in_ok-resolve_block-in-If-2-clause-ids t c =
    let b = c.in-If in
    let seen = c.args.scope.now in
    let then_ids : c.in_ok-resolve_block-in-If.field-0 ≡ all_ids b.yes seen =
    c.in_ok-resolve_block-in-If.ensures.ids ∙ ap (λ (ss : List Stmt). all_ids ss seen) c.as_slice.ensures in
    let else_ids : c.in_ok-resolve_block-in-If-2.field-0 ≡ all_ids b.no seen =
    c.in_ok-resolve_block-in-If-2.ensures.ids ∙ (λ i. all_ids (c.as_slice-in-If.ensures i) (c.in_ok-resolve_block-in-If.ensures.seen i)) in
    ids_in_if c.args.stmt.now b.test _ b.yes b.no _ _ seen b.is c.in_ok-resolve_expr-in-If.ensures.ids then_ids else_ids

pub resolve_stmt-returns-in_ok-resolve_block-in-If-2-clause-faults : goal.resolve_stmt-returns-in_ok-resolve_block-in-If-2-clause-faults
resolve_stmt-returns-in_ok-resolve_block-in-If-2-clause-faults t c =
    let b = c.in-If in
    let seen = c.args.scope.now in
    let tested = c.resolve_expr.new.first in
    let then_first = c.resolve_block.new.first in
    let then_faults : then_first ≡ first_from tested (all_faults b.yes seen) =
    c.in_ok-resolve_block-in-If.ensures.faults ∙ ap (λ (ss : List Stmt). first_from tested (all_faults ss seen)) c.as_slice.ensures in
    let else_faults : c.resolve_block-in-If.new.first ≡ first_from then_first (all_faults b.no seen) =
    c.in_ok-resolve_block-in-If-2.ensures.faults ∙ (λ i. first_from then_first (all_faults (c.as_slice-in-If.ensures i) (c.in_ok-resolve_block-in-If.ensures.seen i))) in
    faults_in_if c.args.stmt.now b.test b.yes b.no seen c.args.first.now tested then_first _ b.is c.in_ok-resolve_expr-in-If.ensures.faults then_faults else_faults

pub resolve_stmt-returns-in_ok-resolve_block-in-While-clause-ids : goal.resolve_stmt-returns-in_ok-resolve_block-in-While-clause-ids
resolve_stmt-returns-in_ok-resolve_block-in-While-clause-ids t c =
    let b = c.in-While in
    let seen = c.args.scope.now in
    ids_in_while c.args.stmt.now b.test _ b.body _ b.at seen b.is c.in_ok-resolve_expr-in-While.ensures.ids
    (c.in_ok-resolve_block-in-While.ensures.ids ∙ ap (λ (ss : List Stmt). all_ids ss seen) c.as_slice-in-While.ensures)

pub resolve_stmt-returns-in_ok-resolve_block-in-While-clause-faults : goal.resolve_stmt-returns-in_ok-resolve_block-in-While-clause-faults
resolve_stmt-returns-in_ok-resolve_block-in-While-clause-faults t c =
    let b = c.in-While in
    let seen = c.args.scope.now in
    let tested = c.resolve_expr-in-While.new.first in
    faults_in_while c.args.stmt.now b.test b.body b.at seen c.args.first.now tested _ b.is c.in_ok-resolve_expr-in-While.ensures.faults
    (c.in_ok-resolve_block-in-While.ensures.faults ∙ ap (λ (ss : List Stmt). first_from tested (all_faults ss seen)) c.as_slice-in-While.ensures)
