use Rattle.std.proofs.Common.{rules, arith, ◌≡◌, ℕ, ◌≤◌, ◌-◌, ◌∷◌, ◌++◌, [], List, refl, ap, sym, ◌∙◌, w64}
use Rattle.std.proofs.lemmas.Result.{MatchResult-weaker}
use Rattle.std.proofs.lemmas.Int.{to_z-of_z}
use Rattle.nona_lex.specs.declared.tokens.Sign.TheVariants as sign
use Rattle.nona_lex.specs.declared.tokens.Token.TheVariants as token
use Rattle.nona_tree.specs.declared.names.Use.{Use}
use Rattle.nona_tree.specs.declared.trees.Access.{Access}
use Rattle.nona_tree.specs.declared.trees.Expr.TheVariants as expr
use Rattle.nona_grammar.specs.Levels.{named, loosest}
use Rattle.nona_grammar.specs.Stack.{Trees, Leaf, Join, Reach, Fetch, act, push}
use Rattle.nona_grammar.specs.Machine.{Sym, Do, Want, Whole, Compare, Level, Tail, Primary, Index, build}
use Rattle.nona_grammar.proofs.Machining.{acted, whole_is}
use Rattle.nona_parse.specs.Steps.{reaches}
use Rattle.nona_parse.specs.Prefixes.{acts_of}
use Rattle.nona_parse.proofs.Build.{taken, fails_in, level_down, prefix_done}
use Rattle.nona_parse.proofs.+expr.Goals as goal

-- ---- levels

pub expressions::expression-returns-in-Ok-clause-read : goal.expressions::expression-returns-in-Ok-clause-read
expressions::expression-returns-in-Ok-clause-read t c =
    let goes : (end : ℕ) (k : List Sym) (v : Trees) → build end (Whole ∷ k) v c.args.spots.now ≡ build end (Compare ∷ k) (push c.in-Ok.first v) c.in-Ok.rest.now =
    λ end k v. whole_is end k v c.args.spots.now ∙ c.in-Ok.ensures.read end (Compare ∷ k) v in
    MatchResult-weaker c.compared.result c.compared.ensures.read
    (λ x goes_on end k v. goes end k v ∙ goes_on end k v)
    (λ f stuck. fails_in f (Whole ∷ []) (Compare ∷ []) c.args.spots.now c.in-Ok.rest.now (λ end k v. (k, push c.in-Ok.first v, goes end k v)) stuck)

pub expressions::expression-returns-in-Err-clause-read : goal.expressions::expression-returns-in-Err-clause-read
expressions::expression-returns-in-Err-clause-read t c =
    fails_in c.in-Err.fault (Whole ∷ []) (Level loosest ∷ []) c.args.spots.now c.args.spots.now
    (λ end k v. (Compare ∷ k, v, whole_is end k v c.args.spots.now)) c.in-Err.ensures.read

pub expressions::compared-returns-in-Ok-clause-read : goal.expressions::compared-returns-in-Ok-clause-read
expressions::compared-returns-in-Ok-clause-read t c = λ end k v.
    let a = Join c.in-Some.op c.in-Some.at in
    c.in-Some.ensures.compared refl end k (push c.args.first v) ∙ c.in-Ok.ensures.read end (Do a ∷ k) (push c.args.first v)
    ∙ acted end a k (push c.in-Ok.right (push c.args.first v)) c.in-Ok.rest.now

pub expressions::operand-returns-in-Ok-clause-read : goal.expressions::operand-returns-in-Ok-clause-read
expressions::operand-returns-in-Ok-clause-read t c =
    let above : 1 ≤ c.args.level = omega (arith, c.if-level-eq0.false) in
    let goes : (end : ℕ) (k : List Sym) (v : Trees)
    → build end (Level c.args.level ∷ k) v c.args.spots.now ≡ build end (Tail (c.args.level - 1) ∷ k) (push c.in-Ok.first v) c.in-Ok.rest.now =
    λ end k v. level_down end c.args.level k v c.args.spots.now above ∙ c.in-Ok.ensures.read end (Tail (c.args.level - 1) ∷ k) v in
    MatchResult-weaker c.joined.result c.joined.ensures.read
    (λ x goes_on end k v. goes end k v ∙ goes_on end k v)
    (λ f stuck. fails_in f (Level c.args.level ∷ []) (Tail (c.args.level - 1) ∷ []) c.args.spots.now c.in-Ok.rest.now (λ end k v. (k, push c.in-Ok.first v, goes end k v)) stuck)

pub expressions::operand-returns-in-Err-clause-read : goal.expressions::operand-returns-in-Err-clause-read
expressions::operand-returns-in-Err-clause-read t c =
    let above : 1 ≤ c.args.level = omega (arith, c.if-level-eq0.false) in
    fails_in c.in-Err.fault (Level c.args.level ∷ []) (Level (c.args.level - 1) ∷ []) c.args.spots.now c.args.spots.now
    (λ end k v. (Tail (c.args.level - 1) ∷ k, v, level_down end c.args.level k v c.args.spots.now above)) c.in-Err.ensures.read

pub expressions::joined-loop-op-init : goal.expressions::joined-loop-op-init
expressions::joined-loop-op-init t c = record {
  read = λ end k v. refl;
  any = λ end k v. (v, refl);
  no_longer = omega arith;
}

pub expressions::joined-loop-op-preserved : goal.expressions::joined-loop-op-preserved
expressions::joined-loop-op-preserved t c =
    let a = Join c.in-Some.op c.in-Some.at in
    let again : List Sym → List Sym = λ k. Tail c.args.below ∷ k in
    record {
      read = λ end k v.
          let u = push c.loop-op.left v in
          c.loop-op.invariant.read end k v ∙ c.in-Some.ensures.read end k u ∙ c.in-Ok.ensures.read end (Do a ∷ again k) u
          ∙ acted end a (again k) (push c.in-Ok.right u) c.in-Ok.behind.now
          ∙ ap (λ e. build end (again k) (push e v) c.in-Ok.behind.now) (sym c.in-Ok-binary.ensures);
      any = λ end k v.
          let p = c.loop-op.invariant.any end k v in (
            act a (push c.in-Ok.right p.0),
            p.1 ∙ c.in-Some.ensures.read end k p.0 ∙ c.in-Ok.ensures.read end (Do a ∷ again k) p.0
                ∙ acted end a (again k) (push c.in-Ok.right p.0) c.in-Ok.behind.now,
          );
      no_longer = omega (arith, c.loop-op.invariant.no_longer, c.in-Some.ensures.shorter, c.in-Ok.ensures.shorter);
    }

pub expressions::joined-returns-in-Err-clause-read : goal.expressions::joined-returns-in-Err-clause-read
expressions::joined-returns-in-Err-clause-read t c =
    fails_in c.in-Err.fault (Tail c.args.below ∷ []) (Level c.args.below ∷ []) c.args.spots.now c.in-Some.later.now
    (λ end k v.
    let p = c.loop-op.invariant.any end k v in
    (Do (Join c.in-Some.op c.in-Some.at) ∷ Tail c.args.below ∷ k, p.0, p.1 ∙ c.in-Some.ensures.read end k p.0))
    c.in-Err.ensures.read

-- ---- primaries

pub expressions::unary-returns-in-Ok-prefixed-clause-read : goal.expressions::unary-returns-in-Ok-prefixed-clause-read
expressions::unary-returns-in-Ok-prefixed-clause-read t c = λ end k v.
    let before = c.split_prefix-before.result.0 in
    c.split_prefix-before.ensures.read end k v ∙ c.in-Ok.ensures.read end (acts_of before ++ k) v ∙ prefix_done before c.in-Ok.value end k v c.in-Ok.rest.now
    ∙ ap (λ e. build end k (push e v) c.in-Ok.rest.now) (sym c.in-Ok-prefixed.ensures)

pub expressions::primary-returns-in-Number-clause-read : goal.expressions::primary-returns-in-Number-clause-read
expressions::primary-returns-in-Number-clause-read t c = λ end k v.
    taken end Primary k v c.args.spots.now c.in-Some.first.now c.in-Some.later.now (token.Number c.in-Number.n) _ c.in-Some.ensures c.in-Number.is refl
    ∙ acted end (Leaf (expr.Number c.in-Number.n)) k v c.in-Some.later.now
    ∙ ap (λ n. build end k (push (expr.Number n) v) c.in-Some.later.now) (sym (to_z-of_z w64 c.in-Number.n (search rules)))

pub accesses::cell_value-returns-in-Ok-new-clause-read : goal.accesses::cell_value-returns-in-Ok-new-clause-read
accesses::cell_value-returns-in-Ok-new-clause-read t c = λ end k v.
    c.in-Ok.ensures.read end (Do Fetch ∷ k) v ∙ acted end Fetch k (reaches c.in-Ok.place v) c.in-Ok.rest.now
    ∙ ap (λ (p : Access). build end k (push (expr.Cell p) v) c.in-Ok.rest.now) (sym c.in-Ok-new.ensures)

pub accesses::cell-returns-in-Ok-sign-clause-read : goal.accesses::cell-returns-in-Ok-sign-clause-read
accesses::cell-returns-in-Ok-sign-clause-read t c = λ end k v.
    let wrap = c.maybe_wrap-wrap.result.0 in
    let a = Reach (named c.args.text.now c.args.at) wrap in
    let made : Use → Trees = λ u. reaches (record { array = u; wrap = wrap; index = c.in-Ok.index }) v in
    c.maybe_wrap-wrap.ensures.read c.args.text.now c.args.at end (Want sign.CloseIndex ∷ k) v
    ∙ c.in-Ok.ensures.read end (Do a ∷ Want sign.CloseIndex ∷ k) v ∙ acted end a (Want sign.CloseIndex ∷ k) (push c.in-Ok.index v) c.in-Ok.rest.now
    ∙ c.in-Ok-sign.ensures.read end k (made (named c.args.text.now c.args.at))
    ∙ ap (λ u. build end k (made u) c.in-Ok-sign.behind.now) (sym c.use_of.ensures)

pub accesses::cell-returns-in-Err-sign-clause-read : goal.accesses::cell-returns-in-Err-sign-clause-read
accesses::cell-returns-in-Err-sign-clause-read t c =
    let a = Reach (named c.args.text.now c.args.at) c.maybe_wrap-wrap.result.0 in
    fails_in c.in-Err-sign.fault (Index c.args.text.now c.args.at ∷ Want sign.CloseIndex ∷ []) (Want sign.CloseIndex ∷ []) c.args.spots.now c.in-Ok.rest.now
    (λ end k v. (
      k,
      act a (push c.in-Ok.index v),
      c.maybe_wrap-wrap.ensures.read c.args.text.now c.args.at end (Want sign.CloseIndex ∷ k) v
          ∙ c.in-Ok.ensures.read end (Do a ∷ Want sign.CloseIndex ∷ k) v ∙ acted end a (Want sign.CloseIndex ∷ k) (push c.in-Ok.index v) c.in-Ok.rest.now,
    ))
    c.in-Err-sign.ensures.read
