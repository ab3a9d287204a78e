use Rattle.std.proofs.Common.{[], ◌∷◌, ◌∙◌}
use Rattle.std.proofs.lemmas.Result.{MatchResult-weaker}
use Rattle.nona_lex.specs.declared.tokens.Sign.TheVariants as sign
use Rattle.nona_grammar.specs.Stack.{Begin, Branch, Each, Repeat, push, with_block}
use Rattle.nona_grammar.specs.Machine.{Do, Want, Else, Block, Stmts}
use Rattle.nona_grammar.proofs.Machining.{acted}
use Rattle.nona_parse.proofs.Build.{fails_in, block_is}
use Rattle.nona_parse.proofs.blocks.+stmt.Goals as goal

pub body-returns-in-Err-clause-read : goal.body-returns-in-Err-clause-read
body-returns-in-Err-clause-read t c =
    fails_in c.in-Err.fault (Block ∷ []) (Want sign.OpenBlock ∷ []) c.args.spots.now c.args.spots.now
    (λ end k v. (Do Begin ∷ Stmts ∷ Want sign.CloseBlock ∷ k, v, block_is end k v c.args.spots.now)) c.in-Err.ensures.read

pub body-returns-in-Err-statements-clause-read : goal.body-returns-in-Err-statements-clause-read
body-returns-in-Err-statements-clause-read t c =
    fails_in c.in-Err-statements.fault (Block ∷ []) (Stmts ∷ []) c.args.spots.now c.in-Ok.inner.now
    (λ end k v. (
      Want sign.CloseBlock ∷ k,
      with_block [] v,
      block_is end k v c.args.spots.now ∙ c.in-Ok.ensures.read end (Do Begin ∷ Stmts ∷ Want sign.CloseBlock ∷ k) v
          ∙ acted end Begin (Stmts ∷ Want sign.CloseBlock ∷ k) v c.in-Ok.inner.now,
    ))
    c.in-Err-statements.ensures.read

pub body-returns-in-Err-sign-clause-read : goal.body-returns-in-Err-sign-clause-read
body-returns-in-Err-sign-clause-read t c =
    fails_in c.in-Err-sign.fault (Block ∷ []) (Want sign.CloseBlock ∷ []) c.args.spots.now c.in-Ok-statements.rest.now
    (λ end k v. (
      k,
      with_block c.in-Ok-statements.body v,
      block_is end k v c.args.spots.now ∙ c.in-Ok.ensures.read end (Do Begin ∷ Stmts ∷ Want sign.CloseBlock ∷ k) v
          ∙ acted end Begin (Stmts ∷ Want sign.CloseBlock ∷ k) v c.in-Ok.inner.now ∙ c.in-Ok-statements.ensures.read end (Want sign.CloseBlock ∷ k) (with_block [] v),
    ))
    c.in-Err-sign.ensures.read

pub body-returns-in-Ok-sign-clause-read : goal.body-returns-in-Ok-sign-clause-read
body-returns-in-Ok-sign-clause-read t c = λ end k v.
    block_is end k v c.args.spots.now ∙ c.in-Ok.ensures.read end (Do Begin ∷ Stmts ∷ Want sign.CloseBlock ∷ k) v
    ∙ acted end Begin (Stmts ∷ Want sign.CloseBlock ∷ k) v c.in-Ok.inner.now ∙ c.in-Ok-statements.ensures.read end (Want sign.CloseBlock ∷ k) (with_block [] v)
    ∙ c.in-Ok-sign.ensures.read end k (with_block c.in-Ok-statements.body v)

pub otherwise-returns-in-Some-clause-read : goal.otherwise-returns-in-Some-clause-read
otherwise-returns-in-Some-clause-read t c =
    MatchResult-weaker c.body.result c.body.ensures.read
    (λ x goes end k v. c.in-Some.ensures.read end k v ∙ goes end (Do Branch ∷ k) v ∙ acted end Branch k (with_block x.0 v) x.1.now)
    (λ f stuck. fails_in f (Else ∷ []) (Block ∷ []) c.args.spots.now c.in-Some.later.now (λ end k v. (Do Branch ∷ k, v, c.in-Some.ensures.read end k v)) stuck)

pub while_loop-returns-clause-read : goal.while_loop-returns-clause-read
while_loop-returns-clause-read t c = λ end k v.
    let a = Repeat c.args.at in
    c.in_ok-test.ensures.read end (Block ∷ Do a ∷ k) v ∙ c.in_ok-body.ensures.read end (Do a ∷ k) (push c.in_ok-test.test v)
    ∙ acted end a k (with_block c.in_ok-body.body (push c.in_ok-test.test v)) c.in_ok-body.rest.now

pub for_loop-returns-clause-read : goal.for_loop-returns-clause-read
for_loop-returns-clause-read t c = λ end k v.
    let a = Each c.in_ok-index.index c.args.seq c.args.at in
    let u = push c.in_ok-low.high (push c.in_ok-low.low v) in
    c.in_ok-index.ensures.index c.args.seq c.args.at end k v ∙ c.in_ok-low.ensures.read end (Block ∷ Do a ∷ k) v ∙ c.in_ok-body.ensures.read end (Do a ∷ k) u
    ∙ acted end a k (with_block c.in_ok-body.body u) c.in_ok-body.behind.now
