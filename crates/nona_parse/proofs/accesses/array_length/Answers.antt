use Rattle.std.proofs.Common.{[], ◌∷◌, ◌∙◌}
use Rattle.nona_lex.specs.declared.tokens.Sign.TheVariants as sign
use Rattle.nona_tree.specs.declared.trees.Expr.TheVariants as expr
use Rattle.nona_grammar.specs.Stack.{Leaf, push}
use Rattle.nona_grammar.specs.Machine.{Want, LenOpen, LenName}
use Rattle.nona_grammar.proofs.Machining.{acted}
use Rattle.nona_parse.proofs.Build.{fails_in, len_is}
use Rattle.nona_parse.proofs.accesses.array_length.Goals as goal

pub returns-in-Err-clause-read : goal.returns-in-Err-clause-read
returns-in-Err-clause-read c =
    fails_in c.in-Err.fault (LenOpen ∷ Want sign.Close ∷ []) (Want sign.Open ∷ []) c.args.spots.now c.args.spots.now
    (λ end k v. (LenName ∷ Want sign.Close ∷ k, v, len_is end (Want sign.Close ∷ k) v c.args.spots.now)) c.in-Err.ensures.read

pub returns-in-Err-name-clause-read : goal.returns-in-Err-name-clause-read
returns-in-Err-name-clause-read c =
    fails_in c.in-Err-name.fault (LenOpen ∷ Want sign.Close ∷ []) (LenName ∷ []) c.args.spots.now c.in-Ok.inner.now
    (λ end k v. (Want sign.Close ∷ k, v, len_is end (Want sign.Close ∷ k) v c.args.spots.now ∙ c.in-Ok.ensures.read end (LenName ∷ Want sign.Close ∷ k) v))
    c.in-Err-name.ensures.measured

pub returns-in-Err-sign-clause-read : goal.returns-in-Err-sign-clause-read
returns-in-Err-sign-clause-read c =
    let e = expr.Len c.in-Ok-name.array in
    fails_in c.in-Err-sign.fault (LenOpen ∷ Want sign.Close ∷ []) (Want sign.Close ∷ []) c.args.spots.now c.in-Ok-name.rest.now
    (λ end k v. (
      k,
      push e v,
      len_is end (Want sign.Close ∷ k) v c.args.spots.now ∙ c.in-Ok.ensures.read end (LenName ∷ Want sign.Close ∷ k) v
          ∙ c.in-Ok-name.ensures.measured end (Want sign.Close ∷ k) v ∙ acted end (Leaf e) (Want sign.Close ∷ k) v c.in-Ok-name.rest.now,
    ))
    c.in-Err-sign.ensures.read

pub returns-in-Ok-sign-clause-read : goal.returns-in-Ok-sign-clause-read
returns-in-Ok-sign-clause-read c = λ end k v.
    let e = expr.Len c.in-Ok-name.array in
    len_is end (Want sign.Close ∷ k) v c.args.spots.now ∙ c.in-Ok.ensures.read end (LenName ∷ Want sign.Close ∷ k) v
    ∙ c.in-Ok-name.ensures.measured end (Want sign.Close ∷ k) v ∙ acted end (Leaf e) (Want sign.Close ∷ k) v c.in-Ok-name.rest.now
    ∙ c.in-Ok-sign.ensures.read end k (push e v)
