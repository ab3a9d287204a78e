use Rattle.std.proofs.Common.{[], ◌∷◌, refl}
use Rattle.nona_lex.specs.declared.tokens.Sign.TheVariants as sign
use Rattle.nona_grammar.specs.Machine.{InitNumber, Want}
use Rattle.nona_parse.proofs.Build.{fails_in}
use Rattle.nona_parse.proofs.declarations.number_and_end.Goals as goal

pub returns-in-Err-clause-read : goal.returns-in-Err-clause-read
returns-in-Err-clause-read c = λ n at.
    fails_in c.in-Err.fault (InitNumber n at ∷ Want sign.Semicolon ∷ []) (InitNumber n at ∷ []) c.args.spots.now c.args.spots.now
    (λ end k v. (Want sign.Semicolon ∷ k, v, refl)) (c.in-Err.ensures.value n at)
