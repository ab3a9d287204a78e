use Rattle.std.proofs.Common.{[], ◌∷◌}
use Rattle.nona_grammar.specs.Machine.{VarName, Init}
use Rattle.nona_parse.proofs.Build.{fails_in}
use Rattle.nona_parse.proofs.declarations.variable.Goals as goal

pub returns-in-Err-clause-read : goal.returns-in-Err-clause-read
returns-in-Err-clause-read c =
    let name = c.in_ok-name.name in
    fails_in c.in-Err.fault (VarName ∷ []) (Init name.text name.at ∷ []) c.args.spots.now c.in_ok-name.rest.now
    (λ end k v. (k, v, c.in_ok-name.ensures.variable end k v)) (c.in-Err.ensures.read name.text name.at)
