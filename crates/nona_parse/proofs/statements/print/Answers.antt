use Rattle.std.proofs.Common.{◌∷◌, ◌∙◌}
use Rattle.nona_grammar.specs.Stack.{Show, push}
use Rattle.nona_grammar.specs.Machine.{Do}
use Rattle.nona_grammar.proofs.Machining.{acted}
use Rattle.nona_parse.proofs.statements.print.Goals as goal

pub returns-clause-read : goal.returns-clause-read
returns-clause-read c = λ end k v.
    let a = Show c.args.at in
    c.in_ok-value.ensures.read end (Do a ∷ k) v ∙ acted end a k (push c.in_ok-value.value v) c.in_ok-value.rest.now
