use Rattle.std.proofs.Common.{◌∷◌, ◌∙◌}
use Rattle.nona_lex.specs.declared.tokens.Sign.TheVariants as sign
use Rattle.nona_grammar.specs.Stack.{Bind, push}
use Rattle.nona_grammar.specs.Machine.{Do, Whole, Want}
use Rattle.nona_grammar.proofs.Machining.{acted}
use Rattle.nona_parse.proofs.statements.new_scalar.Goals as goal

pub returns-clause-read : goal.returns-clause-read
returns-clause-read c = λ end k v.
    let a = Bind c.in_ok-name.name in
    c.in_ok-name.ensures.scalar end k v ∙ c.in_ok-later.ensures.read end (Whole ∷ Want sign.Semicolon ∷ Do a ∷ k) v
    ∙ c.in_ok-value.ensures.read end (Do a ∷ k) v ∙ acted end a k (push c.in_ok-value.value v) c.in_ok-value.behind.now
