use Rattle.std.proofs.Common.{[], ◌∷◌, ap, sym, ◌∙◌}
use Rattle.nona_grammar.specs.Stack.{Store, push, adds}
use Rattle.nona_grammar.specs.Machine.{Do, build}
use Rattle.nona_grammar.proofs.Machining.{acted}
use Rattle.nona_parse.specs.Steps.{reaches}
use Rattle.nona_parse.proofs.statements.cell_value.Goals as goal

pub returns-clause-read : goal.returns-clause-read
returns-clause-read c = λ end k v.
    let a = Store c.in_ok-fold.fold in
    let u = reaches c.args.place v in
    c.in_ok-fold.ensures.read end k u ∙ c.in_ok-value.ensures.read end (Do a ∷ k) u ∙ acted end a k (push c.in_ok-value.value u) c.in_ok-value.rest.now
    ∙ ap (λ s. build end k (adds (s ∷ []) v) c.in_ok-value.rest.now) (sym c.put_of.ensures)
