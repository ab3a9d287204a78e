use Rattle.std.proofs.Common.{[], ◌∷◌, ap, sym, ◌∙◌}
use Rattle.nona_tree.specs.declared.trees.Stmt.TheVariants as stmt
use Rattle.nona_grammar.specs.Levels.{named}
use Rattle.nona_grammar.specs.Stack.{Assign, push, adds}
use Rattle.nona_grammar.specs.Machine.{Do, build}
use Rattle.nona_grammar.proofs.Machining.{acted}
use Rattle.nona_parse.proofs.statements.set.Goals as goal

pub returns-clause-read : goal.returns-clause-read
returns-clause-read c = λ end k v.
    let a = Assign (named c.args.text.now c.args.at) in
    let e = c.in_ok-value.value in
    c.in_ok-value.ensures.read end (Do a ∷ k) v ∙ acted end a k (push e v) c.in_ok-value.rest.now
    ∙ ap (λ u. build end k (adds (stmt.Set u e ∷ []) v) c.in_ok-value.rest.now) (sym c.use_of-name.ensures)
