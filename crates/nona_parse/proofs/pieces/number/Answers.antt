use Rattle.std.proofs.Common.{rules, refl, ap, sym, ◌∙◌, w64}
use Rattle.std.proofs.lemmas.Int.{to_z-of_z}
use Rattle.nona_lex.specs.declared.tokens.Token.TheVariants as token
use Rattle.nona_grammar.specs.Levels.{named}
use Rattle.nona_grammar.specs.Stack.{Array, Var}
use Rattle.nona_grammar.specs.Machine.{Cells, InitNumber, build}
use Rattle.nona_grammar.proofs.Machining.{acted}
use Rattle.nona_parse.specs.declared.declarations.Decl.TheVariants as decl
use Rattle.nona_parse.specs.Declaring.{declares_one}
use Rattle.nona_parse.proofs.Build.{taken}
use Rattle.nona_parse.proofs.pieces.number.Goals as goal

pub returns-in-Number-clause-cells : goal.returns-in-Number-clause-cells
returns-in-Number-clause-cells c = λ n at end k v.
    let x = c.in-Some.first.now in
    taken end (Cells n at) k v c.args.spots.now x c.in-Some.later.now (token.Number c.in-Number.n) _ c.in-Some.ensures c.in-Number.is refl
    ∙ acted end (Array (record { name = named n at; cells = c.in-Number.n; cells_at = x.at })) k v c.in-Some.later.now
    ∙ ap (λ m. build end k (declares_one (decl.Array (record { name = named n at; cells = m; cells_at = x.at })) v) c.in-Some.later.now) (sym (to_z-of_z w64 c.in-Number.n (search rules)))

pub returns-in-Number-clause-value : goal.returns-in-Number-clause-value
returns-in-Number-clause-value c = λ n at end k v.
    taken end (InitNumber n at) k v c.args.spots.now c.in-Some.first.now c.in-Some.later.now (token.Number c.in-Number.n) _ c.in-Some.ensures c.in-Number.is refl
    ∙ acted end (Var (record { name = named n at; value = c.in-Number.n })) k v c.in-Some.later.now
    ∙ ap (λ m. build end k (declares_one (decl.Var (record { name = named n at; value = m })) v) c.in-Some.later.now) (sym (to_z-of_z w64 c.in-Number.n (search rules)))
