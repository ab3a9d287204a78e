use Rattle.std.proofs.Common.{rules, ◌≡◌, ℕ, pos, [], ◌∷◌, List, refl, ◌∙◌}
use Rattle.std.proofs.lemmas.Result.{MatchResult-weaker}
use Rattle.nona_lex.specs.declared.tokens.Sign.TheVariants as sign
use Rattle.nona_lex.specs.declared.tokens.Token.TheVariants as token
use Rattle.nona_grammar.specs.Levels.{named}
use Rattle.nona_grammar.specs.Stack.{Trees, Var}
use Rattle.nona_grammar.specs.Machine.{Sym, Init, InitNumber, Want, build}
use Rattle.nona_grammar.proofs.Machining.{acted}
use Rattle.nona_parse.proofs.Build.{taken, fails_in}
use Rattle.nona_parse.proofs.declarations.initial.Goals as goal

pub returns-in-Sign-Semicolon-clause-read : goal.returns-in-Sign-Semicolon-clause-read
returns-in-Sign-Semicolon-clause-read c = λ n at end k v.
    let is : c.in-Some.first.now.token ≡ token.Sign sign.Semicolon = search rules in
    taken end (Init n at) k v c.args.spots.now c.in-Some.first.now c.in-Some.later.now (token.Sign sign.Semicolon) _ c.in-Some.ensures is refl
    ∙ acted end (Var (record { name = named n at; value = pos 0 })) k v c.in-Some.later.now

pub returns-in-Sign-Set-clause-read : goal.returns-in-Sign-Set-clause-read
returns-in-Sign-Set-clause-read c = λ n at.
    let is : c.in-Some.first.now.token ≡ token.Sign sign.Set = search rules in
    let turn : (end : ℕ) (k : List Sym) (v : Trees)
    → build end (Init n at ∷ k) v c.args.spots.now ≡ build end (InitNumber n at ∷ Want sign.Semicolon ∷ k) v c.in-Some.later.now =
    λ end k v. taken end (Init n at) k v c.args.spots.now c.in-Some.first.now c.in-Some.later.now (token.Sign sign.Set) _ c.in-Some.ensures is refl in
    MatchResult-weaker c.number_and_end.result (c.number_and_end.ensures.read n at)
    (λ x goes end k v. turn end k v ∙ goes end k v)
    (λ f stuck. fails_in f (Init n at ∷ []) (InitNumber n at ∷ Want sign.Semicolon ∷ []) c.args.spots.now c.in-Some.later.now (λ end k v. (k, v, turn end k v)) stuck)
