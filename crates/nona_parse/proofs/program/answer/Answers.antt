use Rattle.std.proofs.Common.{sym, ◌∙◌}
use Rattle.std.proofs.lemmas.Result.{MatchResult-at_ok}
use Rattle.nona_lex.specs.Bounds.{tokens_of}
use Rattle.nona_grammar.specs.Grammar.{IsProgram}
use Rattle.nona_parse.specs.Steps.{IsUnread}
use Rattle.nona_parse.proofs.Refusals.{cut_refused, whole_front}
use Rattle.nona_parse.proofs.program.answer.Goals as goal

pub returns-in-Some : goal.returns-in-Some
returns-in-Some c = λ text end_is cut_is read.
    let spots = (tokens_of text).spots in
    let program = MatchResult-at_ok (λ p. IsProgram spots p) (λ f. IsUnread f spots) c.in-Ok.program c.in-Ok.is read in
    rw c.cut_fault.ensures (cut_refused text c.in-Some.cut.fault c.in-Some.cut.at (sym c.in-Some.is ∙ cut_is) (whole_front spots c.in-Ok.program program))
