use Rattle.std.proofs.lemmas.Result.{MatchResult-weaker}
use Rattle.nona_lex.specs.Bounds.{tokens_of}
use Rattle.nona_parse.proofs.Refusals.{answered, every_read, small_program}
use Rattle.nona_parse.proofs.program.parse.Goals as goal

pub returns-clause-small : goal.returns-clause-small
returns-clause-small c =
    let text = c.args.text.now in
    let answer = answered text c.in-Ok.tokens c.as_slice.result.now c.read_program-read.result c.answer.result c.in-Ok.ensures.exact c.as_slice.ensures c.read_program-read.ensures c.answer.ensures in
    MatchResult-weaker c.answer.result answer
    (λ p read. small_program c.tokens_are_few.ensures c.programs_are_small.ensures.size c.programs_are_small.ensures.nesting text p c.requires read) (λ f refusal. tt)

pub returns-clause-every : goal.returns-clause-every
returns-clause-every c =
    let text = c.args.text.now in
    let answer = answered text c.in-Ok.tokens c.as_slice.result.now c.read_program-read.result c.answer.result c.in-Ok.ensures.exact c.as_slice.ensures c.read_program-read.ensures c.answer.ensures in
    every_read c.grammar_is_read.ensures.one_tree text c.answer.result answer

pub returns-clause-numbers : goal.returns-clause-numbers
returns-clause-numbers c =
    let text = c.args.text.now in
    let answer = answered text c.in-Ok.tokens c.as_slice.result.now c.read_program-read.result c.answer.result c.in-Ok.ensures.exact c.as_slice.ensures c.read_program-read.ensures c.answer.ensures in
    MatchResult-weaker c.answer.result answer
    (λ p read. c.programs_are_i64.ensures (tokens_of text).spots p read.1 (c.tokens_are_i64.ensures text)) (λ f refusal. tt)

pub returns-clause-places : goal.returns-clause-places
returns-clause-places c =
    let text = c.args.text.now in
    let answer = answered text c.in-Ok.tokens c.as_slice.result.now c.read_program-read.result c.answer.result c.in-Ok.ensures.exact c.as_slice.ensures c.read_program-read.ensures c.answer.ensures in
    MatchResult-weaker c.answer.result answer
    (λ p read. c.programs_have_places.ensures.places (tokens_of text).spots p read.1 (c.programs_have_places.ensures.rising text)) (λ f refusal. tt)
