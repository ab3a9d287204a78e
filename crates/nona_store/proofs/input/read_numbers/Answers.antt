use Rattle.std.proofs.Common.{arith}
use Rattle.std.proofs.lemmas.Result.{err_from_is_err_and}
use Rattle.nona_store.proofs.Reading.{told_token, told_refused}
use Rattle.nona_store.proofs.input.read_numbers.Goals as goal

pub returns-in_err-add_token-clause-refused : goal.returns-in_err-add_token-clause-refused
returns-in_err-add_token-clause-refused c =
    let p = err_from_is_err_and c.from_residual.result c.from_residual.ensures.1 in
    let i = c.loop-first.invariant in
    rw (p.1, p.2)
    (λ other. told_refused c.loop-first.numbers.items _ c.loop-first.at c.loop-first.rest.now c.in-Some.first _ i.told c.in-Some.ensures (c.in_err-add_token.ensures.token other))

pub loop-first-preserved : goal.loop-first-preserved
loop-first-preserved c =
    let i = c.loop-first.invariant in
    let turn = told_token c.loop-first.numbers.items c.add_token.new.numbers.items _ c.loop-first.at c.loop-first.rest.now c.in-Some.first i.told c.in-Some.ensures c.in_ok-add_token.ensures.token in
    record { place = omega (arith, c.in-Some.ensures.whole); few = turn.0; fit = c.in_ok-add_token.ensures.numbers i.fit; told = turn.1 }
