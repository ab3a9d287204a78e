use Rattle.std.proofs.Common.{◌≡◌, drop, arith, None, Some, ◌∙◌}
use Rattle.std.proofs.lemmas.List.{length-drop}
use Rattle.nona_lex.specs.declared.lexemes.Lexeme.TheVariants.{Gap, Found, Refused}
use Rattle.nona_lex.specs.Bounds.{behind_token}
use Rattle.nona_lex.specs.Progress.{IsLexeme, counts_of}
use Rattle.nona_lex.proofs.Lexing.{gap_within, found_within, told_gap, told_found, told_deep, told_refused, told_end}
use Rattle.nona_lex.proofs.lexer.read_tokens.Goals as goal

pub loop-at-preserved-in-Gap : goal.loop-at-preserved-in-Gap
loop-at-preserved-in-Gap c =
    let here : IsLexeme (drop c.loop-at.at c.args.text.now) (Gap c.in-Gap.len) = rw (← c.split_at.ensures.back) c.in-Gap.ensures in
    let w = gap_within _ _ here in
    record {
      within = omega (arith, w.1, length-drop c.loop-at.at c.args.text.now);
      told = told_gap c.loop-at.spots _ _ c.args.text.now c.loop-at.at c.in-Gap.len c.loop-at.invariant.told here;
    }

pub returns-then-not-branch : goal.returns-then-not-branch
returns-then-not-branch c =
    let here : IsLexeme (drop c.loop-at.at c.args.text.now) (Found c.in-Found.token c.in-Found.len) = rw (← c.split_at.ensures.back) c.in-Found.ensures in
    let may : None ≡ behind_token c.in-Found.token (counts_of c.loop-at.counter) = rw c.if-not-branch.true at c.in_ok-admits-in-Found.ensures in
    record { exact = c.cut_at.ensures ∙ told_deep c.loop-at.spots _ _ _ c.loop-at.at c.in-Found.len c.in-Found.token c.loop-at.invariant.told here may }

pub loop-at-preserved : goal.loop-at-preserved
loop-at-preserved c =
    let here : IsLexeme (drop c.loop-at.at c.args.text.now) (Found c.in-Found.token c.in-Found.len) = rw (← c.split_at.ensures.back) c.in-Found.ensures in
    let may : Some (counts_of c.admits.new.self) ≡ behind_token c.in-Found.token (counts_of c.loop-at.counter) = rw c.if-not-branch.false at c.in_ok-admits-in-Found.ensures in
    let w = found_within _ _ _ here in
    record {
      within = omega (arith, w.1, length-drop c.loop-at.at c.args.text.now);
      told = rw c.in_ok-push-in-Found.ensures.ok (told_found c.loop-at.spots _ _ _ c.args.text.now c.loop-at.at c.in-Found.len c.in-Found.token c.loop-at.invariant.told here may);
    }

pub returns-in-Refused : goal.returns-in-Refused
returns-in-Refused c =
    let here : IsLexeme (drop c.loop-at.at c.args.text.now) (Refused c.in-Refused.fault) = rw (← c.split_at.ensures.back) c.in-Refused.ensures in
    record { exact = c.cut_at-in-Refused.ensures ∙ told_refused c.loop-at.spots _ _ _ c.loop-at.at c.in-Refused.fault c.loop-at.invariant.told here }

pub returns : goal.returns
returns c = record { exact = told_end c.loop-at.spots _ _ c.args.text.now c.loop-at.at c.loop-at.invariant.told (omega arith) }
