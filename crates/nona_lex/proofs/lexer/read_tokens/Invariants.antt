use Rattle.std.proofs.Common.{◌≡◌, ◌-◌, ◌≤◌, length, drop}
use Rattle.nona_lex.specs.Lexis.{lexed_from}
use Rattle.nona_lex.specs.Bounds.{tokens_of}
use Rattle.nona_lex.specs.Progress.{tokens_behind, counts_of}
use Rattle.nona_lex.proofs.lexer.read_tokens.Given as goal

-- the tokens so far, and those of the rest that may stand, are the tokens of the text
abbrev pub invariant-loop-at : goal.invariant-loop-at
invariant-loop-at l = record {
  within : l.at ≤ length l.text;
  told : tokens_behind l.spots (counts_of l.counter) (lexed_from 0 l.at (drop l.at l.text)) ≡ tokens_of l.text;
}

abbrev pub decreases-loop-at : goal.decreases-loop-at
decreases-loop-at l = length l.text - l.at
