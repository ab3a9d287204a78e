use Rattle.std.proofs.Common.{sym, ◌∙◌}
use Rattle.nona_text.specs.Bytes.{is_blank}
use Rattle.nona_text.proofs.Splitting.{no_piece, first_piece}
use Rattle.nona_text.proofs.pieces.first_token.Goals as goal

pub returns-then-is_empty : goal.returns-then-is_empty
returns-then-is_empty c = no_piece is_blank _ _ _ c.blanks_len-blanks.ensures c.split_at.ensures.back (sym c.is_empty.ensures ∙ c.if-is_empty.true)

pub returns : goal.returns
returns c =
    first_piece is_blank _ _ _ _ c.blanks_len-blanks.ensures c.split_at.ensures.back (sym c.is_empty.ensures ∙ c.if-is_empty.false)
    c.token_len.ensures c.split_at-2.ensures.front c.split_at-2.ensures.back
