use Rattle.std.proofs.Common.{sym, ◌∙◌}
use Rattle.nona_text.specs.Pieces.{is_space}
use Rattle.nona_text.proofs.Splitting.{no_piece, first_piece}
use Rattle.nona_text.proofs.pieces.first_word.Goals as goal

pub returns-then-is_empty : goal.returns-then-is_empty
returns-then-is_empty c = no_piece is_space _ _ _ c.spaces_len-blanks.ensures c.split_at.ensures.back (sym c.is_empty.ensures ∙ c.if-is_empty.true)

pub returns : goal.returns
returns c =
    first_piece is_space _ _ _ _ c.spaces_len-blanks.ensures c.split_at.ensures.back (sym c.is_empty.ensures ∙ c.if-is_empty.false)
    c.word_len.ensures c.split_at-2.ensures.front c.split_at-2.ensures.back
