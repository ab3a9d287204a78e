-- Bytes of one kind, and what words are.
use Rattle.std.specs.Prelude.{ℕ, Bool, not, ◌&&◌, ◌||◌, ◌==◌, nat_le, List, None, Some, if◌then◌else◌, codes}
use Rattle.std.specs.declared.option.Option.{Option}
use Rattle.std.specs.Str.{bytes_eq}
use Rattle.nona_text.specs.Bytes.{is_digit}
use Rattle.nona_num.specs.declared.folds.Fold.{Fold}
use Rattle.nona_num.specs.declared.folds.Fold.TheVariants as folds
use Rattle.nona_lex.specs.declared.tokens.Keyword.{Keyword}
use Rattle.nona_lex.specs.declared.tokens.Keyword.TheVariants as keyword

-- a lowercase letter
abbrev pub is_letter : ℕ → Bool
is_letter b = nat_le 97 b && nat_le b 122

-- a lowercase letter, a digit or an underscore
abbrev pub is_word_byte : ℕ → Bool
is_word_byte b = is_letter b || is_digit b || (b == 95)

-- a byte that leaves a comment open
abbrev pub is_comment_byte : ℕ → Bool
is_comment_byte b = not (b == 10)

-- the reserved word that is spelled so
unfoldable pub keyword_of : List ℕ → Option Keyword
keyword_of word =
    if bytes_eq word (codes "array") then Some keyword.Array
    else if bytes_eq word (codes "var") then Some keyword.Var
    else if bytes_eq word (codes "let") then Some keyword.Let
    else if bytes_eq word (codes "if") then Some keyword.If
    else if bytes_eq word (codes "else") then Some keyword.Else
    else if bytes_eq word (codes "while") then Some keyword.While
    else if bytes_eq word (codes "for") then Some keyword.For
    else if bytes_eq word (codes "in") then Some keyword.In
    else if bytes_eq word (codes "seq") then Some keyword.Seq
    else if bytes_eq word (codes "print") then Some keyword.Print
    else if bytes_eq word (codes "len") then Some keyword.Len
    else if bytes_eq word (codes "wrap") then Some keyword.Wrap
    else if bytes_eq word (codes "min") then Some keyword.Min
    else if bytes_eq word (codes "max") then Some keyword.Max
    else if bytes_eq word (codes "leave") then Some keyword.Leave
    else if bytes_eq word (codes "when") then Some keyword.When
    else None

-- the fold that is this word with `=` behind it
abbrev pub fold_word : List ℕ → Option Fold
fold_word word =
    if bytes_eq word (codes "min") then Some folds.Min
    else if bytes_eq word (codes "max") then Some folds.Max
    else None
