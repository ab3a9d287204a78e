-- How each token is spelled, without regard to what stands behind it.
use Rattle.std.specs.Prelude.{◌≡◌, ℕ, Bool, false, ◌&&◌, IsTrue, pos, List, [], ◌∷◌, codes}
use Rattle.std.specs.List.{list_all}
use Rattle.nona_num.specs.declared.folds.Fold.{Fold}
use Rattle.nona_num.specs.declared.folds.Fold.TheVariants as folds
use Rattle.nona_lex.specs.declared.tokens.Keyword.{Keyword}
use Rattle.nona_lex.specs.declared.tokens.Keyword.TheVariants as keyword
use Rattle.nona_lex.specs.declared.tokens.Operator.{Operator}
use Rattle.nona_lex.specs.declared.tokens.Operator.TheVariants as operator
use Rattle.nona_lex.specs.declared.tokens.Sign.{Sign}
use Rattle.nona_lex.specs.declared.tokens.Sign.TheVariants as sign
use Rattle.nona_lex.specs.declared.tokens.Token.{Token}
use Rattle.nona_lex.specs.declared.tokens.Token.TheVariants as token
use Rattle.nona_text.specs.Bytes.{is_digit, number_of}
use Rattle.nona_lex.specs.Words.{is_letter, is_word_byte}

-- the text of a reserved word
abbrev pub keyword_text : Keyword → List ℕ
keyword_text keyword.Array = codes "array"
keyword_text keyword.Var = codes "var"
keyword_text keyword.Let = codes "let"
keyword_text keyword.If = codes "if"
keyword_text keyword.Else = codes "else"
keyword_text keyword.While = codes "while"
keyword_text keyword.For = codes "for"
keyword_text keyword.In = codes "in"
keyword_text keyword.Seq = codes "seq"
keyword_text keyword.Print = codes "print"
keyword_text keyword.Len = codes "len"
keyword_text keyword.Wrap = codes "wrap"
keyword_text keyword.Min = codes "min"
keyword_text keyword.Max = codes "max"
keyword_text keyword.Leave = codes "leave"
keyword_text keyword.When = codes "when"

-- the text of a fold
abbrev pub fold_text : Fold → List ℕ
fold_text folds.Add = codes "+="
fold_text folds.Mul = codes "*="
fold_text folds.And = codes "&="
fold_text folds.Or = codes "|="
fold_text folds.Xor = codes "^="
fold_text folds.Min = codes "min="
fold_text folds.Max = codes "max="

-- the text of an operator
abbrev pub operator_text : Operator → List ℕ
operator_text operator.Add = codes "+"
operator_text operator.Sub = codes "-"
operator_text operator.Mul = codes "*"
operator_text operator.Div = codes "/"
operator_text operator.Rem = codes "%"
operator_text operator.And = codes "&"
operator_text operator.Or = codes "|"
operator_text operator.Xor = codes "^"
operator_text operator.Shl = codes "<<"
operator_text operator.Shr = codes ">>"
operator_text operator.Eq = codes "=="
operator_text operator.Ne = codes "!="
operator_text operator.Lt = codes "<"
operator_text operator.Le = codes "<="
operator_text operator.Gt = codes ">"
operator_text operator.Ge = codes ">="
operator_text operator.Not = codes "!"

-- the text of a sign
abbrev pub sign_text : Sign → List ℕ
sign_text sign.Set = codes "="
sign_text sign.Semicolon = codes ";"
sign_text sign.Comma = codes ","
sign_text sign.Range = codes ".."
sign_text sign.Open = codes "("
sign_text sign.Close = codes ")"
sign_text sign.OpenIndex = codes "["
sign_text sign.CloseIndex = codes "]"
sign_text sign.OpenBlock = codes "{"
sign_text sign.CloseBlock = codes "}"

-- a letter, and behind it letters, digits and underscores
abbrev pub is_word : List ℕ → Bool
is_word [] = false
is_word (b ∷ bs) = is_letter b && list_all is_word_byte bs

-- one digit or more
abbrev pub is_number : List ℕ → Bool
is_number [] = false
is_number (b ∷ bs) = is_digit b && list_all is_digit bs

-- the bytes, all of them, spell the token; a name may have any length here, and a number any value
abbrev pub Spells : List ℕ → Token → Type 0
Spells bytes (token.Word k) = bytes ≡ keyword_text k
Spells bytes (token.Name n) = (n ≡ bytes) × IsTrue (is_word bytes) × ((k : Keyword) → ¬ (bytes ≡ keyword_text k))
Spells bytes (token.Number v) = IsTrue (is_number bytes) × (v ≡ pos (number_of bytes))
Spells bytes (token.Fold f) = bytes ≡ fold_text f
Spells bytes (token.Operator o) = bytes ≡ operator_text o
Spells bytes (token.Sign s) = bytes ≡ sign_text s
