-- How tokens are written, and how tightly operators bind.
use Rattle.std.specs.Prelude.{ℕ, ℤ, List, None, Some}
use Rattle.std.specs.declared.option.Option.{Option}
use Rattle.nona_lex.specs.declared.tokens.Keyword.{Keyword}
use Rattle.nona_lex.specs.declared.tokens.Sign.{Sign}
use Rattle.nona_lex.specs.declared.tokens.Operator.{Operator}
use Rattle.nona_lex.specs.declared.tokens.Operator.TheVariants as operator
use Rattle.nona_lex.specs.declared.tokens.Token.{Token}
use Rattle.nona_lex.specs.declared.tokens.Token.TheVariants as token
use Rattle.nona_lex.specs.declared.tokens.Spot.{Spot}
use Rattle.nona_tree.specs.declared.names.Use.{Use}
use Rattle.nona_tree.specs.declared.trees.Op.{Op}
use Rattle.nona_tree.specs.declared.trees.Op.TheVariants as op

-- a token in its place
abbrev pub spot : Token → ℕ → Spot
spot t at = record { token = t; at = at }

-- a reserved word in its place
abbrev pub word : Keyword → ℕ → Spot
word k at = spot (token.Word k) at

-- a sign in its place
abbrev pub sign : Sign → ℕ → Spot
sign x at = spot (token.Sign x) at

-- a name in its place
abbrev pub name : List ℕ → ℕ → Spot
name n at = spot (token.Name n) at

-- a number in its place
abbrev pub number : ℤ → ℕ → Spot
number n at = spot (token.Number n) at

-- a name in the text, whose id isn't known yet
abbrev pub named : List ℕ → ℕ → Use
named n at = record { text = n; at = at; id = 0 }

-- the token that a binary operator is written as
abbrev pub written : Op → Operator
written op.Add = operator.Add
written op.Sub = operator.Sub
written op.Mul = operator.Mul
written op.Div = operator.Div
written op.Rem = operator.Rem
written op.And = operator.And
written op.Or = operator.Or
written op.Xor = operator.Xor
written op.Shl = operator.Shl
written op.Shr = operator.Shr
written op.Eq = operator.Eq
written op.Ne = operator.Ne
written op.Lt = operator.Lt
written op.Le = operator.Le
written op.Gt = operator.Gt
written op.Ge = operator.Ge

-- the binary operator that a token is, if it is one
abbrev pub op_of : Operator → Option Op
op_of operator.Add = Some op.Add
op_of operator.Sub = Some op.Sub
op_of operator.Mul = Some op.Mul
op_of operator.Div = Some op.Div
op_of operator.Rem = Some op.Rem
op_of operator.And = Some op.And
op_of operator.Or = Some op.Or
op_of operator.Xor = Some op.Xor
op_of operator.Shl = Some op.Shl
op_of operator.Shr = Some op.Shr
op_of operator.Eq = Some op.Eq
op_of operator.Ne = Some op.Ne
op_of operator.Lt = Some op.Lt
op_of operator.Le = Some op.Le
op_of operator.Gt = Some op.Gt
op_of operator.Ge = Some op.Ge
op_of operator.Not = None

-- a binary operator in its place
abbrev pub joining : Op → ℕ → Spot
joining o at = spot (token.Operator (written o)) at

-- the level of a binary operator: the lower, the tighter it binds; at level 0 none is joined
abbrev pub level : Op → ℕ
level op.Mul = 1
level op.Div = 1
level op.Rem = 1
level op.Add = 2
level op.Sub = 2
level op.Shl = 3
level op.Shr = 3
level op.And = 4
level op.Xor = 5
level op.Or = 6
level op.Eq = 7
level op.Ne = 7
level op.Lt = 7
level op.Le = 7
level op.Gt = 7
level op.Ge = 7

-- the loosest level whose operators may stand one after another
abbrev pub loosest : ℕ
loosest = 6

-- the level of the comparisons, of which an expression has one at most
abbrev pub comparisons : ℕ
comparisons = 7
