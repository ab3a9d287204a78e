-- What no operator makes.
use Rattle.std.specs.Prelude.{⊤}
use Rattle.nona_tree.specs.declared.trees.Expr.{Expr, Number, Scalar, Cell', Len, Neg', Not', Binary'}

-- an expression is a number, a scalar, a cell or a length
abbrev pub IsPrimary : Expr → Type 0
IsPrimary (Number v) = ⊤
IsPrimary (Scalar x) = ⊤
IsPrimary (Cell' p c) = ⊤
IsPrimary (Len x) = ⊤
IsPrimary (Neg' p e) = ⊥
IsPrimary (Not' p e) = ⊥
IsPrimary (Binary' op at p left q right) = ⊥
