-- What stands before a primary.
use Rattle.std.specs.Prelude.{List, [], ◌∷◌}
use Rattle.nona_tree.specs.declared.trees.Expr.{Expr}
use Rattle.nona_tree.specs.declared.trees.Expr.TheVariants as expr
use Rattle.nona_grammar.specs.Stack.{Negate, Invert}
use Rattle.nona_grammar.specs.Machine.{Sym, Do}
use Rattle.nona_parse.specs.declared.operators.Prefix.{Prefix}
use Rattle.nona_parse.specs.declared.operators.Prefix.TheVariants.{Minus, Not, Nothing}

-- what is made of the primary
abbrev pub acts_of : Prefix → List Sym
acts_of Minus = Do Negate ∷ []
acts_of Not = Do Invert ∷ []
acts_of Nothing = []

-- an expression with what stands before it
abbrev pub prefixed_of : Prefix → Expr → Expr
prefixed_of Minus e = expr.Neg e
prefixed_of Not e = expr.Not e
prefixed_of Nothing e = e
