-- What declarations make.
use Rattle.std.specs.Prelude.{[], ◌∷◌, ◌++◌}
use Rattle.nona_grammar.specs.Stack.{Trees}
use Rattle.nona_grammar.specs.Machine.{Sym, ArrayName, VarName}
use Rattle.nona_parse.specs.declared.declarations.Kind.{Kind}
use Rattle.nona_parse.specs.declared.declarations.Kind.TheVariants as kind
use Rattle.nona_parse.specs.declared.declarations.Decl.{Decl}
use Rattle.nona_parse.specs.declared.declarations.Decl.TheVariants as decl

-- what is to come behind a declaration's first word
abbrev pub name_of : Kind → Sym
name_of kind.Array = ArrayName
name_of kind.Var = VarName

-- one declaration behind the others
abbrev pub declares_one : Decl → Trees → Trees
declares_one (decl.Array d) v = record v { arrays = v.arrays ++ d ∷ [] }
declares_one (decl.Var d) v = record v { vars = v.vars ++ d ∷ [] }
