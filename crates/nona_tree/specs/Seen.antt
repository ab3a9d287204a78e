-- What is visible at a place of a program.
use Rattle.std.specs.Prelude.{ℕ, Bool, false, ◌||◌, if◌then◌else◌, nat_lt, List, [], ◌∷◌, ◌++◌, map, is_some, codes, position}
use Rattle.std.specs.declared.option.Option.{Option}
use Rattle.std.specs.Str.{bytes_eq}
use Rattle.nona_tree.specs.declared.names.Use.{Use}
use Rattle.nona_tree.specs.declared.trees.Stmt.{Stmt, Let}
use Rattle.nona_tree.specs.declared.trees.ArrayDecl.{ArrayDecl}
use Rattle.nona_tree.specs.declared.trees.VarDecl.{VarDecl}
use Rattle.nona_tree.specs.declared.trees.Program.{Program}
use Rattle.nona_tree.specs.Names.{Visible, id_of}

-- the visible scalars and the names of the visible arrays, both in order of declaration
pub record Seen : Type 0 where
  pub scalars : List Visible
  pub arrays : List (List ℕ)

-- the name of the array that is always visible
abbrev pub input_name : List ℕ
input_name = codes "input"

-- what is visible before the first declaration
abbrev pub seen_first : Seen
seen_first = record { scalars = []; arrays = input_name ∷ [] }

-- the id of a name among the visible scalars: how many come before the one that it names
abbrev pub scalar_id : List ℕ → Seen → Option ℕ
scalar_id name seen = id_of name seen.scalars

-- the id of a name among the visible arrays, of which the input is the first
abbrev pub array_id : List ℕ → Seen → Option ℕ
array_id name seen = position (λ other. bytes_eq other name) seen.arrays

-- whether a name is that of a visible scalar
abbrev pub is_scalar : List ℕ → Seen → Bool
is_scalar name seen = is_some (scalar_id name seen)

-- whether a name is that of a visible array
abbrev pub is_array : List ℕ → Seen → Bool
is_array name seen = is_some (array_id name seen)

-- whether a name is visible
abbrev pub is_seen : List ℕ → Seen → Bool
is_seen name seen = is_scalar name seen || is_array name seen

-- one more scalar is visible; a name that is declared although it is visible stays what it was
abbrev pub with_scalar : List ℕ → Bool → Seen → Seen
with_scalar name index seen =
    if is_seen name seen then seen
    else record seen { scalars = seen.scalars ++ record { name = name; index = index } ∷ [] }

-- one more array is visible, unless its name was
abbrev pub with_array : List ℕ → Seen → Seen
with_array name seen = if is_seen name seen then seen else record seen { arrays = seen.arrays ++ name ∷ [] }

-- what is visible after a statement in its block: a let declares a scalar
abbrev pub seen_after : Stmt → Seen → Seen
seen_after (Let x e) seen = with_scalar x.text false seen
seen_after _ seen = seen

-- a declaration at the head of a program
pub data Declaration : Type 0 where
  array_decl : ArrayDecl → Declaration
  var_decl : VarDecl → Declaration

-- the declarations from an array on, where later gives those of the arrays behind it: first come the variables whose
-- names stand before the array's
abbrev pub from_array : ArrayDecl → (List VarDecl → List Declaration) → List VarDecl → List Declaration
from_array a later [] = array_decl a ∷ later []
from_array a later (v ∷ rest) =
    if nat_lt v.name.at a.name.at then var_decl v ∷ from_array a later rest else array_decl a ∷ later (v ∷ rest)

-- the arrays and the variables of a program in the order of their text
abbrev pub declarations : List ArrayDecl → List VarDecl → List Declaration
declarations [] vars = map (λ v. var_decl v) vars
declarations (a ∷ arrays) vars = from_array a (declarations arrays) vars

-- the name that a declaration declares
abbrev pub declared_name : Declaration → Use
declared_name (array_decl a) = a.name
declared_name (var_decl v) = v.name

-- what is visible after a declaration
abbrev pub seen_behind : Declaration → Seen → Seen
seen_behind (array_decl a) seen = with_array a.name.text seen
seen_behind (var_decl v) seen = with_scalar v.name.text false seen

-- what is visible after declarations
abbrev pub seen_behind_all : List Declaration → Seen → Seen
seen_behind_all [] seen = seen
seen_behind_all (d ∷ rest) seen = seen_behind_all rest (seen_behind d seen)

-- what is visible before the first statement of a program
abbrev pub seen_by_body : Program → Seen
seen_by_body p = seen_behind_all (declarations p.arrays p.vars) seen_first
