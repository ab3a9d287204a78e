-- What a function says of the tokens that it takes: how the machine goes on there, wherever the text ends, whatever is to come
-- behind them and whatever was read before.
use Rattle.std.specs.Prelude.{◌≡◌, ℕ, List, ◌∷◌, ◌++◌, Err}
use Rattle.nona_lex.specs.declared.tokens.Fault.{Fault}
use Rattle.nona_lex.specs.declared.tokens.Fault.TheVariants as lex
use Rattle.nona_lex.specs.declared.tokens.Spot.{Spot}
use Rattle.nona_tree.specs.declared.trees.Access.{Access}
use Rattle.nona_tree.specs.declared.trees.ArrayDecl.{ArrayDecl}
use Rattle.nona_tree.specs.declared.trees.VarDecl.{VarDecl}
use Rattle.nona_grammar.specs.Faults.{IsShort, IsText, StopsAt}
use Rattle.nona_grammar.specs.Stack.{Trees}
use Rattle.nona_grammar.specs.Machine.{Sym, build, built}
use Rattle.nona_parse.specs.declared.fault.ParseFault.{ParseFault}
use Rattle.nona_parse.specs.declared.fault.ParseFault.TheVariants as parse
use Rattle.nona_parse.specs.declared.fault.ReadFault.{ReadFault}
use Rattle.nona_parse.specs.declared.fault.ReadFault.TheVariants.{Syntax, Ended, NoMemory}

-- the trees as they are
abbrev pub same : Trees → Trees
same v = v

-- arrays and variables that are declared behind the others
abbrev pub declares : List ArrayDecl → List VarDecl → Trees → Trees
declares arrays vars v = record v { arrays = v.arrays ++ arrays; vars = v.vars ++ vars }

-- the place of a cell that was read
abbrev pub reaches : Access → Trees → Trees
reaches place v = record v { places = place ∷ v.places }

-- these symbols take the tokens up to the rest, and make this of the trees
abbrev pub Reads : List Sym → List Spot → (Trees → Trees) → List Spot → Type 0
Reads new ss f rest = (end : ℕ) (k : List Sym) (v : Trees) → build end (new ++ k) v ss ≡ build end k (f v) rest

-- these symbols take the tokens up to the rest behind trees of the first kind, and make trees of the second kind
abbrev pub ReadsBehind : List Sym → (Trees → Trees) → List Spot → (Trees → Trees) → List Spot → Type 0
ReadsBehind new f ss g rest = (end : ℕ) (k : List Sym) (v : Trees) → build end (new ++ k) (f v) ss ≡ build end k (g v) rest

-- in the place of a symbol before these tokens, others are to come before the rest
abbrev pub Turns : Sym → List Spot → List Sym → List Spot → Type 0
Turns a ss new rest = (end : ℕ) (k : List Sym) (v : Trees) → build end (a ∷ k) v ss ≡ build end (new ++ k) v rest

-- these symbols are stuck at a place, or at the text's end wherever it is, or memory has run out
abbrev pub Fails : ReadFault → List Sym → List Spot → Type 0
Fails NoMemory new ss = Unit {0}
Fails Ended new ss = (end : ℕ) (k : List Sym) (v : Trees) → build end (new ++ k) v ss ≡ Err end
Fails (Syntax at) new ss = (end : ℕ) (k : List Sym) (v : Trees) → build end (new ++ k) v ss ≡ Err at

-- at these tokens the machine is stuck at a place, or at the text's end wherever it is, or memory has run out
abbrev pub IsStuck : ReadFault → List Spot → Type 0
IsStuck NoMemory ss = Unit {0}
IsStuck Ended ss = (end : ℕ) → built end ss ≡ Err end
IsStuck (Syntax at) ss = (end : ℕ) → built end ss ≡ Err at

-- these tokens are no program: one of them fits nowhere, or they are only the front of one; or memory has run out
abbrev pub IsUnread : ReadFault → List Spot → Type 0
IsUnread NoMemory ss = Unit {0}
IsUnread Ended ss = IsShort IsText ss
IsUnread (Syntax at) ss = StopsAt IsText ss at

-- the refusal for a cut at a place
abbrev pub refusal_of : Fault → ℕ → ParseFault
refusal_of lex.Byte at = parse.Byte at
refusal_of lex.Number at = parse.Number at
refusal_of lex.NameLong at = parse.NameLong at
refusal_of lex.Deep at = parse.Deep at
