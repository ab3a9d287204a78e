-- Tokens to trees, read once from left to right with a list of what is still to come.
use Rattle.std.specs.Prelude.{ℕ, zero, suc, pos, eqb, Bool, true, false, List, [], ◌∷◌, ◌++◌, None, Some, Ok, Err}
use Rattle.std.specs.declared.option.Option.{Option}
use Rattle.std.specs.declared.result.Result.{Result}
use Rattle.nona_lex.specs.declared.tokens.Keyword.TheVariants as word
use Rattle.nona_lex.specs.declared.tokens.Sign.{Sign}
use Rattle.nona_lex.specs.declared.tokens.Sign.TheVariants as sign
use Rattle.nona_lex.specs.declared.tokens.Operator.TheVariants as operator
use Rattle.nona_lex.specs.declared.tokens.Token.{Token}
use Rattle.nona_lex.specs.declared.tokens.Token.TheVariants as token
use Rattle.nona_lex.specs.declared.tokens.Spot.{Spot}
use Rattle.nona_tree.specs.declared.trees.Op.{Op}
use Rattle.nona_tree.specs.declared.trees.Expr.TheVariants as expr
use Rattle.nona_grammar.specs.Levels.{named, op_of, level, loosest, comparisons}
use Rattle.nona_grammar.specs.Stack.{Trees, empty, Act, Leaf, Negate, Invert, Join, Reach, Fetch, Bind, Assign, Merge, Store, Begin, Branch, Repeat, Each, Show, Array, Var, with_block, act}

-- what may be still to come: what is made of the trees so far, single tokens, and the kinds of the grammar
pub data Sym : Type 0 where
  Do : Act → Sym
  Want : Sign → Sym
  In : Sym
  Decls : Sym
  ArrayName : Sym
  CellsOpen : List ℕ → ℕ → Sym
  Cells : List ℕ → ℕ → Sym
  VarName : Sym
  Init : List ℕ → ℕ → Sym
  InitNumber : List ℕ → ℕ → Sym
  Stmts : Sym
  Statement : Sym
  LetName : Sym
  AfterName : List ℕ → ℕ → Sym
  AfterCell : Sym
  Else : Sym
  ForWord : Sym
  ForName : Bool → ℕ → Sym
  Block : Sym
  Index : List ℕ → ℕ → Sym
  Whole : Sym
  Compare : Sym
  Level : ℕ → Sym
  Tail : ℕ → Sym
  Primary : Sym
  MaybeCell : List ℕ → ℕ → Sym
  LenOpen : Sym
  LenName : Sym

-- a number for each sign
abbrev pub sign_code : Sign → ℕ
sign_code sign.Set = 0
sign_code sign.Semicolon = 1
sign_code sign.Comma = 2
sign_code sign.Range = 3
sign_code sign.Open = 4
sign_code sign.Close = 5
sign_code sign.OpenIndex = 6
sign_code sign.CloseIndex = 7
sign_code sign.OpenBlock = 8
sign_code sign.CloseBlock = 9

-- what comes first, and then one more
abbrev pub behind : Option (List Sym) → Sym → Option (List Sym)
behind (Some new) a = Some (new ++ a ∷ [])
behind None a = None

-- the one or the other
abbrev pub choice : Bool → Option (List Sym) → Option (List Sym) → Option (List Sym)
choice true a b = a
choice false a b = b

-- this sign
abbrev pub want : Sign → Token → Option (List Sym)
want a (token.Sign b) = choice (eqb (sign_code a) (sign_code b)) (Some []) None
want a _ = None

-- a number, a name with or without an index, a length, or an expression in brackets
abbrev pub primary : Token → ℕ → Option (List Sym)
primary (token.Number n) at = Some (Do (Leaf (expr.Number n)) ∷ [])
primary (token.Name n) at = Some (MaybeCell n at ∷ [])
primary (token.Word word.Len) at = Some (LenOpen ∷ Want sign.Close ∷ [])
primary (token.Sign sign.Open) at = Some (Whole ∷ Want sign.Close ∷ [])
primary _ at = None

-- a primary, and one sign before it at most
abbrev pub unary : Token → ℕ → Option (List Sym)
unary (token.Operator operator.Sub) at = Some (Primary ∷ Do Negate ∷ [])
unary (token.Operator operator.Not) at = Some (Primary ∷ Do Invert ∷ [])
unary t at = primary t at

-- level 0 is unary, and each level above is one of the level below and a tail
abbrev pub level_next : ℕ → Token → ℕ → Option (List Sym)
level_next zero t at = unary t at
level_next (suc m) t at = behind (level_next m t at) (Tail m)

-- an operator of level m + 1 joins one more of level m
abbrev pub joins : ℕ → Option Op → ℕ → Option (List Sym)
joins m (Some o) at = choice (eqb (level o) (suc m)) (Some (Level m ∷ Do (Join o at) ∷ Tail m ∷ [])) None
joins m None at = None

-- the tail of level m + 1: an operator of that level, one more of level m, and a tail
abbrev pub tail : ℕ → Token → ℕ → Option (List Sym)
tail m (token.Operator x) at = joins m (op_of x) at
tail m _ at = None

-- a comparison joins one more of the loosest level
abbrev pub compares : Option Op → ℕ → Option (List Sym)
compares (Some o) at = choice (eqb (level o) comparisons) (Some (Level loosest ∷ Do (Join o at) ∷ [])) None
compares None at = None

-- what may stand behind the loosest level: a comparison and one more of that level
abbrev pub compare : Token → ℕ → Option (List Sym)
compare (token.Operator x) at = compares (op_of x) at
compare _ at = None

-- an expression: one of the loosest level, and one comparison at most
abbrev pub whole : Token → ℕ → Option (List Sym)
whole t at = behind (level_next loosest t at) Compare

-- the index of a cell, with or without the word `wrap`
abbrev pub index : List ℕ → ℕ → Token → ℕ → Option (List Sym)
index n a (token.Word word.Wrap) at = Some (Whole ∷ Do (Reach (named n a) true) ∷ [])
index n a t at = behind (whole t at) (Do (Reach (named n a) false))

-- what may stand behind a name: an index
abbrev pub maybe_cell : List ℕ → ℕ → Token → Option (List Sym)
maybe_cell n a (token.Sign sign.OpenIndex) = Some (Index n a ∷ Want sign.CloseIndex ∷ Do Fetch ∷ [])
maybe_cell n a _ = None

-- `( NAME` behind the word `len`
abbrev pub len_open : Token → Option (List Sym)
len_open (token.Sign sign.Open) = Some (LenName ∷ [])
len_open _ = None

-- the name of the array whose length it is
abbrev pub len_name : Token → ℕ → Option (List Sym)
len_name (token.Name n) at = Some (Do (Leaf (expr.Len (named n at))) ∷ [])
len_name _ at = None

-- a statement by its first token
abbrev pub statement : Token → ℕ → Option (List Sym)
statement (token.Name n) at = Some (AfterName n at ∷ [])
statement (token.Word word.Let) at = Some (LetName ∷ [])
statement (token.Word word.If) at = Some (Whole ∷ Block ∷ Else ∷ [])
statement (token.Word word.While) at = Some (Whole ∷ Block ∷ Do (Repeat at) ∷ [])
statement (token.Word word.For) at = Some (ForName false at ∷ [])
statement (token.Word word.Seq) at = Some (ForWord ∷ [])
statement (token.Word word.Print) at = Some (Whole ∷ Want sign.Semicolon ∷ Do (Show at) ∷ [])
statement _ at = None

-- `NAME = expr ;` behind the word `let`
abbrev pub let_name : Token → ℕ → Option (List Sym)
let_name (token.Name n) at = Some (Want sign.Set ∷ Whole ∷ Want sign.Semicolon ∷ Do (Bind (named n at)) ∷ [])
let_name _ at = None

-- behind the name that a statement begins with: `=`, a fold, or the index of a cell
abbrev pub after_name : List ℕ → ℕ → Token → Option (List Sym)
after_name n a (token.Sign sign.Set) = Some (Whole ∷ Want sign.Semicolon ∷ Do (Assign (named n a)) ∷ [])
after_name n a (token.Fold f) = Some (Whole ∷ Want sign.Semicolon ∷ Do (Merge (named n a) f) ∷ [])
after_name n a (token.Sign sign.OpenIndex) = Some (Index n a ∷ Want sign.CloseIndex ∷ AfterCell ∷ [])
after_name n a _ = None

-- behind the cell that a statement begins with: `=` or a fold
abbrev pub after_cell : Token → Option (List Sym)
after_cell (token.Sign sign.Set) = Some (Whole ∷ Want sign.Semicolon ∷ Do (Store None) ∷ [])
after_cell (token.Fold f) = Some (Whole ∷ Want sign.Semicolon ∷ Do (Store (Some f)) ∷ [])
after_cell _ = None

-- what may stand behind the first block of an if: `else` and a block
abbrev pub else_next : Token → Option (List Sym)
else_next (token.Word word.Else) = Some (Block ∷ Do Branch ∷ [])
else_next _ = None

-- the word `for` behind the word `seq`
abbrev pub for_word : Token → ℕ → Option (List Sym)
for_word (token.Word word.For) at = Some (ForName true at ∷ [])
for_word _ at = None

-- `NAME in expr .. expr block` behind the word `for`
abbrev pub for_name : Bool → ℕ → Token → ℕ → Option (List Sym)
for_name seq at (token.Name n) name_at = Some (In ∷ Whole ∷ Want sign.Range ∷ Whole ∷ Block ∷ Do (Each (named n name_at) seq at) ∷ [])
for_name seq at _ name_at = None

-- the word `in`
abbrev pub in_word : Token → Option (List Sym)
in_word (token.Word word.In) = Some []
in_word _ = None

-- `{ stmt* }`
abbrev pub block_next : Token → Option (List Sym)
block_next (token.Sign sign.OpenBlock) = Some (Do Begin ∷ Stmts ∷ Want sign.CloseBlock ∷ [])
block_next _ = None

-- a declaration, and those behind it
abbrev pub decls : Token → Option (List Sym)
decls (token.Word word.Array) = Some (ArrayName ∷ Decls ∷ [])
decls (token.Word word.Var) = Some (VarName ∷ Decls ∷ [])
decls _ = None

-- `NAME [ NUMBER ] ;` behind the word `array`
abbrev pub array_name : Token → ℕ → Option (List Sym)
array_name (token.Name n) at = Some (CellsOpen n at ∷ Want sign.CloseIndex ∷ Want sign.Semicolon ∷ [])
array_name _ at = None

-- `[ NUMBER`
abbrev pub cells_open : List ℕ → ℕ → Token → Option (List Sym)
cells_open n a (token.Sign sign.OpenIndex) = Some (Cells n a ∷ [])
cells_open n a _ = None

-- the number of an array's cells
abbrev pub cells : List ℕ → ℕ → Token → ℕ → Option (List Sym)
cells n a (token.Number m) at = Some (Do (Array (record { name = named n a; cells = m; cells_at = at })) ∷ [])
cells n a _ at = None

-- `NAME ;` or `NAME = NUMBER ;` behind the word `var`
abbrev pub var_name : Token → ℕ → Option (List Sym)
var_name (token.Name n) at = Some (Init n at ∷ [])
var_name _ at = None

-- `;` or `= NUMBER ;`
abbrev pub init : List ℕ → ℕ → Token → Option (List Sym)
init n a (token.Sign sign.Semicolon) = Some (Do (Var (record { name = named n a; value = pos 0 })) ∷ [])
init n a (token.Sign sign.Set) = Some (InitNumber n a ∷ Want sign.Semicolon ∷ [])
init n a _ = None

-- the value of a variable
abbrev pub init_number : List ℕ → ℕ → Token → Option (List Sym)
init_number n a (token.Number m) = Some (Do (Var (record { name = named n a; value = m })) ∷ [])
init_number n a _ = None

-- what comes in the place of the first that is to come, where the token fits it
abbrev pub next : Sym → Spot → Option (List Sym)
next (Do a) s = None
next (Want a) s = want a s.token
next In s = in_word s.token
next Decls s = decls s.token
next ArrayName s = array_name s.token s.at
next (CellsOpen n a) s = cells_open n a s.token
next (Cells n a) s = cells n a s.token s.at
next VarName s = var_name s.token s.at
next (Init n a) s = init n a s.token
next (InitNumber n a) s = init_number n a s.token
next Stmts s = behind (statement s.token s.at) Stmts
next Statement s = statement s.token s.at
next LetName s = let_name s.token s.at
next (AfterName n a) s = after_name n a s.token
next AfterCell s = after_cell s.token
next Else s = else_next s.token
next ForWord s = for_word s.token s.at
next (ForName seq at) s = for_name seq at s.token s.at
next Block s = block_next s.token
next (Index n a) s = index n a s.token s.at
next Whole s = whole s.token s.at
next Compare s = compare s.token s.at
next (Level m) s = level_next m s.token s.at
next (Tail m) s = tail m s.token s.at
next Primary s = primary s.token s.at
next (MaybeCell n a) s = maybe_cell n a s.token
next LenOpen s = len_open s.token
next LenName s = len_name s.token s.at

-- what a symbol makes of the trees where no token of its own comes
abbrev pub skip : Sym → Trees → Trees
skip (Do a) v = act a v
skip Else v = act Branch (with_block [] v)
skip (MaybeCell n a) v = act (Leaf (expr.Scalar (named n a))) v
skip _ v = v

-- whether a symbol may stand for no token
abbrev pub optional : Sym → Bool
optional (Do a) = true
optional Decls = true
optional Stmts = true
optional Else = true
optional Compare = true
optional (Tail m) = true
optional (MaybeCell n a) = true
optional _ = false

-- what is behind a symbol that may stand for no token, or else being stuck
abbrev pub past : {X : Type 0} → Bool → X → X → X
past true later stuck = later
past false later stuck = stuck

-- the symbols that come in the place of the first, or what is done otherwise
abbrev pub expanded : Option (List Sym) → List Sym → Trees → Option (List Sym × Trees) → Option (List Sym × Trees)
expanded (Some new) k v otherwise = Some (new ++ k, v)
expanded None k v otherwise = otherwise

-- one token: what is to come then, and the trees
abbrev pub step : List Sym → Trees → Spot → Option (List Sym × Trees)
step [] v s = None
step (a ∷ k) v s = expanded (next a s) k v (past (optional a) (step k (skip a v) s) None)

-- the end of the text, at a place
abbrev pub finish : ℕ → List Sym → Trees → Result Trees ℕ
finish end [] v = Ok v
finish end (a ∷ k) v = past (optional a) (finish end k (skip a v)) (Err end)

-- what comes behind a step, or the fault at this token's place
abbrev pub behind_step : Option (List Sym × Trees) → ℕ → (List Sym → Trees → Result Trees ℕ) → Result Trees ℕ
behind_step None at later = Err at
behind_step (Some x) at later = later x.0 x.1

-- the trees of the tokens, or the place of the first token that fits nowhere
abbrev pub build : ℕ → List Sym → Trees → List Spot → Result Trees ℕ
build end k v [] = finish end k v
build end k v (s ∷ ss) = behind_step (step k v s) s.at (λ k' v'. build end k' v' ss)

-- the trees of a whole text's tokens
abbrev pub built : ℕ → List Spot → Result Trees ℕ
built end ss = build end (Decls ∷ Stmts ∷ []) empty ss
