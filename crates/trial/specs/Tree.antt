-- The tree of a trial's text.
use Rattle.std.specs.Prelude.{ℕ, zero, suc, ◌+◌, ◌*◌, Bool, true, false, ℤ, pos, List, [], ◌∷◌, length, codes}
use Rattle.std.specs.Fmt.{decimal}
use Rattle.nona_num.specs.declared.folds.Fold.TheVariants as fold
use Rattle.nona_tree.specs.declared.trees.Access.{Access}
use Rattle.nona_tree.specs.declared.trees.ArrayDecl.{ArrayDecl}
use Rattle.nona_tree.specs.declared.trees.Expr.{Expr}
use Rattle.nona_tree.specs.declared.trees.Expr.TheVariants.{Number, Scalar, Cell, Len, Binary}
use Rattle.nona_tree.specs.declared.trees.Op.TheVariants as op
use Rattle.nona_tree.specs.declared.trees.Program.{Program}
use Rattle.nona_tree.specs.declared.trees.Stmt.{Stmt}
use Rattle.nona_tree.specs.declared.trees.Stmt.TheVariants.{Let, Fold, Put, FoldPut, For, Print}
use Rattle.nona_tree.specs.declared.trees.VarDecl.{VarDecl}
use Rattle.nona_tree.specs.Ids.{ids_of}
use Rattle.nona_grammar.specs.Levels.{named}
use Rattle.trial.specs.declared.text.TheConstants.{BLOCKS}

-- the scalar with a name at a place
abbrev pub scalar : List ℕ → ℕ → Expr
scalar name at = Scalar (named name at)

-- a cell of the array with a name at a place, whose index is a scalar, wrapped or plain
abbrev pub cell : List ℕ → ℕ → Bool → Expr → Access
cell name at wrap index = record { array = named name at; wrap = wrap; index = index }

-- what the loop at the first place makes of a number and its index: the number times the factor, whose digits end at
-- the second place, plus the index
abbrev pub product_tree : ℕ → ℕ → ℕ → Expr
product_tree at factor end =
    Binary op.Add (end + 1) (Binary op.Mul (at + 52) (scalar (codes "x") (at + 51)) (Number (pos factor))) (scalar (codes "i") (end + 3))

-- the body of a loop that stands at the first place: it takes a number, makes another one of it, and puts that into
-- an array, a histogram and a sum, and the first into a maximum
abbrev pub body_tree : ℕ → ℕ → ℕ → List Stmt
body_tree at factor end =
    Let (named (codes "x") (at + 29)) (Cell (cell (codes "input") (at + 33) false (scalar (codes "i") (at + 39))))
    ∷ Let (named (codes "y") (at + 47)) (product_tree at factor end)
    ∷ Put (cell (codes "d") (end + 6) false (scalar (codes "i") (end + 8))) (Binary op.And (end + 15) (scalar (codes "y") (end + 13)) (Number (pos 65535)))
    ∷ FoldPut (cell (codes "h") (end + 24) true (scalar (codes "y") (end + 31))) fold.Add (Number (pos 1))
    ∷ Fold (named (codes "s") (end + 40)) fold.Add (scalar (codes "y") (end + 45))
    ∷ Fold (named (codes "m") (end + 48)) fold.Max (scalar (codes "x") (end + 55)) ∷ []

-- a loop over the input, at the first place
abbrev pub loop_tree : ℕ → ℕ → ℕ → Stmt
loop_tree at factor end = For (record {
  index = named (codes "i") (at + 4);
  low = Number (pos 0);
  high = Len (named (codes "input") (at + 16));
  body = body_tree at factor end;
  seq = false;
  at = at;
})

-- the print of a scalar at a place
abbrev pub print_tree : List ℕ → ℕ → Stmt
print_tree name at = Print (scalar name (at + 6)) at

-- so many blocks from one on, at a place, and the print of the maximum behind them
unfoldable pub blocks_tree : ℕ → ℕ → ℕ → List Stmt
blocks_tree zero block at = print_tree (codes "m") at ∷ []
blocks_tree (suc more) block at =
    let factor = 2 * block + 1 in
    let end = at + 53 + length (decimal factor) in
    loop_tree at factor end ∷ print_tree (codes "s") (end + 60) ∷ blocks_tree more (suc block) (end + 69)

-- an array whose name of one letter stands at a place
abbrev pub array_tree : List ℕ → ℕ → ℤ → ArrayDecl
array_tree name at cells = record { name = named name at; cells = cells; cells_at = at + 2 }

-- a variable whose name stands at a place
abbrev pub var_tree : List ℕ → ℕ → VarDecl
var_tree name at = record { name = named name at; value = pos 0 }

-- the tree of the text, before its names have ids
unfoldable pub read_tree : Program
read_tree = record {
  arrays = array_tree (codes "h") 6 (pos 1024) ∷ array_tree (codes "d") 21 (pos 32768) ∷ [];
  vars = var_tree (codes "s") 35 ∷ var_tree (codes "m") 42 ∷ [];
  body = blocks_tree BLOCKS 1 45;
}

-- the tree of the text
unfoldable pub trial_tree : Program
trial_tree = ids_of read_tree
