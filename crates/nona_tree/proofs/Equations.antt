-- The definitions at the forms that hold other expressions or statements, by the fields of these forms.
use Rattle.std.proofs.Common.{◌≡◌, ◌+◌, ℕ, List, ◌∷◌, refl, sym, ap, ◌∙◌, length, if◌then◌else◌}
use Rattle.std.specs.Prelude.{Result, Ok, Err}
use Rattle.std.specs.Int.{int_gap}
use denote.Hole.Carrier.{hidden}
use Rattle.nona_num.specs.Numbers.{neg_of}
use Rattle.nona_tree.specs.declared.outcomes.Trap.{Trap}
use Rattle.nona_tree.specs.declared.trees.Op.{Op}
use Rattle.nona_tree.specs.declared.trees.Access.{Access}
use Rattle.nona_tree.specs.declared.trees.Expr.{Expr, Cell, Neg, Not, Binary}
use Rattle.nona_tree.specs.declared.trees.Expr.TheBlock.{hidden-the_row-Expr-1, hidden-the_row-Access-0}
use Rattle.nona_tree.specs.declared.trees.Loop.{Loop}
use Rattle.nona_tree.specs.declared.trees.Stmt.{Stmt, If, While, For, Row_of-Stmt, end_of-Stmt, more_of-Stmt, items-the_row-Stmt, items_hidden-the_row-Stmt-0}
use Rattle.nona_tree.specs.declared.trees.Stmt.TheBlock.{hidden-the_row-Stmt-0}
use Rattle.nona_tree.specs.Memory.{Memory, cells_of, cell_at}
use Rattle.nona_tree.specs.Value.{then_use, from_test, is_zero, apply, place_of, value_of, cell_of}
use Rattle.nona_tree.specs.Run.{run, run_row, run_all, with_value, then_do, block, turn, while_turns, for_turns}
use Rattle.nona_tree.specs.Scope.{IsNamed, IsCellNamed, IsScoped, IsRowScoped, AreScoped, IsSteady, IsRowSteady, AreSteady, depth_after}

pub value-Cell : (c : Access) (m : Memory)
    → value_of (Cell c) m
    ≡ then_use (value_of c.index m) (λ i. then_use (place_of c.wrap c.array.at (length (cells_of m c.array.id)) i) (λ place. Ok (cell_at m c.array.id place)))
unfolding hidden-the_row-Access-0 hidden
value-Cell c m = refl

pub value-Neg : (e : Expr) (m : Memory) → value_of (Neg e) m ≡ then_use (value_of e m) (λ v. Ok (neg_of v))
unfolding hidden-the_row-Expr-1 hidden
value-Neg e m = refl

pub value-Not : (e : Expr) (m : Memory) → value_of (Not e) m ≡ then_use (value_of e m) (λ v. Ok (from_test (is_zero v)))
unfolding hidden-the_row-Expr-1 hidden
value-Not e m = refl

pub value-Binary : (op : Op) (at : ℕ) (left right : Expr) (m : Memory)
    → value_of (Binary op at left right) m ≡ then_use (value_of left m) (λ a. then_use (value_of right m) (λ b. apply op at a b))
unfolding hidden-the_row-Expr-1 hidden
value-Binary op at left right m = refl

use_assoc : {A B C : Type 0} (a : Result A Trap) (f : A → Result B Trap) (g : B → Result C Trap)
    → then_use (then_use a f) g ≡ then_use a (λ v. then_use (f v) g)
use_assoc (Ok v) f g = refl
use_assoc (Err t) f g = refl

-- the value of a cell is what stands at the cell's place
pub value_at_place : (c : Access) (m : Memory)
    → value_of (Cell c) m ≡ then_use (cell_of c m) (λ place. Ok (cell_at m c.array.id place))
value_at_place c m =
    value-Cell c m
    ∙ sym (use_assoc (value_of c.index m) (λ i. place_of c.wrap c.array.at (length (cells_of m c.array.id)) i) (λ place. Ok (cell_at m c.array.id place)))

pub named-Cell : (c : Access) (depth arrays : ℕ) → IsNamed (Cell c) depth arrays ≡ IsCellNamed c depth arrays
unfolding hidden-the_row-Access-0 hidden
named-Cell c depth arrays = refl

pub named-Neg : (e : Expr) (depth arrays : ℕ) → IsNamed (Neg e) depth arrays ≡ IsNamed e depth arrays
unfolding hidden-the_row-Expr-1 hidden
named-Neg e depth arrays = refl

pub named-Not : (e : Expr) (depth arrays : ℕ) → IsNamed (Not e) depth arrays ≡ IsNamed e depth arrays
unfolding hidden-the_row-Expr-1 hidden
named-Not e depth arrays = refl

pub named-Binary : (op : Op) (at : ℕ) (left right : Expr) (depth arrays : ℕ)
    → IsNamed (Binary op at left right) depth arrays ≡ (IsNamed left depth arrays × IsNamed right depth arrays)
unfolding hidden-the_row-Expr-1 hidden
named-Binary op at left right depth arrays = refl

run_row_at : (k : _) (row : Row_of-Stmt k) (n : ℕ) (m : Memory) → run_row row n m ≡ run_all (items-the_row-Stmt k row) n m
run_row_at k end_of-Stmt n m = refl
run_row_at k (more_of-Stmt s rest) n m = ap (then_do (run s n m)) (λ i x. run_row_at _ rest n x i)

-- the run of a block is that of the list of its statements
pub run_body : (body : List Stmt) → run_row (hidden-the_row-Stmt-0 body) ≡ run_all body
run_body body = (λ i n m. run_row_at _ (hidden-the_row-Stmt-0 body) n m i) ∙ ap run_all (items_hidden-the_row-Stmt-0 body)

pub run-If : (test : Expr) (then_part else_part : List Stmt) (n : ℕ) (m : Memory)
    → run (If test then_part else_part) n m
    ≡ with_value (value_of test m) m (λ v. if is_zero v then block (run_all else_part n) m else block (run_all then_part n) m)
run-If test then_part else_part n m =
    λ i. with_value (value_of test m) m (λ v. if is_zero v then block (run_body else_part i n) m else block (run_body then_part i n) m)

pub run-While : (test : Expr) (body : List Stmt) (at n : ℕ) (m : Memory)
    → run (While test body at) n m ≡ while_turns at (value_of test) (block (run_all body n)) n m
run-While test body at n m = λ i. while_turns at (value_of test) (block (run_body body i n)) n m

pub run-For : (l : Loop) (n : ℕ) (m : Memory)
    → run (For l) n m
    ≡ with_value (value_of l.low m) m (λ a. with_value (value_of l.high m) m (λ b. for_turns l.at (turn (run_all l.body n)) a (int_gap a b) n m))
run-For l n m =
    λ i. with_value (value_of l.low m) m (λ a. with_value (value_of l.high m) m (λ b. for_turns l.at (turn (run_body l.body i n)) a (int_gap a b) n m))

scoped_row_at : (k : _) (row : Row_of-Stmt k) (depth arrays : ℕ) → IsRowScoped row depth arrays ≡ AreScoped (items-the_row-Stmt k row) depth arrays
scoped_row_at k end_of-Stmt depth arrays = refl
scoped_row_at k (more_of-Stmt s rest) depth arrays =
    ap (λ P. IsScoped s depth arrays × P) (scoped_row_at _ rest (depth_after s depth) arrays)

pub scoped_body : (body : List Stmt) (depth arrays : ℕ) → IsRowScoped (hidden-the_row-Stmt-0 body) depth arrays ≡ AreScoped body depth arrays
scoped_body body depth arrays =
    scoped_row_at _ (hidden-the_row-Stmt-0 body) depth arrays
    ∙ ap (λ (ss : List Stmt). AreScoped ss depth arrays) (items_hidden-the_row-Stmt-0 body)

pub scoped-If : (test : Expr) (then_part else_part : List Stmt) (depth arrays : ℕ)
    → IsScoped (If test then_part else_part) depth arrays
    ≡ (IsNamed test depth arrays × AreScoped then_part depth arrays × AreScoped else_part depth arrays)
scoped-If test then_part else_part depth arrays =
    λ i. IsNamed test depth arrays × scoped_body then_part depth arrays i × scoped_body else_part depth arrays i

pub scoped-While : (test : Expr) (body : List Stmt) (at depth arrays : ℕ)
    → IsScoped (While test body at) depth arrays ≡ (IsNamed test depth arrays × AreScoped body depth arrays)
scoped-While test body at depth arrays = λ i. IsNamed test depth arrays × scoped_body body depth arrays i

pub scoped-For : (l : Loop) (depth arrays : ℕ)
    → IsScoped (For l) depth arrays
    ≡ ((l.index.id ≡ depth) × IsNamed l.low depth arrays × IsNamed l.high depth arrays × AreScoped l.body (depth + 1) arrays)
scoped-For l depth arrays =
    λ i. (l.index.id ≡ depth) × IsNamed l.low depth arrays × IsNamed l.high depth arrays × scoped_body l.body (depth + 1) arrays i

steady_row_at : (k : _) (row : Row_of-Stmt k) (indices : List ℕ) → IsRowSteady row indices ≡ AreSteady (items-the_row-Stmt k row) indices
steady_row_at k end_of-Stmt indices = refl
steady_row_at k (more_of-Stmt s rest) indices = ap (λ P. IsSteady s indices × P) (steady_row_at _ rest indices)

pub steady_body : (body : List Stmt) (indices : List ℕ) → IsRowSteady (hidden-the_row-Stmt-0 body) indices ≡ AreSteady body indices
steady_body body indices =
    steady_row_at _ (hidden-the_row-Stmt-0 body) indices
    ∙ ap (λ (ss : List Stmt). AreSteady ss indices) (items_hidden-the_row-Stmt-0 body)

pub steady-If : (test : Expr) (then_part else_part : List Stmt) (indices : List ℕ)
    → IsSteady (If test then_part else_part) indices ≡ (AreSteady then_part indices × AreSteady else_part indices)
steady-If test then_part else_part indices = λ i. steady_body then_part indices i × steady_body else_part indices i

pub steady-While : (test : Expr) (body : List Stmt) (at : ℕ) (indices : List ℕ) → IsSteady (While test body at) indices ≡ AreSteady body indices
steady-While test body at indices = steady_body body indices

pub steady-For : (l : Loop) (indices : List ℕ) → IsSteady (For l) indices ≡ AreSteady l.body (l.index.id ∷ indices)
steady-For l indices = steady_body l.body (l.index.id ∷ indices)

-- the equations at an expression that holds others
pub ruleset expr_laws = (value-Cell, value-Neg, value-Not, value-Binary, named-Cell, named-Neg, named-Not, named-Binary)

-- the values alone
pub ruleset value_laws = (value-Cell, value-Neg, value-Not, value-Binary)

-- the equations at a statement that holds others
pub ruleset stmt_laws = (run-If, run-While, run-For, scoped-If, scoped-While, scoped-For, steady-If, steady-While, steady-For)
