-- The definitions that checking rests on, at the forms that hold other expressions or statements.
use Rattle.std.proofs.Common.{◌≡◌, ◌+◌, ◌++◌, ℕ, suc, true, List, ◌∷◌, refl, ap, ◌∙◌, length, max}
use denote.Hole.Carrier.{hidden}
use Rattle.nona_tree.specs.declared.faults.ProgramFault.{ProgramFault}
use Rattle.nona_tree.specs.declared.trees.Op.{Op}
use Rattle.nona_tree.specs.declared.trees.Access.{Access}
use Rattle.nona_tree.specs.declared.trees.Expr.{Expr, Cell, Neg, Not, Binary}
use Rattle.nona_tree.specs.declared.trees.Expr.TheBlock.{hidden-the_row-Expr-1, hidden-the_row-Access-0}
use Rattle.nona_tree.specs.declared.trees.Loop.{Loop}
use Rattle.nona_tree.specs.declared.trees.Stmt.{Stmt, If, While, For, Row_of-Stmt, end_of-Stmt, more_of-Stmt, items-the_row-Stmt, items_hidden-the_row-Stmt-0}
use Rattle.nona_tree.specs.declared.trees.Stmt.TheBlock.{hidden-the_row-Stmt-0}
use Rattle.nona_tree.specs.Seen.{Seen, with_scalar, seen_after}
use Rattle.nona_tree.specs.Faults.{array_faults, new_faults, expr_faults, row_length, units_faults, stmt_faults, row_faults, all_faults}
use Rattle.nona_tree.specs.Ids.{new_ids, expr_ids, access_ids, stmt_ids, row_ids, all_ids}
use Rattle.nona_tree.specs.Smallness.{expr_size, stmt_size, row_size, all_size, stmt_nesting, row_nesting, all_nesting}

pub faults-Cell : (c : Access) (seen : Seen) → expr_faults (Cell c) seen ≡ array_faults c.array seen ++ expr_faults c.index seen
unfolding hidden-the_row-Access-0 hidden
faults-Cell c seen = refl

pub faults-Neg : (e : Expr) (seen : Seen) → expr_faults (Neg e) seen ≡ expr_faults e seen
unfolding hidden-the_row-Expr-1 hidden
faults-Neg e seen = refl

pub faults-Not : (e : Expr) (seen : Seen) → expr_faults (Not e) seen ≡ expr_faults e seen
unfolding hidden-the_row-Expr-1 hidden
faults-Not e seen = refl

pub faults-Binary : (op : Op) (at : ℕ) (left right : Expr) (seen : Seen) → expr_faults (Binary op at left right) seen ≡ expr_faults left seen ++ expr_faults right seen
unfolding hidden-the_row-Expr-1 hidden
faults-Binary op at left right seen = refl

pub ids_at-Cell : (c : Access) (seen : Seen) → expr_ids (Cell c) seen ≡ Cell (access_ids c seen)
unfolding hidden-the_row-Access-0 hidden
ids_at-Cell c seen = refl

pub ids_at-Neg : (e : Expr) (seen : Seen) → expr_ids (Neg e) seen ≡ Neg (expr_ids e seen)
unfolding hidden-the_row-Expr-1 hidden
ids_at-Neg e seen = refl

pub ids_at-Not : (e : Expr) (seen : Seen) → expr_ids (Not e) seen ≡ Not (expr_ids e seen)
unfolding hidden-the_row-Expr-1 hidden
ids_at-Not e seen = refl

pub ids_at-Binary : (op : Op) (at : ℕ) (left right : Expr) (seen : Seen) → expr_ids (Binary op at left right) seen ≡ Binary op at (expr_ids left seen) (expr_ids right seen)
unfolding hidden-the_row-Expr-1 hidden
ids_at-Binary op at left right seen = refl

pub size-Cell : (c : Access) → expr_size (Cell c) ≡ expr_size c.index + 1
unfolding hidden-the_row-Access-0 hidden
size-Cell c = refl

pub size-Neg : (e : Expr) → expr_size (Neg e) ≡ expr_size e + 1
unfolding hidden-the_row-Expr-1 hidden
size-Neg e = refl

pub size-Not : (e : Expr) → expr_size (Not e) ≡ expr_size e + 1
unfolding hidden-the_row-Expr-1 hidden
size-Not e = refl

pub size-Binary : (op : Op) (at : ℕ) (left right : Expr) → expr_size (Binary op at left right) ≡ expr_size left + expr_size right + 1
unfolding hidden-the_row-Expr-1 hidden
size-Binary op at left right = refl

faults_row_at : (k : _) (row : Row_of-Stmt k) (seen : Seen) → row_faults row seen ≡ all_faults (items-the_row-Stmt k row) seen
faults_row_at k end_of-Stmt seen = refl
faults_row_at k (more_of-Stmt s rest) seen = ap (λ (fs : List ProgramFault). stmt_faults s seen ++ fs) (faults_row_at _ rest (seen_after s seen))

-- the faults of a block are those of the list of its statements
pub faults_body : (body : List Stmt) (seen : Seen) → row_faults (hidden-the_row-Stmt-0 body) seen ≡ all_faults body seen
faults_body body seen =
    faults_row_at _ (hidden-the_row-Stmt-0 body) seen ∙ ap (λ (ss : List Stmt). all_faults ss seen) (items_hidden-the_row-Stmt-0 body)

length_row_at : (k : _) (row : Row_of-Stmt k) → row_length row ≡ length (items-the_row-Stmt k row)
length_row_at k end_of-Stmt = refl
length_row_at k (more_of-Stmt s rest) = ap (λ n. suc n) (length_row_at _ rest)

pub length_body : (body : List Stmt) → row_length (hidden-the_row-Stmt-0 body) ≡ length body
length_body body = length_row_at _ (hidden-the_row-Stmt-0 body) ∙ ap (λ (ss : List Stmt). length ss) (items_hidden-the_row-Stmt-0 body)

pub faults-If : (test : Expr) (then_part else_part : List Stmt) (seen : Seen)
    → stmt_faults (If test then_part else_part) seen ≡ expr_faults test seen ++ all_faults then_part seen ++ all_faults else_part seen
faults-If test then_part else_part seen = λ i. expr_faults test seen ++ faults_body then_part seen i ++ faults_body else_part seen i

pub faults-While : (test : Expr) (body : List Stmt) (at : ℕ) (seen : Seen)
    → stmt_faults (While test body at) seen ≡ expr_faults test seen ++ all_faults body seen
faults-While test body at seen = λ i. expr_faults test seen ++ faults_body body seen i

pub faults-For : (l : Loop) (seen : Seen)
    → stmt_faults (For l) seen
    ≡ units_faults l.seq (length l.body) l.at ++ new_faults l.index seen ++ expr_faults l.low seen ++ expr_faults l.high seen ++ all_faults l.body (with_scalar l.index.text true seen)
faults-For l seen =
    λ i. units_faults l.seq (length_body l.body i) l.at ++ new_faults l.index seen ++ expr_faults l.low seen ++ expr_faults l.high seen ++ faults_body l.body (with_scalar l.index.text true seen) i

ids_row_at : (k : _) (row : Row_of-Stmt k) (seen : Seen) → row_ids row seen ≡ all_ids (items-the_row-Stmt k row) seen
ids_row_at k end_of-Stmt seen = refl
ids_row_at k (more_of-Stmt s rest) seen = ap (λ (ss : List Stmt). stmt_ids s seen ∷ ss) (ids_row_at _ rest (seen_after s seen))

-- a block with its ids is the list of its statements with theirs
pub ids_body_at : (body : List Stmt) (seen : Seen) → row_ids (hidden-the_row-Stmt-0 body) seen ≡ all_ids body seen
ids_body_at body seen =
    ids_row_at _ (hidden-the_row-Stmt-0 body) seen ∙ ap (λ (ss : List Stmt). all_ids ss seen) (items_hidden-the_row-Stmt-0 body)

pub ids_at-If : (test : Expr) (then_part else_part : List Stmt) (seen : Seen)
    → stmt_ids (If test then_part else_part) seen ≡ If (expr_ids test seen) (all_ids then_part seen) (all_ids else_part seen)
ids_at-If test then_part else_part seen = λ i. If (expr_ids test seen) (ids_body_at then_part seen i) (ids_body_at else_part seen i)

pub ids_at-While : (test : Expr) (body : List Stmt) (at : ℕ) (seen : Seen)
    → stmt_ids (While test body at) seen ≡ While (expr_ids test seen) (all_ids body seen) at
ids_at-While test body at seen = λ i. While (expr_ids test seen) (ids_body_at body seen i) at

pub ids_at-For : (l : Loop) (seen : Seen)
    → stmt_ids (For l) seen
    ≡ For (record { index = new_ids l.index seen; low = expr_ids l.low seen; high = expr_ids l.high seen; body = all_ids l.body (with_scalar l.index.text true seen); seq = l.seq; at = l.at })
ids_at-For l seen =
    λ i. For (record { index = new_ids l.index seen; low = expr_ids l.low seen; high = expr_ids l.high seen; body = ids_body_at l.body (with_scalar l.index.text true seen) i; seq = l.seq; at = l.at })

size_row_at : (k : _) (row : Row_of-Stmt k) → row_size row ≡ all_size (items-the_row-Stmt k row)
size_row_at k end_of-Stmt = refl
size_row_at k (more_of-Stmt s rest) = ap (λ n. stmt_size s + n) (size_row_at _ rest)

pub size_body : (body : List Stmt) → row_size (hidden-the_row-Stmt-0 body) ≡ all_size body
size_body body = size_row_at _ (hidden-the_row-Stmt-0 body) ∙ ap all_size (items_hidden-the_row-Stmt-0 body)

pub size-If : (test : Expr) (then_part else_part : List Stmt)
    → stmt_size (If test then_part else_part) ≡ expr_size test + all_size then_part + all_size else_part + 1
size-If test then_part else_part = λ i. expr_size test + size_body then_part i + size_body else_part i + 1

pub size-While : (test : Expr) (body : List Stmt) (at : ℕ) → stmt_size (While test body at) ≡ expr_size test + all_size body + 1
size-While test body at = λ i. expr_size test + size_body body i + 1

pub size-For : (l : Loop) → stmt_size (For l) ≡ expr_size l.low + expr_size l.high + all_size l.body + 1
size-For l = λ i. expr_size l.low + expr_size l.high + size_body l.body i + 1

nesting_row_at : (k : _) (row : Row_of-Stmt k) → row_nesting row ≡ all_nesting (items-the_row-Stmt k row)
nesting_row_at k end_of-Stmt = refl
nesting_row_at k (more_of-Stmt s rest) = ap (λ n. max (stmt_nesting s) n) (nesting_row_at _ rest)

pub nesting_body : (body : List Stmt) → row_nesting (hidden-the_row-Stmt-0 body) ≡ all_nesting body
nesting_body body = nesting_row_at _ (hidden-the_row-Stmt-0 body) ∙ ap all_nesting (items_hidden-the_row-Stmt-0 body)

pub nesting-If : (test : Expr) (then_part else_part : List Stmt)
    → stmt_nesting (If test then_part else_part) ≡ max (all_nesting then_part) (all_nesting else_part) + 1
nesting-If test then_part else_part = λ i. max (nesting_body then_part i) (nesting_body else_part i) + 1

pub nesting-While : (test : Expr) (body : List Stmt) (at : ℕ) → stmt_nesting (While test body at) ≡ all_nesting body + 1
nesting-While test body at = λ i. nesting_body body i + 1

pub nesting-For : (l : Loop) → stmt_nesting (For l) ≡ all_nesting l.body + 1
nesting-For l = λ i. nesting_body l.body i + 1

-- the equations of what checking rests on, at an expression that holds others
pub ruleset check_expr_laws = (faults-Cell, faults-Neg, faults-Not, faults-Binary, ids_at-Cell, ids_at-Neg, ids_at-Not, ids_at-Binary, size-Cell, size-Neg, size-Not, size-Binary)

-- the same at a statement that holds others
pub ruleset check_stmt_laws = (faults-If, faults-While, faults-For, ids_at-If, ids_at-While, ids_at-For, size-If, size-While, size-For, nesting-If, nesting-While, nesting-For)
