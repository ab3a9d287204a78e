-- The code of main statements that hold others, by the fields of these forms.
use Rattle.std.proofs.Common.{◌≡◌, ℕ, ◌+◌, Bool, List, ◌++◌, length, if◌then◌else◌, refl, ap, ◌∙◌}
use Rattle.nona_tree.specs.declared.trees.Expr.{Expr}
use Rattle.nona_tree.specs.declared.trees.Loop.{Loop}
use Rattle.nona_tree.specs.declared.trees.Stmt.{Stmt, If, While, For, Row_of-Stmt, end_of-Stmt, more_of-Stmt, items-the_row-Stmt, items_hidden-the_row-Stmt-0}
use Rattle.nona_tree.specs.declared.trees.Stmt.TheBlock.{hidden-the_row-Stmt-0}
use Rattle.nona_tree.specs.Entries.{loop_with, count_in, count_all}
use Rattle.nona_gen.specs.Code.{expr_code, flip_code, lets_all, block_code, if_code, while_code, bounds_code, turns_code}
use Rattle.nona_gen.specs.MainCode.{region_code, main_code, main_row, main_all}
use Rattle.nona_gen.proofs.CodeEquations.{lets_body}
use Rattle.nona_tree.proofs.BesideEquations.{regions_body}

row_at : (chosen : Loop → Bool) (first : ℕ) (k : _) (row : Row_of-Stmt k) (depth p : ℕ) → main_row chosen first row depth p ≡ main_all chosen first (items-the_row-Stmt k row) depth p
row_at chosen first k end_of-Stmt depth p = refl
row_at chosen first k (more_of-Stmt s rest) depth p =
    ap (λ xs. main_code chosen first s depth p ++ xs) (row_at chosen (first + count_in chosen s) _ rest depth (p + length (main_code chosen first s depth p)))

main_body : (chosen : Loop → Bool) (first : ℕ) (body : List Stmt) (depth : ℕ) → main_row chosen first (hidden-the_row-Stmt-0 body) depth ≡ main_all chosen first body depth
main_body chosen first body depth =
    (λ i p. row_at chosen first _ (hidden-the_row-Stmt-0 body) depth p i) ∙ ap (λ (ss : List Stmt). main_all chosen first ss depth) (items_hidden-the_row-Stmt-0 body)

pub main-If : (chosen : Loop → Bool) (first : ℕ) (test : Expr) (then_part else_part : List Stmt) (depth p : ℕ)
    → main_code chosen first (If test then_part else_part) depth p
    ≡ if_code p (expr_code test) (block_code (main_all chosen first then_part depth) (lets_all then_part)) (block_code (main_all chosen (first + count_all chosen then_part) else_part depth) (lets_all else_part))
main-If chosen first test then_part else_part depth p =
    let a = main_body chosen first then_part depth in
    λ i. if_code p (expr_code test) (block_code (a i) (lets_body then_part i)) (block_code (main_body chosen (first + length (regions_body chosen then_part i)) else_part depth i) (lets_body else_part i))

pub main-While : (chosen : Loop → Bool) (first : ℕ) (test : Expr) (body : List Stmt) (at depth p : ℕ)
    → main_code chosen first (While test body at) depth p ≡ while_code p depth at (flip_code test) (block_code (main_all chosen first body (depth + 1)) (lets_all body))
main-While chosen first test body at depth p =
    λ i. while_code p depth at (flip_code test) (block_code (main_body chosen first body (depth + 1) i) (lets_body body i))

pub main-For : (chosen : Loop → Bool) (first : ℕ) (l : Loop) (depth p : ℕ)
    → main_code chosen first (For l) depth p
    ≡ (if chosen l then region_code first (expr_code l.low) (expr_code l.high)
    else bounds_code depth (expr_code l.low) (expr_code l.high) ++ turns_code (p + length (bounds_code depth (expr_code l.low) (expr_code l.high))) l.index.id depth l.at (main_all chosen first l.body (depth + 1)) (lets_all l.body))
main-For chosen first l depth p =
    let bounds = bounds_code depth (expr_code l.low) (expr_code l.high) in
    λ i. let k = loop_with l.index l.low l.high (items_hidden-the_row-Stmt-0 l.body i) l.seq l.at in
    if chosen k then region_code first (expr_code l.low) (expr_code l.high)
    else bounds ++ turns_code (p + length bounds) l.index.id depth l.at (main_body chosen first l.body (depth + 1) i) (lets_body l.body i)
