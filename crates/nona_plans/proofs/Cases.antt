-- Plans of small loops, computed by the definition.
use Rattle.std.proofs.Common.{◌≡◌, ℕ, true, false, List, [], ◌∷◌, refl, pos}
use denote.Hole.Carrier.{hidden}
use Rattle.nona_tree.specs.declared.trees.Expr.TheBlock.{hidden-the_row-Expr-1, hidden-the_row-Access-0}
use Rattle.nona_tree.specs.declared.trees.Stmt.TheBlock.{hidden-the_row-Stmt-0}
use Rattle.nona_num.specs.declared.folds.Fold.TheVariants as fold
use Rattle.nona_tree.specs.declared.names.Use.{Use}
use Rattle.nona_tree.specs.declared.trees.Op.TheVariants as op
use Rattle.nona_tree.specs.declared.trees.Access.{Access}
use Rattle.nona_tree.specs.declared.trees.Expr.{Expr, Number, Scalar, Cell, Len, Binary}
use Rattle.nona_tree.specs.declared.trees.Loop.{Loop}
use Rattle.nona_tree.specs.declared.trees.Stmt.{Stmt, Let, Fold, Put, FoldPut, For, Print}
use Rattle.nona_tree.specs.declared.plans.Plan.{Plan}
use Rattle.nona_plans.specs.Units.{reductions_of}
use Rattle.nona_plans.specs.Plans.{bare, plan_of}

abbrev pub named : ℕ → Use
named id = record { text = []; at = 0; id = id }

abbrev pub scalar : ℕ → Expr
scalar id = Scalar (named id)

abbrev pub cell : ℕ → Expr → Access
cell array index = record { array = named array; wrap = false; index = index }

abbrev pub plus : Expr → Expr → Expr
plus a b = Binary op.Add 0 a b

abbrev pub times : Expr → Expr → Expr
times a b = Binary op.Mul 0 a b

abbrev pub loop : ℕ → Expr → Expr → List Stmt → Loop
loop id low high body = record { index = named id; low = low; high = high; body = body; seq = false; at = 0 }

-- for i in 0..len(input) { let x = input[i]; let y = x*x + 1; h[wrap y] += 1; print y; s += y; }
abbrev pub squares : Loop
squares =
    loop 1 (Number (pos 0)) (Len (named 0))
    (Let (named 2) (Cell (cell 0 (scalar 1)))
    ∷ Let (named 3) (plus (times (scalar 2) (scalar 2)) (Number (pos 1)))
    ∷ FoldPut (record { array = named 1; wrap = true; index = scalar 3 }) fold.Add (Number (pos 1))
    ∷ Print (scalar 3) 0
    ∷ Fold (named 0) fold.Add (scalar 3) ∷ [])

squares_plan : plan_of squares ≡ record { any = false; pipe = record { sequential = true; units = [] } ∷ record { sequential = false; units = 1 ∷ 2 ∷ 5 ∷ [] } ∷ record { sequential = true; units = 3 ∷ 4 ∷ [] } ∷ []; crossing = [] ∷ (3 ∷ []) ∷ [] }
unfolding hidden-the_row-Stmt-0 hidden-the_row-Expr-1 hidden-the_row-Access-0 hidden
squares_plan = refl

squares_reductions : reductions_of squares ≡ (0, fold.Add) ∷ []
unfolding hidden-the_row-Stmt-0 hidden-the_row-Expr-1 hidden-the_row-Access-0 hidden
squares_reductions = refl

-- for i in 0..10 { for j in 0..width { a[10*i + j] = i; } }
abbrev pub inner : ℕ → Loop
inner width =
    loop 1 (Number (pos 0)) (Number (pos width)) (Put (cell 1 (plus (times (Number (pos 10)) (scalar 0)) (scalar 1))) (scalar 0) ∷ [])

abbrev pub rows : ℕ → Loop
rows width = loop 0 (Number (pos 0)) (Number (pos 10)) (For (inner width) ∷ [])

abbrev pub both_versions : Plan
both_versions = record { any = true; pipe = record { sequential = true; units = [] } ∷ record { sequential = false; units = 1 ∷ [] } ∷ []; crossing = [] ∷ [] }

rows_apart : plan_of (rows 10) ≡ both_versions
unfolding hidden-the_row-Stmt-0 hidden-the_row-Expr-1 hidden-the_row-Access-0 hidden
rows_apart = refl

rows_meet : plan_of (rows 11) ≡ bare
unfolding hidden-the_row-Stmt-0 hidden-the_row-Expr-1 hidden-the_row-Access-0 hidden
rows_meet = refl

rows_inner : plan_of (inner 11) ≡ both_versions
unfolding hidden-the_row-Stmt-0 hidden-the_row-Expr-1 hidden-the_row-Access-0 hidden
rows_inner = refl

-- for i in 0..9 { a[2*i] = a[2*i + 1]; } and for i in 0..9 { a[i + 1] = a[i]; }
abbrev pub evens : Loop
evens = loop 0 (Number (pos 0)) (Number (pos 9)) (Put (cell 1 (times (Number (pos 2)) (scalar 0))) (Cell (cell 1 (plus (times (Number (pos 2)) (scalar 0)) (Number (pos 1))))) ∷ [])

evens_plan : plan_of evens ≡ both_versions
unfolding hidden-the_row-Stmt-0 hidden-the_row-Expr-1 hidden-the_row-Access-0 hidden
evens_plan = refl

abbrev pub shifts : Loop
shifts = loop 0 (Number (pos 0)) (Number (pos 9)) (Put (cell 1 (plus (scalar 0) (Number (pos 1)))) (Cell (cell 1 (scalar 0))) ∷ [])

shifts_plan : plan_of shifts ≡ bare
unfolding hidden-the_row-Stmt-0 hidden-the_row-Expr-1 hidden-the_row-Access-0 hidden
shifts_plan = refl
