-- Which expressions and statements that hold others are calm.
use Rattle.std.proofs.Common.{◌≡◌, ℕ, ◌+◌, ◌<◌, ◌&&◌, Bool, true, false, List, [], ◌∷◌, ◌++◌, length, drop, refl, sym, ap, ◌∙◌, if◌then◌else◌}
use denote.Hole.Carrier.{hidden}
use Rattle.std.specs.Prelude.{slice_index_or, is_some}
use Rattle.nona_tree.specs.declared.trees.Op.{Op}
use Rattle.nona_tree.specs.declared.trees.Access.{Access}
use Rattle.nona_tree.specs.declared.trees.Expr.{Expr, Cell, Neg, Not, Binary}
use Rattle.nona_tree.specs.declared.trees.Expr.TheBlock.{hidden-the_row-Expr-1, hidden-the_row-Access-0}
use Rattle.nona_tree.specs.declared.trees.Loop.{Loop}
use Rattle.nona_tree.specs.declared.trees.Stmt.{Stmt, If, While, For, Row_of-Stmt, end_of-Stmt, more_of-Stmt, items-the_row-Stmt, items_hidden-the_row-Stmt-0}
use Rattle.nona_tree.specs.declared.trees.Stmt.TheBlock.{hidden-the_row-Stmt-0}
use Rattle.nona_forms.specs.Affine.{form_of}
use Rattle.nona_forms.specs.Calm.{is_division, is_divisor, is_plain, is_calm_expr, is_calm_stmt, is_calm_row, is_calm_all}
use Rattle.nona_graph.proofs.Appended.{next_of}
use Rattle.nona_graph.proofs.Tests.{and_more}

pub calm-Cell : (c : Access) (names : List ℕ) → is_calm_expr (Cell c) names ≡ (is_plain c.wrap c.index names && is_calm_expr c.index names)
unfolding hidden-the_row-Access-0 hidden
calm-Cell c names = refl

pub calm-Neg : (e : Expr) (names : List ℕ) → is_calm_expr (Neg e) names ≡ is_calm_expr e names
unfolding hidden-the_row-Expr-1 hidden
calm-Neg e names = refl

pub calm-Not : (e : Expr) (names : List ℕ) → is_calm_expr (Not e) names ≡ is_calm_expr e names
unfolding hidden-the_row-Expr-1 hidden
calm-Not e names = refl

pub calm-Binary : (o : Op) (at : ℕ) (left right : Expr) (names : List ℕ)
    → is_calm_expr (Binary o at left right) names ≡ ((if is_division o then is_divisor right else true) && (is_calm_expr left names && is_calm_expr right names))
unfolding hidden-the_row-Expr-1 hidden
calm-Binary o at left right names = refl

pub in-Cell : (e : Expr) (c d : Access) (names : List ℕ) (plain calm r : Bool) → e ≡ Cell c → d ≡ c → plain ≡ is_plain d.wrap d.index names → calm ≡ is_calm_expr d.index names
    → r ≡ (plain && calm) → r ≡ is_calm_expr e names
in-Cell e c d names plain calm r is same h g k =
    k ∙ (λ i. h i && g i) ∙ ap (λ (x : Access). is_plain x.wrap x.index names && is_calm_expr x.index names) same ∙ sym (ap (λ x. is_calm_expr x names) is ∙ calm-Cell c names)

pub in-Neg : (e part other : Expr) (names : List ℕ) (r : Bool) → e ≡ Neg part → other ≡ part → r ≡ is_calm_expr other names → r ≡ is_calm_expr e names
in-Neg e part other names r is same h = h ∙ ap (λ (x : Expr). is_calm_expr x names) same ∙ sym (ap (λ x. is_calm_expr x names) is ∙ calm-Neg part names)

pub in-Not : (e part other : Expr) (names : List ℕ) (r : Bool) → e ≡ Not part → other ≡ part → r ≡ is_calm_expr other names → r ≡ is_calm_expr e names
in-Not e part other names r is same h = h ∙ ap (λ (x : Expr). is_calm_expr x names) same ∙ sym (ap (λ x. is_calm_expr x names) is ∙ calm-Not part names)

pub in-Binary : (e : Expr) (o : Op) (at : ℕ) (left right first second third : Expr) (names : List ℕ) (safe a b c r : Bool) → e ≡ Binary o at left right → third ≡ right → first ≡ left → second ≡ right
    → safe ≡ (if is_division o then is_divisor third else true) → a ≡ is_calm_expr first names → b ≡ is_calm_expr second names → c ≡ (a && b) → r ≡ (safe && c) → r ≡ is_calm_expr e names
in-Binary e o at left right first second third names safe a b c r is t p q s h g j k =
    k ∙ (λ i. s i && j i) ∙ (λ i. (if is_division o then is_divisor (t i) else true) && (h i && g i))
    ∙ (λ i. (if is_division o then is_divisor right else true) && (is_calm_expr (p i) names && is_calm_expr (q i) names))
    ∙ sym (ap (λ x. is_calm_expr x names) is ∙ calm-Binary o at left right names)

-- statements
calm_row_at : (k : _) (row : Row_of-Stmt k) (names : List ℕ) → is_calm_row row names ≡ is_calm_all (items-the_row-Stmt k row) names
calm_row_at k end_of-Stmt names = refl
calm_row_at k (more_of-Stmt s rest) names = ap (λ b. is_calm_stmt s names && b) (calm_row_at _ rest names)

calm_body : (body : List Stmt) (names : List ℕ) → is_calm_row (hidden-the_row-Stmt-0 body) names ≡ is_calm_all body names
calm_body body names = calm_row_at _ (hidden-the_row-Stmt-0 body) names ∙ ap (λ (ss : List Stmt). is_calm_all ss names) (items_hidden-the_row-Stmt-0 body)

pub calm-If : (test : Expr) (then_part else_part : List Stmt) (names : List ℕ)
    → is_calm_stmt (If test then_part else_part) names ≡ (is_calm_expr test names && (is_calm_all then_part names && is_calm_all else_part names))
calm-If test then_part else_part names = λ i. is_calm_expr test names && (calm_body then_part names i && calm_body else_part names i)

pub calm-While : (test : Expr) (body : List Stmt) (at : ℕ) (names : List ℕ) → is_calm_stmt (While test body at) names ≡ false
calm-While test body at names = refl

pub calm-For : (l : Loop) (names : List ℕ)
    → is_calm_stmt (For l) names ≡ (is_some (form_of l.low names) && (is_some (form_of l.high names) && is_calm_all l.body (l.index.id ∷ names)))
calm-For l names = ap (λ b. is_some (form_of l.low names) && (is_some (form_of l.high names) && b)) (calm_body l.body (l.index.id ∷ names))

pub in-If : (s : Stmt) (test : Expr) (then_part else_part first second : List Stmt) (names inner then_inner : List ℕ) (t a b c r : Bool) → s ≡ If test then_part else_part → first ≡ then_part → second ≡ else_part
    → t ≡ is_calm_expr test (inner ++ names) → a ≡ is_calm_all first (inner ++ names) → then_inner ≡ inner → b ≡ is_calm_all second (then_inner ++ names) → c ≡ (a && b) → r ≡ (t && c) → r ≡ is_calm_stmt s (inner ++ names)
in-If s test then_part else_part first second names inner then_inner t a b c r is p q u h same g j k =
    k ∙ (λ i. u i && j i) ∙ (λ i. is_calm_expr test (inner ++ names) && (h i && g i))
    ∙ (λ i. is_calm_expr test (inner ++ names) && (is_calm_all (p i) (inner ++ names) && is_calm_all (q i) (same i ++ names)))
    ∙ sym (ap (λ x. is_calm_stmt x (inner ++ names)) is ∙ calm-If test then_part else_part (inner ++ names))

pub in-For : (l : Loop) (items : List Stmt) (names inner within : List ℕ) (a b c d r : Bool) → items ≡ l.body
    → a ≡ is_some (form_of l.low (inner ++ names)) → b ≡ is_some (form_of l.high (inner ++ names)) → within ≡ l.index.id ∷ inner → c ≡ is_calm_all items (within ++ names)
    → d ≡ (b && c) → r ≡ (a && d) → r ≡ is_calm_stmt (For l) (inner ++ names)
in-For l items names inner within a b c d r p h g ids f j k =
    k ∙ (λ i. h i && j i) ∙ (λ i. is_some (form_of l.low (inner ++ names)) && (g i && f i))
    ∙ (λ i. is_some (form_of l.low (inner ++ names)) && (is_some (form_of l.high (inner ++ names)) && is_calm_all (p i) (ids i ++ names)))
    ∙ sym (calm-For l (inner ++ names))

-- one more statement
pub calm_next : (f : Bool) (names : List ℕ) (ss : List Stmt) (i : ℕ) (d : Stmt) → i < length ss
    → (f && is_calm_all (drop i ss) names) ≡ ((f && is_calm_stmt (slice_index_or ss i d) names) && is_calm_all (drop (i + 1) ss) names)
calm_next f names ss i d within =
    ap (λ (xs : List Stmt). f && is_calm_all xs names) (next_of ss i d within) ∙ and_more f (is_calm_stmt (slice_index_or ss i d) names) (is_calm_all (drop (i + 1) ss) names)
