-- Regions, entries and deeds at the forms that hold other expressions or statements, by the fields of these forms.
use Rattle.std.proofs.Common.{◌≡◌, ◌+◌, ℕ, List, [], ◌∷◌, ◌++◌, Bool, length, refl, ap, ◌∙◌, if◌then◌else◌}
use Rattle.std.specs.Prelude.{min}
use Rattle.std.specs.Int.{int_gap}
use denote.Hole.Carrier.{hidden}
use Rattle.nona_tree.specs.declared.trees.Op.{Op}
use Rattle.nona_tree.specs.declared.trees.Access.{Access}
use Rattle.nona_tree.specs.declared.trees.Expr.{Expr, Cell, Neg, Not, Binary}
use Rattle.nona_tree.specs.declared.trees.Expr.TheBlock.{hidden-the_row-Expr-1, hidden-the_row-Access-0}
use Rattle.nona_tree.specs.declared.trees.Loop.{Loop}
use Rattle.nona_tree.specs.declared.trees.Stmt.{Stmt, If, While, For, Row_of-Stmt, end_of-Stmt, more_of-Stmt, items-the_row-Stmt, items_hidden-the_row-Stmt-0}
use Rattle.nona_tree.specs.declared.trees.Stmt.TheBlock.{hidden-the_row-Stmt-0}
use Rattle.nona_tree.specs.Memory.{Memory, declare}
use Rattle.nona_tree.specs.Value.{value_of, cell_of, is_zero}
use Rattle.nona_tree.specs.Run.{run, run_all, block, turn}
use Rattle.nona_tree.specs.Beside.{on_ok, on_done, while_gives, first_give}
use Rattle.nona_tree.specs.Entries.{loop_with, regions_in, regions_row, regions_all, count_all, entries, entries_row, entries_all}
use Rattle.nona_tree.specs.Deeds.{loads, value_deeds, deeds, deeds_row, deeds_all}
use Rattle.nona_tree.proofs.Equations.{run_body}

pub value_deeds-Cell : (c : Access) (m : Memory)
    → value_deeds (Cell c) m ≡ value_deeds c.index m ++ on_ok (cell_of c m) (λ place. loads c.array.id place ∷ [])
unfolding hidden-the_row-Access-0 hidden
value_deeds-Cell c m = refl

pub value_deeds-Neg : (e : Expr) (m : Memory) → value_deeds (Neg e) m ≡ value_deeds e m
unfolding hidden-the_row-Expr-1 hidden
value_deeds-Neg e m = refl

pub value_deeds-Not : (e : Expr) (m : Memory) → value_deeds (Not e) m ≡ value_deeds e m
unfolding hidden-the_row-Expr-1 hidden
value_deeds-Not e m = refl

pub value_deeds-Binary : (op : Op) (at : ℕ) (left right : Expr) (m : Memory)
    → value_deeds (Binary op at left right) m ≡ value_deeds left m ++ on_ok (value_of left m) (λ v. value_deeds right m)
unfolding hidden-the_row-Expr-1 hidden
value_deeds-Binary op at left right m = refl

regions_row_at : (chosen : Loop → Bool) (k : _) (row : Row_of-Stmt k) → regions_row chosen row ≡ regions_all chosen (items-the_row-Stmt k row)
regions_row_at chosen k end_of-Stmt = refl
regions_row_at chosen k (more_of-Stmt s rest) = ap (λ ls. regions_in chosen s ++ ls) (regions_row_at chosen _ rest)

-- the regions of a block are those of the list of its statements
pub regions_body : (chosen : Loop → Bool) (body : List Stmt) → regions_row chosen (hidden-the_row-Stmt-0 body) ≡ regions_all chosen body
regions_body chosen body = regions_row_at chosen _ (hidden-the_row-Stmt-0 body) ∙ ap (regions_all chosen) (items_hidden-the_row-Stmt-0 body)

pub regions-If : (chosen : Loop → Bool) (test : Expr) (then_part else_part : List Stmt) → regions_in chosen (If test then_part else_part) ≡ regions_all chosen then_part ++ regions_all chosen else_part
regions-If chosen test then_part else_part = λ i. regions_body chosen then_part i ++ regions_body chosen else_part i

pub regions-While : (chosen : Loop → Bool) (test : Expr) (body : List Stmt) (at : ℕ) → regions_in chosen (While test body at) ≡ regions_all chosen body
regions-While chosen test body at = regions_body chosen body

pub regions-For : (chosen : Loop → Bool) (l : Loop) → regions_in chosen (For l) ≡ (if chosen l then l ∷ [] else regions_all chosen l.body)
regions-For chosen l =
    λ i. let k = loop_with l.index l.low l.high (items_hidden-the_row-Stmt-0 l.body i) l.seq l.at in if chosen k then k ∷ [] else regions_body chosen l.body i

entries_row_at : (chosen : Loop → Bool) (k : _) (row : Row_of-Stmt k) (first n : ℕ) (m : Memory) → entries_row chosen first row n m ≡ entries_all chosen first (items-the_row-Stmt k row) n m
entries_row_at chosen k end_of-Stmt first n m = refl
entries_row_at chosen k (more_of-Stmt s rest) first n m =
    λ i. entries chosen first s n m ++ on_done (run s n m) (λ x. entries_row_at chosen _ rest (first + length (regions_in chosen s)) n x i)

-- the entries of a block's run are those of the list of its statements
pub entries_body : (chosen : Loop → Bool) (body : List Stmt) (first : ℕ) → entries_row chosen first (hidden-the_row-Stmt-0 body) ≡ entries_all chosen first body
entries_body chosen body first =
    (λ i n m. entries_row_at chosen _ (hidden-the_row-Stmt-0 body) first n m i) ∙ ap (entries_all chosen first) (items_hidden-the_row-Stmt-0 body)

pub entries-If : (chosen : Loop → Bool) (first : ℕ) (test : Expr) (then_part else_part : List Stmt) (n : ℕ) (m : Memory)
    → entries chosen first (If test then_part else_part) n m
    ≡ on_ok (value_of test m) (λ v. if is_zero v then entries_all chosen (first + count_all chosen then_part) else_part n m else entries_all chosen first then_part n m)
entries-If chosen first test then_part else_part n m =
    (λ i. on_ok (value_of test m) (λ v. if is_zero v then entries_row chosen (first + length (regions_body chosen then_part i)) (hidden-the_row-Stmt-0 else_part) n m else entries_body chosen then_part first i n m))
    ∙ (λ i. on_ok (value_of test m) (λ v. if is_zero v then entries_body chosen else_part (first + count_all chosen then_part) i n m else entries_all chosen first then_part n m))

pub entries-While : (chosen : Loop → Bool) (first : ℕ) (test : Expr) (body : List Stmt) (at n : ℕ) (m : Memory)
    → entries chosen first (While test body at) n m
    ≡ while_gives (value_of test) (λ k. []) (block (run_all body n)) (entries_all chosen first body n) n m
entries-While chosen first test body at n m =
    λ i. while_gives (value_of test) (λ k. []) (block (run_body body i n)) (entries_body chosen body first i n) n m

pub entries-For : (chosen : Loop → Bool) (first : ℕ) (l : Loop) (n : ℕ) (m : Memory)
    → entries chosen first (For l) n m
    ≡ on_ok (value_of l.low m) (λ a. on_ok (value_of l.high m) (λ b. if chosen l
    then record { region = first; looped = l; low = a; high = b; store = m } ∷ []
    else first_give (turn (run_all l.body n)) (λ i k. entries_all chosen first l.body n (declare i k)) a (min (int_gap a b) n) m))
entries-For chosen first l n m =
    λ i. let k = loop_with l.index l.low l.high (items_hidden-the_row-Stmt-0 l.body i) l.seq l.at in
    on_ok (value_of l.low m) (λ a. on_ok (value_of l.high m) (λ b. if chosen k
    then record { region = first; looped = k; low = a; high = b; store = m } ∷ []
    else first_give (turn (run_body l.body i n)) (λ j r. entries_body chosen l.body first i n (declare j r)) a (min (int_gap a b) n) m))

deeds_row_at : (k : _) (row : Row_of-Stmt k) (n : ℕ) (m : Memory) → deeds_row row n m ≡ deeds_all (items-the_row-Stmt k row) n m
deeds_row_at k end_of-Stmt n m = refl
deeds_row_at k (more_of-Stmt s rest) n m = λ i. deeds s n m ++ on_done (run s n m) (λ x. deeds_row_at _ rest n x i)

-- the deeds of a block's run are those of the list of its statements
pub deeds_body : (body : List Stmt) → deeds_row (hidden-the_row-Stmt-0 body) ≡ deeds_all body
deeds_body body = (λ i n m. deeds_row_at _ (hidden-the_row-Stmt-0 body) n m i) ∙ ap deeds_all (items_hidden-the_row-Stmt-0 body)

pub deeds-If : (test : Expr) (then_part else_part : List Stmt) (n : ℕ) (m : Memory)
    → deeds (If test then_part else_part) n m
    ≡ value_deeds test m ++ on_ok (value_of test m) (λ v. if is_zero v then deeds_all else_part n m else deeds_all then_part n m)
deeds-If test then_part else_part n m =
    λ i. value_deeds test m ++ on_ok (value_of test m) (λ v. if is_zero v then deeds_body else_part i n m else deeds_body then_part i n m)

pub deeds-While : (test : Expr) (body : List Stmt) (at n : ℕ) (m : Memory)
    → deeds (While test body at) n m ≡ while_gives (value_of test) (value_deeds test) (block (run_all body n)) (deeds_all body n) n m
deeds-While test body at n m =
    λ i. while_gives (value_of test) (value_deeds test) (block (run_body body i n)) (deeds_body body i n) n m

pub deeds-For : (l : Loop) (n : ℕ) (m : Memory)
    → deeds (For l) n m
    ≡ value_deeds l.low m ++ on_ok (value_of l.low m) (λ a. value_deeds l.high m ++ on_ok (value_of l.high m) (λ b. first_give (turn (run_all l.body n)) (λ i k. deeds_all l.body n (declare i k)) a (min (int_gap a b) n) m))
deeds-For l n m =
    λ i. value_deeds l.low m ++ on_ok (value_of l.low m) (λ a. value_deeds l.high m ++ on_ok (value_of l.high m) (λ b. first_give (turn (run_body l.body i n)) (λ j k. deeds_body l.body i n (declare j k)) a (min (int_gap a b) n) m))

-- the equations at a statement that holds others, and at an expression that holds others
pub ruleset beside_laws = (regions-If, regions-While, regions-For, entries-If, entries-While, entries-For, deeds-If, deeds-While, deeds-For, value_deeds-Cell, value_deeds-Neg, value_deeds-Not, value_deeds-Binary)
