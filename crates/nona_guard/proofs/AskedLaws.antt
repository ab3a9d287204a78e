-- What the guard asks holds exactly where the guard holds.
use Rattle.std.proofs.Common.{◌≡◌, ℕ, ◌≤◌, ◌&&◌, ◌==◌, ◌-ℤ◌, arith, Bool, true, false, ℤ, pos, List, [], ◌∷◌, ◌++◌, length, refl, sym, ap, ◌∙◌, if◌then◌else◌, Some, None, is_some, nat_lt}
use Rattle.std.proofs.lemmas.List.{get_or_past}
use Rattle.std.specs.declared.option.Option.{Option}
use Rattle.nona_tree.specs.declared.trees.Loop.{Loop}
use Rattle.nona_num.specs.declared.range.Range.{Range}
use Rattle.nona_tree.specs.declared.trees.Access.{Access}
use Rattle.nona_tree.specs.declared.trees.Expr.{Expr, Number, Scalar, Cell', Len, Neg', Not', Binary', more_of-Expr, end_of-Expr}
use Rattle.nona_tree.specs.declared.trees.Expr.TheBlock.{more_of-Access, end_of-Access}
use Rattle.nona_tree.specs.declared.trees.Stmt.{Stmt, Let, Set, Fold, Put, FoldPut, If', While', For', Print, Row_of-Stmt, end_of-Stmt, more_of-Stmt}
use Rattle.nona_tree.specs.Memory.{Memory, scalar_at, cells_of}
use Rattle.nona_forms.specs.Affine.{Affine, form_of}
use Rattle.nona_forms.specs.Verdicts.{if_form}
use Rattle.nona_forms.specs.Calm.{is_calm_expr, is_calm_stmt, is_calm_row, is_calm_all}
use Rattle.nona_forms.specs.Guards.{ranges_of, with_range, fits_place, fits_expr, fits_cell, fits_turns, fits_stmt, fits_row, fits_all}
use Rattle.nona_forms.specs.Boxes.{point, form_range}
use Rattle.nona_guard.specs.declared.checks.Check.{Check, Turns}
use Rattle.nona_guard.specs.Checks.{holds_check, hold_all, ranges_by}
use Rattle.nona_guard.specs.Asked.{asked_place, asked_expr, asked_cell, asked_loop, asked, asked_row, asked_all}
use Rattle.nona_guard.proofs.CheckEquations.{holds-Turns}

pub both_true : (a b : Bool) → (a && b) ≡ true → (a ≡ true) × (b ≡ true)
both_true true b h = (refl, h)
both_true false b h = cc

and_assoc : (a b c : Bool) → ((a && b) && c) ≡ (a && (b && c))
and_assoc true b c = refl
and_assoc false b c = refl

hold_both : (xs ys : List Check) (ranges : ℕ → Range) (m : Memory) (n : ℕ) → hold_all (xs ++ ys) ranges m n ≡ (hold_all xs ranges m n && hold_all ys ranges m n)
hold_both [] ys ranges m n = refl
hold_both (c ∷ xs) ys ranges m n =
    ap (λ b. holds_check c ranges m n && b) (hold_both xs ys ranges m n) ∙ sym (and_assoc (holds_check c ranges m n) (hold_all xs ranges m n) (hold_all ys ranges m n))

two : (xs ys : List Check) (ranges : ℕ → Range) (m : Memory) (n : ℕ) (a b : Bool) → hold_all xs ranges m n ≡ a → hold_all ys ranges m n ≡ b → hold_all (xs ++ ys) ranges m n ≡ (a && b)
two xs ys ranges m n a b h g = hold_both xs ys ranges m n ∙ ap (λ x. x && hold_all ys ranges m n) h ∙ ap (λ x. a && x) g

place_is : (array : ℕ) (wrap : Bool) (index : Expr) (names : List ℕ) (ranges : ℕ → Range) (m : Memory) (n : ℕ)
    → holds_check (asked_place array wrap index names) ranges m n ≡ fits_place wrap index (length (cells_of m array)) names ranges
place_is array true index names ranges m n = refl
place_is array false index names ranges m n = refl

expr_is : (e : Expr) (names : List ℕ) (ranges : ℕ → Range) (m : Memory) (n : ℕ) → hold_all (asked_expr e names) ranges m n ≡ fits_expr e names ranges m
expr_is (Number v) names ranges m n = refl
expr_is (Scalar x) names ranges m n = refl
expr_is (Cell' p (more_of-Access array wrap index end_of-Access)) names ranges m n =
    ap (λ b. b && hold_all (asked_expr index names) ranges m n) (place_is array.id wrap index names ranges m n)
    ∙ ap (λ b. fits_place wrap index (length (cells_of m array.id)) names ranges && b) (expr_is index names ranges m n)
expr_is (Len a) names ranges m n = refl
expr_is (Neg' p (more_of-Expr e end_of-Expr)) names ranges m n = expr_is e names ranges m n
expr_is (Not' p (more_of-Expr e end_of-Expr)) names ranges m n = expr_is e names ranges m n
expr_is (Binary' o at p (more_of-Expr left end_of-Expr) q (more_of-Expr right end_of-Expr)) names ranges m n =
    two (asked_expr left names) (asked_expr right names) ranges m n _ _ (expr_is left names ranges m n) (expr_is right names ranges m n)

cell_is : (c : Access) (names : List ℕ) (ranges : ℕ → Range) (m : Memory) (n : ℕ) → hold_all (asked_cell c names) ranges m n ≡ fits_cell c names ranges m
cell_is c names ranges m n =
    ap (λ b. b && hold_all (asked_expr c.index names) ranges m n) (place_is c.array.id c.wrap c.index names ranges m n)
    ∙ ap (λ b. fits_place c.wrap c.index (length (cells_of m c.array.id)) names ranges && b) (expr_is c.index names ranges m n)

and_nothing : (b : Bool) → (b && true) ≡ b
and_nothing true = refl
and_nothing false = refl

loop_is : (id : ℕ) (low high : Option Affine) (body : List Check) (walked : Range → Bool) (ranges : ℕ → Range) (m : Memory) (n : ℕ) → is_some low ≡ true → is_some high ≡ true
    → ((r : Range) → hold_all body (with_range id r ranges) m n ≡ walked r)
    → hold_all (asked_loop id low high body) ranges m n ≡ if_form low (λ f. if_form high (λ g. fits_turns (form_range ranges f) (form_range ranges g) n walked))
loop_is id None high body walked ranges m n h g same = cc
loop_is id (Some f) None body walked ranges m n h g same = cc
loop_is id (Some f) (Some k) body walked ranges m n h g same =
    and_nothing (holds_check (Turns id f k body) ranges m n) ∙ holds-Turns id f k body ranges m n ∙ (λ i. fits_turns (form_range ranges f) (form_range ranges k) n (λ r. same r i))

mutual
  stmt_is : (s : Stmt) (names : List ℕ) (ranges : ℕ → Range) (m : Memory) (n : ℕ) → is_calm_stmt s names ≡ true → hold_all (asked s names) ranges m n ≡ fits_stmt s names ranges m n
  stmt_is (Let x e) names ranges m n calm = expr_is e names ranges m n
  stmt_is (Set x e) names ranges m n calm = expr_is e names ranges m n
  stmt_is (Fold x o e) names ranges m n calm = expr_is e names ranges m n
  stmt_is (Put c e) names ranges m n calm = two (asked_cell c names) (asked_expr e names) ranges m n _ _ (cell_is c names ranges m n) (expr_is e names ranges m n)
  stmt_is (FoldPut c o e) names ranges m n calm = two (asked_cell c names) (asked_expr e names) ranges m n _ _ (cell_is c names ranges m n) (expr_is e names ranges m n)
  stmt_is (If' test p then_part q else_part) names ranges m n calm =
      let both = both_true (is_calm_expr test names) (is_calm_row then_part names && is_calm_row else_part names) calm in
      let arms = both_true (is_calm_row then_part names) (is_calm_row else_part names) both.1 in
      two (asked_expr test names) (asked_row then_part names ++ asked_row else_part names) ranges m n _ _ (expr_is test names ranges m n) (two (asked_row then_part names) (asked_row else_part names) ranges m n _ _ (row_is then_part names ranges m n arms.0) (row_is else_part names ranges m n arms.1))
  stmt_is (While' test p body at) names ranges m n calm = cc
  stmt_is (For' x low high p body seq at) names ranges m n calm =
      let first = both_true (is_some (form_of low names)) (is_some (form_of high names) && is_calm_row body (x.id ∷ names)) calm in
      let rest = both_true (is_some (form_of high names)) (is_calm_row body (x.id ∷ names)) first.1 in
      loop_is x.id (form_of low names) (form_of high names) (asked_row body (x.id ∷ names)) (λ r. fits_row body (x.id ∷ names) (with_range x.id r ranges) m n) ranges m n first.0 rest.0 (λ r. row_is body (x.id ∷ names) (with_range x.id r ranges) m n rest.1)
  stmt_is (Print e at) names ranges m n calm = expr_is e names ranges m n

  row_is : {k : _} (row : Row_of-Stmt k) (names : List ℕ) (ranges : ℕ → Range) (m : Memory) (n : ℕ) → is_calm_row row names ≡ true → hold_all (asked_row row names) ranges m n ≡ fits_row row names ranges m n
  row_is end_of-Stmt names ranges m n calm = refl
  row_is (more_of-Stmt s rest) names ranges m n calm =
      let both = both_true (is_calm_stmt s names) (is_calm_row rest names) calm in
      two (asked s names) (asked_row rest names) ranges m n _ _ (stmt_is s names ranges m n both.0) (row_is rest names ranges m n both.1)

-- what is asked of a calm body holds exactly where the body fits
pub all_is : (ss : List Stmt) (names : List ℕ) (ranges : ℕ → Range) (m : Memory) (n : ℕ) → is_calm_all ss names ≡ true → hold_all (asked_all ss names) ranges m n ≡ fits_all ss names ranges m n
all_is [] names ranges m n calm = refl
all_is (s ∷ rest) names ranges m n calm =
    let both = both_true (is_calm_stmt s names) (is_calm_all rest names) calm in
    two (asked s names) (asked_all rest names) ranges m n _ _ (stmt_is s names ranges m n both.0) (all_is rest names ranges m n both.1)

-- at the entry, with one bound for the index
entry_if : (id index : ℕ) (r : Range) (m : Memory) (same below : Bool) → (id == index) ≡ same → nat_lt id index ≡ below → length m.scalars ≡ index
    → (if same then r else (if below then point (scalar_at m id) else point (pos 0))) ≡ (if same then r else point (scalar_at m id))
entry_if id index r m true below e h deep = refl
entry_if id index r m false true e h deep = refl
entry_if id index r m false false e h deep =
    let past : length m.scalars ≤ id = grind arith in
    ap point (sym (get_or_past m.scalars id (pos 0) past))

pub entry_ranges : (l : Loop) (m : Memory) (low last : ℤ) → length m.scalars ≡ l.index.id
    → ranges_by l.index.id m (record { id = l.index.id; range = record { low = low; high = last -ℤ pos 1 } } ∷ []) ≡ ranges_of l m low last
entry_ranges l m low last deep =
    λ i id. entry_if id l.index.id (record { low = low; high = last -ℤ pos 1 }) m (id == l.index.id) (nat_lt id l.index.id) refl refl deep i
