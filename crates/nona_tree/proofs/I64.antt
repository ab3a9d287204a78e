-- A run on numbers of 64 bits leaves numbers of 64 bits.
use Rattle.std.proofs.Common.{◌<◌, ◌≤◌, ◌^◌, ℕ, zero, suc, ℤ, pos, negsuc, ◌+ℤ◌, Bool, true, false, List, [], ◌∷◌, length, sym, subst, arith, if◌then◌else◌, ⊎_elim}
use Rattle.std.proofs.lemmas.Bool.{cases_lt}
use Rattle.std.proofs.lemmas.Int.{ints, SFits-int_wrap}
use Rattle.std.proofs.lemmas.List.{length-set, length-replicate, get_or_past}
use Rattle.std.proofs.lemmas.List.Elements.{All-take, All-append, All-set, All-map, All-replicate}
use Rattle.std.specs.Int.{w64, int_gap}
use Rattle.std.specs.Prelude.{All, IfOk, Result, Ok, Err, min, nat_le, slice_index_or, replicate}
use Rattle.nona_num.specs.Numbers.{div_of, rem_of}
use Rattle.nona_num.proofs.NumberLaws.{and_fits, or_fits, xor_fits, shr_fits, rem_fits}
use Rattle.nona_num.proofs.FoldLaws.{join_fits}
use Rattle.nona_tree.specs.declared.outcomes.Trap.{Trap}
use Rattle.nona_tree.specs.declared.trees.Op.{Op}
use Rattle.nona_tree.specs.declared.trees.Op.TheVariants as op
use Rattle.nona_tree.specs.declared.trees.Expr.{Expr, Number, Scalar, Cell', Len, Neg', Not', Binary', more_of-Expr, end_of-Expr}
use Rattle.nona_tree.specs.declared.trees.Expr.TheBlock.{more_of-Access, end_of-Access}
use Rattle.nona_tree.specs.declared.trees.Stmt.{Stmt, Let, Set, Fold, Put, FoldPut, If', While', For', Print, Row_of-Stmt, end_of-Stmt, more_of-Stmt, items-the_row-Stmt, items_hidden-the_row-Stmt-0}
use Rattle.nona_tree.specs.declared.trees.Stmt.TheBlock.{hidden-the_row-Stmt-0}
use Rattle.nona_tree.specs.declared.trees.ArrayDecl.{ArrayDecl}
use Rattle.nona_tree.specs.declared.trees.VarDecl.{VarDecl}
use Rattle.nona_tree.specs.declared.trees.Program.{Program}
use Rattle.nona_tree.specs.Memory.{Memory, scalar_at, cells_of, cell_at, declare, assign, put_cell, print, cut_to}
use Rattle.nona_tree.specs.Value.{Answer, then_use, from_test, is_zero, apply, place_of, value_of, cell_of}
use Rattle.nona_tree.specs.Run.{Ran, done, starved, with_value, block, turn, first_turns, for_turns, run, run_row, run_all, count_of, start_of}
use Rattle.nona_tree.proofs.Keeps.{IsPreorder, kept_value, kept_then, kept_if, kept_while}
use Rattle.nona_tree.specs.Numbers.{IsI64, AreCells, AreI64, IsI64Expr, IsI64Stmt, IsI64Row, AreI64Stmts, IsI64Program}

-- what holds of each item and of the default holds wherever a list is read
read_anywhere : {X : Type 0} (P : X → Type 0) (xs : List X) (i : ℕ) (d : X) → All P xs → P d → P (slice_index_or xs i d)
read_anywhere P xs i d h of_default =
    ⊎_elim
    (λ (within : i < length xs). h i d within)
    (λ (past : length xs ≤ i). subst P (sym (get_or_past xs i d past)) of_default)
    (cases_lt i (length xs))

none_of : {X : Type 0} (P : X → Type 0) → All P []
none_of P k d h = absurd (omega (arith, h))

one_of : {X : Type 0} (P : X → Type 0) (x : X) → P x → All P (x ∷ [])
one_of P x h zero d within = h
one_of P x h (suc k) d within = absurd (omega (arith, within))

zero_fits : IsI64 (pos 0)
zero_fits = omega (arith, ints)

one_fits : IsI64 (pos 1)
one_fits = omega (arith, ints)

test_fits : (b : Bool) → IsI64 (from_test b)
test_fits true = one_fits
test_fits false = zero_fits

count_fits : (n : ℕ) → n < 2 ^ 63 → IsI64 (pos n)
count_fits n h = record { sfits = h }

-- an index of a for lies between its bounds
index_fits : (a b : ℤ) (k : ℕ) → IsI64 a → IsI64 b → k < int_gap a b → IsI64 (a +ℤ pos k)
index_fits (pos a) (pos b) k fits_a fits_b h = record { sfits = omega (arith, ints, fits_a.sfits, fits_b.sfits, h) }
index_fits (pos a) (negsuc b) k fits_a fits_b h = absurd (omega (arith, h))
index_fits (negsuc a) (pos b) k fits_a fits_b h = omega (arith, ints, fits_a.sfits, fits_b.sfits, h)
index_fits (negsuc a) (negsuc b) k fits_a fits_b h = omega (arith, ints, fits_a.sfits, fits_b.sfits, h)

-- values

divided_fits : (b : Bool) (t : Trap) (v : ℤ) → IsI64 v → IfOk (if b then Err t else Ok v) IsI64
divided_fits true t v h = tt
divided_fits false t v h = h

-- what an operator gives has 64 bits where both of its values have
pub apply_fits : (o : Op) (at : ℕ) (a b : ℤ) → IsI64 a → IsI64 b → IfOk (apply o at a b) IsI64
apply_fits op.Add at a b p q = SFits-int_wrap w64 _
apply_fits op.Sub at a b p q = SFits-int_wrap w64 _
apply_fits op.Mul at a b p q = SFits-int_wrap w64 _
apply_fits op.Div at a b p q = divided_fits (is_zero b) _ (div_of a b) (SFits-int_wrap w64 _)
apply_fits op.Rem at a b p q = divided_fits (is_zero b) _ (rem_of a b) (rem_fits a b p)
apply_fits op.And at a b p q = and_fits a b
apply_fits op.Or at a b p q = or_fits a b
apply_fits op.Xor at a b p q = xor_fits a b
apply_fits op.Shl at a b p q = SFits-int_wrap w64 _
apply_fits op.Shr at a b p q = shr_fits a b p
apply_fits op.Eq at a b p q = test_fits _
apply_fits op.Ne at a b p q = test_fits _
apply_fits op.Lt at a b p q = test_fits _
apply_fits op.Le at a b p q = test_fits _
apply_fits op.Gt at a b p q = test_fits _
apply_fits op.Ge at a b p q = test_fits _

use_fits : (o : Answer) (go : ℤ → Answer) → IfOk o IsI64 → ((v : ℤ) → IsI64 v → IfOk (go v) IsI64) → IfOk (then_use o go) IsI64
use_fits (Ok v) go h g = g v h
use_fits (Err t) go h g = tt

place_fits : (o : Result ℕ Trap) (go : ℕ → Answer) → ((place : ℕ) → IfOk (go place) IsI64) → IfOk (then_use o go) IsI64
place_fits (Ok place) go g = g place
place_fits (Err t) go g = tt

cells_fit : (m : Memory) (id : ℕ) → AreI64 m → AreCells (cells_of m id)
cells_fit m id h = read_anywhere AreCells m.arrays id [] h.arrays (omega arith, none_of IsI64)

cell_fits : (m : Memory) (id place : ℕ) → AreI64 m → IsI64 (cell_at m id place)
cell_fits m id place h = read_anywhere IsI64 (cells_of m id) place (pos 0) (cells_fit m id h).1 zero_fits

scalar_fits : (m : Memory) (id : ℕ) → AreI64 m → IsI64 (scalar_at m id)
scalar_fits m id h = read_anywhere IsI64 m.scalars id (pos 0) h.scalars zero_fits

pub value_fits : (e : Expr) (m : Memory) → IsI64Expr e → AreI64 m → IfOk (value_of e m) IsI64
value_fits (Number v) m t h = t
value_fits (Scalar x) m t h = scalar_fits m x.id h
value_fits (Cell' p (more_of-Access array wrap index end_of-Access)) m t h =
    use_fits (value_of index m) _ (value_fits index m t h) (λ i fits. place_fits (place_of wrap array.at (length (cells_of m array.id)) i) _ (λ place. cell_fits m array.id place h))
value_fits (Len a) m t h = count_fits (length (cells_of m a.id)) (cells_fit m a.id h).0
value_fits (Neg' p (more_of-Expr e end_of-Expr)) m t h =
    use_fits (value_of e m) _ (value_fits e m t h) (λ v fits. SFits-int_wrap w64 _)
value_fits (Not' p (more_of-Expr e end_of-Expr)) m t h =
    use_fits (value_of e m) _ (value_fits e m t h) (λ v fits. test_fits (is_zero v))
value_fits (Binary' o at p (more_of-Expr left end_of-Expr) q (more_of-Expr right end_of-Expr)) m t h =
    use_fits (value_of left m) _ (value_fits left m t.0 h) (λ a fits_a. use_fits (value_of right m) _ (value_fits right m t.1 h) (λ b fits_b. apply_fits o at a b fits_a fits_b))

-- stores

declare_fits : (v : ℤ) (m : Memory) → IsI64 v → AreI64 m → AreI64 (declare v m)
declare_fits v m fits h =
    record { scalars = All-append IsI64 m.scalars (v ∷ []) h.scalars (one_of IsI64 v fits); arrays = h.arrays; printed = h.printed }

assign_fits : (id : ℕ) (v : ℤ) (m : Memory) → IsI64 v → AreI64 m → AreI64 (assign id v m)
assign_fits id v m fits h = record { scalars = All-set IsI64 m.scalars id v fits h.scalars; arrays = h.arrays; printed = h.printed }

put_fits : (id place : ℕ) (v : ℤ) (m : Memory) → IsI64 v → AreI64 m → AreI64 (put_cell id place v m)
put_fits id place v m fits h =
    let cells = cells_fit m id h in
    let count = length-set (cells_of m id) place v in
    record { scalars = h.scalars; arrays = All-set AreCells m.arrays id _ (omega (arith, cells.0, count), All-set IsI64 (cells_of m id) place v fits cells.1) h.arrays; printed = h.printed }

print_fits : (v : ℤ) (m : Memory) → IsI64 v → AreI64 m → AreI64 (print v m)
print_fits v m fits h =
    record { scalars = h.scalars; arrays = h.arrays; printed = All-append IsI64 m.printed (v ∷ []) h.printed (one_of IsI64 v fits) }

cut_fits : (count : ℕ) (m : Memory) → AreI64 m → AreI64 (cut_to count m)
cut_fits count m h = record { scalars = All-take IsI64 count m.scalars h.scalars; arrays = h.arrays; printed = h.printed }

-- runs

abbrev pub KeepsI64 : Memory → Memory → Type 0
KeepsI64 m r = AreI64 m → AreI64 r

i64_order : IsPreorder KeepsI64
i64_order = record { same = λ m h. h; chain = λ a b c h g x. g (h x) }

fits_value : (o : Answer) (m : Memory) (go : ℤ → Ran) → (AreI64 m → IfOk o IsI64) → ((v : ℤ) → IsI64 v → KeepsI64 m (go v).store) → KeepsI64 m (with_value o m go).store
fits_value (Ok v) m go h g x = g v (h x) x
fits_value (Err t) m go h g x = x

fits_block : (body : Memory → Ran) → ((x : Memory) → KeepsI64 x (body x).store) → (m : Memory) → KeepsI64 m (block body m).store
fits_block body h m x = cut_fits (length m.scalars) (body m).store (h m x)

fits_turn : (body : Memory → Ran) → ((x : Memory) → KeepsI64 x (body x).store) → (i : ℤ) → IsI64 i → (m : Memory) → KeepsI64 m (turn body i m).store
fits_turn body h i fits m x = cut_fits (length m.scalars) (body (declare i m)).store (h (declare i m) (declare_fits i m fits x))

fits_first : (body : ℤ → Memory → Ran) (a b : ℤ) → IsI64 a → IsI64 b → ((i : ℤ) → IsI64 i → (x : Memory) → KeepsI64 x (body i x).store)
    → (k : ℕ) → k ≤ int_gap a b → (m : Memory) → KeepsI64 m (first_turns body a k m).store
fits_first body a b fits_a fits_b h zero within m = λ x. x
fits_first body a b fits_a fits_b h (suc k) within m =
    kept_then KeepsI64 i64_order m (first_turns body a k m) _ (fits_first body a b fits_a fits_b h k (omega (arith, within)) m) (h (a +ℤ pos k) (index_fits a b k fits_a fits_b (omega (arith, within))))

fits_for : (at : ℕ) (body : ℤ → Memory → Ran) (a b : ℤ) → IsI64 a → IsI64 b → ((i : ℤ) → IsI64 i → (x : Memory) → KeepsI64 x (body i x).store)
    → (n : ℕ) (m : Memory) → KeepsI64 m (for_turns at body a (int_gap a b) n m).store
fits_for at body a b fits_a fits_b h n m =
    kept_then KeepsI64 i64_order m (first_turns body a (min (int_gap a b) n) m) _ (fits_first body a b fits_a fits_b h (min (int_gap a b) n) (omega arith) m) (λ r. kept_if KeepsI64 (nat_le (int_gap a b) n) r (done r) (starved at r) (λ x. x) (λ x. x))

mutual
  pub run_fits : (s : Stmt) → IsI64Stmt s → (n : ℕ) (m : Memory) → KeepsI64 m (run s n m).store
  run_fits (Let x e) t n m = fits_value (value_of e m) m _ (value_fits e m t) (λ v fits. declare_fits v m fits)
  run_fits (Set x e) t n m = fits_value (value_of e m) m _ (value_fits e m t) (λ v fits. assign_fits x.id v m fits)
  run_fits (Fold x f e) t n m =
      fits_value (value_of e m) m _ (value_fits e m t) (λ v fits h. assign_fits x.id _ m (join_fits f (scalar_at m x.id) v (scalar_fits m x.id h) fits) h)
  run_fits (Put c e) t n m =
      kept_value KeepsI64 i64_order (cell_of c m) m _ (λ place. fits_value (value_of e m) m _ (value_fits e m t.1) (λ v fits. put_fits c.array.id place v m fits))
  run_fits (FoldPut c f e) t n m =
      kept_value KeepsI64 i64_order (cell_of c m) m _ (λ place. fits_value (value_of e m) m _ (value_fits e m t.1) (λ v fits h. put_fits c.array.id place _ m (join_fits f (cell_at m c.array.id place) v (cell_fits m c.array.id place h) fits) h))
  run_fits (If' test p then_part q else_part) t n m =
      kept_value KeepsI64 i64_order (value_of test m) m _ (λ v. kept_if KeepsI64 (is_zero v) m (block (run_row else_part n) m) (block (run_row then_part n) m) (fits_block (run_row else_part n) (λ x. row_fits else_part t.2 n x) m) (fits_block (run_row then_part n) (λ x. row_fits then_part t.1 n x) m))
  run_fits (While' test p body at) t n m =
      kept_while KeepsI64 i64_order at (value_of test) (block (run_row body n)) (fits_block (run_row body n) (λ x. row_fits body t.1 n x)) n m
  run_fits (For' x low high p body seq at) t n m =
      fits_value (value_of low m) m _ (value_fits low m t.0) (λ a fits_a. fits_value (value_of high m) m _ (value_fits high m t.1) (λ b fits_b. fits_for at (turn (run_row body n)) a b fits_a fits_b (fits_turn (run_row body n) (λ x. row_fits body t.2 n x)) n m))
  run_fits (Print e at) t n m = fits_value (value_of e m) m _ (value_fits e m t) (λ v fits. print_fits v m fits)

  pub row_fits : {k : _} (row : Row_of-Stmt k) → IsI64Row row → (n : ℕ) (m : Memory) → KeepsI64 m (run_row row n m).store
  row_fits end_of-Stmt t n m = λ x. x
  row_fits (more_of-Stmt s rest) t n m =
      kept_then KeepsI64 i64_order m (run s n m) (run_row rest n) (run_fits s t.0 n m) (λ x. row_fits rest t.1 n x)

pub all_fit : (ss : List Stmt) → AreI64Stmts ss → (n : ℕ) (m : Memory) → KeepsI64 m (run_all ss n m).store
all_fit [] t n m = λ x. x
all_fit (s ∷ rest) t n m =
    kept_then KeepsI64 i64_order m (run s n m) (run_all rest n) (run_fits s t.0 n m) (λ x. all_fit rest t.1 n x)

-- the store before the first statement

first_and_rest : {X : Type 0} (P : X → Type 0) (x : X) (xs : List X) → P x → All P xs → All P (x ∷ xs)
first_and_rest P x xs h g zero d within = h
first_and_rest P x xs h g (suc k) d within = g k d (omega (arith, within))

count_below : (z : ℤ) → IsI64 z → count_of z < 2 ^ 63
count_below (pos n) fits = fits.sfits
count_below (negsuc n) fits = omega arith

zeros_fit : (z : ℤ) → IsI64 z → AreCells (replicate (count_of z) (pos 0))
zeros_fit z fits = (omega (arith, length-replicate (count_of z) (pos 0), count_below z fits), All-replicate IsI64 (count_of z) (pos 0) zero_fits)

pub start_fits : (p : Program) (input : List ℤ) → IsI64Program p → AreCells input → AreI64 (start_of p input)
start_fits p input h cells = record {
  scalars = All-map IsI64 (λ (d : VarDecl). d.value) p.vars h.vars;
  arrays = first_and_rest AreCells input _ cells (All-map AreCells (λ (d : ArrayDecl). replicate (count_of d.cells) (pos 0)) p.arrays (λ k d within. zeros_fit (slice_index_or p.arrays k d).cells (h.arrays k d within)));
  printed = none_of IsI64;
}

-- the first turns of a for, as many as lie between its bounds
pub turns_fit : (ss : List Stmt) → AreI64Stmts ss → (n : ℕ) (a b : ℤ) → IsI64 a → IsI64 b → (k : ℕ) → k ≤ int_gap a b → (m : Memory)
    → KeepsI64 m (first_turns (turn (run_all ss n)) a k m).store
turns_fit ss t n a b fits_a fits_b = fits_first (turn (run_all ss n)) a b fits_a fits_b (fits_turn (run_all ss n) (all_fit ss t n))

-- the numbers of a block are those of the list of its statements

row_numbers : (k : _) (row : Row_of-Stmt k) → AreI64Stmts (items-the_row-Stmt k row) → IsI64Row row
row_numbers k end_of-Stmt h = tt
row_numbers k (more_of-Stmt s rest) h = (h.0, row_numbers _ rest h.1)

pub list_numbers : (k : _) (row : Row_of-Stmt k) → IsI64Row row → AreI64Stmts (items-the_row-Stmt k row)
list_numbers k end_of-Stmt h = tt
list_numbers k (more_of-Stmt s rest) h = (h.0, list_numbers _ rest h.1)

pub block_numbers : (body : List Stmt) → AreI64Stmts body → IsI64Row (hidden-the_row-Stmt-0 body)
block_numbers body h = row_numbers _ (hidden-the_row-Stmt-0 body) (subst AreI64Stmts (sym (items_hidden-the_row-Stmt-0 body)) h)

pub statements_numbers : (body : List Stmt) → IsI64Row (hidden-the_row-Stmt-0 body) → AreI64Stmts body
statements_numbers body h = subst AreI64Stmts (items_hidden-the_row-Stmt-0 body) (list_numbers _ (hidden-the_row-Stmt-0 body) h)
