-- Where the guard holds, a calm statement is done.
use Rattle.std.proofs.Common.{◌≡◌, ℕ, zero, suc, ◌<◌, ◌≤◌, ◌+◌, ◌==◌, ◌&&◌, Bool, true, false, ℤ, pos, negsuc, ◌+ℤ◌, ◌-ℤ◌, ◌≤ℤ◌, ◌<ℤ◌, List, [], ◌∷◌, length, refl, sym, ap, ◌∙◌, subst, arith, if◌then◌else◌, is_some, length-append}
use Rattle.std.proofs.Math.ListN.{get_or-map}
use Rattle.std.proofs.Math.Seq.{get_or-append_seam}
use Rattle.std.proofs.lemmas.Int.{ints}
use Rattle.std.proofs.lemmas.List.{get_or_append_left}
use Rattle.std.specs.Int.{int_gap}
use Rattle.std.specs.Prelude.{Result, Ok, int_le, slice_index_or}
use Rattle.nona_num.specs.declared.range.Range.{Range}
use Rattle.nona_num.specs.Ranges.{Holds}
use Rattle.nona_num.specs.Folds.{join_of}
use Rattle.nona_tree.specs.declared.names.Use.{Use}
use Rattle.nona_tree.specs.declared.outcomes.Trap.{Trap}
use Rattle.nona_tree.specs.declared.outcomes.Outcome.TheVariants as outcome
use Rattle.nona_tree.specs.declared.trees.Access.{Access}
use Rattle.nona_tree.specs.declared.trees.Expr.{Number}
use Rattle.nona_tree.specs.declared.trees.Stmt.{Stmt, Let, Set, Fold, Put, FoldPut, If', While', For', Print, Row_of-Stmt, end_of-Stmt, more_of-Stmt, items-the_row-Stmt}
use Rattle.nona_tree.specs.Memory.{Memory, scalar_at, cells_of, cell_at, declare, assign, put_cell, print}
use Rattle.nona_tree.specs.Numbers.{IsI64, AreI64, IsI64Expr, IsI64Stmt, IsI64Row}
use Rattle.nona_tree.specs.Deeds.{SameSizes}
use Rattle.nona_tree.specs.Run.{Ran, done, with_value, then_from, then_do, block, turn, first_turns, for_turns, run, run_row, run_all}
use Rattle.nona_tree.specs.Scope.{IsScoped, IsRowScoped, IsSteady, IsRowSteady}
use Rattle.nona_tree.specs.Value.{then_use, is_zero, place_of, value_of, cell_of}
use Rattle.nona_tree.proofs.Depth.{depth_where_done, turns_depth}
use Rattle.nona_tree.proofs.I64.{run_fits, turns_fit}
use Rattle.nona_tree.proofs.Keeps.{SameArrays, arrays_kept, run_kept, turns_kept, kept_first}
use Rattle.nona_tree.proofs.Turns.{all_turns}
use Rattle.nona_forms.specs.Affine.{form_at, form_of, among}
use Rattle.nona_forms.specs.Verdicts.{if_form}
use Rattle.nona_forms.specs.Calm.{is_plain, is_calm_expr, is_calm_cell, is_calm_stmt, is_calm_row}
use Rattle.nona_forms.specs.Guards.{is_i64_range, with_range, fits_place, fits_expr, fits_cell, fits_turns, fits_stmt, fits_row}
use Rattle.nona_forms.specs.Boxes.{form_range}
use Rattle.nona_forms.proofs.InBoxes.{both_true, ids_same}
use Rattle.nona_forms.proofs.Exact.{exact_value}
use Rattle.nona_forms.proofs.Separate.{found_index}
use Rattle.nona_forms.proofs.Sound.{i64_row_at}
use Rattle.nona_forms.proofs.Spared.{Keeps, keeps_order, keeps_turn, run_keeps, row_keeps, among_more}
use Rattle.nona_forms.proofs.Fitting.{IsWithin, form_ranged, place_fits, value_has}

abbrev pub IsDone : Ran → Type 0
IsDone r = r.end ≡ outcome.Done

with_done : {A : Type 0} (o : Result A Trap) (m : Memory) (go : A → Ran) (v : A) → o ≡ Ok v → IsDone (go v) → IsDone (with_value o m go)
with_done o m go v e h = subst (λ x. IsDone (with_value x m go)) (sym e) h

pub then_done : (r : Ran) (go : Memory → Ran) → IsDone r → IsDone (go r.store) → IsDone (then_do r go)
then_done r go e h = subst (λ x. IsDone (then_from r.store x go)) (sym e) h

if_done : (b : Bool) (r q : Ran) → IsDone r → IsDone q → IsDone (if b then r else q)
if_done true r q h g = h
if_done false r q h g = g

-- the cell of an access that is written
cell_has : (entry m : Memory) (names : List ℕ) (ranges : ℕ → Range) (c : Access) → IsWithin entry names ranges m → IsI64Expr c.index → is_calm_cell c names ≡ true → fits_cell c names ranges entry ≡ true
    → (cell : ℕ) × (cell_of c m ≡ Ok cell)
cell_has entry m names ranges c w t calm f =
    let calms = both_true (is_plain c.wrap c.index names) (is_calm_expr c.index names) calm in
    let fits = both_true (fits_place c.wrap c.index (length (cells_of entry c.array.id)) names ranges) (fits_expr c.index names ranges entry) f in
    let value = value_has entry m names ranges c.index w t calms.1 fits.1 in
    let place = place_fits entry m names ranges c.wrap c.array.at c.index c.array.id value.0 w t fits.0 value.1 in
    (place.0, ap (λ o. then_use o (λ i. place_of c.wrap c.array.at (length (cells_of m c.array.id)) i)) value.1 ∙ place.1)

-- what a run keeps
sizes_kept : (m r : Memory) → SameArrays m r → SameSizes m r
sizes_kept m r h a =
    sym (get_or-map length r.arrays a []) ∙ ap (λ xs. slice_index_or xs a 0) h ∙ get_or-map length m.arrays a []

within_after : (entry : Memory) (names : List ℕ) (ranges : ℕ → Range) (m r : Memory) → IsWithin entry names ranges m → AreI64 r → SameArrays m r → ((id : ℕ) → among id names ≡ true → Keeps id m r)
    → IsWithin entry names ranges r
within_after entry names ranges m r w numbers sizes keeps = record {
  numbers = numbers;
  sizes = λ a. sizes_kept m r sizes a ∙ w.sizes a;
  there = λ id e. (keeps id e (w.there id e)).0;
  ranged = λ id e. subst (Holds (ranges id)) (sym (keeps id e (w.there id e)).1) (w.ranged id e);
}

run_within : (entry : Memory) (names : List ℕ) (ranges : ℕ → Range) (s : Stmt) (n : ℕ) (m : Memory) → IsWithin entry names ranges m → IsSteady s names → IsI64Stmt s → IsWithin entry names ranges (run s n m).store
run_within entry names ranges s n m w steady t =
    within_after entry names ranges m (run s n m).store w (run_fits s t n m w.numbers) (run_kept SameArrays arrays_kept s n m) (λ id e. run_keeps id s names e steady n m)

-- a block is the list of its statements
rows_at : (k : _) (row : Row_of-Stmt k) (n : ℕ) (m : Memory) → run_row row n m ≡ run_all (items-the_row-Stmt k row) n m
rows_at k end_of-Stmt n m = refl
rows_at k (more_of-Stmt s rest) n m = ap (then_do (run s n m)) (λ i x. rows_at _ rest n x i)

turns_at : (k : _) (row : Row_of-Stmt k) (n : ℕ) (a : ℤ) (count : ℕ) (m : Memory)
    → first_turns (turn (run_row row n)) a count m ≡ first_turns (turn (run_all (items-the_row-Stmt k row) n)) a count m
turns_at k row n a count m = λ i. first_turns (turn (λ x. rows_at k row n x i)) a count m

turns_within : {k : _} (entry : Memory) (names : List ℕ) (ranges : ℕ → Range) (x : ℕ) (row : Row_of-Stmt k) (n : ℕ) (a b : ℤ) (count : ℕ) (m : Memory) → IsWithin entry names ranges m → IsRowSteady row (x ∷ names) → IsI64Row row
    → IsI64 a → IsI64 b → count ≤ int_gap a b → IsWithin entry names ranges (first_turns (turn (run_row row n)) a count m).store
turns_within entry names ranges x row n a b count m w steady t of_a of_b within =
    let ss = items-the_row-Stmt _ row in
    let same = turns_at _ row n a count m in
    let numbers = turns_fit ss (subst (λ P. P) (i64_row_at _ row) t) n a b of_a of_b count within m w.numbers in
    within_after entry names ranges m (first_turns (turn (run_row row n)) a count m).store w (subst (λ r. AreI64 r.store) (sym same) numbers) (subst (λ r. SameArrays m r.store) (sym same) (turns_kept SameArrays arrays_kept ss n a count m)) (λ id e. kept_first (Keeps id) (keeps_order id) (turn (run_row row n)) a (keeps_turn id (run_row row n) (λ y. row_keeps id row (x ∷ names) (among_more x id names e) steady n y)) count m)

turns_deep : {k : _} (row : Row_of-Stmt k) (n : ℕ) (a : ℤ) (count : ℕ) (m : Memory) → length (first_turns (turn (run_row row n)) a count m).store.scalars ≡ length m.scalars
turns_deep row n a count m = ap (λ r. length r.store.scalars) (turns_at _ row n a count m) ∙ turns_depth (items-the_row-Stmt _ row) n a count m

-- the index of an inner loop joins
declared_fits : (v : ℤ) (x : Use) (n : ℕ) (m : Memory) → IsI64 v → AreI64 m → AreI64 (declare v m)
declared_fits v x n m fits h = run_fits (Let x (Number v)) fits n m h

pub index_ranged : (id x : ℕ) (r : Range) (ranges : ℕ → Range) (v w : ℤ) (b : Bool) → (id == x) ≡ b → (b ≡ true → Holds r v) → (b ≡ false → Holds (ranges id) v) → Holds (if b then r else ranges id) v
index_ranged id x r ranges v w true e h g = h refl
index_ranged id x r ranges v w false e h g = g refl

pub other_is : (id x : ℕ) (rest : Bool) (b : Bool) → (id == x) ≡ b → b ≡ false → (if b then true else rest) ≡ true → rest ≡ true
other_is id x rest true e f h = cc
other_is id x rest false e f h = h

joined_there : (id x depth : ℕ) (names : List ℕ) (b : Bool) → (id == x) ≡ b → x ≡ depth → (among id names ≡ true → id < depth) → (if b then true else among id names) ≡ true → id < depth + 1
joined_there id x depth names true e at h k = let same : id ≡ x = ids_same id x e in omega (arith, same, at)
joined_there id x depth names false e at h k = omega (arith, h k)

pub index_within : (entry : Memory) (names : List ℕ) (ranges : ℕ → Range) (m : Memory) (x : Use) (r : Range) (v : ℤ) → IsWithin entry names ranges m → x.id ≡ length m.scalars → IsI64 v → Holds r v
    → IsWithin entry (x.id ∷ names) (with_range x.id r ranges) (declare v m)
index_within entry names ranges m x r v w at fits held = record {
  numbers = declared_fits v x 0 m fits w.numbers;
  sizes = w.sizes;
  there = λ id e. subst (λ d. id < d) (sym (length-append m.scalars (v ∷ []))) (joined_there id x.id (length m.scalars) names (id == x.id) refl at (w.there id) e);
  ranged = λ id e. index_ranged id x.id r ranges (scalar_at (declare v m) id) v (id == x.id) refl (λ same. subst (Holds r) (sym (ap (scalar_at (declare v m)) (ids_same id x.id same ∙ at) ∙ get_or-append_seam m.scalars v [] (pos 0))) held) (λ other. let among_others : among id names ≡ true = other_is id x.id (among id names) (id == x.id) refl other e in subst (Holds (ranges id)) (sym (get_or_append_left m.scalars (v ∷ []) (pos 0) id (w.there id among_others))) (w.ranged id among_others));
}

-- the numbers of an inner loop's index
index_between : (a b : ℤ) (k : ℕ) → k < int_gap a b → (a ≤ℤ (a +ℤ pos k)) × ((a +ℤ pos k) <ℤ b)
index_between (pos a) (pos b) k h = (omega (arith, ints, h), omega (arith, ints, h))
index_between (pos a) (negsuc b) k h = absurd (omega (arith, h))
index_between (negsuc a) (pos b) k h = (omega (arith, ints, h), omega (arith, ints, h))
index_between (negsuc a) (negsuc b) k h = (omega (arith, ints, h), omega (arith, ints, h))

gap_most : (a b : ℤ) (n : ℕ) → (b -ℤ a) ≤ℤ pos n → int_gap a b ≤ n
gap_most (pos a) (pos b) n h = omega (arith, ints, h)
gap_most (pos a) (negsuc b) n h = omega arith
gap_most (negsuc a) (pos b) n h = omega (arith, ints, h)
gap_most (negsuc a) (negsuc b) n h = omega (arith, ints, h)

i64_from : (low high v : ℤ) → int_le (negsuc 9223372036854775807) low ≡ true → int_le high (pos 9223372036854775807) ≡ true → low ≤ℤ v → v ≤ℤ high → IsI64 v
i64_from low high v e d h g = omega (arith, ints)

pub i64_in : (r : Range) (v : ℤ) → is_i64_range r ≡ true → Holds r v → IsI64 v
i64_in r v e h =
    let both = both_true (int_le (negsuc 9223372036854775807) r.low) (int_le r.high (pos 9223372036854775807)) e in
    i64_from r.low r.high v both.0 both.1 h.0 h.1

pub i64_between : (a b v : ℤ) → IsI64 a → IsI64 b → a ≤ℤ v → v <ℤ b → IsI64 v
i64_between a b v h g k j = omega (arith, ints)

-- all turns of an inner loop are done
pub turns_done : {k : _} (entry : Memory) (names : List ℕ) (ranges : ℕ → Range) (x : Use) (row : Row_of-Stmt k) (n : ℕ) (a b : ℤ) (m : Memory) → IsWithin entry names ranges m → IsRowSteady row (x.id ∷ names) → IsI64Row row → IsI64 a → IsI64 b
    → ((v : ℤ) (r : Memory) → IsWithin entry names ranges r → length r.scalars ≡ length m.scalars → a ≤ℤ v → v <ℤ b → IsDone (run_row row n (declare v r)))
    → (count : ℕ) → count ≤ int_gap a b → IsDone (first_turns (turn (run_row row n)) a count m)
turns_done entry names ranges x row n a b m w steady t of_a of_b body zero within = refl
turns_done entry names ranges x row n a b m w steady t of_a of_b body (suc count) within =
    let before = first_turns (turn (run_row row n)) a count m in
    let less : count < int_gap a b = omega (arith, within) in
    let between = index_between a b count less in
    then_done before _ (turns_done entry names ranges x row n a b m w steady t of_a of_b body count (omega (arith, within))) (body (a +ℤ pos count) before.store (turns_within entry names ranges x.id row n a b count m w steady t of_a of_b (omega (arith, within))) (turns_deep row n a count m) between.0 between.1)

-- what a loop whose bounds fit needs
pub lowest : (low v : ℤ) (a : ℤ) → low ≤ℤ a → a ≤ℤ v → low ≤ℤ v
lowest low v a h g = omega (arith, ints)

pub highest : (high b v : ℤ) → b ≤ℤ high → v <ℤ b → v ≤ℤ (high -ℤ pos 1)
highest high b v h g = omega (arith, ints)

few_turns : (low high a b : ℤ) (n : ℕ) → int_le (high -ℤ low) (pos n) ≡ true → low ≤ℤ a → b ≤ℤ high → (b -ℤ a) ≤ℤ pos n
few_turns low high a b n e h g = omega (arith, ints)

pub no_index : (low high a b v : ℤ) → int_le high low ≡ true → low ≤ℤ a → b ≤ℤ high → a ≤ℤ v → v <ℤ b → ⊥
no_index low high a b v e h g k j = omega (arith, ints)

body_fits : (low high : Range) (a b v : ℤ) (walked : Range → Bool) (none : Bool) → int_le high.high low.low ≡ none → (if none then true else walked (record { low = low.low; high = high.high -ℤ pos 1 })) ≡ true
    → Holds low a → Holds high b → a ≤ℤ v → v <ℤ b → walked (record { low = low.low; high = high.high -ℤ pos 1 }) ≡ true
body_fits low high a b v walked true e f h g k j = absurd (no_index low.low high.high a b v e h.0 g.1 k j)
body_fits low high a b v walked false e f h g k j = f

mutual
  pub stmt_done : (entry : Memory) (names : List ℕ) (ranges : ℕ → Range) (s : Stmt) (n arrays : ℕ) (m : Memory) → IsWithin entry names ranges m → IsScoped s (length m.scalars) arrays → IsSteady s names → IsI64Stmt s
      → is_calm_stmt s names ≡ true → fits_stmt s names ranges entry n ≡ true → IsDone (run s n m)
  stmt_done entry names ranges (Let x e) n arrays m w sc st t c f =
      let v = value_has entry m names ranges e w t c f in with_done (value_of e m) m (λ v. done (declare v m)) v.0 v.1 refl
  stmt_done entry names ranges (Set x e) n arrays m w sc st t c f =
      let v = value_has entry m names ranges e w t c f in with_done (value_of e m) m (λ v. done (assign x.id v m)) v.0 v.1 refl
  stmt_done entry names ranges (Fold x o e) n arrays m w sc st t c f =
      let v = value_has entry m names ranges e w t c f in with_done (value_of e m) m (λ v. done (assign x.id (join_of o (scalar_at m x.id) v) m)) v.0 v.1 refl
  stmt_done entry names ranges (Put c e) n arrays m w sc st t calm f =
      let calms = both_true (is_calm_cell c names) (is_calm_expr e names) calm in
      let fits = both_true (fits_cell c names ranges entry) (fits_expr e names ranges entry) f in
      let cell = cell_has entry m names ranges c w t.0 calms.0 fits.0 in
      let v = value_has entry m names ranges e w t.1 calms.1 fits.1 in
      with_done (cell_of c m) m (λ place. with_value (value_of e m) m (λ v. done (put_cell c.array.id place v m))) cell.0 cell.1 (with_done (value_of e m) m (λ v. done (put_cell c.array.id cell.0 v m)) v.0 v.1 refl)
  stmt_done entry names ranges (FoldPut c o e) n arrays m w sc st t calm f =
      let calms = both_true (is_calm_cell c names) (is_calm_expr e names) calm in
      let fits = both_true (fits_cell c names ranges entry) (fits_expr e names ranges entry) f in
      let cell = cell_has entry m names ranges c w t.0 calms.0 fits.0 in
      let v = value_has entry m names ranges e w t.1 calms.1 fits.1 in
      with_done (cell_of c m) m (λ place. with_value (value_of e m) m (λ v. done (put_cell c.array.id place (join_of o (cell_at m c.array.id place) v) m))) cell.0 cell.1 (with_done (value_of e m) m (λ v. done (put_cell c.array.id cell.0 (join_of o (cell_at m c.array.id cell.0) v) m)) v.0 v.1 refl)
  stmt_done entry names ranges (If' test p then_part q else_part) n arrays m w sc st t calm f =
      let calms = both_true (is_calm_expr test names) (is_calm_row then_part names && is_calm_row else_part names) calm in
      let arms = both_true (is_calm_row then_part names) (is_calm_row else_part names) calms.1 in
      let fits = both_true (fits_expr test names ranges entry) (fits_row then_part names ranges entry n && fits_row else_part names ranges entry n) f in
      let fit = both_true (fits_row then_part names ranges entry n) (fits_row else_part names ranges entry n) fits.1 in
      let v = value_has entry m names ranges test w t.0 calms.0 fits.0 in
      with_done (value_of test m) m (λ v. if is_zero v then block (run_row else_part n) m else block (run_row then_part n) m) v.0 v.1 (if_done (is_zero v.0) (block (run_row else_part n) m) (block (run_row then_part n) m) (row_done entry names ranges else_part n arrays m w sc.2 st.1 t.2 arms.1 fit.1) (row_done entry names ranges then_part n arrays m w sc.1 st.0 t.1 arms.0 fit.0))
  stmt_done entry names ranges (While' test p body at) n arrays m w sc st t calm f = cc
  stmt_done entry names ranges (For' x low high p body seq at) n arrays m w sc st t calm fit =
      let walked = λ (r : Range). fits_row body (x.id ∷ names) (with_range x.id r ranges) entry n in
      let lows = found_index (form_of low names) (λ f. if_form (form_of high names) (λ g. fits_turns (form_range ranges f) (form_range ranges g) n walked)) fit in
      let f = lows.0 in
      let highs = found_index (form_of high names) (λ g. fits_turns (form_range ranges f) (form_range ranges g) n walked) lows.2 in
      let g = highs.0 in
      let lo = form_range ranges f in
      let hi = form_range ranges g in
      let f1 = both_true (is_i64_range lo) _ highs.2 in
      let f2 = both_true (is_i64_range hi) _ f1.1 in
      let f3 = both_true (int_le (hi.high -ℤ lo.low) (pos n)) _ f2.1 in
      let c1 = both_true (is_some (form_of low names)) _ calm in
      let c2 = both_true (is_some (form_of high names)) _ c1.1 in
      let a = form_at (scalar_at m) f in
      let b = form_at (scalar_at m) g in
      let in_lo = form_ranged low names ranges f (scalar_at m) lows.1 w.ranged in
      let in_hi = form_ranged high names ranges g (scalar_at m) highs.1 w.ranged in
      let of_a = i64_in lo a f1.0 in_lo in
      let of_b = i64_in hi b f2.0 in_hi in
      let value_a = exact_value low names m f lows.1 t.0 w.numbers of_a in
      let value_b = exact_value high names m g highs.1 t.1 w.numbers of_b in
      let enough = gap_most a b n (few_turns lo.low hi.high a b n f3.0 in_lo.0 in_hi.1) in
      let all = all_turns at (turn (run_row body n)) a (int_gap a b) n m enough in
      let turns = turns_done entry names ranges x body n a b m w st t.2 of_a of_b (λ v r w2 deep from to. row_done entry (x.id ∷ names) (with_range x.id (record { low = lo.low; high = hi.high -ℤ pos 1 }) ranges) body n arrays (declare v r) (index_within entry names ranges r x (record { low = lo.low; high = hi.high -ℤ pos 1 }) v w2 (sc.0 ∙ sym deep) (i64_between a b v of_a of_b from to) (lowest lo.low v a in_lo.0 from, highest hi.high b v in_hi.1 to)) (subst (λ d. IsRowScoped body d arrays) (ap (λ d. d + 1) (sym deep) ∙ sym (length-append r.scalars (v ∷ []))) sc.3) st t.2 c2.1 (body_fits lo hi a b v walked (int_le hi.high lo.low) refl f3.1 in_lo in_hi from to)) (int_gap a b) (omega arith) in
      with_done (value_of low m) m (λ a. with_value (value_of high m) m (λ b. for_turns at (turn (run_row body n)) a (int_gap a b) n m)) a value_a (with_done (value_of high m) m (λ b. for_turns at (turn (run_row body n)) a (int_gap a b) n m) b value_b (subst IsDone (sym all) turns))
  stmt_done entry names ranges (Print e at) n arrays m w sc st t c f =
      let v = value_has entry m names ranges e w t c f in with_done (value_of e m) m (λ v. done (print v m)) v.0 v.1 refl

  pub row_done : {k : _} (entry : Memory) (names : List ℕ) (ranges : ℕ → Range) (row : Row_of-Stmt k) (n arrays : ℕ) (m : Memory) → IsWithin entry names ranges m → IsRowScoped row (length m.scalars) arrays → IsRowSteady row names → IsI64Row row
      → is_calm_row row names ≡ true → fits_row row names ranges entry n ≡ true → IsDone (run_row row n m)
  row_done entry names ranges end_of-Stmt n arrays m w sc st t c f = refl
  row_done entry names ranges (more_of-Stmt s rest) n arrays m w sc st t c f =
      let calms = both_true (is_calm_stmt s names) (is_calm_row rest names) c in
      let fits = both_true (fits_stmt s names ranges entry n) (fits_row rest names ranges entry n) f in
      let here = stmt_done entry names ranges s n arrays m w sc.0 st.0 t.0 calms.0 fits.0 in
      then_done (run s n m) (run_row rest n) here (row_done entry names ranges rest n arrays (run s n m).store (run_within entry names ranges s n m w st.0 t.0) (subst (λ d. IsRowScoped rest d arrays) (sym (depth_where_done s n m here)) sc.1) st.1 t.1 calms.1 fits.1)
