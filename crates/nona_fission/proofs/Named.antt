-- What a unit's deeds name is named in its text, and it prints only where its text does.
use Rattle.std.proofs.Common.{◌≡◌, ℕ, suc, Bool, true, false, ◌||◌, List, [], ◌∷◌, ◌++◌, map, refl, sym, ap, ◌∙◌, subst, arith, zero, ℤ, pos, ◌+ℤ◌, if◌then◌else◌}
use Rattle.std.specs.Prelude.{min, Some, None, Result, Ok, Err}
use Rattle.std.specs.Int.{int_gap}
use Rattle.std.specs.List.{AllByRecursion, Contains}
use Rattle.std.specs.declared.option.Option.{Option}
use Rattle.std.proofs.lemmas.List.{map-append}
use Rattle.std.proofs.lemmas.List.Elements.{Contains-append_left, Contains-append_right}
use Rattle.nona_num.specs.declared.folds.Fold.{Fold}
use Rattle.nona_tree.specs.Beside.{on_ok, on_end, while_gives, first_give}
use Rattle.nona_tree.specs.declared.outcomes.Trap.{Trap}
use Rattle.nona_tree.specs.declared.outcomes.Outcome.{Outcome}
use Rattle.nona_tree.specs.declared.outcomes.Outcome.TheVariants as outcome
use Rattle.nona_tree.specs.declared.trees.Access.{Access}
use Rattle.nona_tree.specs.declared.trees.Expr.{Expr, Number, Scalar, Cell', Len, Neg', Not', Binary', more_of-Expr, end_of-Expr}
use Rattle.nona_tree.specs.declared.trees.Expr.TheBlock.{more_of-Access, end_of-Access}
use Rattle.nona_tree.specs.declared.trees.Stmt.{Stmt, Let, Set, Fold as FoldInto, Put, FoldPut, If', While', For', Print, Row_of-Stmt, end_of-Stmt, more_of-Stmt}
use Rattle.nona_tree.specs.Deeds.{Deed, reads, sets, folds, loads, stores, joins, prints, value_deeds, value_then, cell_then, deeds, deeds_row}
use Rattle.nona_tree.specs.Memory.{Memory, declare}
use Rattle.nona_tree.specs.Run.{block, turn, run, run_row, Ran, first_turns}
use Rattle.nona_tree.specs.Value.{is_zero, value_of, cell_of, Answer}
use Rattle.nona_forms.specs.References.{Inner, Reference, expr_references, inside, references, references_row, assigned, assigned_row}
use Rattle.nona_forms.proofs.Sound.{all_of_two}
use Rattle.nona_plans.specs.declared.graphs.Mention.{Mention}
use Rattle.nona_plans.specs.Mentions.{plainly, expr_mentions, mentions, mentions_row, prints as has_print, prints_row}
use Rattle.nona_plans.specs.Units.{arrays_in}
use Rattle.nona_fission.proofs.Untied.{in_map}
use Rattle.nona_fission.specs.FoldArrays.{expr_cell_mentions, cell_mentions, cell_mentions_row}

-- lists of deeds, whatever store they come from
pub ok_all : {A : Type 0} (P : Deed → Type 0) (o : Result A Trap) (go : A → List Deed) → ((a : A) → AllByRecursion P (go a)) → AllByRecursion P (on_ok o go)
ok_all P (Ok a) go h = h a
ok_all P (Err t) go h = tt

pub end_all : (P : Deed → Type 0) (m : Memory) (e : Outcome) (go : Memory → List Deed) → ((r : Memory) → AllByRecursion P (go r)) → AllByRecursion P (on_end m e go)
end_all P m outcome.Done go h = h m
end_all P m (outcome.Trap t) go h = tt
end_all P m (outcome.OutOfTurns at) go h = tt

pub if_all : (P : Deed → Type 0) (b : Bool) (xs ys : List Deed) → AllByRecursion P xs → AllByRecursion P ys → AllByRecursion P (if b then xs else ys)
if_all P true xs ys h g = h
if_all P false xs ys h g = g

pub while_all : (P : Deed → Type 0) (test : Memory → Answer) (asked : Memory → List Deed) (body : Memory → Ran) (given : Memory → List Deed)
    → ((m : Memory) → AllByRecursion P (asked m)) → ((m : Memory) → AllByRecursion P (given m)) → (n : ℕ) (m : Memory) → AllByRecursion P (while_gives test asked body given n m)
while_all P test asked body given h g zero m = h m
while_all P test asked body given h g (suc n) m =
    all_of_two P (asked m) _ (h m) (ok_all P (test m) _ (λ v. if_all P (is_zero v) [] _ tt (all_of_two P (given m) _ (g m) (end_all P (body m).store (body m).end _ (λ r. while_all P test asked body given h g n r)))))

pub first_all : (P : Deed → Type 0) (body : ℤ → Memory → Ran) (given : ℤ → Memory → List Deed) (low : ℤ) → ((i : ℤ) (m : Memory) → AllByRecursion P (given i m)) → (k : ℕ) (m : Memory) → AllByRecursion P (first_give body given low k m)
first_all P body given low h zero m = tt
first_all P body given low h (suc k) m =
    all_of_two P (first_give body given low k m) _ (first_all P body given low h k m) (end_all P (first_turns body low k m).store (first_turns body low k m).end (given (low +ℤ pos k)) (λ r. h (low +ℤ pos k) r))

-- what a text names: scalars, those that it assigns, and arrays by their cells; and whether it prints
pub record Text : Type 0 where
  pub scalars : List Mention
  pub assigned : List ℕ
  pub cells : List Mention
  pub printing : Bool

-- a deed of such a text
abbrev pub IsNamedIn : Text → Deed → Type 0
IsNamedIn x (reads id) = Contains x.scalars (plainly id)
IsNamedIn x (sets id) = Contains x.scalars (plainly id) × Contains x.assigned id
IsNamedIn x (folds f id) = Contains x.scalars (record { id = id; by = Some f }) × Contains x.assigned id
IsNamedIn x (loads a p) = Contains x.cells (plainly a)
IsNamedIn x (stores a p) = Contains x.cells (plainly a)
IsNamedIn x (joins f a p) = Contains x.cells (record { id = a; by = Some f })
IsNamedIn x prints = x.printing ≡ true

abbrev AreIn : {A : Type 0} → List A → List A → Type 0
AreIn {A} xs all = (x : A) → Contains xs x → Contains all x

left_in : {A : Type 0} (xs ys all : List A) → AreIn (xs ++ ys) all → AreIn xs all
left_in xs ys all h x c = h x (Contains-append_left xs ys x c)

right_in : {A : Type 0} (xs ys all : List A) → AreIn (xs ++ ys) all → AreIn ys all
right_in xs ys all h x c = h x (Contains-append_right xs ys x c)

head_in : {A : Type 0} (x : A) (xs all : List A) → AreIn (x ∷ xs) all → Contains all x
head_in x xs all h = h x (0, omega arith, refl)

tail_in : {A : Type 0} (x : A) (xs all : List A) → AreIn (x ∷ xs) all → AreIn xs all
tail_in x xs all h y (k, within, is) = h y (suc k, omega (arith, within), is)

-- a printing part makes the whole a printing one
abbrev Prints : Bool → Text → Type 0
Prints b x = b ≡ true → x.printing ≡ true

either_left : (a b : Bool) (x : Text) → Prints (a || b) x → Prints a x
either_left true b x h e = h refl
either_left false b x h e = cc

either_right : (a b : Bool) (x : Text) → Prints (a || b) x → Prints b x
either_right true b x h e = h refl
either_right false b x h e = h e

expr_named : (t : Text) (e : Expr) (m : Memory) → AreIn (expr_mentions e) t.scalars → AreIn (expr_cell_mentions e) t.cells → AllByRecursion (IsNamedIn t) (value_deeds e m)
expr_named t (Number v) m sub arr = tt
expr_named t (Scalar x) m sub arr = (head_in (plainly x.id) [] t.scalars sub, tt)
expr_named t (Cell' p (more_of-Access array wrap index end_of-Access)) m sub arr =
    all_of_two (IsNamedIn t) (value_deeds index m) _ (expr_named t index m sub (tail_in (plainly array.id) (expr_cell_mentions index) t.cells arr))
    (ok_all (IsNamedIn t) (cell_of (record { array = array; wrap = wrap; index = index }) m) _ (λ place. (head_in (plainly array.id) (expr_cell_mentions index) t.cells arr, tt)))
expr_named t (Len a) m sub arr = tt
expr_named t (Neg' p (more_of-Expr e end_of-Expr)) m sub arr = expr_named t e m sub arr
expr_named t (Not' p (more_of-Expr e end_of-Expr)) m sub arr = expr_named t e m sub arr
expr_named t (Binary' op at p (more_of-Expr left end_of-Expr) q (more_of-Expr right end_of-Expr)) m sub arr =
    all_of_two (IsNamedIn t) (value_deeds left m) _ (expr_named t left m (left_in (expr_mentions left) (expr_mentions right) t.scalars sub) (left_in (expr_cell_mentions left) (expr_cell_mentions right) t.cells arr))
    (ok_all (IsNamedIn t) (value_of left m) _ (λ v. expr_named t right m (right_in (expr_mentions left) (expr_mentions right) t.scalars sub) (right_in (expr_cell_mentions left) (expr_cell_mentions right) t.cells arr)))

then_named : (t : Text) (e : Expr) (m : Memory) (deed : Deed) → AreIn (expr_mentions e) t.scalars → AreIn (expr_cell_mentions e) t.cells → IsNamedIn t deed → AllByRecursion (IsNamedIn t) (value_then e m deed)
then_named t e m deed sub arr here =
    all_of_two (IsNamedIn t) (value_deeds e m) _ (expr_named t e m sub arr) (ok_all (IsNamedIn t) (value_of e m) _ (λ v. (here, tt)))

cell_named : (t : Text) (c : Access) (by : Option Fold) (e : Expr) (m : Memory) (deed : ℕ → Deed) → AreIn (expr_mentions c.index ++ expr_mentions e) t.scalars → AreIn (record { id = c.array.id; by = by } ∷ (expr_cell_mentions c.index ++ expr_cell_mentions e)) t.cells
    → ((place : ℕ) → Contains t.cells (record { id = c.array.id; by = by }) → IsNamedIn t (deed place)) → AllByRecursion (IsNamedIn t) (cell_then c e m deed)
cell_named t c by e m deed sub arr here =
    let both = tail_in (record { id = c.array.id; by = by }) (expr_cell_mentions c.index ++ expr_cell_mentions e) t.cells arr in
    all_of_two (IsNamedIn t) (value_deeds c.index m) _ (expr_named t c.index m (left_in (expr_mentions c.index) (expr_mentions e) t.scalars sub) (left_in (expr_cell_mentions c.index) (expr_cell_mentions e) t.cells both))
    (ok_all (IsNamedIn t) (cell_of c m) _ (λ place. then_named t e m (deed place) (right_in (expr_mentions c.index) (expr_mentions e) t.scalars sub) (right_in (expr_cell_mentions c.index) (expr_cell_mentions e) t.cells both) (here place (head_in (record { id = c.array.id; by = by }) (expr_cell_mentions c.index ++ expr_cell_mentions e) t.cells arr))))

mutual
  stmt_named : (t : Text) (s : Stmt) (n : ℕ) (m : Memory) → AreIn (mentions s) t.scalars → AreIn (assigned s) t.assigned → AreIn (cell_mentions s) t.cells → Prints (has_print s) t → AllByRecursion (IsNamedIn t) (deeds s n m)
  stmt_named t (Let x e) n m sub set arr p = expr_named t e m (tail_in (plainly x.id) (expr_mentions e) t.scalars sub) arr
  stmt_named t (Set x e) n m sub set arr p =
      then_named t e m (sets x.id) (tail_in (plainly x.id) (expr_mentions e) t.scalars sub) arr (head_in (plainly x.id) (expr_mentions e) t.scalars sub, head_in x.id [] t.assigned set)
  stmt_named t (FoldInto x f e) n m sub set arr p =
      then_named t e m (folds f x.id) (tail_in (record { id = x.id; by = Some f }) (expr_mentions e) t.scalars sub) arr (head_in (record { id = x.id; by = Some f }) (expr_mentions e) t.scalars sub, head_in x.id [] t.assigned set)
  stmt_named t (Put c e) n m sub set arr p = cell_named t c None e m (stores c.array.id) sub arr (λ place here. here)
  stmt_named t (FoldPut c f e) n m sub set arr p = cell_named t c (Some f) e m (joins f c.array.id) sub arr (λ place here. here)
  stmt_named t (If' test p then_part q else_part) n m sub set arr pr =
      let parts = right_in (expr_mentions test) (mentions_row then_part ++ mentions_row else_part) t.scalars sub in
      let cells = right_in (expr_cell_mentions test) (cell_mentions_row then_part ++ cell_mentions_row else_part) t.cells arr in
      all_of_two (IsNamedIn t) (value_deeds test m) _ (expr_named t test m (left_in (expr_mentions test) (mentions_row then_part ++ mentions_row else_part) t.scalars sub) (left_in (expr_cell_mentions test) (cell_mentions_row then_part ++ cell_mentions_row else_part) t.cells arr))
      (ok_all (IsNamedIn t) (value_of test m) _ (λ v. if_all (IsNamedIn t) (is_zero v) _ _
      (row_named t else_part n m (right_in (mentions_row then_part) (mentions_row else_part) t.scalars parts) (right_in (assigned_row then_part) (assigned_row else_part) t.assigned set) (right_in (cell_mentions_row then_part) (cell_mentions_row else_part) t.cells cells) (either_right (prints_row then_part) (prints_row else_part) t pr))
      (row_named t then_part n m (left_in (mentions_row then_part) (mentions_row else_part) t.scalars parts) (left_in (assigned_row then_part) (assigned_row else_part) t.assigned set) (left_in (cell_mentions_row then_part) (cell_mentions_row else_part) t.cells cells) (either_left (prints_row then_part) (prints_row else_part) t pr))))
  stmt_named t (While' test p body at) n m sub set arr pr =
      while_all (IsNamedIn t) (value_of test) (value_deeds test) (block (run_row body n)) (deeds_row body n)
      (λ r. expr_named t test r (left_in (expr_mentions test) (mentions_row body) t.scalars sub) (left_in (expr_cell_mentions test) (cell_mentions_row body) t.cells arr))
      (λ r. row_named t body n r (right_in (expr_mentions test) (mentions_row body) t.scalars sub) set (right_in (expr_cell_mentions test) (cell_mentions_row body) t.cells arr) pr) n m
  stmt_named t (For' x low high p body seq at) n m sub set arr pr =
      let bounds = tail_in (plainly x.id) (expr_mentions low ++ (expr_mentions high ++ mentions_row body)) t.scalars sub in
      let rest = right_in (expr_mentions low) (expr_mentions high ++ mentions_row body) t.scalars bounds in
      let cells = right_in (expr_cell_mentions low) (expr_cell_mentions high ++ cell_mentions_row body) t.cells arr in
      let inner = right_in (expr_cell_mentions high) (cell_mentions_row body) t.cells cells in
      all_of_two (IsNamedIn t) (value_deeds low m) _ (expr_named t low m (left_in (expr_mentions low) (expr_mentions high ++ mentions_row body) t.scalars bounds) (left_in (expr_cell_mentions low) (expr_cell_mentions high ++ cell_mentions_row body) t.cells arr))
      (ok_all (IsNamedIn t) (value_of low m) _ (λ a. all_of_two (IsNamedIn t) (value_deeds high m) _ (expr_named t high m (left_in (expr_mentions high) (mentions_row body) t.scalars rest) (left_in (expr_cell_mentions high) (cell_mentions_row body) t.cells cells))
      (ok_all (IsNamedIn t) (value_of high m) _ (λ b. first_all (IsNamedIn t) (turn (run_row body n)) (λ i r. deeds_row body n (declare i r)) a
      (λ i r. row_named t body n (declare i r) (right_in (expr_mentions high) (mentions_row body) t.scalars rest) set inner pr) (min (int_gap a b) n) m))))
  stmt_named t (Print e at) n m sub set arr pr = then_named t e m prints sub arr (pr refl)

  row_named : {k : _} (t : Text) (row : Row_of-Stmt k) (n : ℕ) (m : Memory) → AreIn (mentions_row row) t.scalars → AreIn (assigned_row row) t.assigned → AreIn (cell_mentions_row row) t.cells → Prints (prints_row row) t → AllByRecursion (IsNamedIn t) (deeds_row row n m)
  row_named t end_of-Stmt n m sub set arr pr = tt
  row_named t (more_of-Stmt s rest) n m sub set arr pr =
      all_of_two (IsNamedIn t) (deeds s n m) _ (stmt_named t s n m (left_in (mentions s) (mentions_row rest) t.scalars sub) (left_in (assigned s) (assigned_row rest) t.assigned set) (left_in (cell_mentions s) (cell_mentions_row rest) t.cells arr) (either_left (has_print s) (prints_row rest) t pr))
      (end_all (IsNamedIn t) (run s n m).store (run s n m).end (deeds_row rest n) (λ r. row_named t rest n r (right_in (mentions s) (mentions_row rest) t.scalars sub) (right_in (assigned s) (assigned_row rest) t.assigned set) (right_in (cell_mentions s) (cell_mentions_row rest) t.cells arr) (either_right (has_print s) (prints_row rest) t pr)))

-- the text of a statement
abbrev pub text_of : Stmt → Text
text_of s = record { scalars = mentions s; assigned = assigned s; cells = cell_mentions s; printing = has_print s }

pub deeds_named : (s : Stmt) (n : ℕ) (m : Memory) → AllByRecursion (IsNamedIn (text_of s)) (deeds s n m)
deeds_named s n m = stmt_named (text_of s) s n m (λ x c. c) (λ x c. c) (λ x c. c) (λ e. e)

-- the arrays of which a text names cells are those of its accesses

abbrev ids_of : List Mention → List ℕ
ids_of ms = map (λ (m : Mention). m.id) ms

abbrev arrays_of : List Reference → List ℕ
arrays_of xs = map (λ (x : Reference). x.access.array.id) xs

both_arrays : (ms ns : List Mention) (xs ys : List Reference) → ids_of ms ≡ arrays_of xs → ids_of ns ≡ arrays_of ys → ids_of (ms ++ ns) ≡ arrays_of (xs ++ ys)
both_arrays ms ns xs ys e g = map-append (λ (m : Mention). m.id) ms ns ∙ (λ i. e i ++ g i) ∙ sym (map-append (λ (x : Reference). x.access.array.id) xs ys)

arrays_inside : (l : Inner) (xs : List Reference) → arrays_of (map (inside l) xs) ≡ arrays_of xs
arrays_inside l [] = refl
arrays_inside l (x ∷ xs) = ap (λ zs. x.access.array.id ∷ zs) (arrays_inside l xs)

expr_arrays : (e : Expr) → ids_of (expr_cell_mentions e) ≡ arrays_of (expr_references e)
expr_arrays (Number v) = refl
expr_arrays (Scalar x) = refl
expr_arrays (Cell' p (more_of-Access array wrap index end_of-Access)) = ap (λ zs. array.id ∷ zs) (expr_arrays index)
expr_arrays (Len a) = refl
expr_arrays (Neg' p (more_of-Expr e end_of-Expr)) = expr_arrays e
expr_arrays (Not' p (more_of-Expr e end_of-Expr)) = expr_arrays e
expr_arrays (Binary' op at p (more_of-Expr left end_of-Expr) q (more_of-Expr right end_of-Expr)) =
    both_arrays (expr_cell_mentions left) (expr_cell_mentions right) (expr_references left) (expr_references right) (expr_arrays left) (expr_arrays right)

mutual
  stmt_arrays : (s : Stmt) → ids_of (cell_mentions s) ≡ arrays_of (references s)
  stmt_arrays (Let x e) = expr_arrays e
  stmt_arrays (Set x e) = expr_arrays e
  stmt_arrays (FoldInto x f e) = expr_arrays e
  stmt_arrays (Put c e) = ap (λ zs. c.array.id ∷ zs) (both_arrays (expr_cell_mentions c.index) (expr_cell_mentions e) (expr_references c.index) (expr_references e) (expr_arrays c.index) (expr_arrays e))
  stmt_arrays (FoldPut c f e) = ap (λ zs. c.array.id ∷ zs) (both_arrays (expr_cell_mentions c.index) (expr_cell_mentions e) (expr_references c.index) (expr_references e) (expr_arrays c.index) (expr_arrays e))
  stmt_arrays (If' test p then_part q else_part) =
      both_arrays (expr_cell_mentions test) (cell_mentions_row then_part ++ cell_mentions_row else_part) (expr_references test) (references_row then_part ++ references_row else_part) (expr_arrays test)
      (both_arrays (cell_mentions_row then_part) (cell_mentions_row else_part) (references_row then_part) (references_row else_part) (row_arrays then_part) (row_arrays else_part))
  stmt_arrays (While' test p body at) = both_arrays (expr_cell_mentions test) (cell_mentions_row body) (expr_references test) (references_row body) (expr_arrays test) (row_arrays body)
  stmt_arrays (For' x low high p body seq at) =
      let l : Inner = record { id = x.id; low = low; high = high } in
      both_arrays (expr_cell_mentions low) (expr_cell_mentions high ++ cell_mentions_row body) (expr_references low) (expr_references high ++ map (inside l) (references_row body)) (expr_arrays low)
      (both_arrays (expr_cell_mentions high) (cell_mentions_row body) (expr_references high) (map (inside l) (references_row body)) (expr_arrays high) (row_arrays body ∙ sym (arrays_inside l (references_row body))))
  stmt_arrays (Print e at) = expr_arrays e

  row_arrays : {k : _} (row : Row_of-Stmt k) → ids_of (cell_mentions_row row) ≡ arrays_of (references_row row)
  row_arrays end_of-Stmt = refl
  row_arrays (more_of-Stmt s rest) = both_arrays (cell_mentions s) (cell_mentions_row rest) (references s) (references_row rest) (stmt_arrays s) (row_arrays rest)

pub cell_named_in : (s : Stmt) (m : Mention) → Contains (cell_mentions s) m → Contains (arrays_in s) m.id
cell_named_in s m c = subst (λ xs. Contains xs m.id) (stmt_arrays s) (in_map (λ (z : Mention). z.id) (cell_mentions s) m c)
