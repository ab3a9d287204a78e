-- Each deed of an iteration on a cell is of an access that touches it.
use Rattle.std.proofs.Common.{◌≡◌, ℕ, zero, suc, ◌<◌, ◌≤◌, ◌+◌, Bool, true, false, ℤ, pos, negsuc, ◌+ℤ◌, ◌≤ℤ◌, ◌<ℤ◌, List, [], ◌∷◌, ◌++◌, length, map, refl, sym, ap, ◌∙◌, subst, arith, if◌then◌else◌, length-append}
use Rattle.std.proofs.Math.ListN.{get_or-map}
use Rattle.std.proofs.lemmas.Int.{ints}
use Rattle.std.proofs.lemmas.List.{get_or-take, get_or_append_left, get_or-append-add}
use Rattle.std.proofs.lemmas.List.Elements.{All-from_recursion, All-take, Contains-append_left, Contains-append_right}
use Rattle.std.specs.Int.{int_gap}
use Rattle.std.specs.List.{AllByRecursion, Contains}
use Rattle.std.specs.Prelude.{All, Result, Ok, Err, min, slice_index_or}
use Rattle.nona_tree.specs.declared.names.Use.{Use}
use Rattle.nona_tree.specs.declared.outcomes.Trap.{Trap}
use Rattle.nona_tree.specs.declared.outcomes.Outcome.{Outcome}
use Rattle.nona_tree.specs.declared.outcomes.Outcome.TheVariants as outcome
use Rattle.nona_tree.specs.declared.trees.Access.{Access}
use Rattle.nona_tree.specs.declared.trees.Expr.{Expr, Number, Scalar, Cell', Len, Neg', Not', Binary', more_of-Expr, end_of-Expr}
use Rattle.nona_tree.specs.declared.trees.Expr.TheBlock.{more_of-Access, end_of-Access}
use Rattle.nona_tree.specs.declared.trees.Loop.{Loop}
use Rattle.nona_tree.specs.declared.trees.Stmt.{Stmt, Let, Set, Fold, Put, FoldPut, If', While', For', For, Print, Row_of-Stmt, end_of-Stmt, more_of-Stmt, items-the_row-Stmt, items_hidden-the_row-Stmt-0}
use Rattle.nona_tree.specs.declared.trees.Stmt.TheBlock.{hidden-the_row-Stmt-0}
use Rattle.nona_tree.specs.Beside.{on_ok, on_end, while_gives, first_give}
use Rattle.nona_tree.specs.Deeds.{Deed, loads, stores, joins, sets, folds, prints, value_deeds, value_then, cell_then, deeds, deeds_row, deeds_all, SameSizes}
use Rattle.nona_tree.specs.Entries.{Entry, after}
use Rattle.nona_tree.specs.Memory.{Memory, scalar_at, declare, cut_to}
use Rattle.nona_tree.specs.Numbers.{IsI64, IsI64Stmt, IsI64Row}
use Rattle.nona_tree.specs.Run.{Ran, then_from, then_do, block, turn, first_turns, run, run_row, run_all}
use Rattle.nona_tree.specs.Scope.{IsScoped, IsRowScoped, IsSteady, IsRowSteady, AreSteady, is_let, depth_after}
use Rattle.nona_tree.specs.Value.{Answer, is_zero, value_of, cell_of}
use Rattle.nona_tree.proofs.BesideEquations.{deeds_body}
use Rattle.nona_tree.proofs.Depth.{depth_where_done}
use Rattle.nona_tree.proofs.Equations.{run_body}
use Rattle.nona_tree.proofs.I64.{value_fits, run_fits, row_fits}
use Rattle.nona_tree.proofs.Keeps.{SameArrays, arrays_kept, NoFewer, scalars_kept, cut_length, run_kept, row_kept}
use Rattle.nona_tree.proofs.Steady.{unassigned_stays, all_unassigned_stays}
use Rattle.nona_forms.specs.Affine.{among}
use Rattle.nona_forms.specs.References.{Inner, Reference, Fixed, HasValue, IsStoreWith, as_in, IsPossible, given_in, expr_references, written_references, inside, references, references_row, references_all, assigned_all, missing_below, invariants_of}
use Rattle.nona_forms.specs.Separate.{IsLoopEntry}
use Rattle.nona_forms.specs.Touched.{MayBegin, IsOfAccess}
use Rattle.nona_forms.proofs.Exact.{fits_found}
use Rattle.nona_forms.proofs.Sound.{all_of_two}
use Rattle.nona_forms.proofs.Steadier.{steady_row_more, missing, assigned_body}

-- what is given holds on

abbrev ids_of : List Fixed → List ℕ
ids_of fixed = map (λ (x : Fixed). x.id) fixed

abbrev AreBelow : ℕ → List Fixed → Type 0
AreBelow depth fixed = AllByRecursion (λ (x : Fixed). x.id < depth) fixed

below_more : (depth more : ℕ) (fixed : List Fixed) → depth ≤ more → AreBelow depth fixed → AreBelow more fixed
below_more depth more [] h g = tt
below_more depth more (x ∷ fixed) h g = (omega (arith, h, g.0), below_more depth more fixed h g.1)

-- a store in which given values hold, with so many scalars, more than the ids of those that are given
record IsStood (entry : Memory) (fixed : List Fixed) (depth : ℕ) (m : Memory) : Type 0 where
  such : IsStoreWith entry fixed m
  below : AreBelow depth fixed
  deep : length m.scalars ≡ depth

sizes_kept : (m r : Memory) → SameArrays m r → SameSizes m r
sizes_kept m r h a =
    sym (get_or-map length r.arrays a []) ∙ ap (λ xs. slice_index_or xs a 0) h ∙ get_or-map length m.arrays a []

contained_more : (x id : ℕ) (ids : List ℕ) → Contains ids id → Contains (x ∷ ids) id
contained_more x id ids (k, within, is) = (suc k, omega (arith, within), is)

values_kept : (fixed : List Fixed) (depth : ℕ) (m r : Memory) → AreBelow depth fixed → ((id : ℕ) → Contains (ids_of fixed) id → id < depth → scalar_at r id ≡ scalar_at m id)
    → AllByRecursion (HasValue m) fixed → AllByRecursion (HasValue r) fixed
values_kept [] depth m r below same h = tt
values_kept (x ∷ fixed) depth m r below same h =
    (same x.id (0, omega arith, refl) below.0 ∙ h.0, values_kept fixed depth m r below.1 (λ id c there. same id (contained_more x.id id (ids_of fixed) c) there) h.1)

run_such : (entry : Memory) (fixed : List Fixed) (depth : ℕ) (s : Stmt) (n : ℕ) (m : Memory) → IsSteady s (ids_of fixed) → IsI64Stmt s → IsStood entry fixed depth m → IsStoreWith entry fixed (run s n m).store
run_such entry fixed depth s n m steady t h = record {
  numbers = run_fits s t n m h.such.numbers;
  sizes = λ a. sizes_kept m (run s n m).store (run_kept SameArrays arrays_kept s n m) a ∙ h.such.sizes a;
  values = values_kept fixed depth m (run s n m).store h.below (λ id c there. unassigned_stays s (ids_of fixed) id c steady n m (subst (λ d. id < d) (sym h.deep) there)) h.such.values;
}

-- a row is the list of its statements
rows_at : (k : _) (row : Row_of-Stmt k) (n : ℕ) (m : Memory) → run_row row n m ≡ run_all (items-the_row-Stmt k row) n m
rows_at k end_of-Stmt n m = refl
rows_at k (more_of-Stmt s rest) n m = ap (then_do (run s n m)) (λ i x. rows_at _ rest n x i)

steady_at : (k : _) (row : Row_of-Stmt k) (ids : List ℕ) → IsRowSteady row ids → AreSteady (items-the_row-Stmt k row) ids
steady_at k end_of-Stmt ids h = tt
steady_at k (more_of-Stmt s rest) ids h = (h.0, steady_at _ rest ids h.1)

pub row_stays : {k : _} (row : Row_of-Stmt k) (ids : List ℕ) (id : ℕ) → Contains ids id → IsRowSteady row ids → (n : ℕ) (m : Memory) → id < length m.scalars → scalar_at (run_row row n m).store id ≡ scalar_at m id
row_stays row ids id c steady n m there =
    ap (λ (r : Ran). scalar_at r.store id) (rows_at _ row n m) ∙ all_unassigned_stays (items-the_row-Stmt _ row) ids id c (steady_at _ row ids steady) n m there

row_such : {k : _} (entry : Memory) (fixed : List Fixed) (depth : ℕ) (row : Row_of-Stmt k) (n : ℕ) (m : Memory) → IsRowSteady row (ids_of fixed) → IsI64Row row → IsStood entry fixed depth m → IsStoreWith entry fixed (run_row row n m).store
row_such entry fixed depth row n m steady t h = record {
  numbers = row_fits row t n m h.such.numbers;
  sizes = λ a. sizes_kept m (run_row row n m).store (row_kept SameArrays arrays_kept row n m) a ∙ h.such.sizes a;
  values = values_kept fixed depth m (run_row row n m).store h.below (λ id c there. row_stays row (ids_of fixed) id c steady n m (subst (λ d. id < d) (sym h.deep) there)) h.such.values;
}

no_shallower : (b : Bool) (depth : ℕ) → depth ≤ (if b then depth + 1 else depth)
no_shallower true depth = omega arith
no_shallower false depth = omega arith

after_stood : (entry : Memory) (fixed : List Fixed) (depth : ℕ) (s : Stmt) (n : ℕ) (m : Memory) → IsSteady s (ids_of fixed) → IsI64Stmt s → IsStood entry fixed depth m → (run s n m).end ≡ outcome.Done
    → IsStood entry fixed (depth_after s depth) (run s n m).store
after_stood entry fixed depth s n m steady t h is_done = record {
  such = run_such entry fixed depth s n m steady t h;
  below = below_more depth (depth_after s depth) fixed (no_shallower (is_let s) depth) h.below;
  deep = depth_where_done s n m is_done ∙ ap (depth_after s) h.deep;
}

-- a block drops what it declared
cut_such : (entry : Memory) (fixed : List Fixed) (depth : ℕ) (m : Memory) → AreBelow depth fixed → IsStoreWith entry fixed m → IsStoreWith entry fixed (cut_to depth m)
cut_such entry fixed depth m below h = record {
  numbers = record { scalars = All-take IsI64 depth m.scalars h.numbers.scalars; arrays = h.numbers.arrays; printed = h.numbers.printed };
  sizes = h.sizes;
  values = values_kept fixed depth m (cut_to depth m) below (λ id c there. get_or-take depth m.scalars id (pos 0) there) h.values;
}

cut_stood : (entry : Memory) (fixed : List Fixed) (depth : ℕ) (outer m : Memory) → IsStood entry fixed depth outer → NoFewer outer m → IsStoreWith entry fixed m → IsStood entry fixed depth (cut_to (length outer.scalars) m)
cut_stood entry fixed depth outer m h more such = record {
  such = subst (λ d. IsStoreWith entry fixed (cut_to d m)) (sym h.deep) (cut_such entry fixed depth m h.below such);
  below = h.below;
  deep = cut_length outer m more ∙ h.deep;
}

block_stood : {k : _} (entry : Memory) (fixed : List Fixed) (depth : ℕ) (row : Row_of-Stmt k) (n : ℕ) (m : Memory) → IsRowSteady row (ids_of fixed) → IsI64Row row → IsStood entry fixed depth m → IsStood entry fixed depth (block (run_row row n) m).store
block_stood entry fixed depth row n m steady t h =
    cut_stood entry fixed depth m (run_row row n m).store h (row_kept NoFewer scalars_kept row n m) (row_such entry fixed depth row n m steady t h)

-- the index of an inner loop is declared behind the others
last_declared : (v : ℤ) (m : Memory) → scalar_at (declare v m) (length m.scalars) ≡ v
last_declared v m =
    ap (λ (k : ℕ). slice_index_or (m.scalars ++ v ∷ []) k (pos 0)) (omega arith) ∙ get_or-append-add m.scalars (v ∷ []) 0 (pos 0)

declared_stood : (entry : Memory) (fixed : List Fixed) (depth : ℕ) (x : Use) (v : ℤ) (m : Memory) → IsI64 v → x.id ≡ depth → IsStood entry fixed depth m
    → IsStood entry (record { id = x.id; value = v } ∷ fixed) (depth + 1) (declare v m)
declared_stood entry fixed depth x v m fits same h = record {
  such = record {
    numbers = run_fits (Let x (Number v)) fits 0 m h.such.numbers;
    sizes = h.such.sizes;
    values = (ap (scalar_at (declare v m)) (same ∙ sym h.deep) ∙ last_declared v m, values_kept fixed depth m (declare v m) h.below (λ id c there. get_or_append_left m.scalars (v ∷ []) (pos 0) id (subst (λ d. id < d) (sym h.deep) there)) h.such.values);
  };
  below = (omega (arith, same), below_more depth (depth + 1) fixed (omega arith) h.below);
  deep = omega (arith, h.deep, length-append m.scalars (v ∷ []));
}

turn_stood : {k : _} (entry : Memory) (fixed : List Fixed) (depth : ℕ) (x : Use) (row : Row_of-Stmt k) (n : ℕ) (v : ℤ) (m : Memory) → IsRowSteady row (x.id ∷ ids_of fixed) → IsI64Row row → IsI64 v → x.id ≡ depth
    → IsStood entry fixed depth m → IsStood entry fixed depth (turn (run_row row n) v m).store
turn_stood entry fixed depth x row n v m steady t fits same h =
    let deep = declared_stood entry fixed depth x v m fits same h in
    let such = row_such entry (record { id = x.id; value = v } ∷ fixed) (depth + 1) row n (declare v m) steady t deep in
    let more = row_kept NoFewer scalars_kept row n (declare v m) in
    cut_stood entry fixed depth m (run_row row n (declare v m)).store h (omega (arith, more, length-append m.scalars (v ∷ []))) (record { numbers = such.numbers; sizes = such.sizes; values = such.values.1 })

-- lists of deeds
ok_all : {A : Type 0} (P : Deed → Type 0) (o : Result A Trap) (go : A → List Deed) → ((a : A) → o ≡ Ok a → AllByRecursion P (go a)) → AllByRecursion P (on_ok o go)
ok_all P (Ok a) go h = h a refl
ok_all P (Err t) go h = tt

end_all : (P : Deed → Type 0) (m : Memory) (e : Outcome) (go : Memory → List Deed) → (e ≡ outcome.Done → AllByRecursion P (go m)) → AllByRecursion P (on_end m e go)
end_all P m outcome.Done go h = h refl
end_all P m (outcome.Trap t) go h = tt
end_all P m (outcome.OutOfTurns at) go h = tt

if_all : (P : Deed → Type 0) (b : Bool) (xs ys : List Deed) → AllByRecursion P xs → AllByRecursion P ys → AllByRecursion P (if b then xs else ys)
if_all P true xs ys h g = h
if_all P false xs ys h g = g

while_all : (P : Deed → Type 0) (Good : Memory → Type 0) (test : Memory → Answer) (asked : Memory → List Deed) (body : Memory → Ran) (given : Memory → List Deed)
    → ((m : Memory) → Good m → AllByRecursion P (asked m)) → ((m : Memory) → Good m → AllByRecursion P (given m)) → ((m : Memory) → Good m → Good (body m).store)
    → (n : ℕ) (m : Memory) → Good m → AllByRecursion P (while_gives test asked body given n m)
while_all P Good test asked body given h g keeps zero m good = h m good
while_all P Good test asked body given h g keeps (suc n) m good =
    all_of_two P (asked m) _ (h m good) (ok_all P (test m) _ (λ v e. if_all P (is_zero v) [] _ tt (all_of_two P (given m) _ (g m good) (end_all P (body m).store (body m).end _ (λ d. while_all P Good test asked body given h g keeps n (body m).store (keeps m good))))))

from_good : (Good : Memory → Type 0) (m : Memory) (e : Outcome) (go : Memory → Ran) → Good m → (Good m → Good (go m).store) → Good (then_from m e go).store
from_good Good m outcome.Done go h g = g h
from_good Good m (outcome.Trap t) go h g = h
from_good Good m (outcome.OutOfTurns at) go h g = h

turns_good : (Good : Memory → Type 0) (body : ℤ → Memory → Ran) (low : ℤ) (k : ℕ) → ((j : ℕ) → j < k → (m : Memory) → Good m → Good (body (low +ℤ pos j) m).store) → (m : Memory) → Good m → Good (first_turns body low k m).store
turns_good Good body low zero keeps m good = good
turns_good Good body low (suc k) keeps m good =
    let before = turns_good Good body low k (λ j less. keeps j (omega (arith, less))) m good in
    from_good Good (first_turns body low k m).store (first_turns body low k m).end (body (low +ℤ pos k)) before (keeps k (omega arith) (first_turns body low k m).store)

turns_all : (P : Deed → Type 0) (Good : Memory → Type 0) (body : ℤ → Memory → Ran) (given : ℤ → Memory → List Deed) (low : ℤ) (k : ℕ)
    → ((j : ℕ) → j < k → (m : Memory) → Good m → Good (body (low +ℤ pos j) m).store) → ((j : ℕ) → j < k → (m : Memory) → Good m → AllByRecursion P (given (low +ℤ pos j) m))
    → (m : Memory) → Good m → AllByRecursion P (first_give body given low k m)
turns_all P Good body given low zero keeps h m good = tt
turns_all P Good body given low (suc k) keeps h m good =
    let fewer = λ (j : ℕ) (less : j < k). keeps j (omega (arith, less)) in
    all_of_two P (first_give body given low k m) _ (turns_all P Good body given low k fewer (λ j less. h j (omega (arith, less))) m good)
    (end_all P (first_turns body low k m).store (first_turns body low k m).end (given (low +ℤ pos k)) (λ d. h k (omega arith) (first_turns body low k m).store (turns_good Good body low k fewer m good)))

each_of : (P Q : Deed → Type 0) → ((d : Deed) → P d → Q d) → (ds : List Deed) → AllByRecursion P ds → AllByRecursion Q ds
each_of P Q go [] h = tt
each_of P Q go (d ∷ ds) h = (go d h.0, each_of P Q go ds h.1)

-- one of some accesses, which writes or doesn't, names this cell of this array in a store where given values hold
abbrev Names : Memory → List Fixed → List Reference → Bool → ℕ → ℕ → Type 0
Names entry fixed xs write array cell =
    (x : Reference) × Contains xs x × (x.write ≡ write) × (x.access.array.id ≡ array) × ((m : Memory) × IsPossible entry x.inner fixed m × (cell_of x.access m ≡ Ok cell))

abbrev IsNaming : Memory → List Fixed → List Reference → Deed → Type 0
IsNaming entry fixed xs (loads array cell) = Names entry fixed xs false array cell
IsNaming entry fixed xs (stores array cell) = Names entry fixed xs true array cell
IsNaming entry fixed xs (joins fold array cell) = Names entry fixed xs true array cell
IsNaming entry fixed xs _ = Unit {0}

abbrev AreIn : List Reference → List Reference → Type 0
AreIn xs all = (x : Reference) → Contains xs x → Contains all x

left_in : (xs ys all : List Reference) → AreIn (xs ++ ys) all → AreIn xs all
left_in xs ys all h x c = h x (Contains-append_left xs ys x c)

right_in : (xs ys all : List Reference) → AreIn (xs ++ ys) all → AreIn ys all
right_in xs ys all h x c = h x (Contains-append_right xs ys x c)

head_in : (x : Reference) (xs all : List Reference) → AreIn (x ∷ xs) all → Contains all x
head_in x xs all h = h x (0, omega arith, refl)

tail_in : (x : Reference) (xs all : List Reference) → AreIn (x ∷ xs) all → AreIn xs all
tail_in x xs all h y (k, within, is) = h y (suc k, omega (arith, within), is)

expr_named : (entry : Memory) (fixed : List Fixed) (all : List Reference) (e : Expr) (m : Memory) → IsStoreWith entry fixed m → AreIn (expr_references e) all → AllByRecursion (IsNaming entry fixed all) (value_deeds e m)
expr_named entry fixed all (Number v) m h sub = tt
expr_named entry fixed all (Scalar x) m h sub = (tt, tt)
expr_named entry fixed all (Cell' p (more_of-Access array wrap index end_of-Access)) m h sub =
    let x : Reference = record { access = record { array = array; wrap = wrap; index = index }; write = false; inner = [] } in
    all_of_two (IsNaming entry fixed all) (value_deeds index m) _ (expr_named entry fixed all index m h (tail_in x (expr_references index) all sub))
    (ok_all (IsNaming entry fixed all) (cell_of x.access m) _ (λ cell e. ((x, head_in x (expr_references index) all sub, refl, refl, (m, h, e)), tt)))
expr_named entry fixed all (Len a) m h sub = tt
expr_named entry fixed all (Neg' p (more_of-Expr e end_of-Expr)) m h sub = expr_named entry fixed all e m h sub
expr_named entry fixed all (Not' p (more_of-Expr e end_of-Expr)) m h sub = expr_named entry fixed all e m h sub
expr_named entry fixed all (Binary' op at p (more_of-Expr left end_of-Expr) q (more_of-Expr right end_of-Expr)) m h sub =
    all_of_two (IsNaming entry fixed all) (value_deeds left m) _ (expr_named entry fixed all left m h (left_in (expr_references left) (expr_references right) all sub))
    (ok_all (IsNaming entry fixed all) (value_of left m) _ (λ v e. expr_named entry fixed all right m h (right_in (expr_references left) (expr_references right) all sub)))

then_named : (entry : Memory) (fixed : List Fixed) (all : List Reference) (e : Expr) (m : Memory) (deed : Deed) → IsStoreWith entry fixed m → AreIn (expr_references e) all → IsNaming entry fixed all deed
    → AllByRecursion (IsNaming entry fixed all) (value_then e m deed)
then_named entry fixed all e m deed h sub here =
    all_of_two (IsNaming entry fixed all) (value_deeds e m) _ (expr_named entry fixed all e m h sub) (ok_all (IsNaming entry fixed all) (value_of e m) _ (λ v is. (here, tt)))

cell_named : (entry : Memory) (fixed : List Fixed) (all : List Reference) (c : Access) (e : Expr) (m : Memory) (deed : ℕ → Deed) → IsStoreWith entry fixed m → AreIn (written_references c ++ expr_references e) all
    → ((cell : ℕ) → Names entry fixed all true c.array.id cell → IsNaming entry fixed all (deed cell)) → AllByRecursion (IsNaming entry fixed all) (cell_then c e m deed)
cell_named entry fixed all c e m deed h sub as_deed =
    let x : Reference = record { access = c; write = true; inner = [] } in
    let written = left_in (written_references c) (expr_references e) all sub in
    all_of_two (IsNaming entry fixed all) (value_deeds c.index m) _ (expr_named entry fixed all c.index m h (tail_in x (expr_references c.index) all written))
    (ok_all (IsNaming entry fixed all) (cell_of c m) _ (λ cell is. then_named entry fixed all e m (deed cell) h (right_in (written_references c) (expr_references e) all sub) (as_deed cell (x, head_in x (expr_references c.index) all written, refl, refl, (m, h, is)))))

-- inside one more loop
inside_in : (l : Inner) (xs : List Reference) (x : Reference) → Contains xs x → Contains (map (inside l) xs) (inside l x)
inside_in l [] x (k, within, is) = absurd (omega (arith, within))
inside_in l (y ∷ ys) x (zero, within, is) = (0, omega arith, ap (inside l) is)
inside_in l (y ∷ ys) x (suc k, within, is) = let later = inside_in l ys x (k, omega (arith, within), is) in (suc later.0, omega (arith, later.1), later.2)

names_inside : (entry : Memory) (fixed : List Fixed) (all xs : List Reference) (l : Inner) (k : Memory) (low high j : ℤ) (write : Bool) (array cell : ℕ)
    → IsStoreWith entry fixed k → value_of l.low k ≡ Ok low → value_of l.high k ≡ Ok high → low ≤ℤ j → j <ℤ high → AreIn (map (inside l) xs) all
    → Names entry (record { id = l.id; value = j } ∷ fixed) xs write array cell → Names entry fixed all write array cell
names_inside entry fixed all xs l k low high j write array cell such begins ends from to sub (x, there, writes, of, (m, possible, is)) =
    (inside l x, sub (inside l x) (inside_in l xs x there), writes, of, (m, (k, low, high, j, such, begins, ends, from, to, possible), is))

naming_inside : (entry : Memory) (fixed : List Fixed) (all xs : List Reference) (l : Inner) (k : Memory) (low high j : ℤ)
    → IsStoreWith entry fixed k → value_of l.low k ≡ Ok low → value_of l.high k ≡ Ok high → low ≤ℤ j → j <ℤ high → AreIn (map (inside l) xs) all
    → (d : Deed) → IsNaming entry (record { id = l.id; value = j } ∷ fixed) xs d → IsNaming entry fixed all d
naming_inside entry fixed all xs l k low high j such begins ends from to sub (Deed.reads id) h = tt
naming_inside entry fixed all xs l k low high j such begins ends from to sub (sets id) h = tt
naming_inside entry fixed all xs l k low high j such begins ends from to sub (folds f id) h = tt
naming_inside entry fixed all xs l k low high j such begins ends from to sub (loads array cell) h = names_inside entry fixed all xs l k low high j false array cell such begins ends from to sub h
naming_inside entry fixed all xs l k low high j such begins ends from to sub (stores array cell) h = names_inside entry fixed all xs l k low high j true array cell such begins ends from to sub h
naming_inside entry fixed all xs l k low high j such begins ends from to sub (joins f array cell) h = names_inside entry fixed all xs l k low high j true array cell such begins ends from to sub h
naming_inside entry fixed all xs l k low high j such begins ends from to sub prints h = tt

-- the indices of a loop
index_between : (a b : ℤ) (j n : ℕ) → j < min (int_gap a b) n → (a ≤ℤ (a +ℤ pos j)) × ((a +ℤ pos j) <ℤ b)
index_between (pos a) (pos b) j n h = (omega (arith, ints), omega (arith, ints, h))
index_between (pos a) (negsuc b) j n h = absurd (omega (arith, ints, h))
index_between (negsuc a) (pos b) j n h = (omega (arith, ints), omega (arith, ints, h))
index_between (negsuc a) (negsuc b) j n h = (omega (arith, ints), omega (arith, ints, h))

between_fits : (a b v : ℤ) → IsI64 a → IsI64 b → a ≤ℤ v → v <ℤ b → IsI64 v
between_fits a b v h g from to = omega (arith, ints)

-- the turns of an inner loop, by what its body does
turns_named : {k : _} (entry : Memory) (fixed : List Fixed) (all : List Reference) (x : Use) (low high : Expr) (body : Row_of-Stmt k) (n depth : ℕ) (m : Memory) (a b : ℤ) → IsStood entry fixed depth m → x.id ≡ depth
    → IsRowSteady body (x.id ∷ ids_of fixed) → IsI64Row body → IsI64 a → IsI64 b → value_of low m ≡ Ok a → value_of high m ≡ Ok b → AreIn (map (inside (record { id = x.id; low = low; high = high })) (references_row body)) all
    → ((v : ℤ) (r : Memory) → IsStood entry (record { id = x.id; value = v } ∷ fixed) (depth + 1) r → AllByRecursion (IsNaming entry (record { id = x.id; value = v } ∷ fixed) (references_row body)) (deeds_row body n r))
    → AllByRecursion (IsNaming entry fixed all) (first_give (turn (run_row body n)) (λ i r. deeds_row body n (declare i r)) a (min (int_gap a b) n) m)
turns_named entry fixed all x low high body n depth m a b h same steady t fits_a fits_b begins ends sub inner =
    let l : Inner = record { id = x.id; low = low; high = high } in
    turns_all (IsNaming entry fixed all) (IsStood entry fixed depth) (turn (run_row body n)) (λ i r. deeds_row body n (declare i r)) a (min (int_gap a b) n)
    (λ j less r good. let in_bounds = index_between a b j n less in turn_stood entry fixed depth x body n (a +ℤ pos j) r steady t (between_fits a b (a +ℤ pos j) fits_a fits_b in_bounds.0 in_bounds.1) same good)
    (λ j less r good. let in_bounds = index_between a b j n less in let v = a +ℤ pos j in let deeper = declared_stood entry fixed depth x v r (between_fits a b v fits_a fits_b in_bounds.0 in_bounds.1) same good in each_of (IsNaming entry (record { id = x.id; value = v } ∷ fixed) (references_row body)) (IsNaming entry fixed all) (naming_inside entry fixed all (references_row body) l m a b v h.such begins ends in_bounds.0 in_bounds.1 sub) _ (inner v (declare v r) deeper))
    m h

mutual
  stmt_named : (entry : Memory) (fixed : List Fixed) (all : List Reference) (s : Stmt) (n : ℕ) (depth arrays : ℕ) (m : Memory) → IsStood entry fixed depth m → IsScoped s depth arrays → IsSteady s (ids_of fixed) → IsI64Stmt s
      → AreIn (references s) all → AllByRecursion (IsNaming entry fixed all) (deeds s n m)
  stmt_named entry fixed all (Let x e) n depth arrays m h scoped steady t sub = expr_named entry fixed all e m h.such sub
  stmt_named entry fixed all (Set x e) n depth arrays m h scoped steady t sub = then_named entry fixed all e m (sets x.id) h.such sub tt
  stmt_named entry fixed all (Fold x f e) n depth arrays m h scoped steady t sub = then_named entry fixed all e m (folds f x.id) h.such sub tt
  stmt_named entry fixed all (Put c e) n depth arrays m h scoped steady t sub = cell_named entry fixed all c e m (stores c.array.id) h.such sub (λ cell here. here)
  stmt_named entry fixed all (FoldPut c f e) n depth arrays m h scoped steady t sub = cell_named entry fixed all c e m (joins f c.array.id) h.such sub (λ cell here. here)
  stmt_named entry fixed all (If' test p then_part q else_part) n depth arrays m h scoped steady t sub =
      let parts = right_in (expr_references test) (references_row then_part ++ references_row else_part) all sub in
      all_of_two (IsNaming entry fixed all) (value_deeds test m) _ (expr_named entry fixed all test m h.such (left_in (expr_references test) (references_row then_part ++ references_row else_part) all sub))
      (ok_all (IsNaming entry fixed all) (value_of test m) _ (λ v is. if_all (IsNaming entry fixed all) (is_zero v) _ _ (row_named entry fixed all else_part n depth arrays m h scoped.2 steady.1 t.2 (right_in (references_row then_part) (references_row else_part) all parts)) (row_named entry fixed all then_part n depth arrays m h scoped.1 steady.0 t.1 (left_in (references_row then_part) (references_row else_part) all parts))))
  stmt_named entry fixed all (While' test p body at) n depth arrays m h scoped steady t sub =
      while_all (IsNaming entry fixed all) (IsStood entry fixed depth) (value_of test) (value_deeds test) (block (run_row body n)) (deeds_row body n)
      (λ k good. expr_named entry fixed all test k good.such (left_in (expr_references test) (references_row body) all sub))
      (λ k good. row_named entry fixed all body n depth arrays k good scoped.1 steady t.1 (right_in (expr_references test) (references_row body) all sub))
      (λ k good. block_stood entry fixed depth body n k steady t.1 good) n m h
  stmt_named entry fixed all (For' x low high p body seq at) n depth arrays m h scoped steady t sub =
      let l : Inner = record { id = x.id; low = low; high = high } in
      let rest = right_in (expr_references low) (expr_references high ++ map (inside l) (references_row body)) all sub in
      all_of_two (IsNaming entry fixed all) (value_deeds low m) _ (expr_named entry fixed all low m h.such (left_in (expr_references low) (expr_references high ++ map (inside l) (references_row body)) all sub))
      (ok_all (IsNaming entry fixed all) (value_of low m) _ (λ a begins. all_of_two (IsNaming entry fixed all) (value_deeds high m) _ (expr_named entry fixed all high m h.such (left_in (expr_references high) (map (inside l) (references_row body)) all rest))
      (ok_all (IsNaming entry fixed all) (value_of high m) _ (λ b ends. turns_named entry fixed all x low high body n depth m a b h scoped.0 steady t.2 (fits_found (value_of low m) a (value_fits low m t.0 h.such.numbers) begins) (fits_found (value_of high m) b (value_fits high m t.1 h.such.numbers) ends) begins ends (right_in (expr_references high) (map (inside l) (references_row body)) all rest) (λ v r deeper. row_named entry (record { id = x.id; value = v } ∷ fixed) (references_row body) body n (depth + 1) arrays r deeper scoped.3 steady t.2 (λ y c. c))))))
  stmt_named entry fixed all (Print e at) n depth arrays m h scoped steady t sub = then_named entry fixed all e m prints h.such sub tt

  row_named : {k : _} (entry : Memory) (fixed : List Fixed) (all : List Reference) (row : Row_of-Stmt k) (n : ℕ) (depth arrays : ℕ) (m : Memory) → IsStood entry fixed depth m → IsRowScoped row depth arrays → IsRowSteady row (ids_of fixed) → IsI64Row row
      → AreIn (references_row row) all → AllByRecursion (IsNaming entry fixed all) (deeds_row row n m)
  row_named entry fixed all end_of-Stmt n depth arrays m h scoped steady t sub = tt
  row_named entry fixed all (more_of-Stmt s rest) n depth arrays m h scoped steady t sub =
      all_of_two (IsNaming entry fixed all) (deeds s n m) _ (stmt_named entry fixed all s n depth arrays m h scoped.0 steady.0 t.0 (left_in (references s) (references_row rest) all sub))
      (end_all (IsNaming entry fixed all) (run s n m).store (run s n m).end (deeds_row rest n) (λ d. row_named entry fixed all rest n (depth_after s depth) arrays (run s n m).store (after_stood entry fixed depth s n m steady.0 t.0 h d) scoped.1 steady.1 t.1 (right_in (references s) (references_row rest) all sub)))

-- the rows of a body are the list of its statements
references_row_at : (k : _) (row : Row_of-Stmt k) → references_row row ≡ references_all (items-the_row-Stmt k row)
references_row_at k end_of-Stmt = refl
references_row_at k (more_of-Stmt s rest) = ap (λ xs. references s ++ xs) (references_row_at _ rest)

references_body : (body : List Stmt) → references_row (hidden-the_row-Stmt-0 body) ≡ references_all body
references_body body = references_row_at _ (hidden-the_row-Stmt-0 body) ∙ ap references_all (items_hidden-the_row-Stmt-0 body)

-- what is given in an iteration
ids_as_in : (entry : Memory) (ids : List ℕ) → ids_of (map (as_in entry) ids) ≡ ids
ids_as_in entry [] = refl
ids_as_in entry (id ∷ ids) = ap (λ xs. id ∷ xs) (ids_as_in entry ids)

below_if : (entry : Memory) (n depth : ℕ) (xs : List ℕ) (b : Bool) → n < depth → AreBelow depth (map (as_in entry) (missing_below n xs)) → AreBelow depth (map (as_in entry) (if b then missing_below n xs else n ∷ missing_below n xs))
below_if entry n depth xs true h g = g
below_if entry n depth xs false h g = (h, g)

below_missing : (entry : Memory) (n depth : ℕ) (xs : List ℕ) → n ≤ depth → AreBelow depth (map (as_in entry) (missing_below n xs))
below_missing entry zero depth xs h = tt
below_missing entry (suc n) depth xs h = below_if entry n depth xs (among n xs) (omega (arith, h)) (below_missing entry n depth xs (omega (arith, h)))

steady_given : (l : Loop) (entry : Memory) → IsSteady (For l) [] → IsRowSteady (hidden-the_row-Stmt-0 l.body) (l.index.id ∷ ids_of (map (as_in entry) (invariants_of l)))
steady_given l entry steady =
    let row = hidden-the_row-Stmt-0 l.body in
    let names = invariants_of l in
    subst (λ ids. IsRowSteady row (l.index.id ∷ ids)) (sym (ids_as_in entry names)) (steady_row_more row (l.index.id ∷ []) names steady (λ id e. subst (λ xs. among id xs ≡ false) (sym (assigned_body l.body)) (missing l.index.id (assigned_all l.body) id e).1))

begin_stood : (l : Loop) (entry m : Memory) (low last : ℤ) → IsLoopEntry l entry low last → MayBegin l entry m → IsStood entry (map (as_in entry) (invariants_of l)) (length entry.scalars) m
begin_stood l entry m low last h begin = record {
  such = begin.kept;
  below = subst (λ d. AreBelow d (map (as_in entry) (invariants_of l))) h.scoped.0 (below_missing entry l.index.id l.index.id (assigned_all l.body) (omega arith));
  deep = begin.depth;
}

low_fits : (l : Loop) (entry : Memory) (low last : ℤ) → IsLoopEntry l entry low last → IsI64 low
low_fits l entry low last h = fits_found (value_of l.low entry) low (value_fits l.low entry h.written.0 h.numbers) h.begins

high_fits : (l : Loop) (entry : Memory) (low last : ℤ) (h : IsLoopEntry l entry low last) → IsI64 h.ends.0
high_fits l entry low last h = fits_found (value_of l.high entry) h.ends.0 (value_fits l.high entry h.written.1 h.numbers) h.ends.1

index_fits : (l : Loop) (entry : Memory) (low last i : ℤ) → IsLoopEntry l entry low last → low ≤ℤ i → i <ℤ last → IsI64 i
index_fits l entry low last i h from to =
    let top = h.ends.2 (omega (arith, ints, from, to)) in
    between_fits low h.ends.0 i (low_fits l entry low last h) (high_fits l entry low last h) from (omega (arith, ints, to, top))

as_access : (l : Loop) (entry : Memory) (i : ℤ) (d : Deed) → IsNaming entry (given_in l entry i) (references_all l.body) d → IsOfAccess l entry i d
as_access l entry i (Deed.reads id) h = tt
as_access l entry i (sets id) h = tt
as_access l entry i (folds f id) h = tt
as_access l entry i (loads array cell) h = h
as_access l entry i (stores array cell) h = h
as_access l entry i (joins f array cell) h = h
as_access l entry i prints h = tt

-- each deed of an iteration on a cell is of an access that touches it
pub deeds_touch : (l : Loop) (entry : Memory) (low last i : ℤ) (n : ℕ) (m : Memory) → IsLoopEntry l entry low last → IsSteady (For l) [] → low ≤ℤ i → i <ℤ last → MayBegin l entry m
    → All (IsOfAccess l entry i) (deeds_all l.body n (declare i m))
deeds_touch l entry low last i n m h steady from to begin =
    let row = hidden-the_row-Stmt-0 l.body in
    let fixed = map (as_in entry) (invariants_of l) in
    let stood = begin_stood l entry m low last h begin in
    let inside = declared_stood entry fixed (length entry.scalars) l.index i m (index_fits l entry low last i h from to) h.scoped.0 stood in
    let named = row_named entry (given_in l entry i) (references_all l.body) row n (length entry.scalars + 1) (length entry.arrays) (declare i m) inside h.scoped.3 (steady_given l entry steady) h.written.2 (λ x c. subst (λ xs. Contains xs x) (references_body l.body) c) in
    let listed = subst (λ ds. AllByRecursion (IsNaming entry (given_in l entry i) (references_all l.body)) ds) (λ j. deeds_body l.body j n (declare i m)) named in
    All-from_recursion (IsOfAccess l entry i) (deeds_all l.body n (declare i m)) (each_of (IsNaming entry (given_in l entry i) (references_all l.body)) (IsOfAccess l entry i) (as_access l entry i) _ listed)

-- an iteration may begin where those before it are done
begins_values : (entry : Memory) (ids : List ℕ) → AllByRecursion (HasValue entry) (map (as_in entry) ids)
begins_values entry [] = tt
begins_values entry (id ∷ ids) = (refl, begins_values entry ids)

below_last : (low last high : ℤ) (j k : ℕ) → j < k → (low +ℤ pos k) ≤ℤ last → last ≤ℤ high → (low ≤ℤ (low +ℤ pos j)) × ((low +ℤ pos j) <ℤ high)
below_last low last high j k less within top = (omega (arith, ints, less, within, top), omega (arith, ints, less, within, top))

some_below : (low last : ℤ) (j k : ℕ) → j < k → (low +ℤ pos k) ≤ℤ last → low <ℤ last
some_below low last j k less within = omega (arith, ints, less, within)

pub begins_after : (e : Entry) (k : ℕ) → IsLoopEntry e.looped e.store e.low e.last → IsSteady (For e.looped) [] → (e.low +ℤ pos k) ≤ℤ e.last → MayBegin e.looped e.store (after e k).store
begins_after e k h steady within =
    let l = e.looped in
    let row = hidden-the_row-Stmt-0 l.body in
    let fixed = map (as_in e.store) (invariants_of l) in
    let first : MayBegin l e.store e.store = record { depth = refl; kept = record { numbers = h.numbers; sizes = λ a. refl; values = begins_values e.store (invariants_of l) } } in
    let stood = turns_good (IsStood e.store fixed (length e.store.scalars)) (turn (run_row row e.turns)) e.low k (λ j less m good. let in_bounds = below_last e.low e.last h.ends.0 j k less within (h.ends.2 (some_below e.low e.last j k less within)) in turn_stood e.store fixed (length e.store.scalars) l.index row e.turns (e.low +ℤ pos j) m (steady_given l e.store steady) h.written.2 (between_fits e.low h.ends.0 (e.low +ℤ pos j) (low_fits l e.store e.low e.last h) (high_fits l e.store e.low e.last h) in_bounds.0 in_bounds.1) h.scoped.0 good) e.store (begin_stood l e.store e.store e.low e.last h first) in
    let same = subst (IsStood e.store fixed (length e.store.scalars)) (λ i. (first_turns (turn (run_body l.body i e.turns)) e.low k e.store).store) stood in
    record { depth = same.deep; kept = same.such }
