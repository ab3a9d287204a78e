-- Where the guard holds, the exact value of each plain access lies in its array.
use Rattle.std.proofs.Common.{◌≡◌, ℕ, ◌==◌, ◌&&◌, IsTrue, Bool, true, false, ℤ, pos, ◌-ℤ◌, ◌≤ℤ◌, ◌<ℤ◌, List, [], ◌∷◌, ◌++◌, length, map, refl, sym, ap, ◌∙◌, subst, arith, if◌then◌else◌, Some, None}
use Rattle.std.proofs.lemmas.Int.{ints}
use Rattle.std.specs.List.{AllByRecursion, Contains}
use Rattle.std.specs.Prelude.{Ok, int_le}
use Rattle.std.specs.declared.option.Option.{Option}
use Rattle.nona_num.specs.declared.range.Range.{Range}
use Rattle.nona_num.specs.Ranges.{Holds}
use Rattle.nona_tree.specs.declared.trees.Access.{Access}
use Rattle.nona_tree.specs.declared.trees.Expr.{Expr, Number, Scalar, Cell', Len, Neg', Not', Binary', more_of-Expr, end_of-Expr}
use Rattle.nona_tree.specs.declared.trees.Expr.TheBlock.{more_of-Access, end_of-Access}
use Rattle.nona_tree.specs.declared.trees.Loop.{Loop}
use Rattle.nona_tree.specs.declared.trees.Stmt.{Stmt, Let, Set, Fold, Put, FoldPut, If', While', For', Print, Row_of-Stmt, end_of-Stmt, more_of-Stmt}
use Rattle.nona_tree.specs.Memory.{Memory, scalar_at, cells_of}
use Rattle.nona_tree.specs.Numbers.{IsI64Expr, IsI64Stmt, IsI64Row, AreI64Stmts}
use Rattle.nona_tree.specs.Value.{value_of}
use Rattle.nona_forms.specs.Affine.{Affine, form_at, form_of, form_by, on_form, among}
use Rattle.nona_forms.specs.References.{Inner, Reference, Fixed, HasValue, IsStoreWith, IsPossible, given_in, expr_references, written_references, inside, references, references_row, references_all, invariants_of, names_of}
use Rattle.nona_forms.specs.Verdicts.{names_inside, if_form}
use Rattle.nona_forms.specs.Guards.{is_i64_range, lies_in, with_range, fits_place, fits_expr, fits_cell, fits_turns, fits_stmt, fits_row, fits_all, ranges_of, guard_of}
use Rattle.nona_forms.specs.Boxes.{point, form_range}
use Rattle.nona_forms.specs.Separate.{IsLoopEntry, Lies}
use Rattle.nona_forms.proofs.FormValues.{one_value}
use Rattle.nona_forms.proofs.InBoxes.{both_true, ids_same}
use Rattle.nona_forms.proofs.Exact.{exact_value}
use Rattle.nona_forms.proofs.Separate.{found_index, held}
use Rattle.nona_forms.proofs.Sound.{all_of_two, contained, i64-For}
use Rattle.nona_forms.proofs.Fitting.{form_ranged, in_cells, at_point}
use Rattle.nona_forms.proofs.FitsDone.{i64_in, lowest, highest, no_index, index_ranged, other_is}

-- what is given pins scalars with these names to their ranges
abbrev pub Pins : List Fixed → List ℕ → (ℕ → Range) → Type 0
Pins fixed names ranges = (m : Memory) → AllByRecursion (HasValue m) fixed → (id : ℕ) → among id names ≡ true → Holds (ranges id) (scalar_at m id)

-- a plain access lies in its array, wherever it may be evaluated
abbrev pub ReferenceLies : Memory → List ℕ → (ℕ → Range) → Reference → Type 0
ReferenceLies entry names ranges x =
    (fixed : List Fixed) (m : Memory) (f : Affine) → Pins fixed names ranges → x.access.wrap ≡ false → IsPossible entry x.inner fixed m → form_of x.access.index (names_inside names x.inner) ≡ Some f
    → (pos 0 ≤ℤ form_at (scalar_at m) f) × (form_at (scalar_at m) f <ℤ pos (length (cells_of entry x.access.array.id)))

same_form : (o : Option Affine) (f g : Affine) → o ≡ Some f → o ≡ Some g → f ≡ g
same_form o f g h k = cc

plain_test : (wrap : Bool) (index : Expr) (count : ℕ) (names : List ℕ) (ranges : ℕ → Range) → fits_place wrap index count names ranges ≡ true → wrap ≡ false
    → if_form (form_of index names) (λ f. lies_in (form_range ranges f) count) ≡ true
plain_test true index count names ranges e h = cc
plain_test false index count names ranges e h = e

here_lies : (entry : Memory) (names : List ℕ) (ranges : ℕ → Range) (c : Access) (write : Bool) → fits_place c.wrap c.index (length (cells_of entry c.array.id)) names ranges ≡ true
    → ReferenceLies entry names ranges (record { access = c; write = write; inner = [] })
here_lies entry names ranges c write e fixed m f pins plain such form =
    let count = length (cells_of entry c.array.id) in
    let found = found_index (form_of c.index names) (λ g. lies_in (form_range ranges g) count) (plain_test c.wrap c.index count names ranges e plain) in
    let same : found.0 ≡ f = same_form (form_of c.index names) found.0 f found.1 form in
    let within : lies_in (form_range ranges f) count ≡ true = ap (λ g. lies_in (form_range ranges g) count) (sym same) ∙ found.2 in
    in_cells (form_range ranges f) (form_at (scalar_at m) f) count within (form_ranged c.index names ranges f (scalar_at m) form (pins m such.values))

expr_lies : (entry : Memory) (names : List ℕ) (ranges : ℕ → Range) (e : Expr) → fits_expr e names ranges entry ≡ true → AllByRecursion (ReferenceLies entry names ranges) (expr_references e)
expr_lies entry names ranges (Number v) h = tt
expr_lies entry names ranges (Scalar x) h = tt
expr_lies entry names ranges (Cell' p (more_of-Access array wrap index end_of-Access)) h =
    let both = both_true (fits_place wrap index (length (cells_of entry array.id)) names ranges) (fits_expr index names ranges entry) h in
    (here_lies entry names ranges (record { array = array; wrap = wrap; index = index }) false both.0, expr_lies entry names ranges index both.1)
expr_lies entry names ranges (Len a) h = tt
expr_lies entry names ranges (Neg' p (more_of-Expr e end_of-Expr)) h = expr_lies entry names ranges e h
expr_lies entry names ranges (Not' p (more_of-Expr e end_of-Expr)) h = expr_lies entry names ranges e h
expr_lies entry names ranges (Binary' o at p (more_of-Expr left end_of-Expr) q (more_of-Expr right end_of-Expr)) h =
    let both = both_true (fits_expr left names ranges entry) (fits_expr right names ranges entry) h in
    all_of_two (ReferenceLies entry names ranges) (expr_references left) (expr_references right) (expr_lies entry names ranges left both.0) (expr_lies entry names ranges right both.1)

written_lies : (entry : Memory) (names : List ℕ) (ranges : ℕ → Range) (c : Access) → fits_cell c names ranges entry ≡ true → AllByRecursion (ReferenceLies entry names ranges) (written_references c)
written_lies entry names ranges c h =
    let both = both_true (fits_place c.wrap c.index (length (cells_of entry c.array.id)) names ranges) (fits_expr c.index names ranges entry) h in
    (here_lies entry names ranges c true both.0, expr_lies entry names ranges c.index both.1)

-- an expression with a form has no access
abbrev NoPlace : Option Affine → List Reference → Type 0
NoPlace None xs = Unit {0}
NoPlace (Some f) xs = xs ≡ []

no_place_any : (o : Option Affine) (xs : List Reference) → xs ≡ [] → NoPlace o xs
no_place_any None xs h = tt
no_place_any (Some f) xs h = h

no_place_then : (o : Option Affine) (go : Affine → Option Affine) (xs : List Reference) → NoPlace o xs → NoPlace (on_form o go) xs
no_place_then None go xs h = tt
no_place_then (Some f) go xs h = no_place_any (go f) xs h

no_place_both : (o p : Option Affine) (go : Affine → Affine → Option Affine) (xs ys : List Reference) → NoPlace o xs → NoPlace p ys → NoPlace (on_form o (λ f. on_form p (λ g. go f g))) (xs ++ ys)
no_place_both None p go xs ys h k = tt
no_place_both (Some f) None go xs ys h k = tt
no_place_both (Some f) (Some g) go xs ys h k = no_place_any (go f g) (xs ++ ys) (ap (λ zs. zs ++ ys) h ∙ k)

no_references : (e : Expr) (names : List ℕ) → NoPlace (form_of e names) (expr_references e)
no_references (Number v) names = no_place_any (form_of (Number v) names) [] refl
no_references (Scalar x) names = no_place_any (form_of (Scalar x) names) [] refl
no_references (Cell' p (more_of-Access array wrap index end_of-Access)) names = tt
no_references (Len a) names = tt
no_references (Neg' p (more_of-Expr e end_of-Expr)) names = no_place_then (form_of e names) _ (expr_references e) (no_references e names)
no_references (Not' p (more_of-Expr e end_of-Expr)) names = tt
no_references (Binary' o at p (more_of-Expr left end_of-Expr) q (more_of-Expr right end_of-Expr)) names =
    no_place_both (form_of left names) (form_of right names) (form_by o) (expr_references left) (expr_references right) (no_references left names) (no_references right names)

bound_lies : (P : Reference → Type 0) (e : Expr) (names : List ℕ) (f : Affine) → form_of e names ≡ Some f → AllByRecursion P (expr_references e)
bound_lies P e names f form =
    let none : NoPlace (Some f) (expr_references e) = subst (λ o. NoPlace o (expr_references e)) form (no_references e names) in
    subst (AllByRecursion P) (sym none) tt

-- inside one more loop
pins_more : (fixed : List Fixed) (names : List ℕ) (ranges : ℕ → Range) (x : ℕ) (r : Range) (j : ℤ) → Pins fixed names ranges → Holds r j → Pins (record { id = x; value = j } ∷ fixed) (x ∷ names) (with_range x r ranges)
pins_more fixed names ranges x r j pins h m values id e =
    index_ranged id x r ranges (scalar_at m id) j (id == x) refl (λ same. subst (Holds r) (sym (ap (scalar_at m) (ids_same id x same) ∙ values.0)) h) (λ other. pins m values.1 id (other_is id x (among id names) (id == x) refl other e))

inside_lies : (entry : Memory) (names : List ℕ) (ranges : ℕ → Range) (l : Inner) (r : Range) (xs : List Reference)
    → ((fixed : List Fixed) → Pins fixed names ranges → (k : Memory) (low high j : ℤ) → IsStoreWith entry fixed k → value_of l.low k ≡ Ok low → value_of l.high k ≡ Ok high → low ≤ℤ j → j <ℤ high → Holds r j)
    → AllByRecursion (ReferenceLies entry (l.id ∷ names) (with_range l.id r ranges)) xs → AllByRecursion (ReferenceLies entry names ranges) (map (inside l) xs)
inside_lies entry names ranges l r [] h g = tt
inside_lies entry names ranges l r (x ∷ xs) h g =
    ((λ fixed m f pins plain (k, low, high, j, such, begins, ends, from, to, rest) form. g.0 (record { id = l.id; value = j } ∷ fixed) m f (pins_more fixed names ranges l.id r j pins (h fixed pins k low high j such begins ends from to)) plain rest form), inside_lies entry names ranges l r xs h g.1)

-- a loop that isn't walked has no turn
empty_lies : (entry : Memory) (names : List ℕ) (ranges : ℕ → Range) (l : Inner) (xs : List Reference)
    → ((fixed : List Fixed) → Pins fixed names ranges → (k : Memory) (low high j : ℤ) → IsStoreWith entry fixed k → value_of l.low k ≡ Ok low → value_of l.high k ≡ Ok high → low ≤ℤ j → j <ℤ high → ⊥)
    → AllByRecursion (ReferenceLies entry names ranges) (map (inside l) xs)
empty_lies entry names ranges l [] h = tt
empty_lies entry names ranges l (x ∷ xs) h =
    ((λ fixed m f pins plain (k, low, high, j, such, begins, ends, from, to, rest) form. absurd (h fixed pins k low high j such begins ends from to)), empty_lies entry names ranges l xs h)

-- the values of a bound
bound_ranged : (e : Expr) (names : List ℕ) (ranges : ℕ → Range) (f : Affine) (fixed : List Fixed) (entry k : Memory) (v : ℤ) → form_of e names ≡ Some f → IsI64Expr e → is_i64_range (form_range ranges f) ≡ true
    → Pins fixed names ranges → IsStoreWith entry fixed k → value_of e k ≡ Ok v → Holds (form_range ranges f) v
bound_ranged e names ranges f fixed entry k v form t fits pins such value =
    let held = form_ranged e names ranges f (scalar_at k) form (pins k such.values) in
    let same : form_at (scalar_at k) f ≡ v = one_value (value_of e k) (form_at (scalar_at k) f) v (exact_value e names k f form t such.numbers (i64_in (form_range ranges f) (form_at (scalar_at k) f) fits held)) value in
    subst (Holds (form_range ranges f)) same held

loop_lies : (entry : Memory) (names : List ℕ) (ranges : ℕ → Range) (l : Inner) (f g : Affine) (xs : List Reference) (none : Bool) → int_le (form_range ranges g).high (form_range ranges f).low ≡ none
    → form_of l.low names ≡ Some f → form_of l.high names ≡ Some g → IsI64Expr l.low → IsI64Expr l.high → is_i64_range (form_range ranges f) ≡ true → is_i64_range (form_range ranges g) ≡ true
    → (none ≡ false → AllByRecursion (ReferenceLies entry (l.id ∷ names) (with_range l.id (record { low = (form_range ranges f).low; high = (form_range ranges g).high -ℤ pos 1 }) ranges)) xs)
    → AllByRecursion (ReferenceLies entry names ranges) (map (inside l) xs)
loop_lies entry names ranges l f g xs true e low high of_low of_high fit_low fit_high body =
    empty_lies entry names ranges l xs (λ fixed pins k a b j such begins ends from to. let in_low = bound_ranged l.low names ranges f fixed entry k a low of_low fit_low pins such begins in let in_high = bound_ranged l.high names ranges g fixed entry k b high of_high fit_high pins such ends in no_index (form_range ranges f).low (form_range ranges g).high a b j e in_low.0 in_high.1 from to)
loop_lies entry names ranges l f g xs false e low high of_low of_high fit_low fit_high body =
    inside_lies entry names ranges l (record { low = (form_range ranges f).low; high = (form_range ranges g).high -ℤ pos 1 }) xs (λ fixed pins k a b j such begins ends from to. let in_low = bound_ranged l.low names ranges f fixed entry k a low of_low fit_low pins such begins in let in_high = bound_ranged l.high names ranges g fixed entry k b high of_high fit_high pins such ends in (lowest (form_range ranges f).low j a in_low.0 from, highest (form_range ranges g).high b j in_high.1 to)) (body refl)

walked_if : (b c : Bool) → (if b then true else c) ≡ true → b ≡ false → c ≡ true
walked_if true c h e = cc
walked_if false c h e = h

mutual
  stmt_lies : (entry : Memory) (names : List ℕ) (ranges : ℕ → Range) (s : Stmt) (n : ℕ) → IsI64Stmt s → fits_stmt s names ranges entry n ≡ true → AllByRecursion (ReferenceLies entry names ranges) (references s)
  stmt_lies entry names ranges (Let x e) n t h = expr_lies entry names ranges e h
  stmt_lies entry names ranges (Set x e) n t h = expr_lies entry names ranges e h
  stmt_lies entry names ranges (Fold x o e) n t h = expr_lies entry names ranges e h
  stmt_lies entry names ranges (Put c e) n t h =
      let both = both_true (fits_cell c names ranges entry) (fits_expr e names ranges entry) h in
      all_of_two (ReferenceLies entry names ranges) (written_references c) (expr_references e) (written_lies entry names ranges c both.0) (expr_lies entry names ranges e both.1)
  stmt_lies entry names ranges (FoldPut c o e) n t h =
      let both = both_true (fits_cell c names ranges entry) (fits_expr e names ranges entry) h in
      all_of_two (ReferenceLies entry names ranges) (written_references c) (expr_references e) (written_lies entry names ranges c both.0) (expr_lies entry names ranges e both.1)
  stmt_lies entry names ranges (If' test p then_part q else_part) n t h =
      let both = both_true (fits_expr test names ranges entry) (fits_row then_part names ranges entry n && fits_row else_part names ranges entry n) h in
      let arms = both_true (fits_row then_part names ranges entry n) (fits_row else_part names ranges entry n) both.1 in
      all_of_two (ReferenceLies entry names ranges) (expr_references test) _ (expr_lies entry names ranges test both.0) (all_of_two (ReferenceLies entry names ranges) (references_row then_part) (references_row else_part) (row_lies entry names ranges then_part n t.1 arms.0) (row_lies entry names ranges else_part n t.2 arms.1))
  stmt_lies entry names ranges (While' test p body at) n t h = cc
  stmt_lies entry names ranges (For' x low high p body seq at) n t h =
      let walked = λ (r : Range). fits_row body (x.id ∷ names) (with_range x.id r ranges) entry n in
      let lows = found_index (form_of low names) (λ f. if_form (form_of high names) (λ g. fits_turns (form_range ranges f) (form_range ranges g) n walked)) h in
      let highs = found_index (form_of high names) (λ g. fits_turns (form_range ranges lows.0) (form_range ranges g) n walked) lows.2 in
      let lo = form_range ranges lows.0 in
      let hi = form_range ranges highs.0 in
      let f1 = both_true (is_i64_range lo) _ highs.2 in
      let f2 = both_true (is_i64_range hi) _ f1.1 in
      let f3 = both_true (int_le (hi.high -ℤ lo.low) (pos n)) _ f2.1 in
      let l : Inner = record { id = x.id; low = low; high = high } in
      all_of_two (ReferenceLies entry names ranges) (expr_references low) _ (bound_lies (ReferenceLies entry names ranges) low names lows.0 lows.1) (all_of_two (ReferenceLies entry names ranges) (expr_references high) _ (bound_lies (ReferenceLies entry names ranges) high names highs.0 highs.1) (loop_lies entry names ranges l lows.0 highs.0 (references_row body) (int_le hi.high lo.low) refl lows.1 highs.1 t.0 t.1 f1.0 f2.0 (λ some. row_lies entry (x.id ∷ names) (with_range x.id (record { low = lo.low; high = hi.high -ℤ pos 1 }) ranges) body n t.2 (walked_if (int_le hi.high lo.low) _ f3.1 some))))
  stmt_lies entry names ranges (Print e at) n t h = expr_lies entry names ranges e h

  row_lies : {k : _} (entry : Memory) (names : List ℕ) (ranges : ℕ → Range) (row : Row_of-Stmt k) (n : ℕ) → IsI64Row row → fits_row row names ranges entry n ≡ true → AllByRecursion (ReferenceLies entry names ranges) (references_row row)
  row_lies entry names ranges end_of-Stmt n t h = tt
  row_lies entry names ranges (more_of-Stmt s rest) n t h =
      let both = both_true (fits_stmt s names ranges entry n) (fits_row rest names ranges entry n) h in
      all_of_two (ReferenceLies entry names ranges) (references s) (references_row rest) (stmt_lies entry names ranges s n t.0 both.0) (row_lies entry names ranges rest n t.1 both.1)

all_lie : (entry : Memory) (names : List ℕ) (ranges : ℕ → Range) (ss : List Stmt) (n : ℕ) → AreI64Stmts ss → fits_all ss names ranges entry n ≡ true → AllByRecursion (ReferenceLies entry names ranges) (references_all ss)
all_lie entry names ranges [] n t h = tt
all_lie entry names ranges (s ∷ rest) n t h =
    let both = both_true (fits_stmt s names ranges entry n) (fits_all rest names ranges entry n) h in
    all_of_two (ReferenceLies entry names ranges) (references s) (references_all rest) (stmt_lies entry names ranges s n t.0 both.0) (all_lie entry names ranges rest n t.1 both.1)

-- what is given in an iteration pins the index and the invariants
not_below : (v : ℤ) → v ≤ℤ v
not_below v = omega (arith, ints)

given_pins : (l : Loop) (entry : Memory) (low last i : ℤ) → low ≤ℤ i → i <ℤ last → Pins (given_in l entry i) (names_of l) (ranges_of l entry low last)
given_pins l entry low last i from to m values id e =
    index_ranged id l.index.id (record { low = low; high = last -ℤ pos 1 }) (λ x. point (scalar_at entry x)) (scalar_at m id) i (id == l.index.id) refl
    (λ same. subst (Holds (record { low = low; high = last -ℤ pos 1 })) (sym (ap (scalar_at m) (ids_same id l.index.id same) ∙ values.0)) (from, highest last last i (not_below last) to))
    (λ other. subst (Holds (point (scalar_at entry id))) (sym (held entry m (invariants_of l) id values.1 (other_is id l.index.id (among id (invariants_of l)) (id == l.index.id) refl other e))) (at_point (scalar_at entry id)))

no_iteration : (low last i : ℤ) → int_le last low ≡ true → low ≤ℤ i → i <ℤ last → ⊥
no_iteration low last i e from to = omega (arith, ints)

lies_if : (l : Loop) (entry : Memory) (low last : ℤ) (n : ℕ) (x : Reference) (none : Bool) → int_le last low ≡ none → IsLoopEntry l entry low last → (if none then true else fits_all l.body (names_of l) (ranges_of l entry low last) entry n) ≡ true
    → Contains (references_all l.body) x → x.access.wrap ≡ false → Lies l entry low last x
lies_if l entry low last n x true e h fits in_x plain i from to = absurd (no_iteration low last i e from to)
lies_if l entry low last n x false e h fits in_x plain i from to =
    let numbers = subst (λ P. P) (i64-For l) h.written in
    λ m f stands form. contained (ReferenceLies entry (names_of l) (ranges_of l entry low last)) (references_all l.body) x (all_lie entry (names_of l) (ranges_of l entry low last) l.body n numbers.2 fits) in_x (given_in l entry i) m f (given_pins l entry low last i from to) plain stands form

-- where the guard holds, each plain access lies in its array in each iteration
pub guard_lies : (l : Loop) (entry : Memory) (low last : ℤ) (n : ℕ) (x : Reference) → IsLoopEntry l entry low last → IsTrue (guard_of l entry low last n) → Contains (references_all l.body) x → x.access.wrap ≡ false → Lies l entry low last x
guard_lies l entry low last n x h guard in_x plain = lies_if l entry low last n x (int_le last low) refl h guard in_x plain
