-- Two runs from stores that are bound to each other, scalar by scalar and cell by cell: where all deeds of the first are granted, both end
-- alike, do the same deeds, and leave stores that are bound.
use Rattle.std.proofs.Common.{◌≡◌, ◌≢◌, ◌<◌, ◌≤◌, ℕ, zero, suc, ℤ, pos, negsuc, ◌+ℤ◌, Bool, true, false, List, [], ◌∷◌, ◌++◌, length, refl, sym, ap, subst, ◌∙◌, arith, if◌then◌else◌, length-append, length-take, ⊎_elim}
use Rattle.std.specs.Prelude.{min, nat_le, Result, Ok, Err, slice_index_or, slice_set}
use Rattle.std.specs.List.{AllByRecursion}
use Rattle.std.specs.Int.{int_gap}
use Rattle.std.proofs.lemmas.Bool.{cases_eq, cases_lt}
use Rattle.std.proofs.lemmas.Int.{ints}
use Rattle.std.proofs.lemmas.List.{length-set, get_or-set_same, get_or-set_other, get_or-take, get_or_append_left, get_or-append-add, get_or_past}
use Rattle.std.proofs.lemmas.List.Elements.{All-from_recursion, All-take, All-append, All-cons, All-nil}
use Rattle.std.proofs.Math.Seq.{map-set_same}
use Rattle.std.proofs.Math.ListN.{get_or-map}
use Rattle.nona_num.specs.declared.folds.Fold.{Fold}
use Rattle.nona_num.specs.Folds.{join_of}
use Rattle.nona_tree.specs.declared.outcomes.Trap.{Trap}
use Rattle.nona_tree.specs.declared.outcomes.Outcome.{Outcome}
use Rattle.nona_tree.specs.declared.outcomes.Outcome.TheVariants as outcome
use Rattle.nona_tree.specs.declared.trees.Access.{Access}
use Rattle.nona_tree.specs.declared.trees.Expr.{Expr, Number}
use Rattle.nona_tree.specs.declared.trees.Stmt.{Stmt, Let, Set, Fold as FoldInto, Put, FoldPut, If', While', For', Print, Row_of-Stmt, end_of-Stmt, more_of-Stmt}
use Rattle.nona_tree.specs.Beside.{on_ok, on_end, on_done, while_gives, first_give}
use Rattle.nona_tree.specs.Deeds.{Deed, reads, sets, folds, loads, stores, joins, prints, value_deeds, value_then, cell_then, deeds, deeds_row, SeesSame, SameSizes}
use Rattle.nona_tree.specs.Memory.{Memory, scalar_at, cells_of, cell_at, declare, assign, put_cell, print, cut_to}
use Rattle.nona_tree.specs.Numbers.{IsI64, AreI64, IsI64Expr, IsI64Stmt, IsI64Row}
use Rattle.nona_tree.specs.Run.{Ran, done, starved, with_value, then_from, then_do, block, turn, while_turns, first_turns, for_turns, run, run_row}
use Rattle.nona_tree.specs.Value.{Answer, is_zero, then_use, place_of, value_of, cell_of}
use Rattle.nona_tree.proofs.DeedLaws.{each_of_both}
use Rattle.nona_tree.proofs.I64.{value_fits, run_fits}
use Rattle.nona_tree.proofs.Keeps.{SameArrays, arrays_kept, NoFewer, scalars_kept, row_kept}
use Rattle.nona_tree.proofs.Seen.{value_from_what_it_sees, deeds_from_what_it_sees}
use Rattle.nona_forms.proofs.Exact.{fits_found}

-- what holds between a number of one store and that of another
abbrev pub Link : Type 1
Link = ℤ → ℤ → Type 0

-- the links of scalars, cells and printed numbers; the scalars of the blocks inside begin at the depth
pub record Bond : Type 1 where
  pub depth : ℕ
  pub scalar : ℕ → Link
  pub cell : ℕ → ℕ → Link
  pub printed : List ℤ → List ℤ → Type 0

-- two stores, of which the first has numbers of 64 bits, are bound
pub record Bound (b : Bond) (m k : Memory) : Type 0 where
  pub numbers : AreI64 m
  pub deep : b.depth ≤ length m.scalars
  pub even : length k.scalars ≡ length m.scalars
  pub sizes : SameSizes m k
  pub scalar : (x : ℕ) → x < length m.scalars → b.scalar x (scalar_at m x) (scalar_at k x)
  pub cell : (a p : ℕ) → p < length (cells_of m a) → b.cell a p (cell_at m a p) (cell_at k a p)
  pub printed : b.printed m.printed k.printed

-- what is read is the same in both; a number that is set, and one that is joined, keeps the link
abbrev pub IsRead : Link → Type 0
IsRead link = (u v : ℤ) → link u v → v ≡ u

abbrev pub IsSet : Link → Type 0
IsSet link = (v : ℤ) → IsI64 v → link v v

abbrev pub IsFolded : Fold → Link → Type 0
IsFolded f link = (u v w : ℤ) → IsI64 w → link u v → link (join_of f u w) (join_of f v w)

-- what is declared inside is set
abbrev pub HasInner : Bond → Type 0
HasInner b = (x : ℕ) → b.depth ≤ x → IsSet (b.scalar x)

-- one more printed number keeps the link
abbrev pub IsPrinted : (List ℤ → List ℤ → Type 0) → Type 0
IsPrinted link = (us vs : List ℤ) (v : ℤ) → IsI64 v → link us vs → link (us ++ v ∷ []) (vs ++ v ∷ [])

-- a deed that a bond grants
abbrev pub Granted : Bond → Deed → Type 0
Granted b (reads x) = IsRead (b.scalar x)
Granted b (sets x) = IsSet (b.scalar x)
Granted b (folds f x) = IsFolded f (b.scalar x)
Granted b (loads a p) = IsRead (b.cell a p)
Granted b (stores a p) = IsSet (b.cell a p)
Granted b (joins f a p) = IsFolded f (b.cell a p)
Granted b prints = IsPrinted b.printed

abbrev pub AreGranted : Bond → List Deed → Type 0
AreGranted b ds = AllByRecursion (Granted b) ds

-- two runs end alike in bound stores, and did the same deeds
pub record Alike (b : Bond) (r q : Ran) (xs ys : List Deed) : Type 0 where
  pub ends : q.end ≡ r.end
  pub bound : Bound b r.store q.store
  pub same : ys ≡ xs

-- stores

last_declared : (v : ℤ) (m : Memory) → scalar_at (declare v m) (length m.scalars) ≡ v
last_declared v m =
    ap (λ (k : ℕ). slice_index_or (m.scalars ++ v ∷ []) k (pos 0)) (omega arith) ∙ get_or-append-add m.scalars (v ∷ []) 0 (pos 0)

pub declare_bound : (b : Bond) (v : ℤ) (m k : Memory) → HasInner b → IsI64 v → Bound b m k → Bound b (declare v m) (declare v k)
declare_bound b v m k inner fits h =
    let longer = length-append m.scalars (v ∷ []) in
    let other = length-append k.scalars (v ∷ []) in
    record {
      numbers = record { scalars = All-append IsI64 m.scalars (v ∷ []) h.numbers.scalars (All-cons IsI64 v [] fits (All-nil IsI64)); arrays = h.numbers.arrays; printed = h.numbers.printed };
      deep = let deep = h.deep in omega (arith, deep, longer);
      even = let even = h.even in omega (arith, even, longer, other);
      sizes = h.sizes;
      scalar = λ x below. ⊎_elim
          (λ (old : x < length m.scalars). let even = h.even in let first = get_or_append_left m.scalars (v ∷ []) (pos 0) x old in
          let second = get_or_append_left k.scalars (v ∷ []) (pos 0) x (omega (arith, even, old)) in
          subst (λ u. b.scalar x u (scalar_at (declare v k) x)) (sym first) (subst (b.scalar x (scalar_at m x)) (sym second) (h.scalar x old)))
          (λ (new : length m.scalars ≤ x). let even = h.even in let deep = h.deep in
          let here : x ≡ length m.scalars = omega (arith, below, longer, new) in
          let there : x ≡ length k.scalars = omega (arith, here, even) in
          let first = ap (scalar_at (declare v m)) here ∙ last_declared v m in
          let second = ap (scalar_at (declare v k)) there ∙ last_declared v k in
          subst (λ u. b.scalar x u (scalar_at (declare v k) x)) (sym first) (subst (b.scalar x v) (sym second) (inner x (omega (arith, here, deep)) v fits)))
          (cases_lt x (length m.scalars));
      cell = h.cell;
      printed = h.printed;
    }

assign_bound : (b : Bond) (x : ℕ) (u v : ℤ) (m k : Memory) → AreI64 (assign x u m) → (x < length m.scalars → b.scalar x u v) → Bound b m k → Bound b (assign x u m) (assign x v k)
assign_bound b x u v m k fits link h =
    let same = length-set m.scalars x u in
    let other = length-set k.scalars x v in
    record {
      numbers = fits;
      deep = let deep = h.deep in omega (arith, deep, same);
      even = let even = h.even in omega (arith, even, same, other);
      sizes = h.sizes;
      scalar = λ y below. let even = h.even in
          ⊎_elim
          (λ (here : y ≡ x).
          let at_first : scalar_at (assign x u m) y ≡ u = ap (scalar_at (assign x u m)) here ∙ get_or-set_same m.scalars x u (pos 0) (omega (arith, below, same, here)) in
          let at_second : scalar_at (assign x v k) y ≡ v = ap (scalar_at (assign x v k)) here ∙ get_or-set_same k.scalars x v (pos 0) (omega (arith, below, same, here, even)) in
          subst (λ w. b.scalar y w (scalar_at (assign x v k) y)) (sym at_first) (subst (b.scalar y u) (sym at_second) (subst (λ z. b.scalar z u v) (sym here) (link (omega (arith, below, same, here))))))
          (λ (elsewhere : y ≡ x → ⊥).
          subst (λ w. b.scalar y w (scalar_at (assign x v k) y)) (sym (get_or-set_other m.scalars x y u (pos 0) elsewhere)) (subst (b.scalar y (scalar_at m y)) (sym (get_or-set_other k.scalars x y v (pos 0) elsewhere)) (h.scalar y (omega (arith, below, same)))))
          (cases_eq y x);
      cell = h.cell;
      printed = h.printed;
    }

pub sizes_kept : (m r : Memory) → SameArrays m r → SameSizes m r
sizes_kept m r h a =
    sym (get_or-map length r.arrays a []) ∙ ap (λ xs. slice_index_or xs a 0) h ∙ get_or-map length m.arrays a []

put_sizes : (a p : ℕ) (v : ℤ) (m : Memory) → SameSizes m (put_cell a p v m)
put_sizes a p v m = sizes_kept m (put_cell a p v m) (arrays_kept.put a p v m)

pub put_elsewhere : (a p c q : ℕ) (v : ℤ) (m : Memory) → (a ≡ c → p ≢ q) → cell_at (put_cell a p v m) c q ≡ cell_at m c q
put_elsewhere a p c q v m apart =
    ⊎_elim
    (λ (here : a ≡ c).
    let at_place : List ℤ → ℤ = λ cells. slice_index_or cells q (pos 0) in
    let as_before : at_place (slice_set (cells_of m a) p v) ≡ at_place (cells_of m a) = get_or-set_other (cells_of m a) p q v (pos 0) (λ e. apart here (sym e)) in
    sym (get_or-map at_place (slice_set m.arrays a (slice_set (cells_of m a) p v)) c [])
    ∙ ap (λ row. slice_index_or row c (pos 0)) (map-set_same at_place m.arrays a (slice_set (cells_of m a) p v) [] as_before)
    ∙ get_or-map at_place m.arrays c [])
    (λ (elsewhere : a ≡ c → ⊥). ap (λ cells. slice_index_or cells q (pos 0)) (get_or-set_other m.arrays a c (slice_set (cells_of m a) p v) [] (λ e. elsewhere (sym e))))
    (cases_eq a c)

has_array : (m : Memory) (a p : ℕ) → p < length (cells_of m a) → a < length m.arrays
has_array m a p below =
    ⊎_elim (λ (there : a < length m.arrays). there)
    (λ (past : length m.arrays ≤ a). let none : cells_of m a ≡ [] = get_or_past m.arrays a [] past in absurd (omega (arith, below, ap length none)))
    (cases_lt a (length m.arrays))

put_here : (a p : ℕ) (v : ℤ) (m : Memory) → p < length (cells_of m a) → cell_at (put_cell a p v m) a p ≡ v
put_here a p v m below =
    ap (λ cells. slice_index_or cells p (pos 0)) (get_or-set_same m.arrays a (slice_set (cells_of m a) p v) [] (has_array m a p below))
    ∙ get_or-set_same (cells_of m a) p v (pos 0) below

put_apart : (b : Bond) (a p : ℕ) (u v : ℤ) (m k : Memory) → Bound b m k → (c q : ℕ) → q < length (cells_of m c) → (a ≡ c → p ≢ q) → b.cell c q (cell_at (put_cell a p u m) c q) (cell_at (put_cell a p v k) c q)
put_apart b a p u v m k h c q within apart =
    subst (λ w. b.cell c q w (cell_at (put_cell a p v k) c q)) (sym (put_elsewhere a p c q u m apart)) (subst (b.cell c q (cell_at m c q)) (sym (put_elsewhere a p c q v k apart)) (h.cell c q within))

put_bound : (b : Bond) (a p : ℕ) (u v : ℤ) (m k : Memory) → AreI64 (put_cell a p u m) → (p < length (cells_of m a) → b.cell a p u v) → Bound b m k → Bound b (put_cell a p u m) (put_cell a p v k)
put_bound b a p u v m k fits link h =
    record {
      numbers = fits;
      deep = h.deep;
      even = h.even;
      sizes = λ c. put_sizes a p v k c ∙ h.sizes c ∙ sym (put_sizes a p u m c);
      scalar = h.scalar;
      cell = λ c q below.
          let count = put_sizes a p u m c in
          let within : q < length (cells_of m c) = omega (arith, below, count) in
          ⊎_elim
          (λ (at_array : a ≡ c). ⊎_elim
          (λ (at_place : p ≡ q).
          let inside : p < length (cells_of m a) = subst (λ d. p < length (cells_of m d)) (sym at_array) (subst (λ z. z < length (cells_of m c)) (sym at_place) within) in
          let too : p < length (cells_of k a) = subst (λ z. p < z) (sym (h.sizes a)) inside in
          subst (λ d. b.cell d q (cell_at (put_cell a p u m) d q) (cell_at (put_cell a p v k) d q)) at_array
          (subst (λ z. b.cell a z (cell_at (put_cell a p u m) a z) (cell_at (put_cell a p v k) a z)) at_place
          (subst (λ w. b.cell a p w (cell_at (put_cell a p v k) a p)) (sym (put_here a p u m inside)) (subst (b.cell a p u) (sym (put_here a p v k too)) (link inside)))))
          (λ (off : p ≡ q → ⊥). put_apart b a p u v m k h c q within (λ same. off))
          (cases_eq p q))
          (λ (off : a ≡ c → ⊥). put_apart b a p u v m k h c q within (λ same. absurd (off same)))
          (cases_eq a c);
      printed = h.printed;
    }

pub cut_bound : (b : Bond) (m k r q : Memory) → Bound b m k → NoFewer m r → Bound b r q → Bound b (cut_to (length m.scalars) r) (cut_to (length k.scalars) q)
cut_bound b m k r q outer more h =
    let first = length-take (length m.scalars) r.scalars in
    let second = length-take (length k.scalars) q.scalars in
    let even = outer.even in
    let inner = h.even in
    let deep = outer.deep in
    record {
      numbers = record { scalars = All-take IsI64 (length m.scalars) r.scalars h.numbers.scalars; arrays = h.numbers.arrays; printed = h.numbers.printed };
      deep = omega (arith, deep, first, more);
      even = omega (arith, even, inner, first, second, more);
      sizes = h.sizes;
      scalar = λ x below.
          let within : x < length m.scalars = omega (arith, below, first, more) in
          subst (λ w. b.scalar x w (scalar_at (cut_to (length k.scalars) q) x)) (sym (get_or-take (length m.scalars) r.scalars x (pos 0) within))
          (subst (b.scalar x (scalar_at r x)) (sym (get_or-take (length k.scalars) q.scalars x (pos 0) (omega (arith, within, even)))) (h.scalar x (omega (arith, within, more))));
      cell = h.cell;
      printed = h.printed;
    }

print_bound : (b : Bond) (v : ℤ) (m k : Memory) → IsI64 v → IsPrinted b.printed → Bound b m k → Bound b (print v m) (print v k)
print_bound b v m k fits more h = record {
  numbers = run_fits (Print (Number v) 0) fits 0 m h.numbers;
  deep = h.deep;
  even = h.even;
  sizes = h.sizes;
  scalar = h.scalar;
  cell = h.cell;
  printed = more m.printed k.printed v fits h.printed;
}

-- combinators

alike_at : (b : Bond) (m k : Memory) (e : Outcome) (xs ys : List Deed) (go other : Memory → Ran) (given gives : Memory → List Deed) → Bound b m k → ys ≡ xs
    → ((r q : Memory) → Bound b r q → AreGranted b (given r) → Alike b (go r) (other q) (given r) (gives q)) → AreGranted b (on_end m e given)
    → Alike b (then_from m e go) (then_from k e other) (xs ++ on_end m e given) (ys ++ on_end k e gives)
alike_at b m k outcome.Done xs ys go other given gives h same f each =
    let later = f m k h each in record { ends = later.ends; bound = later.bound; same = λ i. same i ++ later.same i }
alike_at b m k (outcome.Trap t) xs ys go other given gives h same f each = record { ends = refl; bound = h; same = λ i. same i ++ [] }
alike_at b m k (outcome.OutOfTurns at) xs ys go other given gives h same f each = record { ends = refl; bound = h; same = λ i. same i ++ [] }

pub alike_then : (b : Bond) (r q : Ran) (xs ys : List Deed) (go other : Memory → Ran) (given gives : Memory → List Deed) → Alike b r q xs ys
    → ((m k : Memory) → Bound b m k → AreGranted b (given m) → Alike b (go m) (other k) (given m) (gives k)) → AreGranted b (on_done r given)
    → Alike b (then_do r go) (then_do q other) (xs ++ on_done r given) (ys ++ on_done q gives)
alike_then b r q xs ys go other given gives h f each =
    subst (λ e. Alike b (then_do r go) (then_from q.store e other) (xs ++ on_done r given) (ys ++ on_end q.store e gives)) (sym h.ends)
    (alike_at b r.store q.store r.end xs ys go other given gives h.bound h.same f each)

alike_last_at : (b : Bond) (m k : Memory) (e : Outcome) (xs ys : List Deed) (go other : Memory → Ran) → Bound b m k → ys ≡ xs
    → ((r q : Memory) → Bound b r q → Alike b (go r) (other q) [] []) → Alike b (then_from m e go) (then_from k e other) xs ys
alike_last_at b m k outcome.Done xs ys go other h same f = let later = f m k h in record { ends = later.ends; bound = later.bound; same = same }
alike_last_at b m k (outcome.Trap t) xs ys go other h same f = record { ends = refl; bound = h; same = same }
alike_last_at b m k (outcome.OutOfTurns at) xs ys go other h same f = record { ends = refl; bound = h; same = same }

alike_last : (b : Bond) (r q : Ran) (xs ys : List Deed) (go other : Memory → Ran) → Alike b r q xs ys
    → ((m k : Memory) → Bound b m k → Alike b (go m) (other k) [] []) → Alike b (then_do r go) (then_do q other) xs ys
alike_last b r q xs ys go other h f =
    subst (λ e. Alike b (then_do r go) (then_from q.store e other) xs ys) (sym h.ends) (alike_last_at b r.store q.store r.end xs ys go other h.bound h.same f)

alike_ok : {A : Type 0} (b : Bond) (o : Result A Trap) (m k : Memory) (go other : A → Ran) (given gives : A → List Deed) → Bound b m k
    → ((v : A) → o ≡ Ok v → AreGranted b (given v) → Alike b (go v) (other v) (given v) (gives v)) → AreGranted b (on_ok o given)
    → Alike b (with_value o m go) (with_value o k other) (on_ok o given) (on_ok o gives)
alike_ok b (Ok v) m k go other given gives h f each = f v refl each
alike_ok b (Err t) m k go other given gives h f each = record { ends = refl; bound = h; same = refl }

alike_behind : (b : Bond) (r q : Ran) (xs ys zs ws : List Deed) → ys ≡ xs → Alike b r q zs ws → Alike b r q (xs ++ zs) (ys ++ ws)
alike_behind b r q xs ys zs ws same h = record { ends = h.ends; bound = h.bound; same = λ i. same i ++ h.same i }

-- what an expression sees

same_scalar : (b : Bond) (m k : Memory) (x : ℕ) → Bound b m k → IsRead (b.scalar x) → scalar_at k x ≡ scalar_at m x
same_scalar b m k x h read =
    ⊎_elim
    (λ (there : x < length m.scalars). read (scalar_at m x) (scalar_at k x) (h.scalar x there))
    (λ (past : length m.scalars ≤ x). let even = h.even in get_or_past k.scalars x (pos 0) (omega (arith, past, even)) ∙ sym (get_or_past m.scalars x (pos 0) past))
    (cases_lt x (length m.scalars))

same_cell : (b : Bond) (m k : Memory) (a p : ℕ) → Bound b m k → IsRead (b.cell a p) → cell_at k a p ≡ cell_at m a p
same_cell b m k a p h read =
    ⊎_elim
    (λ (there : p < length (cells_of m a)). read (cell_at m a p) (cell_at k a p) (h.cell a p there))
    (λ (past : length (cells_of m a) ≤ p). let sizes = h.sizes a in get_or_past (cells_of k a) p (pos 0) (omega (arith, past, sizes)) ∙ sym (get_or_past (cells_of m a) p (pos 0) past))
    (cases_lt p (length (cells_of m a)))

sees : (b : Bond) (m k : Memory) → Bound b m k → (d : Deed) → Granted b d → SeesSame m k d
sees b m k h (reads x) g = same_scalar b m k x h g
sees b m k h (sets x) g = tt
sees b m k h (folds f x) g = tt
sees b m k h (loads a p) g = same_cell b m k a p h g
sees b m k h (stores a p) g = tt
sees b m k h (joins f a p) g = tt
sees b m k h prints g = tt

all_seen : (b : Bond) (m k : Memory) → Bound b m k → (ds : List Deed) → AreGranted b ds → AllByRecursion (SeesSame m k) ds
all_seen b m k h [] g = tt
all_seen b m k h (d ∷ ds) g = (sees b m k h d g.0, all_seen b m k h ds g.1)

same_value : (b : Bond) (e : Expr) (m k : Memory) → Bound b m k → AreGranted b (value_deeds e m) → value_of e k ≡ value_of e m
same_value b e m k h each = value_from_what_it_sees e m k h.sizes (All-from_recursion (SeesSame m k) (value_deeds e m) (all_seen b m k h (value_deeds e m) each))

same_deeds : (b : Bond) (e : Expr) (m k : Memory) → Bound b m k → AreGranted b (value_deeds e m) → value_deeds e k ≡ value_deeds e m
same_deeds b e m k h each = deeds_from_what_it_sees e m k h.sizes (All-from_recursion (SeesSame m k) (value_deeds e m) (all_seen b m k h (value_deeds e m) each))

same_place : (b : Bond) (c : Access) (m k : Memory) → Bound b m k → AreGranted b (value_deeds c.index m) → cell_of c k ≡ cell_of c m
same_place b c m k h each =
    ap (λ o. then_use o (λ i. place_of c.wrap c.array.at (length (cells_of k c.array.id)) i)) (same_value b c.index m k h each)
    ∙ ap (λ count. then_use (value_of c.index m) (λ i. place_of c.wrap c.array.at count i)) (h.sizes c.array.id)

alike_expr : (b : Bond) (e : Expr) (m k : Memory) (go other : ℤ → Ran) (given gives : ℤ → List Deed) → IsI64Expr e → Bound b m k
    → ((v : ℤ) → IsI64 v → value_of e m ≡ Ok v → AreGranted b (given v) → Alike b (go v) (other v) (given v) (gives v))
    → AreGranted b (value_deeds e m ++ on_ok (value_of e m) given)
    → Alike b (with_value (value_of e m) m go) (with_value (value_of e k) k other) (value_deeds e m ++ on_ok (value_of e m) given) (value_deeds e k ++ on_ok (value_of e k) gives)
alike_expr b e m k go other given gives t h f each =
    let parts = each_of_both (Granted b) (value_deeds e m) _ each in
    subst (λ o. Alike b (with_value (value_of e m) m go) (with_value o k other) (value_deeds e m ++ on_ok (value_of e m) given) (value_deeds e k ++ on_ok o gives)) (sym (same_value b e m k h parts.0))
    (alike_behind b (with_value (value_of e m) m go) (with_value (value_of e m) k other) (value_deeds e m) (value_deeds e k) _ _ (same_deeds b e m k h parts.0)
    (alike_ok b (value_of e m) m k go other given gives h (λ v is g. f v (fits_found (value_of e m) v (value_fits e m t h.numbers) is) is g) parts.1))

no_deeds : (b : Bond) (o : Answer) → AreGranted b (on_ok o (λ v. []))
no_deeds b (Ok v) = tt
no_deeds b (Err t) = tt

-- an expression behind which no deed comes
alike_only : (b : Bond) (e : Expr) (m k : Memory) (go other : ℤ → Ran) → IsI64Expr e → Bound b m k
    → ((v : ℤ) → IsI64 v → Alike b (go v) (other v) [] []) → AreGranted b (value_deeds e m)
    → Alike b (with_value (value_of e m) m go) (with_value (value_of e k) k other) (value_deeds e m) (value_deeds e k)
alike_only b e m k go other t h f each =
    let ran = alike_ok b (value_of e m) m k go other (λ v. []) (λ v. []) h (λ v is g. f v (fits_found (value_of e m) v (value_fits e m t h.numbers) is)) (no_deeds b (value_of e m)) in
    subst (λ o. Alike b (with_value (value_of e m) m go) (with_value o k other) (value_deeds e m) (value_deeds e k)) (sym (same_value b e m k h each))
    (record { ends = ran.ends; bound = ran.bound; same = same_deeds b e m k h each })

-- an access, an expression, and then a deed on the cell
alike_cell : (b : Bond) (c : Access) (e : Expr) (m k : Memory) (deed : ℕ → Deed) (go other : ℕ → ℤ → Ran) → IsI64Expr e → Bound b m k
    → ((place : ℕ) (v : ℤ) → IsI64 v → cell_of c m ≡ Ok place → Granted b (deed place) → Alike b (go place v) (other place v) (deed place ∷ []) (deed place ∷ []))
    → AreGranted b (cell_then c e m deed)
    → Alike b (with_value (cell_of c m) m (λ place. with_value (value_of e m) m (go place))) (with_value (cell_of c k) k (λ place. with_value (value_of e k) k (other place))) (cell_then c e m deed) (cell_then c e k deed)
alike_cell b c e m k deed go other t h f each =
    let parts = each_of_both (Granted b) (value_deeds c.index m) _ each in
    let first : ℕ → Ran = λ place. with_value (value_of e m) m (go place) in
    let second : ℕ → Ran = λ place. with_value (value_of e k) k (other place) in
    subst (λ o. Alike b (with_value (cell_of c m) m first) (with_value o k second) (cell_then c e m deed) (value_deeds c.index k ++ on_ok o (λ place. value_then e k (deed place)))) (sym (same_place b c m k h parts.0))
    (alike_behind b (with_value (cell_of c m) m first) (with_value (cell_of c m) k second) (value_deeds c.index m) (value_deeds c.index k) _ _ (same_deeds b c.index m k h parts.0)
    (alike_ok b (cell_of c m) m k first second (λ place. value_then e m (deed place)) (λ place. value_then e k (deed place)) h
    (λ place is g. alike_expr b e m k (go place) (other place) (λ v. deed place ∷ []) (λ v. deed place ∷ []) t h (λ v fits e_is one. f place v fits is one.0) g) parts.1))

alike_if : (b : Bond) (test : Bool) (r q x y : Ran) (xs ys zs ws : List Deed) → (AreGranted b xs → Alike b r q xs ys) → (AreGranted b zs → Alike b x y zs ws)
    → AreGranted b (if test then xs else zs) → Alike b (if test then r else x) (if test then q else y) (if test then xs else zs) (if test then ys else ws)
alike_if b true r q x y xs ys zs ws h g each = h each
alike_if b false r q x y xs ys zs ws h g each = g each

-- a row in a block, and in a turn

abbrev pub IsAlikeRow : Bond → (Memory → Ran) → (Memory → List Deed) → Type 0
IsAlikeRow b body given = (m k : Memory) → Bound b m k → AreGranted b (given m) → Alike b (body m) (body k) (given m) (given k)

alike_block : (b : Bond) (body : Memory → Ran) (given : Memory → List Deed) → ((m : Memory) → NoFewer m (body m).store) → IsAlikeRow b body given → IsAlikeRow b (block body) given
alike_block b body given more f m k h each =
    let inner = f m k h each in
    record { ends = inner.ends; bound = cut_bound b m k (body m).store (body k).store h (more m) inner.bound; same = inner.same }

pub alike_turn : (b : Bond) → HasInner b → (body : Memory → Ran) (given : Memory → List Deed) → ((m : Memory) → NoFewer m (body m).store) → IsAlikeRow b body given
    → (i : ℤ) → IsI64 i → IsAlikeRow b (turn body i) (λ r. given (declare i r))
alike_turn b has body given more f i fits m k h each =
    let inner = f (declare i m) (declare i k) (declare_bound b i m k has fits h) each in
    let longer = length-append m.scalars (i ∷ []) in
    let grown = more (declare i m) in
    record { ends = inner.ends; bound = cut_bound b m k (body (declare i m)).store (body (declare i k)).store h (omega (arith, longer, grown)) inner.bound; same = inner.same }

ends_alike : (b : Bond) (test : Bool) (at : ℕ) (m k : Memory) → Bound b m k → Alike b (if test then done m else starved at m) (if test then done k else starved at k) [] []
ends_alike b true at m k h = record { ends = refl; bound = h; same = refl }
ends_alike b false at m k h = record { ends = refl; bound = h; same = refl }

alike_while : (b : Bond) (at : ℕ) (e : Expr) (body : Memory → Ran) (given : Memory → List Deed) → IsI64Expr e → IsAlikeRow b body given
    → (n : ℕ) → IsAlikeRow b (while_turns at (value_of e) body n) (while_gives (value_of e) (value_deeds e) body given n)
alike_while b at e body given t f zero m k h each =
    alike_only b e m k (λ v. if is_zero v then done m else starved at m) (λ v. if is_zero v then done k else starved at k) t h
    (λ v fits. ends_alike b (is_zero v) at m k h) each
alike_while b at e body given t f (suc n) m k h each =
    alike_expr b e m k _ _ (λ v. if is_zero v then [] else given m ++ on_done (body m) (while_gives (value_of e) (value_deeds e) body given n)) (λ v. if is_zero v then [] else given k ++ on_done (body k) (while_gives (value_of e) (value_deeds e) body given n)) t h
    (λ v fits is g. alike_if b (is_zero v) (done m) (done k) _ _ [] [] (given m ++ on_done (body m) (while_gives (value_of e) (value_deeds e) body given n)) (given k ++ on_done (body k) (while_gives (value_of e) (value_deeds e) body given n)) (λ none. record { ends = refl; bound = h; same = refl })
    (λ both. let parts = each_of_both (Granted b) (given m) _ both in
    alike_then b (body m) (body k) (given m) (given k) (while_turns at (value_of e) body n) (while_turns at (value_of e) body n) (while_gives (value_of e) (value_deeds e) body given n) (while_gives (value_of e) (value_deeds e) body given n) (f m k h parts.0) (alike_while b at e body given t f n) parts.1) g) each

pub alike_first : (b : Bond) (body : ℤ → Memory → Ran) (given : ℤ → Memory → List Deed) (low : ℤ) (count : ℕ) → ((j : ℕ) → j < count → IsAlikeRow b (body (low +ℤ pos j)) (given (low +ℤ pos j)))
    → IsAlikeRow b (first_turns body low count) (first_give body given low count)
alike_first b body given low zero f m k h each = record { ends = refl; bound = h; same = refl }
alike_first b body given low (suc j) f m k h each =
    let parts = each_of_both (Granted b) (first_give body given low j m) _ each in
    alike_then b (first_turns body low j m) (first_turns body low j k) (first_give body given low j m) (first_give body given low j k) (body (low +ℤ pos j)) (body (low +ℤ pos j)) (given (low +ℤ pos j)) (given (low +ℤ pos j))
    (alike_first b body given low j (λ i less. f i (omega (arith, less))) m k h parts.0) (f j (omega arith)) parts.1

alike_for : (b : Bond) (at : ℕ) (body : ℤ → Memory → Ran) (given : ℤ → Memory → List Deed) (low : ℤ) (count n : ℕ) → ((j : ℕ) → j < min count n → IsAlikeRow b (body (low +ℤ pos j)) (given (low +ℤ pos j)))
    → IsAlikeRow b (for_turns at body low count n) (first_give body given low (min count n))
alike_for b at body given low count n f m k h each =
    alike_last b (first_turns body low (min count n) m) (first_turns body low (min count n) k) _ _ (λ r. if nat_le count n then done r else starved at r) (λ r. if nat_le count n then done r else starved at r)
    (alike_first b body given low (min count n) f m k h each) (λ r q g. ends_alike b (nat_le count n) at r q g)

-- the index of each turn has 64 bits
index_fits : (a b : ℤ) (j n : ℕ) → IsI64 a → IsI64 b → j < min (int_gap a b) n → IsI64 (a +ℤ pos j)
index_fits (pos a) (pos b) j n fits_a fits_b h = omega (arith, ints, h, fits_a, fits_b)
index_fits (pos a) (negsuc b) j n fits_a fits_b h = absurd (omega (arith, ints, h))
index_fits (negsuc a) (pos b) j n fits_a fits_b h = omega (arith, ints, h, fits_a, fits_b)
index_fits (negsuc a) (negsuc b) j n fits_a fits_b h = omega (arith, ints, h, fits_a, fits_b)

mutual
  pub run_alike : (b : Bond) → HasInner b → (s : Stmt) (n : ℕ) → IsI64Stmt s → IsAlikeRow b (run s n) (deeds s n)
  run_alike b has (Let x e) n t m k h each =
      alike_only b e m k _ _ t h (λ v fits. record { ends = refl; bound = declare_bound b v m k has fits h; same = refl }) each
  run_alike b has (Set x e) n t m k h each =
      alike_expr b e m k _ _ (λ v. sets x.id ∷ []) (λ v. sets x.id ∷ []) t h
      (λ v fits is one. record { ends = refl; bound = assign_bound b x.id v v m k (run_fits (Set x (Number v)) fits 0 m h.numbers) (λ there. one.0 v fits) h; same = refl }) each
  run_alike b has (FoldInto x f e) n t m k h each =
      alike_expr b e m k _ _ (λ v. folds f x.id ∷ []) (λ v. folds f x.id ∷ []) t h
      (λ v fits is one. record { ends = refl; bound = assign_bound b x.id (join_of f (scalar_at m x.id) v) (join_of f (scalar_at k x.id) v) m k (run_fits (FoldInto x f (Number v)) fits 0 m h.numbers) (λ there. one.0 (scalar_at m x.id) (scalar_at k x.id) v fits (h.scalar x.id there)) h; same = refl }) each
  run_alike b has (Put c e) n t m k h each =
      alike_cell b c e m k (stores c.array.id) _ _ t.1 h
      (λ place v fits is g. record { ends = refl; bound = put_bound b c.array.id place v v m k (subst (λ o. AreI64 (with_value o m (λ q. done (put_cell c.array.id q v m))).store) is (run_fits (Put c (Number v)) (t.0, fits) 0 m h.numbers)) (λ there. g v fits) h; same = refl }) each
  run_alike b has (FoldPut c f e) n t m k h each =
      alike_cell b c e m k (joins f c.array.id) _ _ t.1 h
      (λ place v fits is g. record { ends = refl; bound = put_bound b c.array.id place (join_of f (cell_at m c.array.id place) v) (join_of f (cell_at k c.array.id place) v) m k (subst (λ o. AreI64 (with_value o m (λ q. done (put_cell c.array.id q (join_of f (cell_at m c.array.id q) v) m))).store) is (run_fits (FoldPut c f (Number v)) (t.0, fits) 0 m h.numbers)) (λ there. g (cell_at m c.array.id place) (cell_at k c.array.id place) v fits (h.cell c.array.id place there)) h; same = refl }) each
  run_alike b has (If' test p then_part q else_part) n t m k h each =
      alike_expr b test m k _ _ (λ v. if is_zero v then deeds_row else_part n m else deeds_row then_part n m) (λ v. if is_zero v then deeds_row else_part n k else deeds_row then_part n k) t.0 h
      (λ v fits is g. alike_if b (is_zero v) (block (run_row else_part n) m) (block (run_row else_part n) k) (block (run_row then_part n) m) (block (run_row then_part n) k) _ _ _ _
      (λ one. alike_block b (run_row else_part n) (deeds_row else_part n) (λ r. row_kept NoFewer scalars_kept else_part n r) (row_alike b has else_part n t.2) m k h one) (λ one. alike_block b (run_row then_part n) (deeds_row then_part n) (λ r. row_kept NoFewer scalars_kept then_part n r) (row_alike b has then_part n t.1) m k h one) g) each
  run_alike b has (While' test p body at) n t m k h each =
      alike_while b at test (block (run_row body n)) (deeds_row body n) t.0 (alike_block b (run_row body n) (deeds_row body n) (λ r. row_kept NoFewer scalars_kept body n r) (row_alike b has body n t.1)) n m k h each
  run_alike b has (For' x low high p body seq at) n t m k h each =
      alike_expr b low m k _ _ (λ i. value_deeds high m ++ on_ok (value_of high m) (λ j. first_give (turn (run_row body n)) (λ v r. deeds_row body n (declare v r)) i (min (int_gap i j) n) m)) (λ i. value_deeds high k ++ on_ok (value_of high k) (λ j. first_give (turn (run_row body n)) (λ v r. deeds_row body n (declare v r)) i (min (int_gap i j) n) k)) t.0 h
      (λ i fits_i is_i g. alike_expr b high m k _ _ (λ j. first_give (turn (run_row body n)) (λ v r. deeds_row body n (declare v r)) i (min (int_gap i j) n) m) (λ j. first_give (turn (run_row body n)) (λ v r. deeds_row body n (declare v r)) i (min (int_gap i j) n) k) t.1 h
      (λ j fits_j is_j turns. alike_for b at (turn (run_row body n)) (λ v r. deeds_row body n (declare v r)) i (int_gap i j) n
      (λ l less. alike_turn b has (run_row body n) (deeds_row body n) (λ r. row_kept NoFewer scalars_kept body n r) (row_alike b has body n t.2) (i +ℤ pos l) (index_fits i j l n fits_i fits_j less)) m k h turns) g) each
  run_alike b has (Print e at) n t m k h each =
      alike_expr b e m k _ _ (λ v. prints ∷ []) (λ v. prints ∷ []) t h (λ v fits is one. record { ends = refl; bound = print_bound b v m k fits one.0 h; same = refl }) each

  row_alike : (b : Bond) → HasInner b → {l : _} (row : Row_of-Stmt l) (n : ℕ) → IsI64Row row → IsAlikeRow b (run_row row n) (deeds_row row n)
  row_alike b has end_of-Stmt n t m k h each = record { ends = refl; bound = h; same = refl }
  row_alike b has (more_of-Stmt s rest) n t m k h each =
      let parts = each_of_both (Granted b) (deeds s n m) _ each in
      alike_then b (run s n m) (run s n k) (deeds s n m) (deeds s n k) (run_row rest n) (run_row rest n) (deeds_row rest n) (deeds_row rest n) (run_alike b has s n t.0 m k h parts.0) (row_alike b has rest n t.1) parts.1
