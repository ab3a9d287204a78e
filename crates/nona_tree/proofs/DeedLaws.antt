-- A run changes only what its deeds name.
use Rattle.std.proofs.Common.{◌≡◌, ◌≢◌, ◌<◌, ℕ, zero, suc, ℤ, pos, ◌+ℤ◌, Bool, true, false, List, [], ◌∷◌, ◌++◌, length, refl, sym, ap, ◌∙◌, arith, if◌then◌else◌, length-append, length-take, ⊎_elim}
use Rattle.std.specs.Prelude.{min, nat_le, Result, Ok, Err, All, slice_index_or, slice_set}
use Rattle.std.specs.List.{AllByRecursion}
use Rattle.std.specs.Int.{int_gap}
use Rattle.std.proofs.lemmas.Bool.{cases_eq}
use Rattle.std.proofs.lemmas.List.{length-set, get_or-set_other, get_or-take, get_or_append_left}
use Rattle.std.proofs.lemmas.List.Elements.{recursion_from_All}
use Rattle.std.proofs.Math.Seq.{map-set_same}
use Rattle.std.proofs.Math.ListN.{get_or-map}
use Rattle.nona_num.specs.declared.folds.Fold.{Fold}
use Rattle.nona_tree.specs.declared.outcomes.Trap.{Trap}
use Rattle.nona_tree.specs.declared.outcomes.Outcome.{Outcome}
use Rattle.nona_tree.specs.declared.outcomes.Outcome.TheVariants as outcome
use Rattle.nona_tree.specs.declared.trees.Access.{Access}
use Rattle.nona_tree.specs.declared.trees.Expr.{Expr}
use Rattle.nona_tree.specs.declared.trees.Stmt.{Stmt, Let, Set, Fold as FoldInto, Put, FoldPut, If', While', For', Print, Row_of-Stmt, end_of-Stmt, more_of-Stmt}
use Rattle.nona_tree.specs.Memory.{Memory, scalar_at, cells_of, cell_at, declare, assign, put_cell, print, cut_to}
use Rattle.nona_tree.specs.Value.{Answer, is_zero, value_of, cell_of}
use Rattle.nona_tree.specs.Run.{Ran, done, starved, with_value, then_from, then_do, block, turn, while_turns, first_turns, for_turns, run, run_row, run_all}
use Rattle.nona_tree.specs.Beside.{on_ok, on_end, on_done, while_gives, first_give}
use Rattle.nona_tree.specs.Deeds.{Deed, sets, folds, stores, joins, prints, value_deeds, value_then, cell_then, deeds, deeds_row, deeds_all, SparesScalar, SparesCell, SparesPrinted}
use Rattle.nona_tree.proofs.Keeps.{IsPreorder, kept_value, kept_then, kept_if}

-- a relation between stores that a run has whose deeds are all spared
pub record IsSpared (Spares : Deed → Type 0) (R : Memory → Memory → Type 0) : Type 0 where
  pub order : IsPreorder R
  pub declared : (v : ℤ) (m : Memory) → R m (declare v m)
  pub set : (id : ℕ) (v : ℤ) (m : Memory) → Spares (sets id) → R m (assign id v m)
  pub folded : (f : Fold) (id : ℕ) (v : ℤ) (m : Memory) → Spares (folds f id) → R m (assign id v m)
  pub stored : (id place : ℕ) (v : ℤ) (m : Memory) → Spares (stores id place) → R m (put_cell id place v m)
  pub joined : (f : Fold) (id place : ℕ) (v : ℤ) (m : Memory) → Spares (joins f id place) → R m (put_cell id place v m)
  pub printed : (v : ℤ) (m : Memory) → Spares prints → R m (print v m)
  pub left : (outer m : Memory) → R outer m → R outer (cut_to (length outer.scalars) m)

-- what holds of each in two lists holds of each in both
pub each_of_both : (P : Deed → Type 0) (xs ys : List Deed) → AllByRecursion P (xs ++ ys) → AllByRecursion P xs × AllByRecursion P ys
each_of_both P [] ys h = (tt, h)
each_of_both P (x ∷ xs) ys h = let both = each_of_both P xs ys h.1 in ((h.0, both.0), both.1)

spared_value : {A : Type 0} (S : Deed → Type 0) (R : Memory → Memory → Type 0) → IsSpared S R → (o : Result A Trap) (m : Memory) (go : A → Ran) (given : A → List Deed)
    → ((a : A) → AllByRecursion S (given a) → R m (go a).store) → AllByRecursion S (on_ok o given) → R m (with_value o m go).store
spared_value S R k (Ok a) m go given h each = h a each
spared_value S R k (Err t) m go given h each = k.order.same m

spared_from : (S : Deed → Type 0) (R : Memory → Memory → Type 0) → IsSpared S R → (m r : Memory) (e : Outcome) (go : Memory → Ran) (given : Memory → List Deed)
    → R m r → ((x : Memory) → AllByRecursion S (given x) → R x (go x).store) → AllByRecursion S (on_end r e given) → R m (then_from r e go).store
spared_from S R k m r outcome.Done go given h g each = k.order.chain m r (go r).store h (g r each)
spared_from S R k m r (outcome.Trap t) go given h g each = h
spared_from S R k m r (outcome.OutOfTurns at) go given h g each = h

spared_if : (S : Deed → Type 0) (R : Memory → Memory → Type 0) (b : Bool) (m : Memory) (r q : Ran) (xs ys : List Deed)
    → (AllByRecursion S xs → R m r.store) → (AllByRecursion S ys → R m q.store) → AllByRecursion S (if b then xs else ys) → R m (if b then r else q).store
spared_if S R true m r q xs ys h g each = h each
spared_if S R false m r q xs ys h g each = g each

spared_while : (S : Deed → Type 0) (R : Memory → Memory → Type 0) → IsSpared S R → (at : ℕ) (test : Memory → Answer) (asked : Memory → List Deed) (body : Memory → Ran) (given : Memory → List Deed)
    → ((x : Memory) → AllByRecursion S (given x) → R x (body x).store)
    → (n : ℕ) (m : Memory) → AllByRecursion S (while_gives test asked body given n m) → R m (while_turns at test body n m).store
spared_while S R k at test asked body given h zero m each =
    kept_value R k.order (test m) m _ (λ v. kept_if R (is_zero v) m (done m) (starved at m) (k.order.same m) (k.order.same m))
spared_while S R k at test asked body given h (suc n) m each =
    spared_value S R k (test m) m _ (λ v. if is_zero v then [] else given m ++ on_done (body m) (while_gives test asked body given n))
    (λ v later. spared_if S R (is_zero v) m (done m) (then_do (body m) (while_turns at test body n)) [] (given m ++ on_done (body m) (while_gives test asked body given n))
    (λ none. k.order.same m)
    (λ turn_and_rest. let parts = each_of_both S (given m) _ turn_and_rest in
    spared_from S R k m (body m).store (body m).end (while_turns at test body n) (while_gives test asked body given n) (h m parts.0) (λ x. spared_while S R k at test asked body given h n x) parts.1)
    later)
    (each_of_both S (asked m) _ each).1

spared_first : (S : Deed → Type 0) (R : Memory → Memory → Type 0) → IsSpared S R → (body : ℤ → Memory → Ran) (given : ℤ → Memory → List Deed) (low : ℤ)
    → ((i : ℤ) (x : Memory) → AllByRecursion S (given i x) → R x (body i x).store)
    → (count : ℕ) (m : Memory) → AllByRecursion S (first_give body given low count m) → R m (first_turns body low count m).store
spared_first S R k body given low h zero m each = k.order.same m
spared_first S R k body given low h (suc j) m each =
    let parts = each_of_both S (first_give body given low j m) _ each in
    let before = first_turns body low j m in
    spared_from S R k m before.store before.end (body (low +ℤ pos j)) (given (low +ℤ pos j)) (spared_first S R k body given low h j m parts.0) (h (low +ℤ pos j)) parts.1

spared_for : (S : Deed → Type 0) (R : Memory → Memory → Type 0) → IsSpared S R → (at : ℕ) (body : ℤ → Memory → Ran) (given : ℤ → Memory → List Deed) (low : ℤ)
    → ((i : ℤ) (x : Memory) → AllByRecursion S (given i x) → R x (body i x).store)
    → (count n : ℕ) (m : Memory) → AllByRecursion S (first_give body given low (min count n) m) → R m (for_turns at body low count n m).store
spared_for S R k at body given low h count n m each =
    kept_then R k.order m (first_turns body low (min count n) m) _ (spared_first S R k body given low h (min count n) m each) (λ r. kept_if R (nat_le count n) r (done r) (starved at r) (k.order.same r) (k.order.same r))

spared_block : (S : Deed → Type 0) (R : Memory → Memory → Type 0) → IsSpared S R → (body : Memory → Ran) (given : Memory → List Deed)
    → ((x : Memory) → AllByRecursion S (given x) → R x (body x).store) → (m : Memory) → AllByRecursion S (given m) → R m (block body m).store
spared_block S R k body given h m each = k.left m (body m).store (h m each)

spared_turn : (S : Deed → Type 0) (R : Memory → Memory → Type 0) → IsSpared S R → (body : Memory → Ran) (given : Memory → List Deed)
    → ((x : Memory) → AllByRecursion S (given x) → R x (body x).store) → (i : ℤ) (m : Memory) → AllByRecursion S (given (declare i m)) → R m (turn body i m).store
spared_turn S R k body given h i m each =
    k.left m (body (declare i m)).store (k.order.chain m (declare i m) (body (declare i m)).store (k.declared i m) (h (declare i m) each))

-- an expression, and then one deed
spared_then : (S : Deed → Type 0) (R : Memory → Memory → Type 0) → IsSpared S R → (e : Expr) (m : Memory) (deed : Deed) (go : ℤ → Ran)
    → ((v : ℤ) → S deed → R m (go v).store) → AllByRecursion S (value_then e m deed) → R m (with_value (value_of e m) m go).store
spared_then S R k e m deed go h each =
    spared_value S R k (value_of e m) m go (λ v. deed ∷ []) (λ v one. h v one.0) (each_of_both S (value_deeds e m) _ each).1

-- a cell, an expression, and then one deed
spared_cell : (S : Deed → Type 0) (R : Memory → Memory → Type 0) → IsSpared S R → (c : Access) (e : Expr) (m : Memory) (deed : ℕ → Deed) (go : ℕ → ℤ → Ran)
    → ((place : ℕ) (v : ℤ) → S (deed place) → R m (go place v).store) → AllByRecursion S (cell_then c e m deed)
    → R m (with_value (cell_of c m) m (λ place. with_value (value_of e m) m (go place))).store
spared_cell S R k c e m deed go h each =
    spared_value S R k (cell_of c m) m _ (λ place. value_then e m (deed place)) (λ place one. spared_then S R k e m (deed place) (go place) (h place) one) (each_of_both S (value_deeds c.index m) _ each).1

mutual
  pub run_spared : (S : Deed → Type 0) (R : Memory → Memory → Type 0) → IsSpared S R → (s : Stmt) (n : ℕ) (m : Memory) → AllByRecursion S (deeds s n m) → R m (run s n m).store
  run_spared S R k (Let x e) n m each = kept_value R k.order (value_of e m) m _ (λ v. k.declared v m)
  run_spared S R k (Set x e) n m each = spared_then S R k e m (sets x.id) _ (λ v one. k.set x.id v m one) each
  run_spared S R k (FoldInto x f e) n m each = spared_then S R k e m (folds f x.id) _ (λ v one. k.folded f x.id _ m one) each
  run_spared S R k (Put c e) n m each =
      spared_cell S R k c e m (stores c.array.id) _ (λ place v one. k.stored c.array.id place v m one) each
  run_spared S R k (FoldPut c f e) n m each =
      spared_cell S R k c e m (joins f c.array.id) _ (λ place v one. k.joined f c.array.id place _ m one) each
  run_spared S R k (If' test p then_part q else_part) n m each =
      spared_value S R k (value_of test m) m _ (λ v. if is_zero v then deeds_row else_part n m else deeds_row then_part n m)
      (λ v later. spared_if S R (is_zero v) m (block (run_row else_part n) m) (block (run_row then_part n) m) (deeds_row else_part n m) (deeds_row then_part n m)
      (λ one. spared_block S R k (run_row else_part n) (deeds_row else_part n) (λ x. row_spared S R k else_part n x) m one)
      (λ one. spared_block S R k (run_row then_part n) (deeds_row then_part n) (λ x. row_spared S R k then_part n x) m one)
      later)
      (each_of_both S (value_deeds test m) _ each).1
  run_spared S R k (While' test p body at) n m each =
      spared_while S R k at (value_of test) (value_deeds test) (block (run_row body n)) (deeds_row body n)
      (λ x one. spared_block S R k (run_row body n) (deeds_row body n) (λ y. row_spared S R k body n y) x one) n m each
  run_spared S R k (For' x low high p body seq at) n m each =
      spared_value S R k (value_of low m) m _ (λ a. value_deeds high m ++ on_ok (value_of high m) (λ b. first_give (turn (run_row body n)) (λ i r. deeds_row body n (declare i r)) a (min (int_gap a b) n) m))
      (λ a later. spared_value S R k (value_of high m) m _ (λ b. first_give (turn (run_row body n)) (λ i r. deeds_row body n (declare i r)) a (min (int_gap a b) n) m)
      (λ b turns. spared_for S R k at (turn (run_row body n)) (λ i r. deeds_row body n (declare i r)) a
      (λ i r one. spared_turn S R k (run_row body n) (deeds_row body n) (λ y. row_spared S R k body n y) i r one) (int_gap a b) n m turns)
      (each_of_both S (value_deeds high m) _ later).1)
      (each_of_both S (value_deeds low m) _ each).1
  run_spared S R k (Print e at) n m each = spared_then S R k e m prints _ (λ v one. k.printed v m one) each

  pub row_spared : (S : Deed → Type 0) (R : Memory → Memory → Type 0) → IsSpared S R → {j : _} (row : Row_of-Stmt j) (n : ℕ) (m : Memory) → AllByRecursion S (deeds_row row n m) → R m (run_row row n m).store
  row_spared S R k end_of-Stmt n m each = k.order.same m
  row_spared S R k (more_of-Stmt s rest) n m each =
      let parts = each_of_both S (deeds s n m) _ each in
      spared_from S R k m (run s n m).store (run s n m).end (run_row rest n) (deeds_row rest n) (run_spared S R k s n m parts.0) (λ x. row_spared S R k rest n x) parts.1

pub all_spared : (S : Deed → Type 0) (R : Memory → Memory → Type 0) → IsSpared S R → (ss : List Stmt) (n : ℕ) (m : Memory) → AllByRecursion S (deeds_all ss n m) → R m (run_all ss n m).store
all_spared S R k [] n m each = k.order.same m
all_spared S R k (s ∷ rest) n m each =
    let parts = each_of_both S (deeds s n m) _ each in
    spared_from S R k m (run s n m).store (run s n m).end (run_all rest n) (deeds_all rest n) (run_spared S R k s n m parts.0) (λ x. all_spared S R k rest n x) parts.1

-- a scalar that is visible before is so after, with its value
abbrev KeepsScalar : ℕ → Memory → Memory → Type 0
KeepsScalar id m r = id < length m.scalars → (id < length r.scalars) × (scalar_at r id ≡ scalar_at m id)

other_set : (id x : ℕ) (v : ℤ) (m : Memory) → x ≢ id → KeepsScalar id m (assign x v m)
other_set id x v m apart below =
    let same_length = length-set m.scalars x v in
    (omega (arith, below, same_length), get_or-set_other m.scalars x id v (pos 0) (λ e. apart (sym e)))

scalar_spared : (id : ℕ) → IsSpared (SparesScalar id) (KeepsScalar id)
scalar_spared id = record {
  order = record {
    same = λ m below. (below, refl);
    chain = λ a b c h g below. let first = h below in let second = g first.0 in (second.0, second.1 ∙ first.1);
  };
  declared = λ v m below.
      let longer = length-append m.scalars (v ∷ []) in
      (omega (arith, below, longer), get_or_append_left m.scalars (v ∷ []) (pos 0) id below);
  set = λ x v m apart. other_set id x v m apart;
  folded = λ f x v m apart. other_set id x v m apart;
  stored = λ a p v m spared below. (below, refl);
  joined = λ f a p v m spared below. (below, refl);
  printed = λ v m spared below. (below, refl);
  left = λ outer m h below.
      let kept = h below in
      let count = length-take (length outer.scalars) m.scalars in
      let within : id < length m.scalars = kept.0 in
      (omega (arith, below, within, count), get_or-take (length outer.scalars) m.scalars id (pos 0) below ∙ kept.1);
}

abbrev KeepsCell : ℕ → ℕ → Memory → Memory → Type 0
KeepsCell array place m r = cell_at r array place ≡ cell_at m array place

other_cell : (array place a p : ℕ) (v : ℤ) (m : Memory) → (a ≡ array → p ≢ place) → KeepsCell array place m (put_cell a p v m)
other_cell array place a p v m apart =
    ⊎_elim
    (λ (here : a ≡ array).
    let at_place : List ℤ → ℤ = λ cells. slice_index_or cells place (pos 0) in
    let as_before : at_place (slice_set (cells_of m a) p v) ≡ at_place (cells_of m a) =
    get_or-set_other (cells_of m a) p place v (pos 0) (λ e. apart here (sym e)) in
    sym (get_or-map at_place (slice_set m.arrays a (slice_set (cells_of m a) p v)) array [])
    ∙ ap (λ row. slice_index_or row array (pos 0)) (map-set_same at_place m.arrays a (slice_set (cells_of m a) p v) [] as_before)
    ∙ get_or-map at_place m.arrays array [])
    (λ (elsewhere : a ≡ array → ⊥).
    ap (λ cells. slice_index_or cells place (pos 0)) (get_or-set_other m.arrays a array (slice_set (cells_of m a) p v) [] (λ e. elsewhere (sym e))))
    (cases_eq a array)

cell_spared : (array place : ℕ) → IsSpared (SparesCell array place) (KeepsCell array place)
cell_spared array place = record {
  order = record { same = λ m. refl; chain = λ a b c h g. g ∙ h };
  declared = λ v m. refl;
  set = λ x v m spared. refl;
  folded = λ f x v m spared. refl;
  stored = λ a p v m apart. other_cell array place a p v m apart;
  joined = λ f a p v m apart. other_cell array place a p v m apart;
  printed = λ v m spared. refl;
  left = λ outer m h. h;
}

abbrev KeepsPrinted : Memory → Memory → Type 0
KeepsPrinted m r = r.printed ≡ m.printed

printed_spared : IsSpared SparesPrinted KeepsPrinted
printed_spared = record {
  order = record { same = λ m. refl; chain = λ a b c h g. g ∙ h };
  declared = λ v m. refl;
  set = λ x v m spared. refl;
  folded = λ f x v m spared. refl;
  stored = λ a p v m spared. refl;
  joined = λ f a p v m spared. refl;
  printed = λ v m spared. absurd spared;
  left = λ outer m h. h;
}

pub scalar_stays : (s : Stmt) (n : ℕ) (m : Memory) (id : ℕ) → id < length m.scalars → All (SparesScalar id) (deeds s n m) → scalar_at (run s n m).store id ≡ scalar_at m id
scalar_stays s n m id below each =
    (run_spared (SparesScalar id) (KeepsScalar id) (scalar_spared id) s n m (recursion_from_All (SparesScalar id) (deeds s n m) each) below).1

pub cell_stays : (s : Stmt) (n : ℕ) (m : Memory) (array place : ℕ) → All (SparesCell array place) (deeds s n m) → cell_at (run s n m).store array place ≡ cell_at m array place
cell_stays s n m array place each =
    run_spared (SparesCell array place) (KeepsCell array place) (cell_spared array place) s n m (recursion_from_All (SparesCell array place) (deeds s n m) each)

pub printed_stays : (s : Stmt) (n : ℕ) (m : Memory) → All SparesPrinted (deeds s n m) → (run s n m).store.printed ≡ m.printed
printed_stays s n m each =
    run_spared SparesPrinted KeepsPrinted printed_spared s n m (recursion_from_All SparesPrinted (deeds s n m) each)

pub scalar_stays_in_all : (ss : List Stmt) (n : ℕ) (m : Memory) (id : ℕ) → id < length m.scalars → All (SparesScalar id) (deeds_all ss n m) → scalar_at (run_all ss n m).store id ≡ scalar_at m id
scalar_stays_in_all ss n m id below each =
    (all_spared (SparesScalar id) (KeepsScalar id) (scalar_spared id) ss n m (recursion_from_All (SparesScalar id) (deeds_all ss n m) each) below).1

pub cell_stays_in_all : (ss : List Stmt) (n : ℕ) (m : Memory) (array place : ℕ) → All (SparesCell array place) (deeds_all ss n m) → cell_at (run_all ss n m).store array place ≡ cell_at m array place
cell_stays_in_all ss n m array place each =
    all_spared (SparesCell array place) (KeepsCell array place) (cell_spared array place) ss n m (recursion_from_All (SparesCell array place) (deeds_all ss n m) each)

pub printed_stays_in_all : (ss : List Stmt) (n : ℕ) (m : Memory) → All SparesPrinted (deeds_all ss n m) → (run_all ss n m).store.printed ≡ m.printed
printed_stays_in_all ss n m each =
    all_spared SparesPrinted KeepsPrinted printed_spared ss n m (recursion_from_All SparesPrinted (deeds_all ss n m) each)
