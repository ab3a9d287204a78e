-- What every run keeps: the arrays' lengths, the scalars around it, and what is printed.
use Rattle.std.proofs.Common.{◌≡◌, ◌≤◌, ℕ, zero, suc, ℤ, pos, ◌+ℤ◌, Bool, true, false, List, [], ◌∷◌, ◌++◌, length, map, refl, ap, ◌∙◌, arith, rules, if◌then◌else◌, append_assoc, length-append, length-take}
use Rattle.std.proofs.lemmas.List.{length-set}
use Rattle.std.proofs.Math.Seq.{map-set_same}
use Rattle.std.specs.Int.{int_gap}
use Rattle.std.specs.Prelude.{min, nat_le, Result, Ok, Err}
use Rattle.nona_tree.specs.declared.outcomes.Trap.{Trap}
use Rattle.nona_tree.specs.declared.outcomes.Outcome.{Outcome}
use Rattle.nona_tree.specs.declared.outcomes.Outcome.TheVariants as outcome
use Rattle.nona_tree.specs.declared.trees.Stmt.{Stmt, Let, Set, Fold, Put, FoldPut, If', While', For', Print, Row_of-Stmt, end_of-Stmt, more_of-Stmt}
use Rattle.nona_tree.specs.Memory.{Memory, Extends, cells_of, declare, assign, put_cell, print, cut_to}
use Rattle.nona_tree.specs.Value.{Answer, is_zero, value_of, cell_of}
use Rattle.nona_tree.specs.Run.{Ran, done, starved, with_value, then_from, then_do, block, turn, while_turns, first_turns, for_turns, run, run_row, run_all}

-- a relation between stores that nothing and one thing after another have
pub record IsPreorder (R : Memory → Memory → Type 0) : Type 0 where
  pub same : (m : Memory) → R m m
  pub chain : (a b c : Memory) → R a b → R b c → R a c

pub kept_value : {A : Type 0} (R : Memory → Memory → Type 0) → IsPreorder R → (o : Result A Trap) (m : Memory) (go : A → Ran)
    → ((a : A) → R m (go a).store) → R m (with_value o m go).store
kept_value R o (Ok a) m go h = h a
kept_value R o (Err t) m go h = o.same m

kept_from : (R : Memory → Memory → Type 0) → IsPreorder R → (m r : Memory) (e : Outcome) (go : Memory → Ran)
    → R m r → ((x : Memory) → R x (go x).store) → R m (then_from r e go).store
kept_from R o m r outcome.Done go h g = o.chain m r (go r).store h (g r)
kept_from R o m r (outcome.Trap t) go h g = h
kept_from R o m r (outcome.OutOfTurns at) go h g = h

pub kept_then : (R : Memory → Memory → Type 0) → IsPreorder R → (m : Memory) (r : Ran) (go : Memory → Ran)
    → R m r.store → ((x : Memory) → R x (go x).store) → R m (then_do r go).store
kept_then R o m r go h g = kept_from R o m r.store r.end go h g

pub kept_if : (R : Memory → Memory → Type 0) (b : Bool) (m : Memory) (r q : Ran) → R m r.store → R m q.store → R m (if b then r else q).store
kept_if R true m r q h g = h
kept_if R false m r q h g = g

pub kept_while : (R : Memory → Memory → Type 0) → IsPreorder R → (at : ℕ) (test : Memory → Answer) (body : Memory → Ran)
    → ((x : Memory) → R x (body x).store) → (n : ℕ) (m : Memory) → R m (while_turns at test body n m).store
kept_while R o at test body h zero m =
    kept_value R o (test m) m _ (λ v. kept_if R (is_zero v) m (done m) (starved at m) (o.same m) (o.same m))
kept_while R o at test body h (suc n) m =
    kept_value R o (test m) m _ (λ v. kept_if R (is_zero v) m (done m) _ (o.same m) (kept_then R o m (body m) _ (h m) (λ x. kept_while R o at test body h n x)))

pub kept_first : (R : Memory → Memory → Type 0) → IsPreorder R → (body : ℤ → Memory → Ran) (low : ℤ)
    → ((i : ℤ) (x : Memory) → R x (body i x).store) → (k : ℕ) (m : Memory) → R m (first_turns body low k m).store
kept_first R o body low h zero m = o.same m
kept_first R o body low h (suc k) m =
    kept_then R o m (first_turns body low k m) _ (kept_first R o body low h k m) (h (low +ℤ pos k))

pub kept_for : (R : Memory → Memory → Type 0) → IsPreorder R → (at : ℕ) (body : ℤ → Memory → Ran) (low : ℤ)
    → ((i : ℤ) (x : Memory) → R x (body i x).store) → (count n : ℕ) (m : Memory) → R m (for_turns at body low count n m).store
kept_for R o at body low h count n m =
    kept_then R o m (first_turns body low (min count n) m) _ (kept_first R o body low h (min count n) m) (λ r. kept_if R (nat_le count n) r (done r) (starved at r) (o.same r) (o.same r))

-- a relation between stores that everything has that a run does
pub record IsKept (R : Memory → Memory → Type 0) : Type 0 where
  pub order : IsPreorder R
  pub declared : (v : ℤ) (m : Memory) → R m (declare v m)
  pub assigned : (id : ℕ) (v : ℤ) (m : Memory) → R m (assign id v m)
  pub put : (id place : ℕ) (v : ℤ) (m : Memory) → R m (put_cell id place v m)
  pub printed : (v : ℤ) (m : Memory) → R m (print v m)
  pub left : (outer m : Memory) → R outer m → R outer (cut_to (length outer.scalars) m)

kept_block : (R : Memory → Memory → Type 0) → IsKept R → (body : Memory → Ran) → ((x : Memory) → R x (body x).store) → (m : Memory) → R m (block body m).store
kept_block R k body h m = k.left m (body m).store (h m)

kept_turn : (R : Memory → Memory → Type 0) → IsKept R → (body : Memory → Ran) → ((x : Memory) → R x (body x).store) → (i : ℤ) (m : Memory) → R m (turn body i m).store
kept_turn R k body h i m =
    k.left m (body (declare i m)).store (k.order.chain m (declare i m) (body (declare i m)).store (k.declared i m) (h (declare i m)))

mutual
  pub run_kept : (R : Memory → Memory → Type 0) → IsKept R → (s : Stmt) (n : ℕ) (m : Memory) → R m (run s n m).store
  run_kept R k (Let x e) n m = kept_value R k.order (value_of e m) m _ (λ v. k.declared v m)
  run_kept R k (Set x e) n m = kept_value R k.order (value_of e m) m _ (λ v. k.assigned x.id v m)
  run_kept R k (Fold x f e) n m = kept_value R k.order (value_of e m) m _ (λ v. k.assigned x.id _ m)
  run_kept R k (Put c e) n m =
      kept_value R k.order (cell_of c m) m _ (λ place. kept_value R k.order (value_of e m) m _ (λ v. k.put c.array.id place v m))
  run_kept R k (FoldPut c f e) n m =
      kept_value R k.order (cell_of c m) m _ (λ place. kept_value R k.order (value_of e m) m _ (λ v. k.put c.array.id place _ m))
  run_kept R k (If' test p then_part q else_part) n m =
      kept_value R k.order (value_of test m) m _ (λ v. kept_if R (is_zero v) m (block (run_row else_part n) m) (block (run_row then_part n) m) (kept_block R k (run_row else_part n) (λ x. row_kept R k else_part n x) m) (kept_block R k (run_row then_part n) (λ x. row_kept R k then_part n x) m))
  run_kept R k (While' test p body at) n m =
      kept_while R k.order at (value_of test) (block (run_row body n)) (kept_block R k (run_row body n) (λ x. row_kept R k body n x)) n m
  run_kept R k (For' x low high p body seq at) n m =
      kept_value R k.order (value_of low m) m _ (λ a. kept_value R k.order (value_of high m) m _ (λ b. kept_for R k.order at (turn (run_row body n)) a (kept_turn R k (run_row body n) (λ x. row_kept R k body n x)) (int_gap a b) n m))
  run_kept R k (Print e at) n m = kept_value R k.order (value_of e m) m _ (λ v. k.printed v m)

  pub row_kept : (R : Memory → Memory → Type 0) → IsKept R → {j : _} (row : Row_of-Stmt j) (n : ℕ) (m : Memory) → R m (run_row row n m).store
  row_kept R k end_of-Stmt n m = k.order.same m
  row_kept R k (more_of-Stmt s rest) n m =
      kept_then R k.order m (run s n m) (run_row rest n) (run_kept R k s n m) (λ x. row_kept R k rest n x)

pub all_kept : (R : Memory → Memory → Type 0) → IsKept R → (ss : List Stmt) (n : ℕ) (m : Memory) → R m (run_all ss n m).store
all_kept R k [] n m = k.order.same m
all_kept R k (s ∷ rest) n m = kept_then R k.order m (run s n m) (run_all rest n) (run_kept R k s n m) (λ x. all_kept R k rest n x)

-- the arrays keep their lengths

abbrev pub SameArrays : Memory → Memory → Type 0
SameArrays m r = map length r.arrays ≡ map length m.arrays

pub arrays_kept : IsKept SameArrays
arrays_kept = record {
  order = record { same = λ m. refl; chain = λ a b c h g. g ∙ h };
  declared = λ v m. refl;
  assigned = λ id v m. refl;
  put = λ id place v m. map-set_same length m.arrays id _ [] (length-set (cells_of m id) place v);
  printed = λ v m. refl;
  left = λ outer m h. h;
}

-- what is printed stays

abbrev pub MorePrinted : Memory → Memory → Type 0
MorePrinted m r = Extends m.printed r.printed

nothing_more : (xs : List ℤ) → Extends xs xs
nothing_more xs = ([], search rules)

more_and_more : (xs ys zs : List ℤ) → Extends xs ys → Extends ys zs → Extends xs zs
more_and_more xs ys zs h g = (h.0 ++ g.0, g.1 ∙ ap (λ ws. ws ++ g.0) h.1 ∙ append_assoc xs h.0 g.0)

pub printed_kept : IsKept MorePrinted
printed_kept = record {
  order = record { same = λ m. nothing_more m.printed; chain = λ a b c h g. more_and_more a.printed b.printed c.printed h g };
  declared = λ v m. nothing_more m.printed;
  assigned = λ id v m. nothing_more m.printed;
  put = λ id place v m. nothing_more m.printed;
  printed = λ v m. (v ∷ [], refl);
  left = λ outer m h. h;
}

-- no scalar is lost

abbrev pub NoFewer : Memory → Memory → Type 0
NoFewer m r = length m.scalars ≤ length r.scalars

pub cut_length : (outer m : Memory) → NoFewer outer m → length (cut_to (length outer.scalars) m).scalars ≡ length outer.scalars
cut_length outer m h = omega (arith, length-take (length outer.scalars) m.scalars, h)

pub scalars_kept : IsKept NoFewer
scalars_kept = record {
  order = record { same = λ m. omega arith; chain = λ a b c h g. omega (arith, h, g) };
  declared = λ v m. omega (arith, length-append m.scalars (v ∷ []));
  assigned = λ id v m. omega (arith, length-set m.scalars id v);
  put = λ id place v m. omega arith;
  printed = λ v m. omega arith;
  left = λ outer m h. omega (arith, cut_length outer m h);
}

-- the first turns of a for keep what all its turns keep
pub turns_kept : (R : Memory → Memory → Type 0) → IsKept R → (ss : List Stmt) (n : ℕ) (low : ℤ) (k : ℕ) (m : Memory) → R m (first_turns (turn (run_all ss n)) low k m).store
turns_kept R k ss n low count m =
    kept_first R k.order (turn (run_all ss n)) low (kept_turn R k (run_all ss n) (λ x. all_kept R k ss n x)) count m
