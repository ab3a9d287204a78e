-- The code of statements keeps the stack rule.
use Rattle.std.proofs.Common.{◌≡◌, All, ℕ, zero, suc, ◌+◌, ◌<◌, ◌≤◌, Bool, true, false, if◌then◌else◌, List, [], ◌∷◌, ◌++◌, length, Some, refl, sym, ap, ◌∙◌, subst, arith, rules, ⊎_elim, length-append}
use Rattle.std.specs.Prelude.{slice_get, pos}
use Rattle.std.proofs.lemmas.Bool.{cases_lt}
use Rattle.std.proofs.lemmas.List.Elements.{All-head, All-tail, All-nil, All-cons}
use Rattle.std.proofs.lemmas.Option.{slice_get_within}
use Rattle.nona_num.specs.declared.folds.Fold.TheVariants as fold
use Rattle.nona_tree.specs.declared.trees.Op.{Op}
use Rattle.nona_tree.specs.declared.trees.Op.TheVariants as op
use Rattle.nona_tree.specs.declared.trees.Access.{Access}
use Rattle.nona_tree.specs.declared.trees.Expr.{Expr, Number, Scalar, Cell', Len, Neg', Not', Binary', more_of-Expr, end_of-Expr}
use Rattle.nona_tree.specs.declared.trees.Expr.TheBlock.{more_of-Access, end_of-Access}
use Rattle.nona_tree.specs.declared.names.Use.{Use}
use Rattle.nona_tree.specs.declared.trees.Loop.{Loop}
use Rattle.nona_tree.specs.declared.trees.Stmt.{Stmt, Let, Set, Fold, Put, FoldPut, If', While', For', Print, Row_of-Stmt, end_of-Stmt, more_of-Stmt, items-the_row-Stmt}
use Rattle.nona_tree.specs.Entries.{loop_with, count_in, count_row}
use Rattle.nona_code.specs.declared.instr.Instr.{Instr}
use Rattle.nona_code.specs.declared.instr.Instr.TheVariants as instr
use Rattle.nona_code.specs.declared.marks.Mark.{Mark}
use Rattle.nona_code.specs.Rule.{after, start, IsSound}
use Rattle.nona_code.proofs.Placed.{Stands, front, back, stands_all}
use Rattle.nona_gen.specs.Code.{expr_code, flip_last, flip_code, place_code, lets_row, leave_code, block_code, bounds_code, next_code, turns_code, high_of, lets_all, unit_code}
use Rattle.nona_gen.specs.MainCode.{region_code, main_code, main_row, main_all, program_code}
use Rattle.nona_gen.specs.Fit.{IsFitExpr, IsFit, IsRowFit}
use Rattle.nona_gen.specs.Units.{HasCode}
use Rattle.nona_gen.proofs.MainPlain.{no_loop, main_plain, none_in}
use Rattle.nona_gen.proofs.Fits.{code_fits}
use Rattle.nona_gen.proofs.Opened.{lets}
use Rattle.nona_gen.proofs.Marks.{mark, mark_is, past, past_on, mark_at, mark_past, AreFine, fine, fine_on, fine_as, Followed, followed, fine_sound}

-- the mark behind an expression: one number more
pub expr_past : (e : Expr) (d k : ℕ) → past (mark d k) (expr_code e) ≡ mark (d + 1) k
expr_past (Number v) d k = mark_is _ _ _ _ (omega arith) (omega arith)
expr_past (Scalar x) d k = mark_is _ _ _ _ (omega arith) (omega arith)
expr_past (Cell' p (more_of-Access array wrap index end_of-Access)) d k =
    past_on (mark d k) (mark (d + 1) k) (expr_code index) _ (expr_past index d k) ∙ mark_is _ _ _ _ (omega arith) (omega arith)
expr_past (Len a) d k = mark_is _ _ _ _ (omega arith) (omega arith)
expr_past (Neg' p (more_of-Expr e end_of-Expr)) d k =
    past_on (mark d k) (mark (d + 1) k) (expr_code e) _ (expr_past e d k) ∙ mark_is _ _ _ _ (omega arith) (omega arith)
expr_past (Not' p (more_of-Expr e end_of-Expr)) d k =
    past_on (mark d k) (mark (d + 1) k) (expr_code e) _ (expr_past e d k) ∙ mark_is _ _ _ _ (omega arith) (omega arith)
expr_past (Binary' op at p (more_of-Expr left end_of-Expr) q (more_of-Expr right end_of-Expr)) d k =
    past_on (mark d k) (mark (d + 1) k) (expr_code left) _ (expr_past left d k)
    ∙ past_on (mark (d + 1) k) (mark (d + 1 + 1) k) (expr_code right) _ (expr_past right (d + 1) k)
    ∙ mark_is _ _ _ _ (omega arith) (omega arith)

-- an expression, and then some code
pub then_past : (e : Expr) (xs : List Instr) (d k d' k' : ℕ) → past (mark (d + 1) k) xs ≡ mark d' k' → past (mark d k) (expr_code e ++ xs) ≡ mark d' k'
then_past e xs d k d' k' h = past_on (mark d k) (mark (d + 1) k) (expr_code e) xs (expr_past e d k) ∙ h

place_past : (c : Access) (d k : ℕ) → past (mark d k) (place_code c) ≡ mark (d + 1) k
place_past c d k = then_past c.index _ d k (d + 1) k (mark_is _ _ _ _ (omega arith) (omega arith))

flip_last_past : (o : Op) (at d k : ℕ) → past (mark (d + 2) k) (flip_last o at) ≡ mark (d + 1) k
flip_last_past op.Eq at d k = mark_is _ _ _ _ (omega arith) (omega arith)
flip_last_past op.Ne at d k = mark_is _ _ _ _ (omega arith) (omega arith)
flip_last_past op.Lt at d k = mark_is _ _ _ _ (omega arith) (omega arith)
flip_last_past op.Le at d k = mark_is _ _ _ _ (omega arith) (omega arith)
flip_last_past op.Gt at d k = mark_is _ _ _ _ (omega arith) (omega arith)
flip_last_past op.Ge at d k = mark_is _ _ _ _ (omega arith) (omega arith)
flip_last_past op.Add at d k = mark_is _ _ _ _ (omega arith) (omega arith)
flip_last_past op.Sub at d k = mark_is _ _ _ _ (omega arith) (omega arith)
flip_last_past op.Mul at d k = mark_is _ _ _ _ (omega arith) (omega arith)
flip_last_past op.Div at d k = mark_is _ _ _ _ (omega arith) (omega arith)
flip_last_past op.Rem at d k = mark_is _ _ _ _ (omega arith) (omega arith)
flip_last_past op.And at d k = mark_is _ _ _ _ (omega arith) (omega arith)
flip_last_past op.Or at d k = mark_is _ _ _ _ (omega arith) (omega arith)
flip_last_past op.Xor at d k = mark_is _ _ _ _ (omega arith) (omega arith)
flip_last_past op.Shl at d k = mark_is _ _ _ _ (omega arith) (omega arith)
flip_last_past op.Shr at d k = mark_is _ _ _ _ (omega arith) (omega arith)

not_past : (e : Expr) (d k : ℕ) → past (mark d k) (expr_code e ++ (instr.Not ∷ [])) ≡ mark (d + 1) k
not_past e d k = then_past e _ d k (d + 1) k (mark_is _ _ _ _ (omega arith) (omega arith))

pub flip_past : (e : Expr) (d k : ℕ) → past (mark d k) (flip_code e) ≡ mark (d + 1) k
flip_past (Binary' op at p (more_of-Expr left end_of-Expr) q (more_of-Expr right end_of-Expr)) d k =
    let two : mark (d + 1 + 1) k ≡ mark (d + 2) k = mark_is _ _ _ _ (omega arith) refl in
    then_past left _ d k (d + 1) k (then_past right _ (d + 1) k (d + 1) k (ap (λ (m : Mark). past m (flip_last op at)) two ∙ flip_last_past op at d k))
flip_past (Number v) d k = not_past (Number v) d k
flip_past (Scalar x) d k = not_past (Scalar x) d k
flip_past (Cell' p (more_of-Access array wrap index end_of-Access)) d k = not_past (Cell' p (more_of-Access array wrap index end_of-Access)) d k
flip_past (Len a) d k = not_past (Len a) d k
flip_past (Neg' p (more_of-Expr e end_of-Expr)) d k = not_past (Neg' p (more_of-Expr e end_of-Expr)) d k
flip_past (Not' p (more_of-Expr e end_of-Expr)) d k = not_past (Not' p (more_of-Expr e end_of-Expr)) d k

leave_past : (count k : ℕ) → past (mark 0 (k + count)) (leave_code count) ≡ mark 0 k
leave_past zero k = mark_is _ _ _ _ refl (omega arith)
leave_past (suc count) k = mark_is _ _ _ _ (omega arith) (omega arith)

block_past : (row : ℕ → List Instr) (count p k : ℕ) → past (mark 0 k) (row p) ≡ mark 0 (k + count) → past (mark 0 k) (block_code row count p) ≡ mark 0 k
block_past row count p k h = past_on (mark 0 k) (mark 0 (k + count)) (row p) (leave_code count) h ∙ leave_past count k

next_past : (p id counter at k : ℕ) → past (mark 0 (k + 1)) (next_code p id counter at) ≡ mark 0 k
next_past p id counter at k = mark_is _ _ _ _ (omega arith) (omega arith)

bounds_past : (low high : Expr) (depth k : ℕ) → past (mark 0 k) (bounds_code depth (expr_code low) (expr_code high)) ≡ mark 0 (k + 1)
bounds_past low high depth k = then_past low _ 0 k 0 (k + 1) (then_past high _ 1 k 0 (k + 1) (mark_is _ _ _ _ (omega arith) (omega arith)))

turns_past : (row : ℕ → List Instr) (count t id counter at k : ℕ) → past (mark 0 (k + 1)) (row (t + 5)) ≡ mark 0 (k + 1 + count) → past (mark 0 (k + 1)) (turns_code t id counter at row count) ≡ mark 0 k
turns_past row count t id counter at k h =
    let b = t + 5 in
    let end = b + length (row b) + length (leave_code count) + 6 in
    let head = instr.Load id ∷ instr.Load (high_of counter) ∷ instr.Binary op.Lt at ∷ instr.Zero end ∷ instr.Turn counter at ∷ [] in
    let e : past (mark 0 (k + 1)) head ≡ mark 0 (k + 1) = mark_is _ _ _ _ (omega arith) (omega arith) in
    past_on (mark 0 (k + 1)) (mark 0 (k + 1)) head (row b ++ (leave_code count ++ next_code (t + 4) id counter at)) e
    ∙ past_on (mark 0 (k + 1)) (mark 0 (k + 1 + count)) (row b) _ h
    ∙ past_on (mark 0 (k + 1 + count)) (mark 0 (k + 1)) (leave_code count) _ (leave_past count (k + 1))
    ∙ next_past (t + 4) id counter at k

region_past : (number : ℕ) (low high : Expr) (k : ℕ) → past (mark 0 k) (region_code number (expr_code low) (expr_code high)) ≡ mark 0 k
region_past number low high k = then_past low _ 0 k 0 k (then_past high _ 1 k 0 k (mark_is _ _ _ _ (omega arith) (omega arith)))

-- one of two codes
either_past : (c : Bool) (xs ys : List Instr) (m : Mark) → past m xs ≡ m → past m ys ≡ m → past m (if c then xs else ys) ≡ m
either_past true xs ys m h g = h
either_past false xs ys m h g = g

mutual
  -- the mark behind a statement: as many scalars more as it declares
  pub main_past : (chosen : Loop → Bool) (number : ℕ) (s : Stmt) (depth p k : ℕ) → past (mark 0 k) (main_code chosen number s depth p) ≡ mark 0 (k + lets s)
  main_past chosen number (Let x e) depth p k = then_past e _ 0 k 0 (k + 1) (mark_is _ _ _ _ (omega arith) (omega arith))
  main_past chosen number (Set x e) depth p k = then_past e _ 0 k 0 (k + 0) (mark_is _ _ _ _ (omega arith) (omega arith))
  main_past chosen number (Fold x f e) depth p k = then_past e _ 0 k 0 (k + 0) (mark_is _ _ _ _ (omega arith) (omega arith))
  main_past chosen number (Put c e) depth p k =
      past_on (mark 0 k) (mark 1 k) (place_code c) _ (place_past c 0 k) ∙ then_past e _ 1 k 0 (k + 0) (mark_is _ _ _ _ (omega arith) (omega arith))
  main_past chosen number (FoldPut c f e) depth p k =
      past_on (mark 0 k) (mark 1 k) (place_code c) _ (place_past c 0 k) ∙ then_past e _ 1 k 0 (k + 0) (mark_is _ _ _ _ (omega arith) (omega arith))
  main_past chosen number (If' test q then_part r else_part) depth p k =
      let second_number = number + count_row chosen then_part in
      let first = block_code (main_row chosen number then_part depth) (lets_row then_part) in
      let second = block_code (main_row chosen second_number else_part depth) (lets_row else_part) in
      let a = p + length (expr_code test) + 1 in
      let b = a + length (first a) + 1 in
      let one : past (mark 0 k) (first a) ≡ mark 0 k = block_past (main_row chosen number then_part depth) (lets_row then_part) a k (row_past chosen number then_part depth a k) in
      let two : past (mark 0 k) (second b) ≡ mark 0 k = block_past (main_row chosen second_number else_part depth) (lets_row else_part) b k (row_past chosen second_number else_part depth b k) in
      let z : after (instr.Zero b) (mark 1 k) ≡ mark 0 k = mark_is _ _ _ _ (omega arith) (omega arith) in
      let j : after (instr.Jump (b + length (second b))) (mark 0 k) ≡ mark 0 k = mark_is _ _ _ _ (omega arith) (omega arith) in
      let rest = instr.Jump (b + length (second b)) ∷ second b in
      then_past test _ 0 k 0 (k + 0)
      (ap (λ (m : Mark). past m (first a ++ rest)) z
      ∙ past_on (mark 0 k) (mark 0 k) (first a) rest one
      ∙ ap (λ (m : Mark). past m (second b)) j
      ∙ two
      ∙ mark_is _ _ _ _ refl (omega arith))
  main_past chosen number (While' test q body at) depth p k =
      let ct = flip_code test in
      let whole = block_code (main_row chosen number body (depth + 1)) (lets_row body) in
      let b = p + 3 in
      let one : past (mark 0 k) (whole b) ≡ mark 0 k = block_past (main_row chosen number body (depth + 1)) (lets_row body) b k (row_past chosen number body (depth + 1) b k) in
      let head : past (mark 0 k) (instr.Enter depth ∷ instr.Jump (b + length (whole b)) ∷ instr.Turn depth at ∷ []) ≡ mark 0 k = mark_is _ _ _ _ (omega arith) (omega arith) in
      past_on (mark 0 k) (mark 0 k) (instr.Enter depth ∷ instr.Jump (b + length (whole b)) ∷ instr.Turn depth at ∷ []) (whole b ++ (ct ++ (instr.Zero (p + 2) ∷ []))) head
      ∙ past_on (mark 0 k) (mark 0 k) (whole b) _ one
      ∙ past_on (mark 0 k) (mark 1 k) ct _ (flip_past test 0 k)
      ∙ mark_is _ _ _ _ (omega arith) (omega arith)
  main_past chosen number (For' x low high q body seq at) depth p k =
      let bounds = bounds_code depth (expr_code low) (expr_code high) in
      let t = p + length bounds in
      either_past (chosen (loop_with x low high (items-the_row-Stmt _ body) seq at)) (region_code number (expr_code low) (expr_code high)) _ (mark 0 k)
      (region_past number low high k)
      (past_on (mark 0 k) (mark 0 (k + 1)) bounds _ (bounds_past low high depth k)
      ∙ turns_past (main_row chosen number body (depth + 1)) (lets_row body) t x.id depth at k (row_past chosen number body (depth + 1) (t + 5) (k + 1)))
      ∙ mark_is _ _ _ _ refl (omega arith)
  main_past chosen number (Print e at) depth p k = then_past e _ 0 k 0 (k + 0) (mark_is _ _ _ _ (omega arith) (omega arith))

  pub row_past : {j : _} (chosen : Loop → Bool) (number : ℕ) (row : Row_of-Stmt j) (depth p k : ℕ) → past (mark 0 k) (main_row chosen number row depth p) ≡ mark 0 (k + lets_row row)
  row_past chosen number end_of-Stmt depth p k = mark_is _ _ _ _ refl (omega arith)
  row_past chosen number (more_of-Stmt s rest) depth p k =
      let c = main_code chosen number s depth p in
      past_on (mark 0 k) (mark 0 (k + lets s)) c _ (main_past chosen number s depth p k)
      ∙ row_past chosen (number + count_in chosen s) rest depth (p + length c) (k + lets s)
      ∙ mark_is _ _ _ _ refl (omega arith)

module _ (code : List Instr) where
  pub expr_fine : (e : Expr) (d k : ℕ) → IsFitExpr e → AreFine code (mark d k) (expr_code e)
  expr_fine (Number v) d k fit = (fine code _ _ (omega arith) (omega arith) tt tt tt, tt)
  expr_fine (Scalar x) d k fit = (fine code _ _ (omega arith) (omega arith) tt tt (omega (arith, fit)), tt)
  expr_fine (Cell' p (more_of-Access array wrap index end_of-Access)) d k fit =
      fine_on code (mark d k) (mark (d + 1) k) (expr_code index) _ (expr_past index d k) (expr_fine index d k fit)
      (fine code _ _ (omega arith) (omega arith) tt tt tt, (fine code _ _ (omega arith) (omega arith) tt tt tt, tt))
  expr_fine (Len a) d k fit = (fine code _ _ (omega arith) (omega arith) tt tt tt, tt)
  expr_fine (Neg' p (more_of-Expr e end_of-Expr)) d k fit =
      fine_on code (mark d k) (mark (d + 1) k) (expr_code e) _ (expr_past e d k) (expr_fine e d k fit) (fine code _ _ (omega arith) (omega arith) tt tt tt, tt)
  expr_fine (Not' p (more_of-Expr e end_of-Expr)) d k fit =
      fine_on code (mark d k) (mark (d + 1) k) (expr_code e) _ (expr_past e d k) (expr_fine e d k fit) (fine code _ _ (omega arith) (omega arith) tt tt tt, tt)
  expr_fine (Binary' op at p (more_of-Expr left end_of-Expr) q (more_of-Expr right end_of-Expr)) d k fit =
      fine_on code (mark d k) (mark (d + 1) k) (expr_code left) _ (expr_past left d k) (expr_fine left d k fit.0)
      (fine_on code (mark (d + 1) k) (mark (d + 1 + 1) k) (expr_code right) _ (expr_past right (d + 1) k) (expr_fine right (d + 1) k fit.1) (fine code _ _ (omega arith) (omega arith) tt tt tt, tt))

  -- an expression, and then some code
  pub then_fine : (e : Expr) (xs : List Instr) (d k : ℕ) → IsFitExpr e → AreFine code (mark (d + 1) k) xs → AreFine code (mark d k) (expr_code e ++ xs)
  then_fine e xs d k fit h = fine_on code (mark d k) (mark (d + 1) k) (expr_code e) xs (expr_past e d k) (expr_fine e d k fit) h

  place_fine : (c : Access) (xs : List Instr) (d k : ℕ) → IsFitExpr c.index → AreFine code (mark (d + 1) k) xs → AreFine code (mark d k) (place_code c ++ xs)
  place_fine c xs d k fit h =
      fine_on code (mark d k) (mark (d + 1) k) (place_code c) xs (place_past c d k) (then_fine c.index _ d k fit (fine code _ _ (omega arith) (omega arith) tt tt tt, tt)) h

  one_fine : (o : Op) (at d k : ℕ) → AreFine code (mark (d + 2) k) (instr.Binary o at ∷ [])
  one_fine o at d k = (fine code _ _ (omega arith) (omega arith) tt tt tt, tt)

  two_fine : (o : Op) (at d k : ℕ) → AreFine code (mark (d + 2) k) (instr.Binary o at ∷ instr.Not ∷ [])
  two_fine o at d k = (fine code _ _ (omega arith) (omega arith) tt tt tt, (fine code _ _ (omega arith) (omega arith) tt tt tt, tt))

  flip_last_fine : (o : Op) (at d k : ℕ) → AreFine code (mark (d + 2) k) (flip_last o at)
  flip_last_fine op.Eq at d k = one_fine op.Ne at d k
  flip_last_fine op.Ne at d k = one_fine op.Eq at d k
  flip_last_fine op.Lt at d k = one_fine op.Ge at d k
  flip_last_fine op.Le at d k = one_fine op.Gt at d k
  flip_last_fine op.Gt at d k = one_fine op.Le at d k
  flip_last_fine op.Ge at d k = one_fine op.Lt at d k
  flip_last_fine op.Add at d k = two_fine op.Add at d k
  flip_last_fine op.Sub at d k = two_fine op.Sub at d k
  flip_last_fine op.Mul at d k = two_fine op.Mul at d k
  flip_last_fine op.Div at d k = two_fine op.Div at d k
  flip_last_fine op.Rem at d k = two_fine op.Rem at d k
  flip_last_fine op.And at d k = two_fine op.And at d k
  flip_last_fine op.Or at d k = two_fine op.Or at d k
  flip_last_fine op.Xor at d k = two_fine op.Xor at d k
  flip_last_fine op.Shl at d k = two_fine op.Shl at d k
  flip_last_fine op.Shr at d k = two_fine op.Shr at d k

  not_fine : (e : Expr) (d k : ℕ) → IsFitExpr e → AreFine code (mark d k) (expr_code e ++ (instr.Not ∷ []))
  not_fine e d k fit = then_fine e _ d k fit (fine code _ _ (omega arith) (omega arith) tt tt tt, tt)

  flip_fine : (e : Expr) (d k : ℕ) → IsFitExpr e → AreFine code (mark d k) (flip_code e)
  flip_fine (Binary' op at p (more_of-Expr left end_of-Expr) q (more_of-Expr right end_of-Expr)) d k fit =
      let two : mark (d + 1 + 1) k ≡ mark (d + 2) k = mark_is _ _ _ _ (omega arith) refl in
      then_fine left _ d k fit.0 (then_fine right _ (d + 1) k fit.1 (fine_as code (mark (d + 1 + 1) k) (mark (d + 2) k) _ two (flip_last_fine op at d k)))
  flip_fine (Number v) d k fit = not_fine (Number v) d k fit
  flip_fine (Scalar x) d k fit = not_fine (Scalar x) d k fit
  flip_fine (Cell' p (more_of-Access array wrap index end_of-Access)) d k fit = not_fine (Cell' p (more_of-Access array wrap index end_of-Access)) d k fit
  flip_fine (Len a) d k fit = not_fine (Len a) d k fit
  flip_fine (Neg' p (more_of-Expr e end_of-Expr)) d k fit = not_fine (Neg' p (more_of-Expr e end_of-Expr)) d k fit
  flip_fine (Not' p (more_of-Expr e end_of-Expr)) d k fit = not_fine (Not' p (more_of-Expr e end_of-Expr)) d k fit

  leave_fine : (count k : ℕ) → AreFine code (mark 0 (k + count)) (leave_code count)
  leave_fine zero k = tt
  leave_fine (suc count) k = (fine code _ _ (omega arith) (omega arith) tt tt tt, tt)

  block_fine : (row : ℕ → List Instr) (count p k : ℕ) → past (mark 0 k) (row p) ≡ mark 0 (k + count) → AreFine code (mark 0 k) (row p) → AreFine code (mark 0 k) (block_code row count p)
  block_fine row count p k h f = fine_on code (mark 0 k) (mark 0 (k + count)) (row p) (leave_code count) h f (leave_fine count k)

  row_more : (p : ℕ) (xs ys : List Instr) (t : ℕ) → t ≡ p + length (xs ++ ys) → t < length code → p + length xs < length code
  row_more p xs ys t e there = omega (arith, e, there, length-append xs ys)

  -- a for, whose rows are fine wherever they stand
  for_fine : (x : Use) (low high : Expr) (q : _) (body : Row_of-Stmt _) (seq : Bool) (at : ℕ) (row : ℕ → List Instr) (depth p k : ℕ) → IsFit (For' x low high q body seq at) depth
      → (let bounds = bounds_code depth (expr_code low) (expr_code high) in
      let whole = bounds ++ turns_code (p + length bounds) x.id depth at row (lets_row body) in
      Stands code p whole → p + length whole < length code → mark_at code p ≡ mark 0 k → ((z j : ℕ) → past (mark 0 j) (row z) ≡ mark 0 (j + lets_row body))
      → ((z j : ℕ) → Stands code z (row z) → z + length (row z) < length code → mark_at code z ≡ mark 0 j → AreFine code (mark 0 j) (row z))
      → AreFine code (mark 0 k) whole)
  for_fine x low high q body seq at row depth p k fit has more m row_marks row_is_fine =
      let tail = instr.Save (high_of depth) ∷ instr.Declare ∷ instr.Enter depth ∷ [] in
      let bounds = bounds_code depth (expr_code low) (expr_code high) in
      let t = p + length bounds in
      let b = t + 5 in
      let B = row b in
      let G = leave_code (lets_row body) in
      let N = next_code (t + 4) x.id depth at in
      let E = b + length B + length G + 6 in
      let four = instr.Load x.id ∷ instr.Load (high_of depth) ∷ instr.Binary op.Lt at ∷ instr.Zero E ∷ [] in
      let head = instr.Load x.id ∷ instr.Load (high_of depth) ∷ instr.Binary op.Lt at ∷ instr.Zero E ∷ instr.Turn depth at ∷ [] in
      let six = instr.Push (pos 1) ∷ instr.FoldSave x.id fold.Add ∷ instr.Load x.id ∷ instr.Load (high_of depth) ∷ instr.Binary op.Ge at ∷ instr.Zero (t + 4) ∷ [] in
      let rest = B ++ (G ++ N) in
      let I = k + 1 in
      let inner : past (mark 0 I) B ≡ mark 0 (I + lets_row body) = row_marks b I in
      let at_4 : past (mark 0 I) four ≡ mark 0 I = mark_is _ _ _ _ (omega arith) (omega arith) in
      let at_5 : past (mark 0 I) head ≡ mark 0 I = mark_is _ _ _ _ (omega arith) (omega arith) in
      let at_6 : past (mark 0 I) six ≡ mark 0 I = mark_is _ _ _ _ (omega arith) (omega arith) in
      let size : length (bounds ++ (head ++ rest)) ≡ length bounds + (5 + (length B + (length G + 7))) = omega (arith, length-append bounds (head ++ rest), length-append B (G ++ N), length-append G N) in
      let has_t = back code p bounds (head ++ rest) has in
      let has_b = back code t head rest has_t in
      let has_g = back code b B (G ++ N) has_b in
      let has_n = back code (b + length B) G N has_g in
      let m_t : mark_at code t ≡ mark 0 I = mark_past code p bounds (mark 0 k) (front code p bounds (head ++ rest) has) m ∙ bounds_past low high depth k in
      let m_4 : mark_at code (t + 4) ≡ mark 0 I = mark_past code t four (mark 0 I) (front code t four (instr.Turn depth at ∷ rest) has_t) m_t ∙ at_4 in
      let m_b : mark_at code b ≡ mark 0 I = mark_past code t head (mark 0 I) (front code t head rest has_t) m_t ∙ at_5 in
      let m_g : mark_at code (b + length B) ≡ mark 0 (I + lets_row body) = mark_past code b B (mark 0 I) (front code b B (G ++ N) has_b) m_b ∙ inner in
      let m_n : mark_at code (b + length B + length G) ≡ mark 0 I = mark_past code (b + length B) G (mark 0 (I + lets_row body)) (front code (b + length B) G N has_g) m_g ∙ leave_past (lets_row body) I in
      let m_e : mark_at code E ≡ mark 0 I = mark_past code (b + length B + length G) six (mark 0 I) (front code (b + length B + length G) six (instr.Leave 1 ∷ []) has_n) m_n ∙ at_6 in
      let more_e : E < length code = omega (arith, more, size) in
      let more_4 : t + 4 < length code = omega (arith, more, size) in
      let more_b : b + length B < length code = omega (arith, more, size) in
      let z : after (instr.Zero E) (past (mark 0 I) (instr.Load x.id ∷ instr.Load (high_of depth) ∷ instr.Binary op.Lt at ∷ [])) ≡ mark 0 I = mark_is _ _ _ _ (omega arith) (omega arith) in
      let y : after (instr.Zero (t + 4)) (past (mark 0 I) (instr.Push (pos 1) ∷ instr.FoldSave x.id fold.Add ∷ instr.Load x.id ∷ instr.Load (high_of depth) ∷ instr.Binary op.Ge at ∷ [])) ≡ mark 0 I = mark_is _ _ _ _ (omega arith) (omega arith) in
      fine_on code (mark 0 k) (mark 0 I) bounds (head ++ rest) (bounds_past low high depth k)
      (then_fine low _ 0 k fit.1 (then_fine high tail 1 k fit.2
      (fine code _ _ (omega arith) (omega arith) tt tt (omega (arith, fit.0)), (fine code _ _ (omega arith) (omega arith) tt tt tt, (fine code _ _ (omega arith) (omega arith) tt tt (omega (arith, fit.0)), tt))))) (
        fine code _ _ (omega arith) (omega arith) tt tt (omega (arith, fit.4)),
        (
          fine code _ _ (omega arith) (omega arith) tt tt (omega (arith, fit.0)),
          (
            fine code _ _ (omega arith) (omega arith) tt tt tt,
            (
              fine code _ _ (omega arith) (omega arith) tt (more_e, m_e ∙ sym z) tt,
              (
                fine code _ _ (omega arith) (omega arith) tt tt (omega (arith, fit.0)),
                fine_as code (past (mark 0 I) head) (mark 0 I) rest at_5
                    (fine_on code (mark 0 I) (mark 0 (I + lets_row body)) B (G ++ N) inner (row_is_fine b I (front code b B (G ++ N) has_b) more_b m_b)
                    (fine_on code (mark 0 (I + lets_row body)) (mark 0 I) G N (leave_past (lets_row body) I) (leave_fine (lets_row body) I) (
                      fine code _ _ (omega arith) (omega arith) tt tt tt,
                      (
                        fine code _ _ (omega arith) (omega arith) tt tt tt,
                        (
                          fine code _ _ (omega arith) (omega arith) tt tt (omega (arith, fit.4)),
                          (
                            fine code _ _ (omega arith) (omega arith) tt tt (omega (arith, fit.0)),
                            (
                              fine code _ _ (omega arith) (omega arith) tt tt tt,
                              (
                                fine code _ _ (omega arith) (omega arith) tt (more_4, m_4 ∙ sym y) tt,
                                (fine code _ _ (omega arith) (omega arith) tt tt tt, tt),
                              ),
                            ),
                          ),
                        ),
                      ),
                    ))),
              ),
            ),
          ),
        ),
      )

  -- one of two codes
  either_fine : (c : Bool) (p k : ℕ) (xs ys : List Instr) → (Stands code p xs → p + length xs < length code → AreFine code (mark 0 k) xs) → (Stands code p ys → p + length ys < length code → AreFine code (mark 0 k) ys)
      → Stands code p (if c then xs else ys) → p + length (if c then xs else ys) < length code → AreFine code (mark 0 k) (if c then xs else ys)
  either_fine true p k xs ys h g has more = h has more
  either_fine false p k xs ys h g has more = g has more

module _ (code : List Instr) (chosen : Loop → Bool) where
  mutual
    -- a statement that stands in the code with more behind it
    pub main_fine : (number : ℕ) (s : Stmt) (depth p k : ℕ) → IsFit s depth → Stands code p (main_code chosen number s depth p) → p + length (main_code chosen number s depth p) < length code → mark_at code p ≡ mark 0 k
        → AreFine code (mark 0 k) (main_code chosen number s depth p)
    main_fine number (Let x e) depth p k fit has more m = then_fine code e _ 0 k fit (fine code _ _ (omega arith) (omega arith) tt tt tt, tt)
    main_fine number (Set x e) depth p k fit has more m = then_fine code e _ 0 k fit.1 (fine code _ _ (omega arith) (omega arith) tt tt (omega (arith, fit.0)), tt)
    main_fine number (Fold x f e) depth p k fit has more m = then_fine code e _ 0 k fit.1 (fine code _ _ (omega arith) (omega arith) tt tt tt, tt)
    main_fine number (Put c e) depth p k fit has more m = place_fine code c _ 0 k fit.0 (then_fine code e _ 1 k fit.1 (fine code _ _ (omega arith) (omega arith) tt tt tt, tt))
    main_fine number (FoldPut c f e) depth p k fit has more m = place_fine code c _ 0 k fit.0 (then_fine code e _ 1 k fit.1 (fine code _ _ (omega arith) (omega arith) tt tt tt, tt))
    main_fine number (If' test q then_part r else_part) depth p k fit has more m =
        let ct = expr_code test in
        let second_number = number + count_row chosen then_part in
        let first = block_code (main_row chosen number then_part depth) (lets_row then_part) in
        let second = block_code (main_row chosen second_number else_part depth) (lets_row else_part) in
        let a = p + length ct + 1 in
        let F = first a in
        let b = a + length F + 1 in
        let S = second b in
        let J = instr.Jump (b + length S) in
        let rest = J ∷ S in
        let one : past (mark 0 k) F ≡ mark 0 k = block_past (main_row chosen number then_part depth) (lets_row then_part) a k (row_past chosen number then_part depth a k) in
        let two : past (mark 0 k) S ≡ mark 0 k = block_past (main_row chosen second_number else_part depth) (lets_row else_part) b k (row_past chosen second_number else_part depth b k) in
        let z : after (instr.Zero b) (mark 1 k) ≡ mark 0 k = mark_is _ _ _ _ (omega arith) (omega arith) in
        let j : after J (mark 0 k) ≡ mark 0 k = mark_is _ _ _ _ (omega arith) (omega arith) in
        let size : length (ct ++ (instr.Zero b ∷ (F ++ rest))) ≡ length ct + 1 + length F + 1 + length S = omega (arith, length-append ct (instr.Zero b ∷ (F ++ rest)), length-append F rest) in
        let has_z = back code p ct (instr.Zero b ∷ (F ++ rest)) has in
        let has_f = front code a F rest has_z.1 in
        let has_j = back code a F rest has_z.1 in
        let m_z : mark_at code (p + length ct) ≡ mark 1 k = mark_past code p ct (mark 0 k) (front code p ct (instr.Zero b ∷ (F ++ rest)) has) m ∙ expr_past test 0 k in
        let m_a : mark_at code a ≡ mark 0 k = mark_past code (p + length ct) (instr.Zero b ∷ []) (mark 1 k) (has_z.0, tt) m_z ∙ z in
        let m_j : mark_at code (a + length F) ≡ mark 0 k = mark_past code a F (mark 0 k) has_f m_a ∙ one in
        let m_b : mark_at code b ≡ mark 0 k = mark_past code (a + length F) (J ∷ []) (mark 0 k) (has_j.0, tt) m_j ∙ j in
        let m_e : mark_at code (b + length S) ≡ mark 0 k = mark_past code b S (mark 0 k) has_j.1 m_b ∙ two in
        let more_b : b < length code = omega (arith, more, size) in
        let more_e : b + length S < length code = omega (arith, more, size) in
        then_fine code test _ 0 k fit.0 (
          fine code _ _ (omega arith) (omega arith) tt (more_b, m_b ∙ sym z) tt,
          fine_as code (after (instr.Zero b) (mark 1 k)) (mark 0 k) (F ++ rest) z
              (fine_on code (mark 0 k) (mark 0 k) F rest one
              (block_fine code (main_row chosen number then_part depth) (lets_row then_part) a k (row_past chosen number then_part depth a k) (row_fine number then_part depth a k fit.1 (front code a (main_row chosen number then_part depth a) (leave_code (lets_row then_part)) has_f) (row_more code a (main_row chosen number then_part depth a) (leave_code (lets_row then_part)) (a + length F) refl (omega (arith, more_b))) m_a)) (
                fine code _ _ (omega arith) (omega arith) tt (more_e, m_e ∙ sym j) tt,
                fine_as code (after J (mark 0 k)) (mark 0 k) S j
                    (block_fine code (main_row chosen second_number else_part depth) (lets_row else_part) b k (row_past chosen second_number else_part depth b k) (row_fine second_number else_part depth b k fit.2 (front code b (main_row chosen second_number else_part depth b) (leave_code (lets_row else_part)) has_j.1) (row_more code b (main_row chosen second_number else_part depth b) (leave_code (lets_row else_part)) (b + length S) refl more_e) m_b)),
              )),
        )
    main_fine number (While' test q body at) depth p k fit has more m =
        let ct = flip_code test in
        let whole = block_code (main_row chosen number body (depth + 1)) (lets_row body) in
        let b = p + 3 in
        let W = whole b in
        let T = b + length W in
        let Z = instr.Zero (p + 2) ∷ [] in
        let rest = ct ++ Z in
        let head = instr.Enter depth ∷ instr.Jump T ∷ instr.Turn depth at ∷ [] in
        let three : past (mark 0 k) head ≡ mark 0 k = mark_is _ _ _ _ (omega arith) (omega arith) in
        let two : past (mark 0 k) (instr.Enter depth ∷ instr.Jump T ∷ []) ≡ mark 0 k = mark_is _ _ _ _ (omega arith) (omega arith) in
        let one : past (mark 0 k) W ≡ mark 0 k = block_past (main_row chosen number body (depth + 1)) (lets_row body) b k (row_past chosen number body (depth + 1) b k) in
        let size : length (head ++ (W ++ rest)) ≡ 3 + length W + length ct + 1 = omega (arith, length-append W rest, length-append ct Z) in
        let has_w = back code p head (W ++ rest) has in
        let has_t = back code b W rest has_w in
        let m_b : mark_at code b ≡ mark 0 k = mark_past code p head (mark 0 k) (front code p head (W ++ rest) has) m ∙ three in
        let m_l : mark_at code (p + 2) ≡ mark 0 k = mark_past code p (instr.Enter depth ∷ instr.Jump T ∷ []) (mark 0 k) (front code p (instr.Enter depth ∷ instr.Jump T ∷ []) (instr.Turn depth at ∷ (W ++ rest)) has) m ∙ two in
        let m_t : mark_at code T ≡ mark 0 k = mark_past code b W (mark 0 k) (front code b W rest has_w) m_b ∙ one in
        let more_t : T < length code = omega (arith, more, size) in
        let more_l : p + 2 < length code = omega (arith, more, size) in
        let e1 : after (instr.Enter depth) (mark 0 k) ≡ mark 0 k = mark_is _ _ _ _ (omega arith) (omega arith) in
        let j : after (instr.Jump T) (after (instr.Enter depth) (mark 0 k)) ≡ mark 0 k = mark_is _ _ _ _ (omega arith) (omega arith) in
        let z : after (instr.Zero (p + 2)) (mark 1 k) ≡ mark 0 k = mark_is _ _ _ _ (omega arith) (omega arith) in (
          fine code _ _ (omega arith) (omega arith) tt tt (omega (arith, fit.0)),
          (
            fine code _ _ (omega arith) (omega arith) tt (more_t, m_t ∙ sym j) tt,
            (
              fine code _ _ (omega arith) (omega arith) tt tt (omega (arith, fit.0)),
              fine_as code (past (mark 0 k) head) (mark 0 k) (W ++ rest) three
                  (fine_on code (mark 0 k) (mark 0 k) W rest one
                  (block_fine code (main_row chosen number body (depth + 1)) (lets_row body) b k (row_past chosen number body (depth + 1) b k) (row_fine number body (depth + 1) b k fit.2 (front code b (main_row chosen number body (depth + 1) b) (leave_code (lets_row body)) (front code b W rest has_w)) (row_more code b (main_row chosen number body (depth + 1) b) (leave_code (lets_row body)) T refl more_t) m_b))
                  (fine_on code (mark 0 k) (mark 1 k) ct Z (flip_past test 0 k) (flip_fine code test 0 k fit.1)
                  (fine code _ _ (omega arith) (omega arith) tt (more_l, m_l ∙ sym z) tt, tt))),
            ),
          ),
        )
    main_fine number (For' x low high q body seq at) depth p k fit has more m =
        let bounds = bounds_code depth (expr_code low) (expr_code high) in
        either_fine code (chosen (loop_with x low high (items-the_row-Stmt _ body) seq at)) p k (region_code number (expr_code low) (expr_code high)) (bounds ++ turns_code (p + length bounds) x.id depth at (main_row chosen number body (depth + 1)) (lets_row body))
        (λ has_r more_r. then_fine code low _ 0 k fit.1 (then_fine code high _ 1 k fit.2 (fine code _ _ (omega arith) (omega arith) tt tt tt, tt)))
        (λ has_t more_t. for_fine code x low high q body seq at (main_row chosen number body (depth + 1)) depth p k fit has_t more_t m (λ z j. row_past chosen number body (depth + 1) z j)
        (λ z j has_z more_z at_z. row_fine number body (depth + 1) z j fit.3 has_z more_z at_z)) has more
    main_fine number (Print e at) depth p k fit has more m = then_fine code e _ 0 k fit (fine code _ _ (omega arith) (omega arith) tt tt tt, tt)

    pub row_fine : {j : _} (number : ℕ) (row : Row_of-Stmt j) (depth p k : ℕ) → IsRowFit row depth → Stands code p (main_row chosen number row depth p) → p + length (main_row chosen number row depth p) < length code → mark_at code p ≡ mark 0 k
        → AreFine code (mark 0 k) (main_row chosen number row depth p)
    row_fine number end_of-Stmt depth p k fit has more m = tt
    row_fine number (more_of-Stmt s rest) depth p k fit has more m =
        let c = main_code chosen number s depth p in
        let later = number + count_in chosen s in
        let d = main_row chosen later rest depth (p + length c) in
        let has_c = front code p c d has in
        let m_d = mark_past code p c (mark 0 k) has_c m ∙ main_past chosen number s depth p k in
        fine_on code (mark 0 k) (mark 0 (k + lets s)) c d (main_past chosen number s depth p k)
        (main_fine number s depth p k fit.0 has_c (omega (arith, more, length-append c d)) m)
        (row_fine later rest depth (p + length c) (k + lets s) fit.1 (back code p c d has) (omega (arith, more, length-append c d)) m_d)

  -- the same of a list
  all_fine : (number : ℕ) (ss : List Stmt) (p k : ℕ) → All HasCode ss → Stands code p (main_all chosen number ss 0 p) → p + length (main_all chosen number ss 0 p) < length code → mark_at code p ≡ mark 0 k
      → AreFine code (mark 0 k) (main_all chosen number ss 0 p)
  all_fine number [] p k has_code has more m = tt
  all_fine number (s ∷ rest) p k has_code has more m =
      let c = main_code chosen number s 0 p in
      let later = number + count_in chosen s in
      let d = main_all chosen later rest 0 (p + length c) in
      let has_c = front code p c d has in
      let m_d = mark_past code p c (mark 0 k) has_c m ∙ main_past chosen number s 0 p k in
      fine_on code (mark 0 k) (mark 0 (k + lets s)) c d (main_past chosen number s 0 p k)
      (main_fine number s 0 p k (code_fits s (All-head HasCode s rest has_code)) has_c (omega (arith, more, length-append c d)) m)
      (all_fine later rest (p + length c) (k + lets s) (All-tail HasCode s rest has_code) (back code p c d has) (omega (arith, more, length-append c d)) m_d)

stop_last : (c : List Instr) (pc : ℕ) (i : Instr) → slice_get (c ++ (instr.Stop ∷ [])) pc ≡ Some i → Followed (length (c ++ (instr.Stop ∷ []))) i pc
stop_last c pc i is =
    let code = c ++ (instr.Stop ∷ []) in
    let long : length code ≡ length c + 1 = length-append c (instr.Stop ∷ []) in
    let within = slice_get_within code pc i is in
    ⊎_elim
    (λ (before : pc < length c). followed (length code) i pc (omega (arith, before, long)))
    (λ (behind : length c ≤ pc).
    let here : pc ≡ length c = omega (arith, behind, within, long) in
    let first : 0 + length c ≡ length c = omega arith in
    let last : slice_get code (length c) ≡ Some instr.Stop = ap (slice_get code) (sym first) ∙ (back code 0 c (instr.Stop ∷ []) (stands_all code)).0 in
    let both : Some instr.Stop ≡ Some i = sym last ∙ ap (slice_get code) (sym here) ∙ is in
    let e : instr.Stop ≡ i = cc in
    subst (λ x. Followed (length code) x pc) e tt)
    (cases_lt pc (length c))

all_past : (chosen : Loop → Bool) (number : ℕ) (ss : List Stmt) (p k : ℕ) → past (mark 0 k) (main_all chosen number ss 0 p) ≡ mark 0 (k + lets_all ss)
all_past chosen number [] p k = mark_is _ _ _ _ refl (omega arith)
all_past chosen number (s ∷ rest) p k =
    let c = main_code chosen number s 0 p in
    past_on (mark 0 k) (mark 0 (k + lets s)) c _ (main_past chosen number s 0 p k)
    ∙ all_past chosen (number + count_in chosen s) rest (p + length c) (k + lets s)
    ∙ mark_is _ _ _ _ refl (omega arith)

-- the code of a program
pub program_sound : (chosen : Loop → Bool) (ss : List Stmt) → All HasCode ss → IsSound (program_code chosen ss)
program_sound chosen ss has_code =
    let c = main_all chosen 1 ss 0 0 in
    let code = program_code chosen ss in
    let long : length code ≡ length c + 1 = length-append c (instr.Stop ∷ []) in
    let has = front code 0 c (instr.Stop ∷ []) (stands_all code) in
    let last : AreFine code (mark 0 (0 + lets_all ss)) (instr.Stop ∷ []) = (fine code _ _ (omega arith) (omega arith) refl tt tt, tt) in
    fine_sound code (omega (arith, long))
    (fine_on code start (mark 0 (0 + lets_all ss)) c (instr.Stop ∷ []) (all_past chosen 1 ss 0 0) (all_fine code chosen 1 ss 0 0 has_code has (omega (arith, long)) refl) last)
    (stop_last c)

-- the code of a unit, which is a program without regions
pub unit_sound : (s : Stmt) → HasCode s → IsSound (unit_code s)
unit_sound s h =
    let stop = instr.Stop ∷ [] in
    let one : main_code no_loop 1 s 0 0 ++ [] ≡ main_code no_loop 1 s 0 0 = search rules in
    subst IsSound (ap (λ c. c ++ stop) one ∙ ap (λ c. c ++ stop) (main_plain no_loop 1 s 0 0 (none_in s))) (program_sound no_loop (s ∷ []) (All-cons HasCode s [] h (All-nil HasCode)))
