-- The run of a trial's text ends: each turn of a loop is done and keeps how many cells the arrays have.
use Rattle.std.proofs.Common.{◌≡◌, ◌≤◌, ◌+◌, ◌*◌, ◌++◌, ℕ, zero, suc, ℤ, pos, ◌+ℤ◌, true, false, List, [], ◌∷◌, length, nat_lt, slice_index_or, replicate, refl, sym, ap, ◌∙◌, subst, arith, length-append}
use Rattle.std.proofs.lemmas.Bool.{lt-ltb}
use Rattle.std.proofs.lemmas.Int.{ints}
use Rattle.std.proofs.lemmas.List.{length-set, length-replicate}
use Rattle.std.specs.Fmt.{decimal}
use Rattle.std.specs.Int.{int_gap, int_max, int_rem_euclid}
use Rattle.std.specs.Prelude.{Ok, slice_set, unsigned_abs, codes}
use denote.Hole.Carrier.{hidden}
use Rattle.nona_num.specs.Numbers.{add_of, mul_of, and_of}
use Rattle.nona_tree.specs.declared.names.Use.{Use}
use Rattle.nona_tree.specs.declared.outcomes.Outcome.TheVariants as outcome
use Rattle.nona_num.specs.declared.folds.Fold.TheVariants as fold
use Rattle.nona_tree.specs.declared.trees.Op.TheVariants as op
use Rattle.nona_tree.specs.declared.trees.Expr.{Number, Len, Scalar, Cell, Binary}
use Rattle.nona_tree.specs.Value.{value_of}
use Rattle.nona_tree.specs.declared.trees.Expr.TheBlock.{hidden-the_row-Expr-1, hidden-the_row-Access-0}
use Rattle.nona_tree.specs.declared.trees.Loop.{Loop}
use Rattle.nona_tree.specs.declared.trees.Stmt.{Stmt, Let, Fold, Put, FoldPut, For}
use Rattle.nona_tree.specs.declared.trees.Stmt.TheBlock.{hidden-the_row-Stmt-0}
use Rattle.nona_tree.specs.declared.trees.ArrayDecl.{ArrayDecl}
use Rattle.nona_tree.specs.declared.trees.VarDecl.{VarDecl}
use Rattle.nona_tree.specs.declared.trees.Program.{Program}
use Rattle.nona_tree.specs.Ids.{all_ids, stmt_ids}
use Rattle.nona_tree.specs.Memory.{Memory, cut_to}
use Rattle.nona_tree.specs.Run.{Ran, done, turn, first_turns, then_do, run, run_all, count_of, start_of, meaning_of}
use Rattle.nona_tree.specs.Seen.{Seen}
use Rattle.trial.specs.Numbers.{trial_count, trial_numbers}
use Rattle.trial.proofs.Making.{count_behind, few_numbers}
use Rattle.trial.specs.Tree.{loop_tree, print_tree, blocks_tree, read_tree, trial_tree}

-- the store of a trial: its sum and its maximum, the input, the histogram and the other array, and the printed numbers
record Cells : Type 0 where
  sum : ℤ
  most : ℤ
  histogram : List ℤ
  others : List ℤ

-- such a store with locals
memory : List ℤ → List ℤ → List ℤ → Cells → Memory
memory locals input printed c = record { scalars = c.sum ∷ c.most ∷ locals; arrays = input ∷ c.histogram ∷ c.others ∷ []; printed = printed }

store_of : List ℤ → List ℤ → Cells → Memory
store_of input printed c = memory [] input printed c

-- the arrays have the declared lengths
record AreSized (c : Cells) : Type 0 where
  histogram : length c.histogram ≡ 1024
  others : length c.others ≡ 32768

-- what is visible before the first block, and in a loop
outside : Seen
outside = record { scalars = record { name = codes "s"; index = false } ∷ record { name = codes "m"; index = false } ∷ []; arrays = codes "input" ∷ codes "h" ∷ codes "d" ∷ [] }

-- the statements of a loop's body with their ids
known : List ℕ → ℕ → ℕ → Use
known name at id = record { text = name; at = at; id = id }

takes : ℕ → Stmt
takes at = Let (known (codes "x") (at + 29) 3) (Cell (record { array = known (codes "input") (at + 33) 0; wrap = false; index = Scalar (known (codes "i") (at + 39) 2) }))

makes : ℕ → ℕ → ℕ → Stmt
makes at factor end =
    Let (known (codes "y") (at + 47) 4) (Binary op.Add (end + 1) (Binary op.Mul (at + 52) (Scalar (known (codes "x") (at + 51) 3)) (Number (pos factor))) (Scalar (known (codes "i") (end + 3) 2)))

keeps : ℕ → Stmt
keeps end =
    Put (record { array = known (codes "d") (end + 6) 2; wrap = false; index = Scalar (known (codes "i") (end + 8) 2) }) (Binary op.And (end + 15) (Scalar (known (codes "y") (end + 13) 4)) (Number (pos 65535)))

counts : ℕ → Stmt
counts end = FoldPut (record { array = known (codes "h") (end + 24) 1; wrap = true; index = Scalar (known (codes "y") (end + 31) 4) }) fold.Add (Number (pos 1))

adds : ℕ → Stmt
adds end = Fold (known (codes "s") (end + 40) 0) fold.Add (Scalar (known (codes "y") (end + 45) 4))

tops : ℕ → Stmt
tops end = Fold (known (codes "m") (end + 48) 1) fold.Max (Scalar (known (codes "x") (end + 55) 3))

inner : ℕ → ℕ → ℕ → List Stmt
inner at factor end = takes at ∷ makes at factor end ∷ keeps end ∷ counts end ∷ adds end ∷ tops end ∷ []

-- the place among 1,024 cells that a number is wrapped to
place : ℤ → ℕ
place y = unsigned_abs (int_rem_euclid y (pos 1024))

-- what is made of a number
made : ℤ → ℕ → ℕ → ℤ
made x factor k = add_of (mul_of x (pos factor)) (pos k)

-- what the statements change
kept : ℕ → ℤ → Cells → Cells
kept k y c = record c { others = slice_set c.others k (and_of y (pos 65535)) }

counted : ℤ → Cells → Cells
counted y c = record c { histogram = slice_set c.histogram (place y) (add_of (slice_index_or c.histogram (place y) (pos 0)) (pos 1)) }

added : ℤ → Cells → Cells
added y c = record c { sum = add_of c.sum y }

topped : ℤ → Cells → Cells
topped x c = record c { most = int_max c.most x }

takes_is : (at n k : ℕ) (input printed : List ℤ) (c : Cells) → nat_lt k (length input) ≡ true
    → run (takes at) n (memory (pos k ∷ []) input printed c) ≡ done (memory (pos k ∷ slice_index_or input k (pos 0) ∷ []) input printed c)
unfolding takes known memory hidden-the_row-Access-0 hidden
takes_is at n k input printed c read = rw read refl

makes_is : (at factor end n k : ℕ) (x : ℤ) (input printed : List ℤ) (c : Cells)
    → run (makes at factor end) n (memory (pos k ∷ x ∷ []) input printed c) ≡ done (memory (pos k ∷ x ∷ made x factor k ∷ []) input printed c)
unfolding makes made known memory hidden-the_row-Expr-1 hidden
makes_is at factor end n k x input printed c = refl

keeps_is : (end n k : ℕ) (x y : ℤ) (input printed : List ℤ) (c : Cells) → nat_lt k (length c.others) ≡ true
    → run (keeps end) n (memory (pos k ∷ x ∷ y ∷ []) input printed c) ≡ done (memory (pos k ∷ x ∷ y ∷ []) input printed (kept k y c))
unfolding keeps kept known memory hidden-the_row-Expr-1 hidden
keeps_is end n k x y input printed c written = rw written refl

counts_is : (end n k : ℕ) (x y : ℤ) (input printed : List ℤ) (c : Cells) → length c.histogram ≡ 1024
    → run (counts end) n (memory (pos k ∷ x ∷ y ∷ []) input printed c) ≡ done (memory (pos k ∷ x ∷ y ∷ []) input printed (counted y c))
unfolding counts counted place known memory
counts_is end n k x y input printed c many = rw many refl

adds_is : (end n k : ℕ) (x y : ℤ) (input printed : List ℤ) (c : Cells)
    → run (adds end) n (memory (pos k ∷ x ∷ y ∷ []) input printed c) ≡ done (memory (pos k ∷ x ∷ y ∷ []) input printed (added y c))
unfolding adds added known memory
adds_is end n k x y input printed c = refl

tops_is : (end n k : ℕ) (x y : ℤ) (input printed : List ℤ) (c : Cells)
    → run (tops end) n (memory (pos k ∷ x ∷ y ∷ []) input printed c) ≡ done (memory (pos k ∷ x ∷ y ∷ []) input printed (topped x c))
unfolding tops topped known memory
tops_is end n k x y input printed c = refl

-- the store behind a turn
turned : List ℤ → ℕ → ℕ → Cells → Cells
turned input factor k c =
    let x = slice_index_or input k (pos 0) in
    let y = made x factor k in
    topped x (added y (counted y (kept k y c)))

turned_sized : (input : List ℤ) (factor k : ℕ) (c : Cells) → AreSized c → AreSized (turned input factor k c)
unfolding turned topped added counted kept
turned_sized input factor k c s = record { histogram = length-set _ _ _ ∙ s.histogram; others = length-set _ _ _ ∙ s.others }

-- the body of a loop is done
inner_is : (at factor end n k : ℕ) (input printed : List ℤ) (c : Cells) → AreSized c → nat_lt k (length input) ≡ true → nat_lt k (length c.others) ≡ true
    → run_all (inner at factor end) n (memory (pos k ∷ []) input printed c)
    ≡ done (memory (pos k ∷ slice_index_or input k (pos 0) ∷ made (slice_index_or input k (pos 0)) factor k ∷ []) input printed (turned input factor k c))
unfolding inner turned kept
inner_is at factor end n k input printed c s read written =
    let x = slice_index_or input k (pos 0) in
    let y = made x factor k in
    let first = kept k y c in
    let second = counted y first in
    ap (λ q. then_do q (run_all (makes at factor end ∷ keeps end ∷ counts end ∷ adds end ∷ tops end ∷ []) n)) (takes_is at n k input printed c read)
    ∙ ap (λ q. then_do q (run_all (keeps end ∷ counts end ∷ adds end ∷ tops end ∷ []) n)) (makes_is at factor end n k x input printed c)
    ∙ ap (λ q. then_do q (run_all (counts end ∷ adds end ∷ tops end ∷ []) n)) (keeps_is end n k x y input printed c written)
    ∙ ap (λ q. then_do q (run_all (adds end ∷ tops end ∷ []) n)) (counts_is end n k x y input printed first s.histogram)
    ∙ ap (λ q. then_do q (run_all (tops end ∷ []) n)) (adds_is end n k x y input printed second)
    ∙ ap (λ q. then_do q (run_all [] n)) (tops_is end n k x y input printed (added y second))

-- a turn is done
turn_is : (at factor end n k : ℕ) (input printed : List ℤ) (c : Cells) → AreSized c → nat_lt k (length input) ≡ true → nat_lt k (length c.others) ≡ true
    → turn (run_all (inner at factor end) n) (pos k) (store_of input printed c) ≡ done (store_of input printed (turned input factor k c))
unfolding store_of memory
turn_is at factor end n k input printed c s read written =
    ap (λ (r : Ran). record { store = cut_to 2 r.store; end = r.end }) (inner_is at factor end n k input printed c s read written)

from_zero : (k : ℕ) → pos 0 +ℤ pos k ≡ pos k
from_zero k = omega (arith, ints)

-- the first turns of a loop are done
turns_are : (at factor end n k : ℕ) (input printed : List ℤ) (c : Cells) → AreSized c → k ≤ length input → length input ≤ 32768
    → (later : Cells) × AreSized later
    × (first_turns (turn (run_all (inner at factor end) n)) (pos 0) k (store_of input printed c) ≡ done (store_of input printed later))
turns_are at factor end n zero input printed c s within few = (c, s, refl)
turns_are at factor end n (suc k) input printed c s within few =
    let body = turn (run_all (inner at factor end) n) in
    let so_far = turns_are at factor end n k input printed c s (omega (arith, within)) few in
    let before = so_far.0 in
    let sized : length before.others ≡ 32768 = so_far.1.others in
    let readable = lt-ltb k (length input) (omega (arith, within)) in
    let writable = lt-ltb k (length before.others) (omega (arith, within, few, sized)) in (
      turned input factor k before,
      turned_sized input factor k before so_far.1,
      ap (λ q. then_do q (body (pos 0 +ℤ pos k))) so_far.2
          ∙ ap (λ i. body i (store_of input printed before)) (from_zero k)
          ∙ turn_is at factor end n k input printed before so_far.1 readable writable,
    )

-- a loop with its ids
looped : ℕ → ℕ → ℕ → Loop
looped at factor end = record {
  index = record { text = codes "i"; at = at + 4; id = 2 };
  low = Number (pos 0);
  high = Len (record { text = codes "input"; at = at + 16; id = 0 });
  body = inner at factor end;
  seq = false;
  at = at;
}

looped_is : (at factor end : ℕ) → stmt_ids (loop_tree at factor end) outside ≡ For (looped at factor end)
unfolding inner takes makes keeps counts adds tops known outside looped hidden-the_row-Stmt-0 hidden-the_row-Expr-1 hidden-the_row-Access-0 hidden
looped_is at factor end = refl

low_is : (at factor end : ℕ) (m : Memory) → value_of (looped at factor end).low m ≡ Ok (pos 0)
unfolding looped
low_is at factor end m = refl

high_is : (at factor end : ℕ) (input printed : List ℤ) (c : Cells) → value_of (looped at factor end).high (store_of input printed c) ≡ Ok (pos (length input))
unfolding looped store_of memory
high_is at factor end input printed c = refl

body_is : (at factor end : ℕ) → (looped at factor end).body ≡ inner at factor end
unfolding looped
body_is at factor end = refl

-- the law that a loop does all its turns where it may take as many
abbrev pub AllTurns : Type 0
AllTurns = (l : Loop) (n : ℕ) (m : Memory) (a b : ℤ) → value_of l.low m ≡ Ok a → value_of l.high m ≡ Ok b → int_gap a b ≤ n
    → run (For l) n m ≡ first_turns (turn (run_all l.body n)) a (int_gap a b) m

-- a loop is done
loop_is : AllTurns → (at factor end n : ℕ) (input printed : List ℤ) (c : Cells) → AreSized c → length input ≤ 32768 → length input ≤ n
    → (later : Cells) × AreSized later
    × (run (stmt_ids (loop_tree at factor end) outside) n (store_of input printed c) ≡ done (store_of input printed later))
loop_is law at factor end n input printed c s few enough =
    let gap : int_gap (pos 0) (pos (length input)) ≡ length input = omega arith in
    let m = store_of input printed c in
    let all = turns_are at factor end n (length input) input printed c s (omega arith) few in (
      all.0,
      all.1,
      ap (λ x. run x n m) (looped_is at factor end)
          ∙ law (looped at factor end) n m (pos 0) (pos (length input)) (low_is at factor end m) (high_is at factor end input printed c) (omega (arith, gap, enough))
          ∙ ap (λ b. first_turns (turn (run_all b n)) (pos 0) (int_gap (pos 0) (pos (length input))) m) (body_is at factor end)
          ∙ ap (λ k. first_turns (turn (run_all (inner at factor end) n)) (pos 0) k m) gap
          ∙ all.2,
    )

-- what stands behind so many blocks: the run is done, and each block and the end have printed a number
abbrev EndsWith : Ran → ℕ → Type 0
EndsWith r count = (r.end ≡ outcome.Done) × (length r.store.printed ≡ count)

print_is : (name : List ℕ) (at n : ℕ) (input printed : List ℤ) (c : Cells)
    → (v : ℤ) × (run (stmt_ids (print_tree name at) outside) n (store_of input printed c) ≡ done (store_of input (printed ++ v ∷ []) c))
unfolding store_of memory
print_is name at n input printed c = (_, refl)

-- blocks are done
blocks_are : AllTurns → (more block at n : ℕ) (input printed : List ℤ) (c : Cells) → AreSized c → length input ≤ 32768 → length input ≤ n
    → EndsWith (run_all (all_ids (blocks_tree more block at) outside) n (store_of input printed c)) (length printed + more + 1)
unfolding blocks_tree store_of memory
blocks_are law zero block at n input printed c s few enough =
    let last = print_is (codes "m") at n input printed c in
    subst (λ (r : Ran). EndsWith r (length printed + 0 + 1)) (sym (ap (λ q. then_do q (run_all [] n)) last.1))
    (refl, length-append printed (last.0 ∷ []) ∙ omega arith)
blocks_are law (suc more) block at n input printed c s few enough =
    let factor = 2 * block + 1 in
    let end = at + 53 + length (decimal factor) in
    let rest = blocks_tree more (suc block) (end + 69) in
    let looping = loop_is law at factor end n input printed c s few enough in
    let printing = print_is (codes "s") (end + 60) n input printed looping.0 in
    let added : length (printed ++ printing.0 ∷ []) ≡ length printed + 1 = length-append printed (printing.0 ∷ []) in
    let behind = blocks_are law more (suc block) (end + 69) n input (printed ++ printing.0 ∷ []) looping.0 looping.1 few enough in
    let later = λ (m : Memory). run_all (all_ids rest outside) n m in
    let count : length (printed ++ printing.0 ∷ []) + more + 1 ≡ length printed + suc more + 1 = omega (arith, added) in
    subst (λ (r : Ran). EndsWith r (length printed + suc more + 1))
    (sym (ap (λ q. then_do q (λ m. then_do (run (stmt_ids (print_tree (codes "s") (end + 60)) outside) n m) later)) looping.2
    ∙ ap (λ q. then_do q later) printing.1))
    (behind.0, behind.1 ∙ count)

-- the store before the first statement of a program with two arrays and two variables
start_is : (p : Program) (input : List ℤ) (a b : ArrayDecl) (v w : VarDecl) → p.arrays ≡ a ∷ b ∷ [] → p.vars ≡ v ∷ w ∷ []
    → start_of p input ≡ store_of input [] (record { sum = v.value; most = w.value; histogram = replicate (count_of a.cells) (pos 0); others = replicate (count_of b.cells) (pos 0) })
unfolding store_of memory
start_is p input a b v w arrays vars = rw (arrays, vars) refl

-- the trial's arrays, variables and statements
record IsTrialShaped (p : Program) : Type 0 where
  first : ArrayDecl
  second : ArrayDecl
  sum : VarDecl
  most : VarDecl
  arrays : p.arrays ≡ first ∷ second ∷ []
  vars : p.vars ≡ sum ∷ most ∷ []
  first_cells : count_of first.cells ≡ 1024
  second_cells : count_of second.cells ≡ 32768
  body : p.body ≡ all_ids (blocks_tree 16 1 45) outside

shaped : IsTrialShaped trial_tree
unfolding trial_tree read_tree outside
shaped = record { first = _; second = _; sum = _; most = _; arrays = refl; vars = refl; first_cells = refl; second_cells = refl; body = refl }

shape_runs : AllTurns → (p : Program) → IsTrialShaped p → (numbers : List ℤ) (n : ℕ) → length numbers ≤ 32768 → length numbers ≤ n → EndsWith (meaning_of p numbers n) 17
shape_runs law p t numbers n few enough =
    let c : Cells = record { sum = t.sum.value; most = t.most.value; histogram = replicate (count_of t.first.cells) (pos 0); others = replicate (count_of t.second.cells) (pos 0) } in
    let sized : AreSized c = record { histogram = length-replicate _ _ ∙ t.first_cells; others = length-replicate _ _ ∙ t.second_cells } in
    subst (λ (r : Ran). EndsWith r 17)
    (sym (ap (λ b. run_all b n (start_of p numbers)) t.body
    ∙ ap (run_all (all_ids (blocks_tree 16 1 45) outside) n) (start_is p numbers t.first t.second t.sum t.most t.arrays t.vars)))
    (blocks_are law 16 1 45 n numbers [] c sized few enough)

-- the run of the trial's program ends, whatever the numbers are
pub trial_runs : AllTurns → (numbers : List ℤ) (n : ℕ) → length numbers ≤ 32768 → length numbers ≤ n → EndsWith (meaning_of trial_tree numbers n) 17
trial_runs law = shape_runs law trial_tree shaped

-- and so it does over the numbers of a trial
pub each_runs : AllTurns → (number n : ℕ) → 32768 ≤ n → (meaning_of trial_tree (trial_numbers number) n).end ≡ outcome.Done
each_runs law number n enough =
    let count = count_behind (trial_count number) number in
    let few = few_numbers number in
    (trial_runs law (trial_numbers number) n (omega (arith, count, few)) (omega (arith, count, few, enough))).0
