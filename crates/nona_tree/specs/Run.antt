-- What statements do: the sequential meaning.
use Rattle.std.specs.Prelude.{◌≡◌, ℕ, zero, suc, if◌then◌else◌, ℤ, pos, negsuc, ◌+ℤ◌, List, [], ◌∷◌, length, map, min, nat_le, replicate, Result, Ok, Err}
use Rattle.std.specs.Int.{int_gap}
use Rattle.nona_num.specs.Folds.{join_of}
use Rattle.nona_tree.specs.declared.outcomes.Trap.{Trap}
use Rattle.nona_tree.specs.declared.outcomes.Outcome.{Outcome}
use Rattle.nona_tree.specs.declared.outcomes.Outcome.TheVariants as outcome
use Rattle.nona_tree.specs.declared.trees.Stmt.{Stmt, Let, Set, Fold, Put, FoldPut, If', While', For', Print, Row_of-Stmt, end_of-Stmt, more_of-Stmt}
use Rattle.nona_tree.specs.declared.trees.ArrayDecl.{ArrayDecl}
use Rattle.nona_tree.specs.declared.trees.VarDecl.{VarDecl}
use Rattle.nona_tree.specs.declared.trees.Program.{Program}
use Rattle.nona_tree.specs.Memory.{Memory, scalar_at, cell_at, declare, assign, put_cell, print, cut_to}
use Rattle.nona_tree.specs.Value.{Answer, is_zero, value_of, cell_of}

-- a store, and how the run ended there
pub record Ran : Type 0 where
  pub store : Memory
  pub end : Outcome

-- a run that is done
abbrev pub done : Memory → Ran
done m = record { store = m; end = outcome.Done }

-- a run that stopped by a trap
abbrev pub trapped : Trap → Memory → Ran
trapped t m = record { store = m; end = outcome.Trap t }

-- a run that is out of turns, at a loop's place
abbrev pub starved : ℕ → Memory → Ran
starved at m = record { store = m; end = outcome.OutOfTurns at }

-- goes on with a value, or ends in this store by its trap
abbrev pub with_value : {A : Type 0} → Result A Trap → Memory → (A → Ran) → Ran
with_value (Ok v) m go = go v
with_value (Err t) m go = trapped t m

-- goes on from a store, unless the run has ended otherwise
abbrev pub then_from : Memory → Outcome → (Memory → Ran) → Ran
then_from m outcome.Done go = go m
then_from m (outcome.Trap t) go = trapped t m
then_from m (outcome.OutOfTurns at) go = starved at m

-- goes on from where a run is done
abbrev pub then_do : Ran → (Memory → Ran) → Ran
then_do r go = then_from r.store r.end go

-- a block that begins in m drops the scalars that outer doesn't have, however it ends
abbrev pub in_scope : (Memory → Ran) → Memory → Memory → Ran
in_scope body outer m = let r = body m in record { store = cut_to (length outer.scalars) r.store; end = r.end }

-- a block that begins in the store around it
abbrev pub block : (Memory → Ran) → Memory → Ran
block body m = in_scope body m m

-- a turn of a for: the index is declared in the block
abbrev pub turn : (Memory → Ran) → ℤ → Memory → Ran
turn body i m = in_scope body m (declare i m)

-- the turns of a while at this place, which may take n more: the test comes first, also where none is left
abbrev pub while_turns : ℕ → (Memory → Answer) → (Memory → Ran) → ℕ → Memory → Ran
while_turns at test body zero m = with_value (test m) m (λ v. if is_zero v then done m else starved at m)
while_turns at test body (suc n) m =
    with_value (test m) m (λ v. if is_zero v then done m else then_do (body m) (while_turns at test body n))

-- the first k turns of a for
abbrev pub first_turns : (ℤ → Memory → Ran) → ℤ → ℕ → Memory → Ran
first_turns body low zero m = done m
first_turns body low (suc k) m = then_do (first_turns body low k m) (body (low +ℤ pos k))

-- count turns of a for at this place, of which it may take n
abbrev pub for_turns : ℕ → (ℤ → Memory → Ran) → ℤ → ℕ → ℕ → Memory → Ran
for_turns at body low count n m =
    then_do (first_turns body low (min count n) m) (λ r. if nat_le count n then done r else starved at r)

abbrev mutual
  -- the run of a statement, in which each loop may take n turns whenever it is entered
  pub run : Stmt → ℕ → Memory → Ran
  run (Let x e) n m = with_value (value_of e m) m (λ v. done (declare v m))
  run (Set x e) n m = with_value (value_of e m) m (λ v. done (assign x.id v m))
  run (Fold x f e) n m = with_value (value_of e m) m (λ v. done (assign x.id (join_of f (scalar_at m x.id) v) m))
  run (Put c e) n m =
      with_value (cell_of c m) m (λ place. with_value (value_of e m) m (λ v. done (put_cell c.array.id place v m)))
  run (FoldPut c f e) n m =
      with_value (cell_of c m) m (λ place. with_value (value_of e m) m (λ v. done (put_cell c.array.id place (join_of f (cell_at m c.array.id place) v) m)))
  run (If' test p then_part q else_part) n m =
      with_value (value_of test m) m (λ v. if is_zero v then block (run_row else_part n) m else block (run_row then_part n) m)
  run (While' test p body at) n m = while_turns at (value_of test) (block (run_row body n)) n m
  run (For' x low high p body seq at) n m =
      with_value (value_of low m) m (λ a. with_value (value_of high m) m (λ b. for_turns at (turn (run_row body n)) a (int_gap a b) n m))
  run (Print e at) n m = with_value (value_of e m) m (λ v. done (print v m))

  -- one statement after another
  pub run_row : {k : _} → Row_of-Stmt k → ℕ → Memory → Ran
  run_row end_of-Stmt n m = done m
  run_row (more_of-Stmt s rest) n m = then_do (run s n m) (run_row rest n)

-- one statement after another
abbrev pub run_all : List Stmt → ℕ → Memory → Ran
run_all [] n m = done m
run_all (s ∷ rest) n m = then_do (run s n m) (run_all rest n)

-- how many cells a number asks for: none where it is below 0
abbrev pub count_of : ℤ → ℕ
count_of (pos n) = n
count_of (negsuc n) = 0

-- the arrays before the first statement: the input's numbers, and behind them the declared arrays with all cells 0
abbrev pub start_arrays : List ArrayDecl → List ℤ → List (List ℤ)
start_arrays arrays input = input ∷ map (λ (d : ArrayDecl). replicate (count_of d.cells) (pos 0)) arrays

-- the store before the first statement, over this input: the declared values, the arrays, and nothing printed
abbrev pub start_of : Program → List ℤ → Memory
start_of p input =
    record { scalars = map (λ (d : VarDecl). d.value) p.vars; arrays = start_arrays p.arrays input; printed = [] }

-- the sequential meaning of a program over this input, in which each loop may take n turns whenever it is entered
abbrev pub meaning_of : Program → List ℤ → ℕ → Ran
meaning_of p input n = run_all p.body n (start_of p input)

-- the run ends so, and leaves this store
abbrev pub Reaches : Ran → Memory → Outcome → Type 0
Reaches ran store end = ran ≡ record { store = store; end = end }
