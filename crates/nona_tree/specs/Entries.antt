-- The regions of a program, each time that its run comes to one, and the iterations of a loop that was entered.
use Rattle.std.specs.Prelude.{◌≡◌, ℕ, ◌+◌, ◌-◌, ◌≤◌, ◌==◌, Bool, not, if◌then◌else◌, ℤ, pos, ◌+ℤ◌, List, [], ◌∷◌, ◌++◌, length, map, min, slice_get, Some, Ok}
use Rattle.std.specs.List.{list_any}
use Rattle.std.specs.Int.{int_gap}
use Rattle.nona_tree.specs.declared.names.Use.{Use}
use Rattle.nona_tree.specs.declared.trees.Expr.{Expr}
use Rattle.nona_tree.specs.declared.trees.Loop.{Loop}
use Rattle.nona_tree.specs.declared.trees.Stmt.{Stmt, Let, If', While', For', For, Row_of-Stmt, end_of-Stmt, more_of-Stmt, items-the_row-Stmt}
use Rattle.nona_tree.specs.Memory.{Memory, scalar_at, declare}
use Rattle.nona_tree.specs.Value.{is_zero, value_of}
use Rattle.nona_tree.specs.Run.{Ran, run, run_row, run_all, block, turn, first_turns}
use Rattle.nona_tree.specs.Scope.{IsScoped, AreSteady}
use Rattle.nona_tree.specs.Beside.{on_ok, on_done, while_gives, first_give}

-- whether a loop may be run in other versions than one thread's: it isn't written `seq for`
abbrev pub may_reshape : Loop → Bool
may_reshape l = not l.seq

-- whether the word `for` of a loop stands at one of these places
abbrev pub is_among : List ℕ → Loop → Bool
is_among places l = list_any (λ place. place == l.at) places

-- the places of the words `for` of loops
abbrev pub places_of : List Loop → List ℕ
places_of loops = map (λ (l : Loop). l.at) loops

-- a loop with these parts
abbrev pub loop_with : Use → Expr → Expr → List Stmt → Bool → ℕ → Loop
loop_with x low high body seq at = record { index = x; low = low; high = high; body = body; seq = seq; at = at }

abbrev mutual
  -- the regions in a statement by a test of loops, in text order: each loop from outside in that is chosen, and none inside it
  pub regions_in : (Loop → Bool) → Stmt → List Loop
  regions_in chosen (If' test p then_part q else_part) = regions_row chosen then_part ++ regions_row chosen else_part
  regions_in chosen (While' test p body at) = regions_row chosen body
  regions_in chosen (For' x low high p body seq at) =
      let l = loop_with x low high (items-the_row-Stmt _ body) seq at in if chosen l then l ∷ [] else regions_row chosen body
  regions_in chosen _ = []

  -- the same of one statement after another
  pub regions_row : {k : _} → (Loop → Bool) → Row_of-Stmt k → List Loop
  regions_row chosen end_of-Stmt = []
  regions_row chosen (more_of-Stmt s rest) = regions_in chosen s ++ regions_row chosen rest

-- the same of one statement after another
abbrev pub regions_all : (Loop → Bool) → List Stmt → List Loop
regions_all chosen [] = []
regions_all chosen (s ∷ rest) = regions_in chosen s ++ regions_all chosen rest

-- how many regions stand in a statement
abbrev pub count_in : (Loop → Bool) → Stmt → ℕ
count_in chosen s = length (regions_in chosen s)

-- the same of one statement after another
abbrev pub count_row : {k : _} → (Loop → Bool) → Row_of-Stmt k → ℕ
count_row chosen row = length (regions_row chosen row)

-- the same of one statement after another
abbrev pub count_all : (Loop → Bool) → List Stmt → ℕ
count_all chosen ss = length (regions_all chosen ss)

-- a region that a run comes to: its number, its loop, the values of the loop's bounds, and the store at that moment
pub record Opened : Type 0 where
  pub region : ℕ
  pub looped : Loop
  pub low : ℤ
  pub high : ℤ
  pub store : Memory

abbrev mutual
  -- each region that the run of a statement comes to, in order, where the first region in its text has this number
  pub entries : (Loop → Bool) → ℕ → Stmt → ℕ → Memory → List Opened
  entries chosen first (If' test p then_part q else_part) n m =
      on_ok (value_of test m) (λ v. if is_zero v then entries_row chosen (first + count_row chosen then_part) else_part n m
      else entries_row chosen first then_part n m)
  entries chosen first (While' test p body at) n m =
      while_gives (value_of test) (λ k. []) (block (run_row body n)) (entries_row chosen first body n) n m
  entries chosen first (For' x low high p body seq at) n m =
      let l = loop_with x low high (items-the_row-Stmt _ body) seq at in
      on_ok (value_of low m) (λ a. on_ok (value_of high m) (λ b. if chosen l
      then record { region = first; looped = l; low = a; high = b; store = m } ∷ []
      else first_give (turn (run_row body n)) (λ i k. entries_row chosen first body n (declare i k)) a (min (int_gap a b) n) m))
  entries chosen first _ n m = []

  -- the same of one statement after another
  pub entries_row : {k : _} → (Loop → Bool) → ℕ → Row_of-Stmt k → ℕ → Memory → List Opened
  entries_row chosen first end_of-Stmt n m = []
  entries_row chosen first (more_of-Stmt s rest) n m =
      entries chosen first s n m ++ on_done (run s n m) (entries_row chosen (first + count_in chosen s) rest n)

-- the same of one statement after another
abbrev pub entries_all : (Loop → Bool) → ℕ → List Stmt → ℕ → Memory → List Opened
entries_all chosen first [] n m = []
entries_all chosen first (s ∷ rest) n m =
    entries chosen first s n m ++ on_done (run s n m) (entries_all chosen (first + count_in chosen s) rest n)

-- an entry is to the region that has its number, where these are all regions from number 1 on, and its low and its high
-- are the values of that loop's bounds in its store
abbrev pub IsEntryOf : List Loop → Opened → Type 0
IsEntryOf regions o =
    (1 ≤ o.region) × (slice_get regions (o.region - 1) ≡ Some o.looped) × (value_of o.looped.low o.store ≡ Ok o.low) × (value_of o.looped.high o.store ≡ Ok o.high)

-- the number behind the last index of a loop that may take n turns: low itself where it takes none
abbrev pub last_of : ℤ → ℤ → ℕ → ℤ
last_of low high n = low +ℤ pos (min (int_gap low high) n)

-- a loop that was entered in this store: the value of its low bound, the number behind its last index, and how many turns a
-- loop may take whenever it is entered
pub record Entry : Type 0 where
  pub looped : Loop
  pub store : Memory
  pub low : ℤ
  pub last : ℤ
  pub turns : ℕ

-- the state after k iterations; one that ended otherwise than done is the last
abbrev pub after : Entry → ℕ → Ran
after e k = first_turns (turn (run_all e.looped.body e.turns)) e.low k e.store

-- the body in iteration k, counted from low, as it ends before its block drops its scalars
abbrev pub in_iteration : Entry → ℕ → Ran
in_iteration e k = run_all e.looped.body e.turns (declare (e.low +ℤ pos k) (after e k).store)

-- the run of the first statements of the body in iteration k
abbrev pub behind_front : Entry → ℕ → List Stmt → Ran
behind_front e k front = run_all front e.turns (declare (e.low +ℤ pos k) (after e k).store)

-- the value in iteration k of the scalar at this position, one that is declared at the body's top and never assigned
abbrev pub local_at : Entry → ℕ → ℕ → ℤ
local_at e k position = scalar_at (in_iteration e k).store position

-- a `let` at the top of the body, between these statements, in which and in all behind it the scalar is never assigned
pub record IsLocal (e : Entry) (front rest : List Stmt) (x : Use) (value : Expr) (arrays : ℕ) : Type 0 where
  pub scoped : IsScoped (For e.looped) (length e.store.scalars) arrays
  pub body : e.looped.body ≡ front ++ Let x value ∷ rest
  pub steady : AreSteady rest (x.id ∷ [])
