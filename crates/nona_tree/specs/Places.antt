-- The places of the loops of a program.
use Rattle.std.specs.Prelude.{ℕ, ◌<◌, List, [], ◌∷◌, ◌++◌}
use Rattle.std.specs.List.{AllByRecursion}
use Rattle.nona_tree.specs.declared.trees.Stmt.{Stmt, If', While', For', Row_of-Stmt, end_of-Stmt, more_of-Stmt}
use Rattle.nona_tree.specs.declared.trees.Program.{Program}

abbrev mutual
  -- the places of the words `for` in a statement, in text order: that of a loop, and then those inside it
  pub fors_in : Stmt → List ℕ
  fors_in (If' test p then_part q else_part) = fors_row then_part ++ fors_row else_part
  fors_in (While' test p body at) = fors_row body
  fors_in (For' x low high p body seq at) = at ∷ fors_row body
  fors_in _ = []

  -- the same of one statement after another
  pub fors_row : {k : _} → Row_of-Stmt k → List ℕ
  fors_row end_of-Stmt = []
  fors_row (more_of-Stmt s rest) = fors_in s ++ fors_row rest

-- the same of one statement after another
abbrev pub fors_all : List Stmt → List ℕ
fors_all [] = []
fors_all (s ∷ rest) = fors_in s ++ fors_all rest

-- each number is below all those behind it
abbrev pub AreRising : List ℕ → Type 0
AreRising [] = Unit {0}
AreRising (x ∷ xs) = AllByRecursion (λ y. x < y) xs × AreRising xs

-- the words `for` of a program stand one behind another, so no two of its loops have one place
abbrev pub HasOwnPlaces : Program → Type 0
HasOwnPlaces p = AreRising (fors_all p.body)
