-- The guard of an entry: whether the ranges of a calm loop's forms tell that all its iterations end well.
use Rattle.std.specs.Prelude.{ℕ, Bool, true, false, ◌&&◌, ◌==◌, nat_lt, if◌then◌else◌, ℤ, pos, negsuc, ◌-ℤ◌, int_lt, int_le, List, [], ◌∷◌, length}
use Rattle.nona_num.specs.declared.range.Range.{Range}
use Rattle.nona_tree.specs.declared.trees.Access.{Access}
use Rattle.nona_tree.specs.declared.trees.Expr.{Expr, Cell', Neg', Not', Binary', more_of-Expr, end_of-Expr}
use Rattle.nona_tree.specs.declared.trees.Expr.TheBlock.{more_of-Access, end_of-Access}
use Rattle.nona_tree.specs.declared.trees.Loop.{Loop}
use Rattle.nona_tree.specs.declared.trees.Stmt.{Stmt, Let, Set, Fold, Put, FoldPut, If', While', For', Print, Row_of-Stmt, end_of-Stmt, more_of-Stmt}
use Rattle.nona_tree.specs.Memory.{Memory, scalar_at, cells_of}
use Rattle.nona_forms.specs.Affine.{form_of}
use Rattle.nona_forms.specs.References.{names_of}
use Rattle.nona_forms.specs.Boxes.{point, form_range}
use Rattle.nona_forms.specs.Verdicts.{if_form}

-- whether a range lies among so many cells
abbrev pub lies_in : Range → ℕ → Bool
lies_in r count = int_le (pos 0) r.low && int_lt r.high (pos count)

-- whether a range lies in the numbers of 64 bits
abbrev pub is_i64_range : Range → Bool
is_i64_range r = int_le (negsuc 9223372036854775807) r.low && int_le r.high (pos 9223372036854775807)

-- one scalar has this range, and the others theirs
abbrev pub with_range : ℕ → Range → (ℕ → Range) → ℕ → Range
with_range id r ranges = λ k. if k == id then r else ranges k

-- an access: the range of its form lies in the array, or, wrapped, the array isn't empty
abbrev pub fits_place : Bool → Expr → ℕ → List ℕ → (ℕ → Range) → Bool
fits_place wrap index count names ranges =
    if wrap then nat_lt 0 count else if_form (form_of index names) (λ f. lies_in (form_range ranges f) count)

-- each access in an expression
abbrev pub fits_expr : Expr → List ℕ → (ℕ → Range) → Memory → Bool
fits_expr (Cell' p (more_of-Access array wrap index end_of-Access)) names ranges m =
    fits_place wrap index (length (cells_of m array.id)) names ranges && fits_expr index names ranges m
fits_expr (Neg' p (more_of-Expr e end_of-Expr)) names ranges m = fits_expr e names ranges m
fits_expr (Not' p (more_of-Expr e end_of-Expr)) names ranges m = fits_expr e names ranges m
fits_expr (Binary' o at p (more_of-Expr left end_of-Expr) q (more_of-Expr right end_of-Expr)) names ranges m =
    fits_expr left names ranges m && fits_expr right names ranges m
fits_expr _ names ranges m = true

-- an access that is written
abbrev pub fits_cell : Access → List ℕ → (ℕ → Range) → Memory → Bool
fits_cell c names ranges m =
    fits_place c.wrap c.index (length (cells_of m c.array.id)) names ranges && fits_expr c.index names ranges m

-- an inner loop whose bounds have these ranges: they lie in 64 bits, it has at most n turns, and its body fits where the
-- index has the range from the least low bound to the number before the greatest high bound, if there is one
abbrev pub fits_turns : Range → Range → ℕ → (Range → Bool) → Bool
fits_turns low high n body =
    is_i64_range low && (is_i64_range high && (int_le (high.high -ℤ low.low) (pos n) &&
    (if int_le high.high low.low then true else body (record { low = low.low; high = high.high -ℤ pos 1 }))))

abbrev mutual
  -- whether a statement fits, where the scalars have these ranges, over a store of arrays as long as those of m
  pub fits_stmt : Stmt → List ℕ → (ℕ → Range) → Memory → ℕ → Bool
  fits_stmt (Let x e) names ranges m n = fits_expr e names ranges m
  fits_stmt (Set x e) names ranges m n = fits_expr e names ranges m
  fits_stmt (Fold x f e) names ranges m n = fits_expr e names ranges m
  fits_stmt (Put c e) names ranges m n = fits_cell c names ranges m && fits_expr e names ranges m
  fits_stmt (FoldPut c f e) names ranges m n = fits_cell c names ranges m && fits_expr e names ranges m
  fits_stmt (If' test p then_part q else_part) names ranges m n =
      fits_expr test names ranges m && (fits_row then_part names ranges m n && fits_row else_part names ranges m n)
  fits_stmt (While' test p body at) names ranges m n = false
  fits_stmt (For' x low high p body seq at) names ranges m n =
      if_form (form_of low names) (λ f. if_form (form_of high names) (λ g.
      fits_turns (form_range ranges f) (form_range ranges g) n (λ r. fits_row body (x.id ∷ names) (with_range x.id r ranges) m n)))
  fits_stmt (Print e at) names ranges m n = fits_expr e names ranges m

  -- the same of one statement after another
  pub fits_row : {k : _} → Row_of-Stmt k → List ℕ → (ℕ → Range) → Memory → ℕ → Bool
  fits_row end_of-Stmt names ranges m n = true
  fits_row (more_of-Stmt s rest) names ranges m n = fits_stmt s names ranges m n && fits_row rest names ranges m n

-- the same of one statement after another
abbrev pub fits_all : List Stmt → List ℕ → (ℕ → Range) → Memory → ℕ → Bool
fits_all [] names ranges m n = true
fits_all (s ∷ rest) names ranges m n = fits_stmt s names ranges m n && fits_all rest names ranges m n

-- at the entry each scalar has the range of its one value, and the index that of the iterations
abbrev pub ranges_of : Loop → Memory → ℤ → ℤ → ℕ → Range
ranges_of l entry low last = with_range l.index.id (record { low = low; high = last -ℤ pos 1 }) (λ id. point (scalar_at entry id))

-- the guard of a calm loop, for a store, the iterations from low to last - 1, and n turns
abbrev pub guard_of : Loop → Memory → ℤ → ℤ → ℕ → Bool
guard_of l entry low last n =
    if int_le last low then true else fits_all l.body (names_of l) (ranges_of l entry low last) entry n
