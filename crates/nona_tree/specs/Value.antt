-- The value of an expression.
use Rattle.std.specs.Prelude.{ℕ, zero, suc, Bool, true, false, not, if◌then◌else◌, ℤ, pos, negsuc, int_lt, int_le, unsigned_abs, length, nat_lt, Result, Ok, Err}
use Rattle.std.specs.Int.{int_rem_euclid}
use Rattle.std.specs.Ordering.{int_eq}
use Rattle.nona_num.specs.Numbers.{add_of, sub_of, mul_of, neg_of, div_of, rem_of, and_of, or_of, xor_of, shl_of, shr_of}
use Rattle.nona_tree.specs.declared.outcomes.Trap.{Trap}
use Rattle.nona_tree.specs.declared.outcomes.TrapKind.{TrapKind}
use Rattle.nona_tree.specs.declared.outcomes.TrapKind.TheVariants.{Index, Empty, Divide}
use Rattle.nona_tree.specs.declared.trees.Op.{Op}
use Rattle.nona_tree.specs.declared.trees.Op.TheVariants as op
use Rattle.nona_tree.specs.declared.trees.Access.{Access}
use Rattle.nona_tree.specs.declared.trees.Expr.{Expr, Number, Scalar, Cell', Len, Neg', Not', Binary', more_of-Expr, end_of-Expr}
use Rattle.nona_tree.specs.declared.trees.Expr.TheBlock.{more_of-Access, end_of-Access}
use Rattle.nona_tree.specs.Memory.{Memory, scalar_at, cells_of, cell_at}

-- a number, or a trap
abbrev pub Answer : Type 0
Answer = Result ℤ Trap

-- a trap of this kind at this place
abbrev pub trap : {A : Type 0} → TrapKind → ℕ → Result A Trap
trap kind at = Err (record { kind = kind; at = at })

-- goes on with a value, unless a trap came first
abbrev pub then_use : {A B : Type 0} → Result A Trap → (A → Result B Trap) → Result B Trap
then_use (Ok v) go = go v
then_use (Err t) go = Err t

-- what a comparison gives: 1 where it holds, else 0
abbrev pub from_test : Bool → ℤ
from_test true = pos 1
from_test false = pos 0

-- whether a number is 0, the one number that is no in a test
abbrev pub is_zero : ℤ → Bool
is_zero v = int_eq v (pos 0)

-- a quotient or what it leaves over, where the divisor isn't 0
abbrev pub divided : ℕ → ℤ → ℤ → Answer
divided at b v = if is_zero b then trap Divide at else Ok v

-- what an operator at this place makes of its left and its right value
abbrev pub apply : Op → ℕ → ℤ → ℤ → Answer
apply op.Add at a b = Ok (add_of a b)
apply op.Sub at a b = Ok (sub_of a b)
apply op.Mul at a b = Ok (mul_of a b)
apply op.Div at a b = divided at b (div_of a b)
apply op.Rem at a b = divided at b (rem_of a b)
apply op.And at a b = Ok (and_of a b)
apply op.Or at a b = Ok (or_of a b)
apply op.Xor at a b = Ok (xor_of a b)
apply op.Shl at a b = Ok (shl_of a b)
apply op.Shr at a b = Ok (shr_of a b)
apply op.Eq at a b = Ok (from_test (int_eq a b))
apply op.Ne at a b = Ok (from_test (not (int_eq a b)))
apply op.Lt at a b = Ok (from_test (int_lt a b))
apply op.Le at a b = Ok (from_test (int_le a b))
apply op.Gt at a b = Ok (from_test (int_lt b a))
apply op.Ge at a b = Ok (from_test (int_le b a))

-- the place that an index, wrapped or plain, names among this many cells; at is the place of the array's name
abbrev pub place_of : Bool → ℕ → ℕ → ℤ → Result ℕ Trap
place_of false at count (pos i) = if nat_lt i count then Ok i else trap Index at
place_of false at count (negsuc i) = trap Index at
place_of true at zero v = trap Empty at
place_of true at (suc k) v = Ok (unsigned_abs (int_rem_euclid v (pos (suc k))))

-- the value of an expression over a store: the left part comes first, and the first trap counts
abbrev pub value_of : Expr → Memory → Answer
value_of (Number v) m = Ok v
value_of (Scalar x) m = Ok (scalar_at m x.id)
value_of (Cell' p (more_of-Access array wrap index end_of-Access)) m =
    then_use (value_of index m) (λ i. then_use (place_of wrap array.at (length (cells_of m array.id)) i) (λ place. Ok (cell_at m array.id place)))
value_of (Len a) m = Ok (pos (length (cells_of m a.id)))
value_of (Neg' p (more_of-Expr e end_of-Expr)) m = then_use (value_of e m) (λ v. Ok (neg_of v))
value_of (Not' p (more_of-Expr e end_of-Expr)) m = then_use (value_of e m) (λ v. Ok (from_test (is_zero v)))
value_of (Binary' op at p (more_of-Expr left end_of-Expr) q (more_of-Expr right end_of-Expr)) m =
    then_use (value_of left m) (λ a. then_use (value_of right m) (λ b. apply op at a b))

-- the place of an access's cell over a store
abbrev pub cell_of : Access → Memory → Result ℕ Trap
cell_of c m = then_use (value_of c.index m) (λ i. place_of c.wrap c.array.at (length (cells_of m c.array.id)) i)
