-- A small loop whose third, fourth and sixth unit may be run apart by several tasks, which have copies of the array that the sixth one
-- folds into, and the fifth by one; for a local that these don't use any number may be given.
use Rattle.std.proofs.Common.{◌≡◌, ◌≢◌, inl, ⊎_elim, ℕ, zero, suc, ◌<◌, ◌==◌, ◌||◌, pos, Bool, [], ◌∷◌, true, false, refl, sym, subst, arith, if◌then◌else◌}
use Rattle.std.specs.Prelude.{All, Some}
use Rattle.std.specs.List.{Contains}
use Rattle.std.proofs.lemmas.Int.{ints}
use Rattle.std.proofs.lemmas.List.Elements.{All-nil, All-cons, All-from_recursion}
use Rattle.nona_num.specs.declared.folds.Fold.{Fold as By}
use Rattle.nona_num.specs.declared.folds.Fold.TheVariants.{Max}
use Rattle.nona_tree.specs.declared.names.Use.{Use}
use Rattle.nona_tree.specs.declared.trees.Expr.{Number, Scalar}
use Rattle.nona_tree.specs.declared.trees.Loop.{Loop}
use Rattle.nona_tree.specs.declared.trees.Stmt.{Let, Fold, Put, FoldPut, Print, For}
use Rattle.nona_tree.specs.declared.trees.Stmt.TheBlock.{hidden-the_row-Stmt-0}
use denote.Hole.Carrier.{hidden}
use Rattle.nona_tree.specs.Memory.{Memory, cell_at}
use Rattle.nona_tree.specs.Numbers.{IsI64, AreCells, AreI64, IsI64Stmt}
use Rattle.nona_tree.specs.Scope.{IsScoped, IsSteady}
use Rattle.nona_forms.specs.Calm.{is_calm}
use Rattle.nona_forms.specs.Guards.{guard_of}
use Rattle.nona_forms.specs.Separate.{IsLoopEntry}
use Rattle.nona_plans.specs.declared.graphs.Tie.{Tie}
use Rattle.nona_plans.specs.declared.graphs.Local.{Local}
use Rattle.nona_plans.specs.Units.{ties_of, ties_without, reductions_of, locals_of, uses}
use Rattle.nona_plans.proofs.Leading.{same_units}
use Rattle.nona_fission.specs.Sharing.{store_behind, joined_with}
use Rattle.nona_fission.specs.FoldArrays.{fold_array_of}
use Rattle.nona_fission.specs.Fission.{Fission, MayBeApart, one_thread_local, own_run, own_copy}
use Rattle.nona_fission.proofs.Together.{or_cases}

named : ℕ → Use
named id = record { text = []; at = 0; id = id }

-- for i in 0..5 { let x = i; let y = i; h[i] = x; s max= x; print y; c[0] max= x; }, where s has the id 0, i 1, x 2 and y 3, and c is
-- the array 2
looped : Loop
looped = record {
  index = named 1;
  low = Number (pos 0);
  high = Number (pos 5);
  body = Let (named 2) (Scalar (named 1)) ∷ Let (named 3) (Scalar (named 1)) ∷ Put (record { array = named 1; wrap = false; index = Scalar (named 1) }) (Scalar (named 2)) ∷ Fold (named 0) Max (Scalar (named 2)) ∷ Print (Scalar (named 3)) 0 ∷ FoldPut (record { array = named 2; wrap = false; index = Number (pos 0) }) Max (Scalar (named 2)) ∷ [];
  seq = false;
  at = 0;
}

store : Memory
store = record { scalars = pos 100 ∷ []; arrays = [] ∷ (pos 0 ∷ pos 0 ∷ pos 0 ∷ pos 0 ∷ pos 0 ∷ []) ∷ (pos 50 ∷ []) ∷ []; printed = [] }

calm : is_calm looped ≡ true
unfolding looped named
calm = refl

guarded : guard_of looped store (pos 0) (pos 5) 100 ≡ true
unfolding looped named store
guarded = refl

ties : ties_of looped ≡ record { first = 3; second = 3; carried = false } ∷ record { first = 5; second = 5; carried = true } ∷ record { first = 6; second = 6; carried = true } ∷ []
unfolding looped named
ties = refl

other_ties : ties_without (2 ∷ []) looped ≡ record { first = 3; second = 3; carried = false } ∷ record { first = 5; second = 5; carried = true } ∷ []
unfolding looped named
other_ties = refl

fold_array : fold_array_of looped 2 ≡ Some Max
unfolding looped named
fold_array = refl

locals : locals_of looped ≡ record { unit = 1; id = 2; assigned = false } ∷ record { unit = 2; id = 3; assigned = false } ∷ []
unfolding looped named
locals = refl

one_reduction : reductions_of looped ≡ (0, Max) ∷ []
unfolding looped named
one_reduction = refl

same_ends : (own : ℕ → Bool) (x t : Tie) → x ≡ t → own x.first ≡ own x.second → own t.first ≡ own t.second
same_ends own x t is e = subst (λ (z : Tie). own z.first ≡ own z.second) is e

closed_of : (own : ℕ → Bool) (t : Tie) → Contains (record { first = 3; second = 3; carried = false } ∷ record { first = 5; second = 5; carried = true } ∷ []) t → own t.first ≡ own t.second
closed_of own t (zero, within, is) = same_ends own (record { first = 3; second = 3; carried = false }) t is refl
closed_of own t (suc zero, within, is) = same_ends own (record { first = 5; second = 5; carried = true }) t is refl
closed_of own t (suc (suc k), within, is) = absurd (omega (arith, within))

-- the units that are run apart
abbrev are_own : ℕ → Bool
are_own u = u == 3 || (u == 4 || u == 6)

free_at : (x t : Tie) → x ≡ t → (are_own x.first ≡ true → x.carried ≡ false) → are_own t.first ≡ true → t.carried ≡ false
free_at x t is e = subst (λ (z : Tie). are_own z.first ≡ true → z.carried ≡ false) is e

free_of : (t : Tie) → Contains (record { first = 3; second = 3; carried = false } ∷ record { first = 5; second = 5; carried = true } ∷ []) t → are_own t.first ≡ true → t.carried ≡ false
free_of t (zero, within, is) = free_at (record { first = 3; second = 3; carried = false }) t is (λ e. refl)
free_of t (suc zero, within, is) = free_at (record { first = 5; second = 5; carried = true }) t is (λ e. cc)
free_of t (suc (suc k), within, is) = absurd (omega (arith, within))

-- each tie but for those by the copied array has both of its units among the own ones or none, whichever these are
closed : (own : ℕ → Bool) (t : Tie) → Contains (ties_without (2 ∷ []) looped) t → own t.first ≡ own t.second
closed own t c = closed_of own t (subst (λ ts. Contains ts t) other_ties c)

-- no such tie with one of these units is carried
free : (t : Tie) → Contains (ties_without (2 ∷ []) looped) t → are_own t.first ≡ true → t.carried ≡ false
free t c = free_of t (subst (λ ts. Contains ts t) other_ties c)

fold_at : (x a : ℕ) → x ≡ a → (f : By) → fold_array_of looped x ≡ Some f → (g : By) × (fold_array_of looped a ≡ Some g)
fold_at x a is f e = (f, subst (λ z. fold_array_of looped z ≡ Some f) is e)

-- the copied array is a fold array
folds : (a : ℕ) → Contains (2 ∷ []) a → (f : By) × (fold_array_of looped a ≡ Some f)
folds a (zero, within, is) = fold_at 2 a is Max fold_array
folds a (suc k, within, is) = absurd (omega (arith, within))

-- these units, of which two tasks own the even and the odd iterations; 9 is given for y, which isn't its value
shared : Fission
shared = record {
  sharing = record {
    entry = record { looped = looped; store = store; low = pos 0; last = pos 5; turns = 100 };
    first = 0;
    count = 5;
    tasks = 2;
    owner = λ k. if k == 1 || k == 3 then 1 else 0;
  };
  own = are_own;
  folded = 2 ∷ [];
  locals = λ k position. if position == 3 then pos 9 else pos k;
}

-- the even task has made 4 of the reduction, the greatest of 0, 2 and 4, has written the even cells, has made 4 of the cell of its copy
-- too, where 50 stands before the iterations, and prints nothing
even_task : (own_run shared 0).store ≡ record { scalars = pos 4 ∷ []; arrays = [] ∷ (pos 0 ∷ pos 0 ∷ pos 2 ∷ pos 0 ∷ pos 4 ∷ []) ∷ (pos 4 ∷ []) ∷ []; printed = [] }
unfolding shared looped named store
even_task = refl

-- the copies joined with the cell before the iterations, and the cell behind them
joined_copies : joined_with Max (pos 50) (own_copy shared 2 0) 2 ≡ pos 50
unfolding shared looped named store
joined_copies = refl

cell_behind : cell_at (store_behind shared.sharing) 2 0 ≡ pos 50
unfolding shared looped named store
cell_behind = refl

-- these units may be run apart

small : (k : ℕ) → k < 200 → IsI64 (pos k)
small k h = omega (arith, ints, h)

five_zeros : All IsI64 (pos 0 ∷ pos 0 ∷ pos 0 ∷ pos 0 ∷ pos 0 ∷ [])
five_zeros =
    let zero_fits = small 0 (omega arith) in
    All-from_recursion IsI64 (pos 0 ∷ pos 0 ∷ pos 0 ∷ pos 0 ∷ pos 0 ∷ []) (zero_fits, (zero_fits, (zero_fits, (zero_fits, (zero_fits, tt)))))

store_numbers : AreI64 store
unfolding store
store_numbers = record {
  scalars = All-cons IsI64 (pos 100) [] (small 100 (omega arith)) (All-nil IsI64);
  arrays = All-from_recursion AreCells ([] ∷ (pos 0 ∷ pos 0 ∷ pos 0 ∷ pos 0 ∷ pos 0 ∷ []) ∷ (pos 50 ∷ []) ∷ []) ((omega arith, All-nil IsI64), ((omega arith, five_zeros), ((omega arith, All-cons IsI64 (pos 50) [] (small 50 (omega arith)) (All-nil IsI64)), tt)));
  printed = All-nil IsI64;
}

written : IsI64Stmt (For looped)
unfolding looped named hidden-the_row-Stmt-0 hidden
written = (small 0 (omega arith), small 5 (omega arith), (tt, (tt, ((tt, tt), (tt, (tt, ((small 0 (omega arith), tt), tt)))))))

scoped : IsScoped (For looped) 1 3
unfolding looped named hidden-the_row-Stmt-0 hidden
scoped = (refl, tt, tt, ((refl, omega arith), ((refl, omega arith), (((omega arith, omega arith), omega arith), ((omega arith, omega arith), (omega arith, (((omega arith, tt), omega arith), tt)))))))

steady : IsSteady (For looped) []
unfolding looped named hidden-the_row-Stmt-0 hidden
steady = (tt, (tt, (tt, (All-cons (λ i. 0 ≢ i) 1 [] (λ e. omega (arith, e)) (All-nil (λ i. 0 ≢ i)), (tt, (tt, tt))))))

entered : IsLoopEntry looped store (pos 0) (pos 5)
unfolding looped store
entered = record {
  numbers = store_numbers;
  written = written;
  scoped = scoped;
  begins = refl;
  ends = (pos 5, refl, λ some. omega (arith, ints));
}

owner_known : (a b : Bool) → (if a || b then 1 else 0) < 2
owner_known true b = omega arith
owner_known false true = omega arith
owner_known false false = omega arith

given_number : (k : ℕ) (b : Bool) → k < 5 → IsI64 (if b then pos 9 else pos k)
given_number k true h = small 9 (omega arith)
given_number k false h = small k (omega (arith, h))

-- x has the number of the iteration
x_given : (k : ℕ) → k < 5 → shared.locals k 2 ≡ one_thread_local shared.sharing k 2
unfolding shared looped named store
x_given zero h = refl
x_given (suc zero) h = refl
x_given (suc (suc zero)) h = refl
x_given (suc (suc (suc zero))) h = refl
x_given (suc (suc (suc (suc zero)))) h = refl
x_given (suc (suc (suc (suc (suc k))))) h = absurd (omega (arith, h))

-- y isn't used by the own units, and 9 isn't its value

no_third : uses looped (record { unit = 2; id = 3; assigned = false }) 3 ≡ true → ⊥
unfolding looped named
no_third e = cc

no_fourth : uses looped (record { unit = 2; id = 3; assigned = false }) 4 ≡ true → ⊥
unfolding looped named
no_fourth e = cc

no_sixth : uses looped (record { unit = 2; id = 3; assigned = false }) 6 ≡ true → ⊥
unfolding looped named
no_sixth e = cc

y_used : (unit n : ℕ) → (unit == n) ≡ true → uses looped (record { unit = 2; id = 3; assigned = false }) unit ≡ true → uses looped (record { unit = 2; id = 3; assigned = false }) n ≡ true
y_used unit n here used = subst (λ u. uses looped (record { unit = 2; id = 3; assigned = false }) u ≡ true) (same_units unit n here) used

y_unused : (unit : ℕ) → are_own unit ≡ true → uses looped (record { unit = 2; id = 3; assigned = false }) unit ≡ true → ⊥
y_unused unit own used =
    ⊎_elim
    (λ (third : (unit == 3) ≡ true). no_third (y_used unit 3 third used))
    (λ (later : (unit == 4 || unit == 6) ≡ true). ⊎_elim
    (λ (fourth : (unit == 4) ≡ true). no_fourth (y_used unit 4 fourth used))
    (λ (sixth : (unit == 6) ≡ true). no_sixth (y_used unit 6 sixth used))
    (or_cases (unit == 4) (unit == 6) later))
    (or_cases (unit == 3) (unit == 4 || unit == 6) own)

y_wrong : shared.locals 0 3 ≡ one_thread_local shared.sharing 0 3 → ⊥
unfolding shared looped named store
y_wrong e = omega (arith, ints, e)

given_of : (k : ℕ) (v : Local) (unit : ℕ) → k < 5 → Contains (record { unit = 1; id = 2; assigned = false } ∷ record { unit = 2; id = 3; assigned = false } ∷ []) v → are_own unit ≡ true
    → uses looped v unit ≡ true → shared.locals k v.id ≡ one_thread_local shared.sharing k v.id
given_of k v unit below (zero, within, is) own used = subst (λ (w : Local). shared.locals k w.id ≡ one_thread_local shared.sharing k w.id) is (x_given k below)
given_of k v unit below (suc zero, within, is) own used = absurd (y_unused unit own (subst (λ (w : Local). uses looped w unit ≡ true) (sym is) used))
given_of k v unit below (suc (suc i), within, is) own used = absurd (omega (arith, within))

may_be_apart : MayBeApart shared
unfolding shared
may_be_apart = record {
  entered = entered;
  steady = steady;
  calm = calm;
  guarded = guarded;
  within = omega (arith, ints);
  owned = λ k below. owner_known (k == 1) (k == 3);
  folds = folds;
  closed = closed are_own;
  free = inl free;
  given = λ k v unit below listed other own used. given_of k v unit below (subst (λ vs. Contains vs v) locals listed) own used;
  numbers = λ k position below. given_number k (position == 3) below;
}
