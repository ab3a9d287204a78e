-- What stands in a list; what a loop's reductions are named by, and that what it assigns is named; and two accesses of an array that no
-- pair has which may meet.
use Rattle.std.proofs.Common.{◌≡◌, ◌⊎◌, inl, inr, ⊎_elim, ℕ, zero, suc, ◌<◌, ◌-◌, ◌==◌, Bool, true, false, not, ◌&&◌, ◌||◌, List, [], ◌∷◌, ◌++◌, map, filter, refl, sym, ap, ◌∙◌, subst, arith, if◌then◌else◌}
use Rattle.std.specs.Prelude.{nat_lt, Some, None}
use Rattle.std.specs.List.{Contains, list_any, list_all}
use Rattle.std.specs.declared.option.Option.{Option}
use Rattle.std.proofs.lemmas.List.Elements.{Contains-append_cases, Contains-append_left, Contains-append_right}
use Rattle.nona_num.specs.declared.folds.Fold.{Fold as By}
use Rattle.nona_num.specs.declared.folds.Fold.TheVariants as fold
use Rattle.nona_tree.specs.declared.trees.Loop.{Loop}
use Rattle.nona_tree.specs.declared.trees.Stmt.{Stmt, Let, Set, Fold as FoldInto, Put, FoldPut, If', While', For', Print, Row_of-Stmt, end_of-Stmt, more_of-Stmt}
use Rattle.nona_forms.specs.Affine.{among}
use Rattle.nona_forms.specs.References.{assigned, assigned_row}
use Rattle.nona_plans.specs.declared.graphs.Mention.{Mention}
use Rattle.nona_plans.specs.Mentions.{expr_mentions, mentions, mentions_row, mentions_all, same_fold, is_fold, is_by, fold_if, only_fold, reduction_of}
use Rattle.nona_plans.specs.Units.{has_pair}
use Rattle.nona_plans.proofs.Leading.{same_units, or_left, or_right, both}

-- lists

pub first_in : {A : Type 0} (x : A) (xs : List A) → Contains (x ∷ xs) x
first_in x xs = (0, omega arith, refl)

pub later_in : {A : Type 0} (x y : A) (xs : List A) → Contains xs x → Contains (y ∷ xs) x
later_in x y xs (k, within, is) = (suc k, omega (arith, within), is)

pub any_of : {A : Type 0} (p : A → Bool) (xs : List A) (x : A) → Contains xs x → p x ≡ true → list_any p xs ≡ true
any_of p [] x (k, within, is) e = absurd (omega (arith, within))
any_of p (y ∷ ys) x (zero, within, is) e = or_left (p y) (list_any p ys) (ap p is ∙ e)
any_of p (y ∷ ys) x (suc k, within, is) e = or_right (p y) (list_any p ys) (any_of p ys x (k, omega (arith, within), is) e)

pub same_number : (x : ℕ) → (x == x) ≡ true
same_number x = grind arith

if_first : (b rest : Bool) → b ≡ true → (if b then true else rest) ≡ true
if_first true rest h = refl
if_first false rest h = cc

if_later : (b rest : Bool) → rest ≡ true → (if b then true else rest) ≡ true
if_later true rest h = refl
if_later false rest h = h

pub among_in : (x : ℕ) (xs : List ℕ) → Contains xs x → among x xs ≡ true
among_in x [] (k, within, is) = absurd (omega (arith, within))
among_in x (y ∷ ys) (zero, within, is) = if_first (x == y) (among x ys) (subst (λ z. (x == z) ≡ true) (sym is) (same_number x))
among_in x (y ∷ ys) (suc k, within, is) = if_later (x == y) (among x ys) (among_in x ys (k, omega (arith, within), is))

in_if : (x y : ℕ) (ys : List ℕ) (b : Bool) → (x == y) ≡ b → (if b then true else among x ys) ≡ true → (among x ys ≡ true → Contains ys x) → Contains (y ∷ ys) x
in_if x y ys true e h go = subst (λ z. Contains (z ∷ ys) x) (same_units x y e) (first_in x ys)
in_if x y ys false e h go = later_in x y ys (go h)

pub in_among : (x : ℕ) (xs : List ℕ) → among x xs ≡ true → Contains xs x
in_among x [] h = cc
in_among x (y ∷ ys) h = in_if x y ys (x == y) refl h (in_among x ys)

in_filter_if : {A : Type 0} (p : A → Bool) (x y : A) (ys : List A) (b : Bool) → p y ≡ b → (y ≡ x → b ≡ true) → ((y ≡ x) ⊎ Contains (filter p ys) x) → Contains (if b then y ∷ filter p ys else filter p ys) x
in_filter_if p x y ys true e passes h = ⊎_elim (λ (is : y ≡ x). subst (λ z. Contains (z ∷ filter p ys) x) (sym is) (first_in x (filter p ys))) (λ c. later_in x y (filter p ys) c) h
in_filter_if p x y ys false e passes h = ⊎_elim (λ (is : y ≡ x). let not_so : false ≡ true = passes is in cc) (λ c. c) h

pub in_filter : {A : Type 0} (p : A → Bool) (xs : List A) (x : A) → Contains xs x → p x ≡ true → Contains (filter p xs) x
in_filter p [] x (k, within, is) e = absurd (omega (arith, within))
in_filter p (y ∷ ys) x (zero, within, is) e = in_filter_if p x y ys (p y) refl (λ same. ap p same ∙ e) (inl is)
in_filter p (y ∷ ys) x (suc k, within, is) e = in_filter_if p x y ys (p y) refl (λ same. ap p same ∙ e) (inr (in_filter p ys x (k, omega (arith, within), is) e))

pub in_map : {A B : Type 0} (f : A → B) (xs : List A) (x : A) → Contains xs x → Contains (map f xs) (f x)
in_map f [] x (k, within, is) = absurd (omega (arith, within))
in_map f (y ∷ ys) x (zero, within, is) = (0, omega arith, ap f is)
in_map f (y ∷ ys) x (suc k, within, is) = later_in (f x) (f y) (map f ys) (in_map f ys x (k, omega (arith, within), is))

-- folds

same_is : (f g : By) → same_fold f g ≡ true → g ≡ f
same_is fold.Add fold.Add e = refl
same_is fold.Mul fold.Mul e = refl
same_is fold.And fold.And e = refl
same_is fold.Or fold.Or e = refl
same_is fold.Xor fold.Xor e = refl
same_is fold.Min fold.Min e = refl
same_is fold.Max fold.Max e = refl
same_is _ _ e = cc

by_is : (f : By) (o : Option By) → is_fold f o ≡ true → o ≡ Some f
by_is f None e = cc
by_is f (Some g) e = ap Some (same_is f g e)

all_of : {A : Type 0} (p : A → Bool) (xs : List A) (x : A) → Contains xs x → list_all p xs ≡ true → p x ≡ true
all_of p [] x (k, within, is) e = absurd (omega (arith, within))
all_of p (y ∷ ys) x (zero, within, is) e = sym (ap p is) ∙ (both (p y) (list_all p ys) e).0
all_of p (y ∷ ys) x (suc k, within, is) e = all_of p ys x (k, omega (arith, within), is) (both (p y) (list_all p ys) e).1

only_if : (g f : By) (ms : List Mention) (b : Bool) → list_all (is_by g) ms ≡ b → (if b then Some g else None) ≡ Some f → (g ≡ f) × (list_all (is_by g) ms ≡ true)
only_if g f ms true e h = (search arith, e)
only_if g f ms false e h = cc

only_at : (f : By) (m x : Mention) (ms : List Mention) (o : Option By) → m.by ≡ o → fold_if o ms ≡ Some f → ((m ≡ x) ⊎ Contains ms x) → x.by ≡ Some f
only_at f m x ms None e h c = cc
only_at f m x ms (Some g) e h c =
    let all = only_if g f ms (list_all (is_by g) ms) refl h in
    ⊎_elim (λ (is : m ≡ x). sym (ap (λ (z : Mention). z.by) is) ∙ e ∙ ap Some all.0) (λ later. by_is g x.by (all_of (is_by g) ms x later all.1) ∙ ap Some all.0) c

pub only_by : (f : By) (ms : List Mention) (x : Mention) → only_fold ms ≡ Some f → Contains ms x → x.by ≡ Some f
only_by f [] x h (k, within, is) = absurd (omega (arith, within))
only_by f (m ∷ ms) x h (zero, within, is) = only_at f m x ms m.by refl h (inl is)
only_by f (m ∷ ms) x h (suc k, within, is) = only_at f m x ms m.by refl h (inr (k, omega (arith, within), is))

reduction_if : (f : By) (b : Bool) (ms : List Mention) → (if b then only_fold ms else None) ≡ Some f → (b ≡ true) × (only_fold ms ≡ Some f)
reduction_if f true ms h = (refl, h)
reduction_if f false ms h = cc

-- a reduction is named by its fold alone, and comes from outside
pub reduction_by : (l : Loop) (f : By) (x : Mention) → Contains (mentions_all l.body) x → reduction_of l x.id ≡ Some f → x.by ≡ Some f
reduction_by l f x c h =
    let is = reduction_if f (nat_lt x.id l.index.id) (filter (λ m. m.id == x.id) (mentions_all l.body)) h in
    only_by f (filter (λ m. m.id == x.id) (mentions_all l.body)) x is.1 (in_filter (λ m. m.id == x.id) (mentions_all l.body) x c (same_number x.id))

lt_is : (a b : ℕ) → nat_lt a b ≡ true → a < b
lt_is a b e = grind arith

pub is_lt : (a b : ℕ) → a < b → nat_lt a b ≡ true
is_lt a b e = grind arith

pub reduction_below : (l : Loop) (f : By) (id : ℕ) → reduction_of l id ≡ Some f → id < l.index.id
reduction_below l f id h = lt_is id l.index.id (reduction_if f (nat_lt id l.index.id) (filter (λ m. m.id == id) (mentions_all l.body)) h).0

-- what is assigned is named

ids_append : (xs ys : List Mention) → map (λ (m : Mention). m.id) (xs ++ ys) ≡ map (λ (m : Mention). m.id) xs ++ map (λ (m : Mention). m.id) ys
ids_append [] ys = refl
ids_append (x ∷ xs) ys = ap (λ zs. x.id ∷ zs) (ids_append xs ys)

less_named : (xs ys : List Mention) (id : ℕ) → Contains (map (λ (m : Mention). m.id) xs) id → Contains (map (λ (m : Mention). m.id) (xs ++ ys)) id
less_named xs ys id c = subst (λ zs. Contains zs id) (sym (ids_append xs ys)) (Contains-append_left (map (λ (m : Mention). m.id) xs) (map (λ (m : Mention). m.id) ys) id c)

more_named : (xs ys : List Mention) (id : ℕ) → Contains (map (λ (m : Mention). m.id) ys) id → Contains (map (λ (m : Mention). m.id) (xs ++ ys)) id
more_named xs ys id c = subst (λ zs. Contains zs id) (sym (ids_append xs ys)) (Contains-append_right (map (λ (m : Mention). m.id) xs) (map (λ (m : Mention). m.id) ys) id c)

one_named : (x id : ℕ) (rest : List ℕ) → Contains (x ∷ []) id → Contains (x ∷ rest) id
one_named x id rest (zero, within, is) = (0, omega arith, is)
one_named x id rest (suc k, within, is) = absurd (omega (arith, within))

mutual
  pub assigned_named : (s : Stmt) (id : ℕ) → Contains (assigned s) id → Contains (map (λ (m : Mention). m.id) (mentions s)) id
  assigned_named (Let x e) id (k, within, is) = absurd (omega (arith, within))
  assigned_named (Set x e) id c = one_named x.id id (map (λ (m : Mention). m.id) (expr_mentions e)) c
  assigned_named (FoldInto x f e) id c = one_named x.id id (map (λ (m : Mention). m.id) (expr_mentions e)) c
  assigned_named (Put c e) id (k, within, is) = absurd (omega (arith, within))
  assigned_named (FoldPut c f e) id (k, within, is) = absurd (omega (arith, within))
  assigned_named (If' test p then_part q else_part) id c =
      more_named (expr_mentions test) (mentions_row then_part ++ mentions_row else_part) id
      (⊎_elim (λ here. less_named (mentions_row then_part) (mentions_row else_part) id (row_named then_part id here))
      (λ there. more_named (mentions_row then_part) (mentions_row else_part) id (row_named else_part id there)) (Contains-append_cases (assigned_row then_part) (assigned_row else_part) id c))
  assigned_named (While' test p body at) id c = more_named (expr_mentions test) (mentions_row body) id (row_named body id c)
  assigned_named (For' x low high p body seq at) id c =
      later_in id x.id _ (more_named (expr_mentions low) (expr_mentions high ++ mentions_row body) id (more_named (expr_mentions high) (mentions_row body) id (row_named body id c)))
  assigned_named (Print e at) id (k, within, is) = absurd (omega (arith, within))

  row_named : {k : _} (row : Row_of-Stmt k) (id : ℕ) → Contains (assigned_row row) id → Contains (map (λ (m : Mention). m.id) (mentions_row row)) id
  row_named end_of-Stmt id (k, within, is) = absurd (omega (arith, within))
  row_named (more_of-Stmt s rest) id c =
      ⊎_elim (λ here. less_named (mentions s) (mentions_row rest) id (assigned_named s id here))
      (λ there. more_named (mentions s) (mentions_row rest) id (row_named rest id there)) (Contains-append_cases (assigned s) (assigned_row rest) id c)

pub one_less : (k : ℕ) → suc k - 1 ≡ k
one_less k = omega arith

pub no_and_yes : (b : Bool) → b ≡ true → b ≡ false → ⊥
no_and_yes true e h = cc
no_and_yes false e h = cc

-- a list without a pair, and accesses that are told apart

pub or_none : (a b : Bool) → (a || b) ≡ false → (a ≡ false) × (b ≡ false)
or_none false b e = (refl, e)
or_none true b e = cc

pub none_of : {A : Type 0} (p : A → Bool) (xs : List A) (x : A) → Contains xs x → list_any p xs ≡ false → p x ≡ false
none_of p [] x (k, within, is) e = absurd (omega (arith, within))
none_of p (y ∷ ys) x (zero, within, is) e = sym (ap p is) ∙ (or_none (p y) (list_any p ys) e).0
none_of p (y ∷ ys) x (suc k, within, is) e = none_of p ys x (k, omega (arith, within), is) (or_none (p y) (list_any p ys) e).1

pub no_pair : {A : Type 0} (test : A → A → Bool) (xs : List A) (x y : A) → Contains xs x → Contains xs y → has_pair test xs ≡ false → (test x y ≡ false) ⊎ (test y x ≡ false)
no_pair test [] x y (k, within, is) d e = absurd (omega (arith, within))
no_pair test (z ∷ zs) x y (zero, within, is) d e =
    inl (sym (ap (λ w. test w y) is) ∙ none_of (test z) (z ∷ zs) y d (or_none (list_any (test z) (z ∷ zs)) (has_pair test zs) e).0)
no_pair test (z ∷ zs) x y (suc k, within, is) (zero, inside, at) e =
    inr (sym (ap (λ w. test w x) at) ∙ none_of (test z) (z ∷ zs) x (suc k, within, is) (or_none (list_any (test z) (z ∷ zs)) (has_pair test zs) e).0)
no_pair test (z ∷ zs) x y (suc k, within, is) (suc j, inside, at) e =
    no_pair test zs x y (k, omega (arith, within), is) (j, omega (arith, inside), at) (or_none (list_any (test z) (z ∷ zs)) (has_pair test zs) e).1

pub apart_if : (a b c d : Bool) → a ≡ true → b ≡ true → c ≡ true → (a && (b && (c && not d))) ≡ false → d ≡ true
apart_if true true true true h g e k = refl
apart_if true true true false h g e k = cc
apart_if true true false d h g e k = cc
apart_if true false c d h g e k = cc
apart_if false b c d h g e k = cc

pub same_array : (a b : ℕ) → a ≡ b → (a == b) ≡ true
same_array a b e = grind arith

-- what passes a filter is one of all
of_filter_if : {A : Type 0} (p : A → Bool) (x y : A) (ys : List A) (b : Bool) → p y ≡ b → Contains (if b then y ∷ filter p ys else filter p ys) x → (Contains (filter p ys) x → Contains ys x × (p x ≡ true)) → Contains (y ∷ ys) x × (p x ≡ true)
of_filter_if p x y ys true e (zero, within, is) go = ((0, omega arith, is), sym (ap p is) ∙ e)
of_filter_if p x y ys true e (suc k, within, is) go = let later = go (k, omega (arith, within), is) in (later_in x y ys later.0, later.1)
of_filter_if p x y ys false e c go = let later = go c in (later_in x y ys later.0, later.1)

pub of_filter : {A : Type 0} (p : A → Bool) (xs : List A) (x : A) → Contains (filter p xs) x → Contains xs x × (p x ≡ true)
of_filter p [] x (k, within, is) = absurd (omega (arith, within))
of_filter p (y ∷ ys) x c = of_filter_if p x y ys (p y) refl c (of_filter p ys x)
