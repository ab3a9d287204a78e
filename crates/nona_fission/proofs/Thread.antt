-- What one thread has before and behind an iteration, and before and behind each unit of it.
use Rattle.std.proofs.Common.{◌≡◌, ◌≢◌, ⊎_elim, ℕ, suc, ◌+◌, ◌<◌, ◌≤◌, Bool, true, false, not, ◌&&◌, pos, ◌+ℤ◌, ◌≤ℤ◌, ◌<ℤ◌, List, [], ◌∷◌, ◌++◌, length, refl, sym, ap, ◌∙◌, subst, arith, length-append, append_assoc}
use Rattle.std.specs.List.{AllByRecursion, Contains}
use Rattle.std.proofs.lemmas.Bool.{cases_lt}
use Rattle.std.proofs.lemmas.Int.{ints}
use Rattle.std.proofs.lemmas.List.Elements.{All-from_recursion, Contains-append_left, Contains-append_right}
use Rattle.nona_tree.specs.declared.outcomes.Outcome.TheVariants as outcome
use Rattle.nona_tree.specs.declared.trees.Loop.{Loop}
use Rattle.nona_tree.specs.declared.trees.Stmt.{Stmt, Let, Set, Fold, Put, FoldPut, If', While', For', Print, Row_of-Stmt, end_of-Stmt, more_of-Stmt, items-the_row-Stmt, items_hidden-the_row-Stmt-0}
use Rattle.nona_tree.specs.declared.trees.Stmt.TheBlock.{hidden-the_row-Stmt-0}
use Rattle.nona_tree.specs.Deeds.{Deed, reads, sets, folds, loads, stores, joins, prints, deeds, deeds_all, SparesScalar}
use Rattle.nona_tree.specs.Entries.{after, in_iteration}
use Rattle.nona_tree.specs.Memory.{Memory, scalar_at, declare}
use Rattle.nona_tree.specs.Numbers.{IsI64, AreI64, IsI64Stmt, AreI64Stmts}
use Rattle.nona_tree.specs.Run.{Ran, done, then_do, turn, run, run_all}
use Rattle.nona_tree.specs.Scope.{IsScoped, AreScoped, IsSteady, IsRowSteady, AreSteady, depth_after, depth_after_all}
use Rattle.nona_tree.specs.Value.{value_of}
use Rattle.nona_tree.proofs.DeedLaws.{scalar_stays, scalar_stays_in_all}
use Rattle.nona_tree.proofs.Depth.{depths_where_done}
use Rattle.nona_tree.proofs.Equations.{scoped-For}
use Rattle.nona_tree.proofs.I64.{all_fit, statements_numbers, value_fits}
use Rattle.nona_tree.proofs.Steady.{run_in_parts}
use Rattle.nona_tree.proofs.Turns.{next_turn}
use Rattle.nona_forms.specs.Affine.{among}
use Rattle.nona_forms.specs.References.{Reference, references_all, assigned, assigned_all}
use Rattle.nona_forms.specs.Separate.{AreSeparate}
use Rattle.nona_forms.specs.Touched.{MayBegin, IsTouched}
use Rattle.nona_forms.proofs.Exact.{fits_found}
use Rattle.nona_forms.proofs.GuardDone.{guard_done}
use Rattle.nona_forms.proofs.GuardLies.{guard_lies}
use Rattle.nona_forms.proofs.Sound.{all_of_two, loop_apart}
use Rattle.nona_forms.proofs.Touching.{begins_after}
use Rattle.nona_plans.specs.declared.graphs.Local.{Local}
use Rattle.nona_plans.specs.declared.graphs.Mention.{Mention}
use Rattle.nona_plans.specs.Mentions.{mentions, mentions_all}
use Rattle.nona_plans.specs.Units.{arrays_in, unit_has, are_told_apart, local_of, locals_from}
use Rattle.nona_plans.specs.Walks.{IsUnit}
use Rattle.nona_fission.specs.Sharing.{Sharing, store_before, index_of, iteration}
use Rattle.nona_fission.proofs.Untied.{among_in}
use Rattle.nona_fission.proofs.Tasks.{thread, thread_zero, from_low, as_done, further, between_fits, declare_numbers, each_of}
use Rattle.nona_fission.specs.Fission.{Fission, MayBeApart}
use Rattle.nona_fission.proofs.Named.{end_all, IsNamedIn, text_of, deeds_named}
use Rattle.nona_fission.proofs.Ties.{IsFree, own_told_apart}

-- iterations

pub inside : (s : Fission) → MayBeApart s → (k : ℕ) → k ≤ s.sharing.count → (s.sharing.entry.low +ℤ pos (s.sharing.first + k)) ≤ℤ s.sharing.entry.last
inside s h k below = let within = h.within in omega (arith, ints, within, below)

pub to_last : (s : Fission) → MayBeApart s → (k : ℕ) → k < s.sharing.count → index_of s.sharing.entry s.sharing.first k <ℤ s.sharing.entry.last
to_last s h k below = let within = h.within in omega (arith, ints, within, below)

pub thread_done : (s : Fission) → MayBeApart s → (k : ℕ) → k ≤ s.sharing.count → (after s.sharing.entry (s.sharing.first + k)).end ≡ outcome.Done
thread_done s h k below = guard_done s.sharing.entry h.entered h.steady h.calm h.guarded (s.sharing.first + k) (inside s h k below)

pub thread_next : (s : Fission) → MayBeApart s → (k : ℕ) → k < s.sharing.count → after s.sharing.entry (s.sharing.first + suc k) ≡ iteration s.sharing.entry s.sharing.first k (thread s.sharing k)
thread_next s h k below =
    let e = s.sharing.entry in
    ap (after e) (further s.sharing.first k) ∙ next_turn (turn (run_all e.looped.body e.turns)) e.low (s.sharing.first + k) e.store (thread s.sharing k) (as_done (after e (s.sharing.first + k)) (thread_done s h k (omega (arith, below))))

pub thread_begins : (s : Fission) → MayBeApart s → (k : ℕ) → k ≤ s.sharing.count → MayBegin s.sharing.entry.looped s.sharing.entry.store (thread s.sharing k)
thread_begins s h k below = begins_after s.sharing.entry (s.sharing.first + k) h.entered h.steady (inside s h k below)

pub before_begins : (s : Fission) → MayBeApart s → MayBegin s.sharing.entry.looped s.sharing.entry.store (store_before s.sharing)
before_begins s h = subst (MayBegin s.sharing.entry.looped s.sharing.entry.store) (thread_zero s.sharing) (thread_begins s h 0 (omega arith))

pub thread_depth : (s : Fission) → MayBeApart s → (k : ℕ) → k ≤ s.sharing.count → length (thread s.sharing k).scalars ≡ s.sharing.entry.looped.index.id
thread_depth s h k below = (thread_begins s h k below).depth ∙ sym h.entered.scoped.0

pub body_numbers : (s : Fission) → MayBeApart s → AreI64Stmts s.sharing.entry.looped.body
body_numbers s h = statements_numbers s.sharing.entry.looped.body h.entered.written.2

pub index_number : (s : Fission) → MayBeApart s → (k : ℕ) → k < s.sharing.count → IsI64 (index_of s.sharing.entry s.sharing.first k)
index_number s h k below =
    let e = s.sharing.entry in
    let in_low = fits_found (value_of e.looped.low e.store) e.low (value_fits e.looped.low e.store h.entered.written.0 h.entered.numbers) h.entered.begins in
    let in_high = fits_found (value_of e.looped.high e.store) h.entered.ends.0 (value_fits e.looped.high e.store h.entered.written.1 h.entered.numbers) h.entered.ends.1 in
    let last = to_last s h k below in
    let first = from_low s.sharing k in
    let top = h.entered.ends.2 (omega (arith, ints, last, first)) in
    between_fits e.low h.entered.ends.0 (index_of e s.sharing.first k) in_low in_high first (omega (arith, ints, last, top))

-- the body in an iteration

pub body_done : (s : Fission) → MayBeApart s → (k : ℕ) → k < s.sharing.count → (in_iteration s.sharing.entry (s.sharing.first + k)).end ≡ outcome.Done
body_done s h k below = sym (ap (λ (r : Ran). r.end) (thread_next s h k below)) ∙ thread_done s h (suc k) (omega (arith, below))

pub begun_numbers : (s : Fission) → MayBeApart s → (k : ℕ) → k < s.sharing.count → AreI64 (declare (index_of s.sharing.entry s.sharing.first k) (thread s.sharing k))
begun_numbers s h k below =
    declare_numbers (index_of s.sharing.entry s.sharing.first k) (thread s.sharing k) (index_number s h k below) (thread_begins s h k (omega (arith, below))).kept.numbers

pub body_fits : (s : Fission) → MayBeApart s → (k : ℕ) → k < s.sharing.count → AreI64 (in_iteration s.sharing.entry (s.sharing.first + k)).store
body_fits s h k below =
    all_fit s.sharing.entry.looped.body (body_numbers s h) s.sharing.entry.turns (declare (index_of s.sharing.entry s.sharing.first k) (thread s.sharing k)) (begun_numbers s h k below)

-- two accesses of an own unit's array in two iterations

-- an own unit has this among these
pub record OwnHas (s : Fission) (list : Stmt → List ℕ) (id : ℕ) : Type 0 where
  pub unit : ℕ
  pub is_unit : IsUnit (length s.sharing.entry.looped.body) unit
  pub own : s.own unit ≡ true
  pub has : unit_has list s.sharing.entry.looped unit id ≡ true

not_wrapped : (a b c : Bool) → (not a && (not b && c)) ≡ true → (a ≡ false) × (b ≡ false)
not_wrapped false false c e = (refl, refl)
not_wrapped false true c e = cc
not_wrapped true b c e = cc

apart_separate : (s : Fission) → MayBeApart s → (x y : Reference) → Contains (references_all s.sharing.entry.looped.body) x → Contains (references_all s.sharing.entry.looped.body) y
    → are_told_apart s.sharing.entry.looped x y ≡ true → AreSeparate s.sharing.entry.looped s.sharing.entry.store s.sharing.entry.low s.sharing.entry.last x y
apart_separate s h x y c d e =
    let o = s.sharing.entry in
    let plain = not_wrapped x.access.wrap y.access.wrap _ e in
    loop_apart o.looped o.store o.low o.last x y h.entered c d e
    (guard_lies o.looped o.store o.low o.last o.turns x h.entered h.guarded c plain.0)
    (guard_lies o.looped o.store o.low o.last o.turns y h.entered h.guarded d plain.1)

other_index : (s : Sharing) (j k : ℕ) → j ≢ k → index_of s.entry s.first j ≢ index_of s.entry s.first k
other_index s j k apart e = apart (omega (arith, ints, e))

-- what one iteration writes of an array without copies, no other touches
pub no_clash : (s : Fission) → MayBeApart s → IsFree s → (j k a p : ℕ) (write : Bool) → OwnHas s arrays_in a → among a s.folded ≡ false → j < s.sharing.count → k < s.sharing.count → j ≢ k
    → IsTouched s.sharing.entry.looped s.sharing.entry.store (index_of s.sharing.entry s.sharing.first j) true a p → IsTouched s.sharing.entry.looped s.sharing.entry.store (index_of s.sharing.entry s.sharing.first k) write a p → ⊥
no_clash s h free j k a p write array plain below_j below_k apart (x, c, writes, at_x, touch_x) (y, d, w, at_y, touch_y) =
    let l = s.sharing.entry.looped in
    let i = index_of s.sharing.entry s.sharing.first j in
    let o = index_of s.sharing.entry s.sharing.first k in
    ⊎_elim
    (λ (e : are_told_apart l x y ≡ true). apart_separate s h x y c d e i o p (from_low s.sharing j) (to_last s h j below_j) (from_low s.sharing k) (to_last s h k below_k) (other_index s.sharing j k apart) touch_x touch_y)
    (λ (e : are_told_apart l y x ≡ true). apart_separate s h y x d c e o i p (from_low s.sharing k) (to_last s h k below_k) (from_low s.sharing j) (to_last s h j below_j) (other_index s.sharing k j (λ same. apart (sym same))) touch_y touch_x)
    (own_told_apart s free array.unit x y array.is_unit array.own (subst (λ z. unit_has arrays_in l array.unit z ≡ true) (sym at_x) array.has) c d writes (ap (λ z. among z s.folded) at_x ∙ plain) (at_x ∙ sym at_y))

-- what a unit of the body is

steady_at : (k : _) (row : Row_of-Stmt k) (ids : List ℕ) → IsRowSteady row ids → AreSteady (items-the_row-Stmt k row) ids
steady_at k end_of-Stmt ids h = tt
steady_at k (more_of-Stmt s rest) ids h = (h.0, steady_at _ rest ids h.1)

steady_there : (front : List Stmt) (s : Stmt) (rest : List Stmt) (ids : List ℕ) → AreSteady (front ++ s ∷ rest) ids → IsSteady s ids
steady_there [] s rest ids h = h.0
steady_there (x ∷ front) s rest ids h = steady_there front s rest ids h.1

pub unit_steady : (s : Fission) → MayBeApart s → (front : List Stmt) (x : Stmt) (rest : List Stmt) → s.sharing.entry.looped.body ≡ front ++ x ∷ rest → IsSteady x (s.sharing.entry.looped.index.id ∷ [])
unit_steady s h front x rest e =
    let l = s.sharing.entry.looped in
    let ids = l.index.id ∷ [] in
    steady_there front x rest ids (subst (λ ss. AreSteady ss ids) (items_hidden-the_row-Stmt-0 l.body ∙ e) (steady_at _ (hidden-the_row-Stmt-0 l.body) ids h.steady))

numbers_there : (front : List Stmt) (s : Stmt) (rest : List Stmt) → AreI64Stmts (front ++ s ∷ rest) → IsI64Stmt s
numbers_there [] s rest h = h.0
numbers_there (x ∷ front) s rest h = numbers_there front s rest h.1

pub unit_numbers : (s : Fission) → MayBeApart s → (front : List Stmt) (x : Stmt) (rest : List Stmt) → s.sharing.entry.looped.body ≡ front ++ x ∷ rest → IsI64Stmt x
unit_numbers s h front x rest e = numbers_there front x rest (subst AreI64Stmts e (body_numbers s h))

mentioned : (front : List Stmt) (s : Stmt) (rest : List Stmt) (m : Mention) → Contains (mentions s) m → Contains (mentions_all (front ++ s ∷ rest)) m
mentioned [] s rest m c = Contains-append_left (mentions s) (mentions_all rest) m c
mentioned (x ∷ front) s rest m c = Contains-append_right (mentions x) (mentions_all (front ++ s ∷ rest)) m (mentioned front s rest m c)

pub unit_mentions : (l : Loop) (front : List Stmt) (s : Stmt) (rest : List Stmt) → l.body ≡ front ++ s ∷ rest → (m : Mention) → Contains (mentions s) m → Contains (mentions_all l.body) m
unit_mentions l front s rest e m c = subst (λ ss. Contains (mentions_all ss) m) (sym e) (mentioned front s rest m c)

behind_assigned : (front rest : List Stmt) (id : ℕ) → Contains (assigned_all rest) id → Contains (assigned_all (front ++ rest)) id
behind_assigned [] rest id c = c
behind_assigned (x ∷ front) rest id c = Contains-append_right (assigned x) (assigned_all (front ++ rest)) id (behind_assigned front rest id c)

pub unit_assigned : (l : Loop) (front : List Stmt) (s : Stmt) (rest : List Stmt) → l.body ≡ front ++ s ∷ rest → (id : ℕ) → Contains (assigned s) id → Contains (assigned_all l.body) id
unit_assigned l front s rest e id c =
    subst (λ ss. Contains (assigned_all ss) id) (sym e) (behind_assigned front (s ∷ rest) id (Contains-append_left (assigned s) (assigned_all rest) id c))

-- a scalar that a text doesn't assign

pub spares : (s : Stmt) (x : ℕ) → (Contains (assigned s) x → ⊥) → (d : Deed) → IsNamedIn (text_of s) d → SparesScalar x d
spares s x free (reads y) c = tt
spares s x free (sets y) c = λ same. free (subst (Contains (assigned s)) same c.1)
spares s x free (folds f y) c = λ same. free (subst (Contains (assigned s)) same c.1)
spares s x free (loads a p) c = tt
spares s x free (stores a p) c = tt
spares s x free (joins f a p) c = tt
spares s x free prints c = tt

spared_all : (ss : List Stmt) (n : ℕ) (m : Memory) (x : ℕ) → (Contains (assigned_all ss) x → ⊥) → AllByRecursion (SparesScalar x) (deeds_all ss n m)
spared_all [] n m x free = tt
spared_all (s ∷ rest) n m x free =
    all_of_two (SparesScalar x) (deeds s n m) _ (each_of (IsNamedIn (text_of s)) (SparesScalar x) (spares s x (λ c. free (Contains-append_left (assigned s) (assigned_all rest) x c))) (deeds s n m) (deeds_named s n m))
    (end_all (SparesScalar x) (run s n m).store (run s n m).end (deeds_all rest n) (λ r. spared_all rest n r x (λ c. free (Contains-append_right (assigned s) (assigned_all rest) x c))))

pub unassigned : (s : Stmt) (n : ℕ) (m : Memory) (x : ℕ) → x < length m.scalars → (Contains (assigned s) x → ⊥) → scalar_at (run s n m).store x ≡ scalar_at m x
unassigned s n m x below free =
    scalar_stays s n m x below (All-from_recursion (SparesScalar x) (deeds s n m) (each_of (IsNamedIn (text_of s)) (SparesScalar x) (spares s x free) (deeds s n m) (deeds_named s n m)))

pub all_unassigned : (ss : List Stmt) (n : ℕ) (m : Memory) (x : ℕ) → x < length m.scalars → (Contains (assigned_all ss) x → ⊥) → scalar_at (run_all ss n m).store x ≡ scalar_at m x
all_unassigned ss n m x below free = scalar_stays_in_all ss n m x below (All-from_recursion (SparesScalar x) (deeds_all ss n m) (spared_all ss n m x free))

-- the locals that are declared before a unit

-- a local with this id, declared by a unit from one number on and before another; what is assigned behind the statements is assigned
pub record IsDeclared (from to id : ℕ) (all rest : List Stmt) : Type 0 where
  pub local : Local
  pub listed : Contains (locals_from from all) local
  pub same : local.id ≡ id
  pub after : from ≤ local.unit
  pub before : local.unit < to
  pub assigned : Contains (assigned_all rest) id → local.assigned ≡ true

pub declares : (u to depth arrays x : ℕ) (s : Stmt) (front rest : List Stmt) → u < to → IsScoped s depth arrays → depth ≤ x → x < depth_after s depth → IsDeclared u to x (s ∷ (front ++ rest)) rest
declares u to depth arrays x (Let y e) front rest less scoped above below =
    let here : y.id ≡ x = let is = scoped.0 in omega (arith, is, above, below) in
    record {
      local = record { unit = u; id = y.id; assigned = among y.id (assigned_all (front ++ rest)) };
      listed = (0, omega arith, refl);
      same = here;
      after = omega arith;
      before = less;
      assigned = λ c. among_in y.id (assigned_all (front ++ rest)) (subst (Contains (assigned_all (front ++ rest))) (sym here) (behind_assigned front rest x c));
    }
declares u to depth arrays x (Set y e) front rest less scoped above below = absurd (omega (arith, above, below))
declares u to depth arrays x (Fold y f e) front rest less scoped above below = absurd (omega (arith, above, below))
declares u to depth arrays x (Put c e) front rest less scoped above below = absurd (omega (arith, above, below))
declares u to depth arrays x (FoldPut c f e) front rest less scoped above below = absurd (omega (arith, above, below))
declares u to depth arrays x (If' t p a q b) front rest less scoped above below = absurd (omega (arith, above, below))
declares u to depth arrays x (While' t p b at) front rest less scoped above below = absurd (omega (arith, above, below))
declares u to depth arrays x (For' y a b p body seq at) front rest less scoped above below = absurd (omega (arith, above, below))
declares u to depth arrays x (Print e at) front rest less scoped above below = absurd (omega (arith, above, below))

pub locals_behind : (u v : ℕ) (front rest : List Stmt) (w : Local) → v ≡ u + length front → Contains (locals_from v rest) w → Contains (locals_from u (front ++ rest)) w
locals_behind u v [] rest w e c = subst (λ z. Contains (locals_from z rest) w) (omega (arith, e)) c
locals_behind u v (x ∷ front) rest w e c =
    let longer : length (x ∷ front) ≡ suc (length front) = refl in
    Contains-append_right (local_of u x (front ++ rest)) (locals_from (suc u) (front ++ rest)) w (locals_behind (suc u) v front rest w (omega (arith, e, longer)) c)

pub declared : (u to depth arrays x : ℕ) (front rest : List Stmt) → AreScoped (front ++ rest) depth arrays → u + length front ≤ to → depth ≤ x → x < depth_after_all front depth → IsDeclared u to x (front ++ rest) rest
declared u to depth arrays x [] rest scoped count above below = absurd (omega (arith, above, below))
declared u to depth arrays x (s ∷ front) rest scoped count above below =
    let longer : length (s ∷ front) ≡ suc (length front) = refl in
    ⊎_elim
    (λ (here : x < depth_after s depth). declares u to depth arrays x s front rest (omega (arith, count, longer)) scoped.0 above here)
    (λ (later : depth_after s depth ≤ x).
    let found = declared (suc u) to (depth_after s depth) arrays x front rest scoped.1 (omega (arith, count, longer)) later below in
    record {
      local = found.local;
      listed = Contains-append_right (local_of u s (front ++ rest)) (locals_from (suc u) (front ++ rest)) found.local found.listed;
      same = found.same;
      after = let after = found.after in omega (arith, after);
      before = found.before;
      assigned = found.assigned;
    })
    (cases_lt x (depth_after s depth))

-- one thread between two units of an iteration

scoped_behind : (front rest : List Stmt) (depth arrays : ℕ) → AreScoped (front ++ rest) depth arrays → AreScoped rest (depth_after_all front depth) arrays
scoped_behind [] rest depth arrays h = h
scoped_behind (s ∷ front) rest depth arrays h = scoped_behind front rest (depth_after s depth) arrays h.1

pub record IsFront (s : Fission) (k : ℕ) (front rest : List Stmt) (m : Memory) : Type 0 where
  pub body : s.sharing.entry.looped.body ≡ front ++ rest
  pub ran : run_all front s.sharing.entry.turns (declare (index_of s.sharing.entry s.sharing.first k) (thread s.sharing k)) ≡ done m

pub front_depth : (s : Fission) → MayBeApart s → (k : ℕ) (front rest : List Stmt) (m : Memory) → k < s.sharing.count → IsFront s k front rest m → length m.scalars ≡ depth_after_all front (s.sharing.entry.looped.index.id + 1)
front_depth s h k front rest m below at =
    let i = index_of s.sharing.entry s.sharing.first k in
    let m0 = declare i (thread s.sharing k) in
    sym (ap (λ (r : Ran). length r.store.scalars) at.ran)
    ∙ depths_where_done front s.sharing.entry.turns m0 (ap (λ (r : Ran). r.end) at.ran)
    ∙ ap (depth_after_all front) (length-append (thread s.sharing k).scalars (i ∷ []) ∙ ap (λ (j : ℕ). j + 1) (thread_depth s h k (omega (arith, below))))

ends_there : (r : Ran) (m : Memory) → r ≡ done m → then_do r (λ x. done x) ≡ done m
ends_there r m e = ap (λ z. then_do z (λ x. done x)) e

pub front_next : (s : Fission) (k : ℕ) (front : List Stmt) (x : Stmt) (rest : List Stmt) (m r : Memory) → IsFront s k front (x ∷ rest) m → run x s.sharing.entry.turns m ≡ done r → IsFront s k (front ++ x ∷ []) rest r
front_next s k front x rest m r at e = record {
  body = at.body ∙ sym (append_assoc front (x ∷ []) rest);
  ran = run_in_parts front (x ∷ []) s.sharing.entry.turns (declare (index_of s.sharing.entry s.sharing.first k) (thread s.sharing k))
      ∙ ap (λ z. then_do z (run_all (x ∷ []) s.sharing.entry.turns)) at.ran ∙ ends_there (run x s.sharing.entry.turns m) r e;
}

pub body_scoped : (s : Fission) → MayBeApart s → AreScoped s.sharing.entry.looped.body (s.sharing.entry.looped.index.id + 1) (length s.sharing.entry.store.arrays)
body_scoped s h =
    let o = s.sharing.entry in
    subst (λ (j : ℕ). AreScoped o.looped.body (j + 1) (length o.store.arrays)) (sym h.entered.scoped.0)
    (subst (λ (P : Type 0). P) (scoped-For o.looped (length o.store.scalars) (length o.store.arrays)) h.entered.scoped).3

pub unit_scoped : (s : Fission) → MayBeApart s → (k : ℕ) (front : List Stmt) (x : Stmt) (rest : List Stmt) (m : Memory) → k < s.sharing.count → IsFront s k front (x ∷ rest) m → IsScoped x (length m.scalars) (length s.sharing.entry.store.arrays)
unit_scoped s h k front x rest m below at =
    let arrays = length s.sharing.entry.store.arrays in
    let depth = s.sharing.entry.looped.index.id + 1 in
    subst (λ (j : ℕ). IsScoped x j arrays) (sym (front_depth s h k front (x ∷ rest) m below at))
    (scoped_behind front (x ∷ rest) depth arrays (subst (λ ss. AreScoped ss depth arrays) at.body (body_scoped s h))).0

-- the body from a unit on
pub body_behind : (s : Fission) (k : ℕ) (front rest : List Stmt) (m : Memory) → IsFront s k front rest m → in_iteration s.sharing.entry (s.sharing.first + k) ≡ run_all rest s.sharing.entry.turns m
body_behind s k front rest m at =
    let n = s.sharing.entry.turns in
    let m0 = declare (index_of s.sharing.entry s.sharing.first k) (thread s.sharing k) in
    ap (λ (ss : List Stmt). run_all ss n m0) at.body ∙ run_in_parts front rest n m0 ∙ ap (λ z. then_do z (run_all rest n)) at.ran
