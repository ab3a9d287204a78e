-- The units of an iteration of a task, beside one thread's: an own unit does in both the same, and what another unit does in one thread
-- no own unit sees.
use Rattle.std.proofs.Common.{◌≡◌, ◌≢◌, ⊎_elim, ℕ, suc, ◌+◌, ◌<◌, ◌≤◌, ◌==◌, Bool, true, false, ◌&&◌, ℤ, pos, List, [], ◌∷◌, ◌++◌, length, refl, sym, ap, ◌∙◌, subst, arith, if◌then◌else◌, length-append}
use Rattle.std.specs.Prelude.{nat_lt, Some, None, slice_index_or}
use Rattle.std.specs.List.{AllByRecursion, Contains}
use Rattle.std.specs.declared.option.Option.{Option}
use Rattle.std.proofs.lemmas.Bool.{cases_eq, cases_lt}
use Rattle.std.proofs.lemmas.List.{get_or_append_left, get_or-append-add}
use Rattle.std.proofs.lemmas.List.Elements.{All-from_recursion, Contains-append_left}
use Rattle.nona_num.specs.declared.folds.Fold.{Fold}
use Rattle.nona_num.specs.Folds.{join_of}
use Rattle.nona_tree.specs.declared.trees.Loop.{Loop}
use Rattle.nona_tree.specs.declared.trees.Stmt.{Stmt, Let, Set, Fold as FoldInto, Put, FoldPut, If', While', For', Print}
use Rattle.nona_tree.specs.Deeds.{Deed, reads, sets, folds, loads, stores, joins, prints, deeds, SparesCell, SparesPrinted}
use Rattle.nona_tree.specs.Memory.{Memory, scalar_at, cells_of, cell_at, declare}
use Rattle.nona_tree.specs.Numbers.{IsI64, AreI64}
use Rattle.nona_tree.specs.Run.{Ran, done, run}
use Rattle.nona_tree.specs.Scope.{AreScoped, is_let, depth_after, depth_after_all}
use Rattle.nona_tree.proofs.DeedLaws.{cell_stays, printed_stays}
use Rattle.nona_tree.proofs.Depth.{depth_where_done}
use Rattle.nona_tree.proofs.I64.{run_fits}
use Rattle.nona_tree.proofs.Keeps.{SameArrays, arrays_kept, run_kept}
use Rattle.nona_tree.proofs.Steady.{unassigned_stays}
use Rattle.nona_forms.specs.Affine.{among}
use Rattle.nona_forms.specs.References.{assigned, assigned_all}
use Rattle.nona_forms.specs.Touched.{IsTouched, IsOfAccess}
use Rattle.nona_plans.specs.declared.graphs.Mention.{Mention}
use Rattle.nona_plans.specs.Mentions.{plainly, mentions, mentions_all, reduction_of, prints as has_print}
use Rattle.nona_plans.specs.Units.{named_in, arrays_in, unit_has, unit_prints, uses, locals_from}
use Rattle.nona_plans.specs.Walks.{IsUnit}
use Rattle.nona_plans.proofs.Leading.{or_left, or_right, and_both}
use Rattle.nona_fission.specs.Sharing.{index_of}
use Rattle.nona_fission.proofs.Alike.{Bond, Bound, HasInner, Granted, AreGranted, Alike, run_alike, sizes_kept}
use Rattle.nona_fission.proofs.Untied.{among_in, in_among, in_map, assigned_named, reduction_by, reduction_below, is_lt}
use Rattle.nona_fission.proofs.Tasks.{AreJoined, join_more, same_fold, scalar_number, declare_numbers, each_of}
use Rattle.nona_fission.specs.FoldArrays.{cell_mentions_all, fold_array_of}
use Rattle.nona_fission.specs.Fission.{Fission, MayBeApart, one_thread_local, skipped}
use Rattle.nona_fission.proofs.Named.{IsNamedIn, text_of, deeds_named, cell_named_in}
use Rattle.nona_fission.proofs.Copies.{fold_array_by, no_plain_cell, unit_cells, cell_number}
use Rattle.nona_fission.proofs.Ties.{unit_at, is_unit, scalar_apart, local_apart, array_apart}
use Rattle.nona_fission.proofs.Thread.{OwnHas, unit_steady, unit_numbers, unit_mentions, unit_assigned, unassigned, all_unassigned, declares, declared, locals_behind, IsFront, front_depth, front_next, body_scoped, unit_scoped, body_behind}

-- an own unit from a number on names a scalar
pub record OwnFrom (s : Fission) (from id : ℕ) : Type 0 where
  pub unit : ℕ
  pub is_unit : IsUnit (length s.sharing.entry.looped.body) unit
  pub behind : from ≤ unit
  pub own : s.own unit ≡ true
  pub has : unit_has named_in s.sharing.entry.looped unit id ≡ true

-- each unit that has this among these is an own one
abbrev pub AllHave : Fission → (Stmt → List ℕ) → ℕ → Type 0
AllHave s list id = (u : ℕ) → IsUnit (length s.sharing.entry.looped.body) u → unit_has list s.sharing.entry.looped u id ≡ true → s.own u ≡ true

-- each unit that names a scalar is an own one
abbrev pub IsWhole : Fission → ℕ → Type 0
IsWhole s id = AllHave s named_in id

-- an iteration of a task touches a cell of an array that an own unit has
pub record OwnTouches (s : Fission) (t a p : ℕ) : Type 0 where
  pub array : OwnHas s arrays_in a
  pub turn : ℕ
  pub below : turn < s.sharing.count
  pub mine : s.sharing.owner turn ≡ t
  pub write : Bool
  pub touched : IsTouched s.sharing.entry.looped s.sharing.entry.store (index_of s.sharing.entry s.sharing.first turn) write a p

-- a number of one thread and that of a task, for a scalar at this position, where the units from one number on are still to come, so
-- many scalars are declared, some reductions are joined alike, and the iteration began in these two stores
pub record IsLinked (s : Fission) (from depth : ℕ) (alike : (Stmt → List ℕ) → ℕ → Type 0) (m0 q0 : Memory) (x : ℕ) (u v : ℤ) : Type 0 where
  pub outer : x < s.sharing.entry.looped.index.id → OwnHas s named_in x → reduction_of s.sharing.entry.looped x ≡ None → v ≡ u
  pub inner : s.sharing.entry.looped.index.id ≤ x → (x < depth → OwnFrom s from x) → v ≡ u
  pub whole : (f : Fold) → reduction_of s.sharing.entry.looped x ≡ Some f → alike named_in x → AreJoined f (scalar_at m0 x) (scalar_at q0 x) u v

-- the same for the cell of an array at this place, where some copies are joined alike
pub record IsCellLinked (s : Fission) (t : ℕ) (alike : (Stmt → List ℕ) → ℕ → Type 0) (m0 q0 : Memory) (a p : ℕ) (u v : ℤ) : Type 0 where
  pub plain : among a s.folded ≡ false → OwnTouches s t a p → v ≡ u
  pub whole : (f : Fold) → fold_array_of s.sharing.entry.looped a ≡ Some f → alike arrays_in a → AreJoined f (cell_at m0 a p) (cell_at q0 a p) u v

-- one task alone prints, and each unit that prints is an own one
abbrev pub IsPrinting : Fission → Type 0
IsPrinting s = (s.sharing.tasks ≡ 1) × ((u : ℕ) → IsUnit (length s.sharing.entry.looped.body) u → unit_prints s.sharing.entry.looped u ≡ true → s.own u ≡ true)

abbrev pub linked_bond : Fission → ℕ → ℕ → ℕ → ((Stmt → List ℕ) → ℕ → Type 0) → Memory → Memory → Bond
linked_bond s t from depth alike m0 q0 = record {
  depth = depth;
  scalar = IsLinked s from depth alike m0 q0;
  cell = IsCellLinked s t alike m0 q0;
  printed = λ us vs. IsPrinting s → vs ≡ us;
}

abbrev pub unit_bond : Fission → ℕ → ℕ → ℕ → Memory → Memory → Bond
unit_bond s t from depth m0 q0 = linked_bond s t from depth (AllHave s) m0 q0

pub has_inner : (s : Fission) (t from depth : ℕ) (alike : (Stmt → List ℕ) → ℕ → Type 0) (m0 q0 : Memory) → s.sharing.entry.looped.index.id ≤ depth → HasInner (linked_bond s t from depth alike m0 q0)
has_inner s t from depth alike m0 q0 deep x above v fits = record {
  outer = λ below own none. refl;
  inner = λ over f. refl;
  whole = λ f e w. let below = reduction_below s.sharing.entry.looped f x e in absurd (omega (arith, deep, above, below));
}

later_from : (s : Fission) (from to x : ℕ) → from ≤ to → OwnFrom s to x → OwnFrom s from x
later_from s from to x h o = record { unit = o.unit; is_unit = o.is_unit; behind = let behind = o.behind in omega (arith, h, behind); own = o.own; has = o.has }

-- what is to come sees less
pub weaker : (s : Fission) (t from to depth more : ℕ) (m0 q0 m q : Memory) → from ≤ to → depth ≤ more → more ≤ length m.scalars → Bound (unit_bond s t from depth m0 q0) m q → Bound (unit_bond s t to more m0 q0) m q
weaker s t from to depth more m0 q0 m q later deeper within h = record {
  numbers = h.numbers;
  deep = within;
  even = h.even;
  sizes = h.sizes;
  scalar = λ x below. let link = h.scalar x below in
      record { outer = link.outer; inner = λ above f. link.inner above (λ less. later_from s from to x later (f (omega (arith, less, deeper)))); whole = link.whole };
  cell = h.cell;
  printed = h.printed;
}

-- a deed of an own unit in an iteration
pub record OwnDeed (s : Fission) (k : ℕ) (d : Deed) : Type 0 where
  pub front : List Stmt
  pub stmt : Stmt
  pub rest : List Stmt
  pub body : s.sharing.entry.looped.body ≡ front ++ stmt ∷ rest
  pub own : s.own (suc (length front)) ≡ true
  pub named : IsNamedIn (text_of stmt) d
  pub access : IsOfAccess s.sharing.entry.looped s.sharing.entry.store (index_of s.sharing.entry s.sharing.first k) d

-- a unit has what its text has
pub unit_has_it : (l : Loop) (list : Stmt → List ℕ) (front : List Stmt) (x : Stmt) (rest : List Stmt) (id : ℕ) → l.body ≡ front ++ x ∷ rest → Contains (list x) id → unit_has list l (suc (length front)) id ≡ true
unit_has_it l list front x rest id e c = ap (among id) (unit_at list [] l front x rest e) ∙ among_in id (list x) c

pub own_has : (s : Fission) (list : Stmt → List ℕ) (front : List Stmt) (x : Stmt) (rest : List Stmt) (id : ℕ) → s.sharing.entry.looped.body ≡ front ++ x ∷ rest → s.own (suc (length front)) ≡ true → Contains (list x) id → OwnHas s list id
own_has s list front x rest id e own c = record {
  unit = suc (length front);
  is_unit = is_unit s.sharing.entry.looped front x rest e;
  own = own;
  has = unit_has_it s.sharing.entry.looped list front x rest id e c;
}

pub mention_named : (s : Stmt) (m : Mention) → Contains (mentions s) m → Contains (named_in s) m.id
mention_named s m c = in_map (λ (z : Mention). z.id) (mentions s) m c

pub no_plain : (l : Loop) (x : ℕ) (f : Fold) → Contains (mentions_all l.body) (plainly x) → reduction_of l x ≡ Some f → ⊥
no_plain l x f c e = let by : None ≡ Some f = reduction_by l f (plainly x) c e in cc

plain_none : (l : Loop) (x : ℕ) (o : Option Fold) → reduction_of l x ≡ o → Contains (mentions_all l.body) (plainly x) → reduction_of l x ≡ None
plain_none l x None e c = e
plain_none l x (Some f) e c = absurd (no_plain l x f c e)

pub plain_is_none : (l : Loop) (x : ℕ) → Contains (mentions_all l.body) (plainly x) → reduction_of l x ≡ None
plain_is_none l x c = plain_none l x (reduction_of l x) refl c

-- an array whose cells are named otherwise than by a fold has no copies
pub not_copied : (s : Fission) → MayBeApart s → (a : ℕ) (b : Bool) → among a s.folded ≡ b → Contains (cell_mentions_all s.sharing.entry.looped.body) (plainly a) → b ≡ false
not_copied s h a false e c = refl
not_copied s h a true e c = let found = h.folds a (in_among a s.folded e) in absurd (no_plain_cell s.sharing.entry.looped a found.0 c found.1)

-- what an own unit does is granted
own_granted : (s : Fission) → MayBeApart s → (t k : ℕ) (front : List Stmt) (stmt : Stmt) (rest : List Stmt) (depth : ℕ) (alike : (Stmt → List ℕ) → ℕ → Type 0) (m0 q0 : Memory) → k < s.sharing.count → s.sharing.owner k ≡ t → AreI64 m0 → AreI64 q0
    → s.sharing.entry.looped.body ≡ front ++ stmt ∷ rest → s.own (suc (length front)) ≡ true → (d : Deed) → IsNamedIn (text_of stmt) d → IsOfAccess s.sharing.entry.looped s.sharing.entry.store (index_of s.sharing.entry s.sharing.first k) d
    → Granted (linked_bond s t (suc (length front)) depth alike m0 q0) d
own_granted s h t k front stmt rest depth alike m0 q0 below mine fm fq body own (reads x) c of = λ u v link.
    let l = s.sharing.entry.looped in
    let has = mention_named stmt (plainly x) c in
    ⊎_elim (λ (out : x < l.index.id). link.outer out (own_has s named_in front stmt rest x body own has) (plain_is_none l x (unit_mentions l front stmt rest body (plainly x) c)))
    (λ (over : l.index.id ≤ x). link.inner over (λ less. record { unit = suc (length front); is_unit = is_unit l front stmt rest body; behind = omega arith; own = own; has = unit_has_it l named_in front stmt rest x body has }))
    (cases_lt x l.index.id)
own_granted s h t k front stmt rest depth alike m0 q0 below mine fm fq body own (sets x) c of = λ v fits. record {
  outer = λ out has none. refl;
  inner = λ over f. refl;
  whole = λ f e w. absurd (no_plain s.sharing.entry.looped x f (unit_mentions s.sharing.entry.looped front stmt rest body (plainly x) c.0) e);
}
own_granted s h t k front stmt rest depth alike m0 q0 below mine fm fq body own (folds f x) c of = λ u v w fits link. record {
  outer = λ out has none. ap (λ z. join_of f z w) (link.outer out has none);
  inner = λ over g. ap (λ z. join_of f z w) (link.inner over g);
  whole = λ g e all. let same : f ≡ g = same_fold f g (reduction_by s.sharing.entry.looped g (record { id = x; by = Some f }) (unit_mentions s.sharing.entry.looped front stmt rest body (record { id = x; by = Some f }) c.0) e) in
      subst (λ z. AreJoined g (scalar_at m0 x) (scalar_at q0 x) (join_of z u w) (join_of z v w)) (sym same) (join_more g (scalar_at m0 x) (scalar_at q0 x) u v w (scalar_number m0 x fm) (scalar_number q0 x fq) fits (link.whole g e all));
}
own_granted s h t k front stmt rest depth alike m0 q0 below mine fm fq body own (loads a p) c of = λ u v link.
    link.plain (not_copied s h a (among a s.folded) refl (unit_cells s.sharing.entry.looped front stmt rest body (plainly a) c))
    (record { array = own_has s arrays_in front stmt rest a body own (cell_named_in stmt (plainly a) c); turn = k; below = below; mine = mine; write = false; touched = of })
own_granted s h t k front stmt rest depth alike m0 q0 below mine fm fq body own (stores a p) c of = λ v fits. record {
  plain = λ out touch. refl;
  whole = λ f e w. absurd (no_plain_cell s.sharing.entry.looped a f (unit_cells s.sharing.entry.looped front stmt rest body (plainly a) c) e);
}
own_granted s h t k front stmt rest depth alike m0 q0 below mine fm fq body own (joins f a p) c of = λ u v w fits link. record {
  plain = λ out touch. ap (λ z. join_of f z w) (link.plain out touch);
  whole = λ g e all. let same : f ≡ g = same_fold f g (fold_array_by s.sharing.entry.looped g (record { id = a; by = Some f }) (unit_cells s.sharing.entry.looped front stmt rest body (record { id = a; by = Some f }) c) e) in
      subst (λ z. AreJoined g (cell_at m0 a p) (cell_at q0 a p) (join_of z u w) (join_of z v w)) (sym same) (join_more g (cell_at m0 a p) (cell_at q0 a p) u v w (cell_number m0 a p fm) (cell_number q0 a p fq) fits (link.whole g e all));
}
own_granted s h t k front stmt rest depth alike m0 q0 below mine fm fq body own prints c of = λ us vs v fits link alone. ap (λ zs. zs ++ v ∷ []) (link alone)

pub all_granted : (s : Fission) → MayBeApart s → (t k : ℕ) (front : List Stmt) (stmt : Stmt) (rest : List Stmt) (depth : ℕ) (alike : (Stmt → List ℕ) → ℕ → Type 0) (m0 q0 : Memory) → k < s.sharing.count → s.sharing.owner k ≡ t → AreI64 m0 → AreI64 q0
    → s.sharing.entry.looped.body ≡ front ++ stmt ∷ rest → s.own (suc (length front)) ≡ true → (ds : List Deed) → AllByRecursion (IsNamedIn (text_of stmt)) ds → AllByRecursion (IsOfAccess s.sharing.entry.looped s.sharing.entry.store (index_of s.sharing.entry s.sharing.first k)) ds
    → AreGranted (linked_bond s t (suc (length front)) depth alike m0 q0) ds
all_granted s h t k front stmt rest depth alike m0 q0 below mine fm fq body own [] c of = tt
all_granted s h t k front stmt rest depth alike m0 q0 below mine fm fq body own (d ∷ ds) c of =
    (own_granted s h t k front stmt rest depth alike m0 q0 below mine fm fq body own d c.0 of.0, all_granted s h t k front stmt rest depth alike m0 q0 below mine fm fq body own ds c.1 of.1)

pub own_each : (s : Fission) (k : ℕ) (front : List Stmt) (stmt : Stmt) (rest : List Stmt) → s.sharing.entry.looped.body ≡ front ++ stmt ∷ rest → s.own (suc (length front)) ≡ true → (ds : List Deed)
    → AllByRecursion (IsNamedIn (text_of stmt)) ds → AllByRecursion (IsOfAccess s.sharing.entry.looped s.sharing.entry.store (index_of s.sharing.entry s.sharing.first k)) ds → AllByRecursion (OwnDeed s k) ds
own_each s k front stmt rest body own [] c of = tt
own_each s k front stmt rest body own (d ∷ ds) c of =
    (record { front = front; stmt = stmt; rest = rest; body = body; own = own; named = c.0; access = of.0 }, own_each s k front stmt rest body own ds c.1 of.1)

-- what is left of a unit that isn't run

pub skipped_depth : (locals : ℕ → ℤ) (s : Stmt) (q : Memory) → length (skipped locals s q).scalars ≡ depth_after s (length q.scalars)
skipped_depth locals (Let x e) q = length-append q.scalars (locals (length q.scalars) ∷ [])
skipped_depth locals (Set x e) q = refl
skipped_depth locals (FoldInto x f e) q = refl
skipped_depth locals (Put c e) q = refl
skipped_depth locals (FoldPut c f e) q = refl
skipped_depth locals (If' t p a r b) q = refl
skipped_depth locals (While' t p b at) q = refl
skipped_depth locals (For' x a b p body seq at) q = refl
skipped_depth locals (Print e at) q = refl

pub skipped_arrays : (locals : ℕ → ℤ) (s : Stmt) (q : Memory) → (skipped locals s q).arrays ≡ q.arrays
skipped_arrays locals (Let x e) q = refl
skipped_arrays locals (Set x e) q = refl
skipped_arrays locals (FoldInto x f e) q = refl
skipped_arrays locals (Put c e) q = refl
skipped_arrays locals (FoldPut c f e) q = refl
skipped_arrays locals (If' t p a r b) q = refl
skipped_arrays locals (While' t p b at) q = refl
skipped_arrays locals (For' x a b p body seq at) q = refl
skipped_arrays locals (Print e at) q = refl

pub skipped_printed : (locals : ℕ → ℤ) (s : Stmt) (q : Memory) → (skipped locals s q).printed ≡ q.printed
skipped_printed locals (Let x e) q = refl
skipped_printed locals (Set x e) q = refl
skipped_printed locals (FoldInto x f e) q = refl
skipped_printed locals (Put c e) q = refl
skipped_printed locals (FoldPut c f e) q = refl
skipped_printed locals (If' t p a r b) q = refl
skipped_printed locals (While' t p b at) q = refl
skipped_printed locals (For' x a b p body seq at) q = refl
skipped_printed locals (Print e at) q = refl

pub skipped_scalar : (locals : ℕ → ℤ) (s : Stmt) (q : Memory) (x : ℕ) → x < length q.scalars → scalar_at (skipped locals s q) x ≡ scalar_at q x
skipped_scalar locals (Let y e) q x below = get_or_append_left q.scalars (locals (length q.scalars) ∷ []) (pos 0) x below
skipped_scalar locals (Set y e) q x below = refl
skipped_scalar locals (FoldInto y f e) q x below = refl
skipped_scalar locals (Put c e) q x below = refl
skipped_scalar locals (FoldPut c f e) q x below = refl
skipped_scalar locals (If' t p a r b) q x below = refl
skipped_scalar locals (While' t p b at) q x below = refl
skipped_scalar locals (For' y a b p body seq at) q x below = refl
skipped_scalar locals (Print e at) q x below = refl

pub skipped_fits : (locals : ℕ → ℤ) (s : Stmt) (q : Memory) → ((x : ℕ) → IsI64 (locals x)) → AreI64 q → AreI64 (skipped locals s q)
skipped_fits locals (Let y e) q fits h = declare_numbers (locals (length q.scalars)) q (fits (length q.scalars)) h
skipped_fits locals (Set y e) q fits h = h
skipped_fits locals (FoldInto y f e) q fits h = h
skipped_fits locals (Put c e) q fits h = h
skipped_fits locals (FoldPut c f e) q fits h = h
skipped_fits locals (If' t p a r b) q fits h = h
skipped_fits locals (While' t p b at) q fits h = h
skipped_fits locals (For' y a b p body seq at) q fits h = h
skipped_fits locals (Print e at) q fits h = h

last_declared : (v : ℤ) (m : Memory) → scalar_at (declare v m) (length m.scalars) ≡ v
last_declared v m =
    ap (λ (k : ℕ). slice_index_or (m.scalars ++ v ∷ []) k (pos 0)) (omega arith) ∙ get_or-append-add m.scalars (v ∷ []) 0 (pos 0)

-- a unit that isn't own

pub no_shallower : (b : Bool) (depth : ℕ) → depth ≤ (if b then depth + 1 else depth)
no_shallower true depth = omega arith
no_shallower false depth = omega arith

all_deeper : (ss : List Stmt) (depth : ℕ) → depth ≤ depth_after_all ss depth
all_deeper [] depth = omega arith
all_deeper (s ∷ rest) depth =
    let more = no_shallower (is_let s) depth in
    let later = all_deeper rest (depth_after s depth) in
    omega (arith, more, later)

pub index_within : (s : Fission) → MayBeApart s → (k : ℕ) (front rest : List Stmt) (m : Memory) → k < s.sharing.count → IsFront s k front rest m → s.sharing.entry.looped.index.id < length m.scalars
index_within s h k front rest m below at =
    let depth = front_depth s h k front rest m below at in
    let more = all_deeper front (s.sharing.entry.looped.index.id + 1) in
    omega (arith, depth, more)

equal_found : (a b : ℕ) → a ≡ b → (a == b) ≡ true
equal_found a b e = grind arith

-- it assigns nothing that an own unit behind it reads
other_inner : (s : Fission) → MayBeApart s → (k : ℕ) (front : List Stmt) (stmt : Stmt) (rest : List Stmt) (m : Memory) (x : ℕ) → k < s.sharing.count → IsFront s k front (stmt ∷ rest) m → s.own (suc (length front)) ≡ false
    → s.sharing.entry.looped.index.id ≤ x → x < length m.scalars → OwnFrom s (suc (suc (length front))) x → Contains (assigned stmt) x → x ≢ s.sharing.entry.looped.index.id → ⊥
other_inner s h k front stmt rest m x below at other over within own c apart =
    let l = s.sharing.entry.looped in
    let depth = front_depth s h k front (stmt ∷ rest) m below at in
    let found = declared 1 (suc (length front)) (l.index.id + 1) (length s.sharing.entry.store.arrays) x front (stmt ∷ rest) (subst (λ ss. AreScoped ss (l.index.id + 1) (length s.sharing.entry.store.arrays)) at.body (body_scoped s h)) (omega arith) (omega (arith, over, apart)) (omega (arith, within, depth)) in
    let w = found.local in
    let before = found.before in
    let behind = own.behind in
    let user_own : (nat_lt w.unit own.unit && unit_has named_in l own.unit w.id) ≡ true =
    and_both (nat_lt w.unit own.unit) _ (is_lt w.unit own.unit (omega (arith, before, behind))) (subst (λ z. unit_has named_in l own.unit z ≡ true) (sym found.same) own.has) in
    let user_other : (nat_lt w.unit (suc (length front)) && unit_has named_in l (suc (length front)) w.id) ≡ true =
    and_both (nat_lt w.unit (suc (length front))) _ (is_lt w.unit (suc (length front)) before) (subst (λ z. unit_has named_in l (suc (length front)) z ≡ true) (sym found.same) (unit_has_it l named_in front stmt rest x at.body (assigned_named stmt x c))) in
    local_apart s h own.unit (suc (length front)) w own.is_unit (is_unit l front stmt rest at.body) own.own other (subst (λ ss. Contains (locals_from 1 ss) w) (sym at.body) found.listed) (found.assigned (Contains-append_left (assigned stmt) (assigned_all rest) x c))
    (or_right (own.unit == w.unit) _ user_own) (or_right (suc (length front) == w.unit) _ user_other)

-- the local that it declares is given with its value of one thread, where an own unit behind it reads it
other_local : (s : Fission) → MayBeApart s → (k : ℕ) (front : List Stmt) (stmt : Stmt) (rest : List Stmt) (m r : Memory) (x : ℕ) → k < s.sharing.count → IsFront s k front (stmt ∷ rest) m → run stmt s.sharing.entry.turns m ≡ done r
    → s.own (suc (length front)) ≡ false → length m.scalars ≤ x → x < length r.scalars → OwnFrom s (suc (suc (length front))) x → s.locals k x ≡ scalar_at r x
other_local s h k front stmt rest m r x below at ran other over within own =
    let l = s.sharing.entry.looped in
    let n = s.sharing.entry.turns in
    let u = suc (length front) in
    let depth : length r.scalars ≡ depth_after stmt (length m.scalars) =
    sym (ap (λ (z : Ran). length z.store.scalars) ran) ∙ depth_where_done stmt n m (ap (λ (z : Ran). z.end) ran) in
    let after = front_next s k front stmt rest m r at ran in
    let found = declares u (suc u) (length m.scalars) (length s.sharing.entry.store.arrays) x stmt [] rest (omega arith) (unit_scoped s h k front stmt rest m below at) over (omega (arith, within, depth)) in
    let w = found.local in
    let first = found.after in
    let last = found.before in
    let behind = own.behind in
    let here : u ≡ w.unit = omega (arith, first, last) in
    let user_own : uses l w own.unit ≡ true =
    and_both (nat_lt w.unit own.unit) _ (is_lt w.unit own.unit (omega (arith, last, behind))) (subst (λ z. unit_has named_in l own.unit z ≡ true) (sym found.same) own.has) in
    let listed : Contains (locals_from 1 l.body) w = subst (λ ss. Contains (locals_from 1 ss) w) (sym at.body) (locals_behind 1 u front (stmt ∷ rest) w (omega arith) found.listed) in
    let unset : Contains (assigned_all rest) x → ⊥ = (λ c.
    local_apart s h own.unit u w own.is_unit (is_unit l front stmt rest at.body) own.own other listed (found.assigned c)
    (or_right (own.unit == w.unit) _ user_own) (or_left (u == w.unit) _ (equal_found u w.unit here))) in
    ap (s.locals k) (sym found.same) ∙ h.given k w own.unit below listed (ap s.own (sym here) ∙ other) own.own user_own ∙ ap (one_thread_local s.sharing k) found.same
    ∙ ap (λ (z : Ran). scalar_at z.store x) (body_behind s k (front ++ stmt ∷ []) rest r after) ∙ all_unassigned rest n r x within unset

-- what an own unit names outside the loop, and no other one may assign
other_outer : (s : Fission) → MayBeApart s → (front : List Stmt) (stmt : Stmt) (rest : List Stmt) (x : ℕ) → s.sharing.entry.looped.body ≡ front ++ stmt ∷ rest → s.own (suc (length front)) ≡ false
    → x < s.sharing.entry.looped.index.id → OwnHas s named_in x → reduction_of s.sharing.entry.looped x ≡ None → Contains (assigned stmt) x → ⊥
other_outer s h front stmt rest x body other out has none c =
    let l = s.sharing.entry.looped in
    scalar_apart s h has.unit (suc (length front)) x has.is_unit (is_unit l front stmt rest body) has.own other has.has (unit_has_it l named_in front stmt rest x body (assigned_named stmt x c)) (unit_assigned l front stmt rest body x c) out none

other_whole : (s : Fission) (front : List Stmt) (stmt : Stmt) (rest : List Stmt) (x : ℕ) → s.sharing.entry.looped.body ≡ front ++ stmt ∷ rest → s.own (suc (length front)) ≡ false → IsWhole s x → Contains (assigned stmt) x → ⊥
other_whole s front stmt rest x body other whole c =
    let l = s.sharing.entry.looped in
    let clash : true ≡ false = sym (whole (suc (length front)) (is_unit l front stmt rest body) (unit_has_it l named_in front stmt rest x body (assigned_named stmt x c))) ∙ other in cc

-- it writes no cell of an array that an own unit has, unless there are copies of it

-- a text that writes no cell of an array
abbrev WritesNone : Fission → ℕ → Stmt → ℕ → Type 0
WritesNone s k stmt a = (b p : ℕ) → Contains (arrays_in stmt) b → IsTouched s.sharing.entry.looped s.sharing.entry.store (index_of s.sharing.entry s.sharing.first k) true b p → b ≡ a → ⊥

spares_where : (s : Fission) (k : ℕ) (stmt : Stmt) (a p : ℕ) → WritesNone s k stmt a → (d : Deed) → IsNamedIn (text_of stmt) d → IsOfAccess s.sharing.entry.looped s.sharing.entry.store (index_of s.sharing.entry s.sharing.first k) d → SparesCell a p d
spares_where s k stmt a p none (reads x) c of = tt
spares_where s k stmt a p none (sets x) c of = tt
spares_where s k stmt a p none (folds f x) c of = tt
spares_where s k stmt a p none (loads b j) c of = tt
spares_where s k stmt a p none (stores b j) c of = λ same. absurd (none b j (cell_named_in stmt (plainly b) c) of same)
spares_where s k stmt a p none (joins f b j) c of = λ same. absurd (none b j (cell_named_in stmt (record { id = b; by = Some f }) c) of same)
spares_where s k stmt a p none prints c of = tt

spare_where : (s : Fission) (k : ℕ) (stmt : Stmt) (a p : ℕ) → WritesNone s k stmt a → (ds : List Deed) → AllByRecursion (IsNamedIn (text_of stmt)) ds → AllByRecursion (IsOfAccess s.sharing.entry.looped s.sharing.entry.store (index_of s.sharing.entry s.sharing.first k)) ds → AllByRecursion (SparesCell a p) ds
spare_where s k stmt a p none [] c of = tt
spare_where s k stmt a p none (d ∷ ds) c of = (spares_where s k stmt a p none d c.0 of.0, spare_where s k stmt a p none ds c.1 of.1)

array_clash : (s : Fission) → MayBeApart s → (k : ℕ) (front : List Stmt) (stmt : Stmt) (rest : List Stmt) (a b p : ℕ) → s.sharing.entry.looped.body ≡ front ++ stmt ∷ rest → s.own (suc (length front)) ≡ false → OwnHas s arrays_in a → among a s.folded ≡ false
    → Contains (arrays_in stmt) b → IsTouched s.sharing.entry.looped s.sharing.entry.store (index_of s.sharing.entry s.sharing.first k) true b p → b ≡ a → ⊥
array_clash s h k front stmt rest a b p body other has plain c (x, listed, writes, at_x, touch) same =
    let l = s.sharing.entry.looped in
    array_apart s h has.unit (suc (length front)) x has.is_unit (is_unit l front stmt rest body) has.own other listed writes (ap (λ z. among z s.folded) (at_x ∙ same) ∙ plain) (subst (λ z. unit_has arrays_in l has.unit z ≡ true) (sym (at_x ∙ same)) has.has)
    (subst (λ z. unit_has arrays_in l (suc (length front)) z ≡ true) (sym at_x) (unit_has_it l arrays_in front stmt rest b body c))

pub all_spare : (s : Fission) → MayBeApart s → (k : ℕ) (front : List Stmt) (stmt : Stmt) (rest : List Stmt) (a p : ℕ) → s.sharing.entry.looped.body ≡ front ++ stmt ∷ rest → s.own (suc (length front)) ≡ false → OwnHas s arrays_in a → among a s.folded ≡ false
    → (ds : List Deed) → AllByRecursion (IsNamedIn (text_of stmt)) ds → AllByRecursion (IsOfAccess s.sharing.entry.looped s.sharing.entry.store (index_of s.sharing.entry s.sharing.first k)) ds → AllByRecursion (SparesCell a p) ds
all_spare s h k front stmt rest a p body other has plain ds c of =
    spare_where s k stmt a p (λ b j named touch same. array_clash s h k front stmt rest a b j body other has plain named touch same) ds c of

-- it writes no cell of an array that own units alone have
whole_spare : (s : Fission) (k : ℕ) (front : List Stmt) (stmt : Stmt) (rest : List Stmt) (a p : ℕ) → s.sharing.entry.looped.body ≡ front ++ stmt ∷ rest → s.own (suc (length front)) ≡ false → AllHave s arrays_in a
    → (ds : List Deed) → AllByRecursion (IsNamedIn (text_of stmt)) ds → AllByRecursion (IsOfAccess s.sharing.entry.looped s.sharing.entry.store (index_of s.sharing.entry s.sharing.first k)) ds → AllByRecursion (SparesCell a p) ds
whole_spare s k front stmt rest a p body other whole ds c of =
    spare_where s k stmt a p (λ b j named touch same. let l = s.sharing.entry.looped in
    let clash : true ≡ false = sym (whole (suc (length front)) (is_unit l front stmt rest body) (unit_has_it l arrays_in front stmt rest a body (subst (Contains (arrays_in stmt)) same named))) ∙ other in cc) ds c of

-- it doesn't print where only own units do
other_silent : (s : Fission) (front : List Stmt) (stmt : Stmt) (rest : List Stmt) → s.sharing.entry.looped.body ≡ front ++ stmt ∷ rest → s.own (suc (length front)) ≡ false → IsPrinting s → (d : Deed) → IsNamedIn (text_of stmt) d → SparesPrinted d
other_silent s front stmt rest body other alone (reads x) c = tt
other_silent s front stmt rest body other alone (sets x) c = tt
other_silent s front stmt rest body other alone (folds f x) c = tt
other_silent s front stmt rest body other alone (loads a p) c = tt
other_silent s front stmt rest body other alone (stores a p) c = tt
other_silent s front stmt rest body other alone (joins f a p) c = tt
other_silent s front stmt rest body other alone prints c =
    let l = s.sharing.entry.looped in
    let clash : true ≡ false = sym (alone.1 (suc (length front)) (is_unit l front stmt rest body) (unit_at has_print false l front stmt rest body ∙ c)) ∙ other in cc

pub skipped_last : (locals : ℕ → ℤ) (s : Stmt) (q : Memory) (x : ℕ) → length q.scalars ≤ x → x < length (skipped locals s q).scalars → scalar_at (skipped locals s q) x ≡ locals x
skipped_last locals (Let y e) q x over within =
    let longer = length-append q.scalars (locals (length q.scalars) ∷ []) in
    let here : length q.scalars ≡ x = omega (arith, over, within, longer) in
    ap (scalar_at (declare (locals (length q.scalars)) q)) (sym here) ∙ last_declared (locals (length q.scalars)) q ∙ ap locals here
skipped_last locals (Set y e) q x over within = absurd (omega (arith, over, within))
skipped_last locals (FoldInto y f e) q x over within = absurd (omega (arith, over, within))
skipped_last locals (Put c e) q x over within = absurd (omega (arith, over, within))
skipped_last locals (FoldPut c f e) q x over within = absurd (omega (arith, over, within))
skipped_last locals (If' t p a r b) q x over within = absurd (omega (arith, over, within))
skipped_last locals (While' t p b at) q x over within = absurd (omega (arith, over, within))
skipped_last locals (For' y a b p body seq at) q x over within = absurd (omega (arith, over, within))
skipped_last locals (Print e at) q x over within = absurd (omega (arith, over, within))

pub other_bound : (s : Fission) → MayBeApart s → (t k : ℕ) (front : List Stmt) (stmt : Stmt) (rest : List Stmt) (m q r m0 q0 : Memory) → k < s.sharing.count → IsFront s k front (stmt ∷ rest) m → s.own (suc (length front)) ≡ false
    → run stmt s.sharing.entry.turns m ≡ done r → AllByRecursion (IsOfAccess s.sharing.entry.looped s.sharing.entry.store (index_of s.sharing.entry s.sharing.first k)) (deeds stmt s.sharing.entry.turns m)
    → Bound (unit_bond s t (suc (length front)) (length m.scalars) m0 q0) m q → Bound (unit_bond s t (suc (suc (length front))) (length r.scalars) m0 q0) r (skipped (s.locals k) stmt q)
other_bound s h t k front stmt rest m q r m0 q0 below at other ran of bound =
    let l = s.sharing.entry.looped in
    let n = s.sharing.entry.turns in
    let u = suc (length front) in
    let i = index_of s.sharing.entry s.sharing.first k in
    let locals = s.locals k in
    let to_r : (run stmt n m).store ≡ r = ap (λ (z : Ran). z.store) ran in
    let depth : length r.scalars ≡ depth_after stmt (length m.scalars) = sym (ap length (ap (λ (z : Memory). z.scalars) to_r)) ∙ depth_where_done stmt n m (ap (λ (z : Ran). z.end) ran) in
    let deeper : length m.scalars ≤ length r.scalars = let more = no_shallower (is_let stmt) (length m.scalars) in omega (arith, depth, more) in
    let even = bound.even in
    let level : length (skipped locals stmt q).scalars ≡ length r.scalars = skipped_depth locals stmt q ∙ ap (depth_after stmt) even ∙ sym depth in
    let kept : (x : ℕ) → x < length m.scalars → (Contains (assigned stmt) x → ⊥) → scalar_at r x ≡ scalar_at m x = (λ x less unset. ap (λ z. scalar_at z x) (sym to_r) ∙ unassigned stmt n m x less unset) in
    let index_kept : scalar_at r l.index.id ≡ scalar_at m l.index.id = ap (λ z. scalar_at z l.index.id) (sym to_r)
    ∙ unassigned_stays stmt (l.index.id ∷ []) l.index.id (0, omega arith, refl) (unit_steady s h front stmt rest at.body) n m (index_within s h k front (stmt ∷ rest) m below at) in
    let as_before : (x : ℕ) → x < length m.scalars → scalar_at (skipped locals stmt q) x ≡ scalar_at q x = (λ x less. skipped_scalar locals stmt q x (omega (arith, less, even))) in
    record {
      numbers = subst AreI64 to_r (run_fits stmt (unit_numbers s h front stmt rest at.body) n m bound.numbers);
      deep = omega arith;
      even = level;
      sizes = λ a. ap (λ xs. length (slice_index_or xs a [])) (skipped_arrays locals stmt q) ∙ bound.sizes a
          ∙ sym (sizes_kept m (run stmt n m).store (run_kept SameArrays arrays_kept stmt n m) a) ∙ ap (λ z. length (cells_of z a)) to_r;
      scalar = λ x within. ⊎_elim
          (λ (less : x < length m.scalars). let link = bound.scalar x less in
          record {
            outer = λ out has none. as_before x less ∙ link.outer out has none ∙ sym (kept x less (other_outer s h front stmt rest x at.body other out has none));
            inner = λ over f. let own = f within in
                let same = link.inner over (λ there. later_from s u (suc u) x (omega arith) own) in
                as_before x less ∙ same ∙ sym (⊎_elim
                (λ (here : x ≡ l.index.id). subst (λ z. scalar_at r z ≡ scalar_at m z) (sym here) index_kept)
                (λ (apart : x ≡ l.index.id → ⊥). kept x less (λ c. other_inner s h k front stmt rest m x below at other over less own c apart))
                (cases_eq x l.index.id));
            whole = λ f e all. subst (λ v. AreJoined f (scalar_at m0 x) (scalar_at q0 x) (scalar_at r x) v) (sym (as_before x less))
                (subst (λ v. AreJoined f (scalar_at m0 x) (scalar_at q0 x) v (scalar_at q x)) (sym (kept x less (other_whole s front stmt rest x at.body other all))) (link.whole f e all));
          })
          (λ (new : length m.scalars ≤ x). let index = index_within s h k front (stmt ∷ rest) m below at in
          record {
            outer = λ out has none. absurd (omega (arith, out, new, index));
            inner = λ over f. skipped_last locals stmt q x (omega (arith, new, even)) (omega (arith, within, level)) ∙ other_local s h k front stmt rest m r x below at ran other new within (f within);
            whole = λ f e all. let out = reduction_below l f x e in absurd (omega (arith, out, new, index));
          })
          (cases_lt x (length m.scalars));
      cell = λ a p within.
          let count = ap (λ z. length (cells_of z a)) (sym to_r) ∙ sizes_kept m (run stmt n m).store (run_kept SameArrays arrays_kept stmt n m) a in
          let link = bound.cell a p (omega (arith, within, count)) in
          let as_was : cell_at (skipped locals stmt q) a p ≡ cell_at q a p = ap (λ xs. slice_index_or (slice_index_or xs a []) p (pos 0)) (skipped_arrays locals stmt q) in
          let stays : AllByRecursion (SparesCell a p) (deeds stmt n m) → cell_at r a p ≡ cell_at m a p = (λ each. ap (λ z. cell_at z a p) (sym to_r) ∙ cell_stays stmt n m a p (All-from_recursion (SparesCell a p) (deeds stmt n m) each)) in
          record {
            plain = λ out touch. as_was ∙ link.plain out touch ∙ sym (stays (all_spare s h k front stmt rest a p at.body other touch.array out (deeds stmt n m) (deeds_named stmt n m) of));
            whole = λ f e all. subst (λ v. AreJoined f (cell_at m0 a p) (cell_at q0 a p) (cell_at r a p) v) (sym as_was)
                (subst (λ v. AreJoined f (cell_at m0 a p) (cell_at q0 a p) v (cell_at q a p)) (sym (stays (whole_spare s k front stmt rest a p at.body other all (deeds stmt n m) (deeds_named stmt n m) of))) (link.whole f e all));
          };
      printed = λ alone. skipped_printed locals stmt q ∙ bound.printed alone ∙ sym (ap (λ (z : Memory). z.printed) (sym to_r)
          ∙ printed_stays stmt n m (All-from_recursion SparesPrinted (deeds stmt n m) (each_of (IsNamedIn (text_of stmt)) SparesPrinted (other_silent s front stmt rest at.body other alone) (deeds stmt n m) (deeds_named stmt n m))));
    }

-- an own unit

pub own_alike : (s : Fission) → MayBeApart s → (t k : ℕ) (front : List Stmt) (stmt : Stmt) (rest : List Stmt) (m q m0 q0 : Memory) → k < s.sharing.count → s.sharing.owner k ≡ t → AreI64 m0 → AreI64 q0 → IsFront s k front (stmt ∷ rest) m
    → s.own (suc (length front)) ≡ true → AllByRecursion (IsOfAccess s.sharing.entry.looped s.sharing.entry.store (index_of s.sharing.entry s.sharing.first k)) (deeds stmt s.sharing.entry.turns m)
    → Bound (unit_bond s t (suc (length front)) (length m.scalars) m0 q0) m q
    → Alike (unit_bond s t (suc (length front)) (length m.scalars) m0 q0) (run stmt s.sharing.entry.turns m) (run stmt s.sharing.entry.turns q) (deeds stmt s.sharing.entry.turns m) (deeds stmt s.sharing.entry.turns q)
own_alike s h t k front stmt rest m q m0 q0 below mine fm fq at own of bound =
    let n = s.sharing.entry.turns in
    let u = suc (length front) in
    let index = index_within s h k front (stmt ∷ rest) m below at in
    run_alike (unit_bond s t u (length m.scalars) m0 q0) (has_inner s t u (length m.scalars) (AllHave s) m0 q0 (omega (arith, index))) stmt n (unit_numbers s h front stmt rest at.body) m q bound
    (all_granted s h t k front stmt rest (length m.scalars) (AllHave s) m0 q0 below mine fm fq at.body own (deeds stmt n m) (deeds_named stmt n m) of)
