-- The own units of an iteration change only what their deeds name.
use Rattle.std.proofs.Common.{◌≡◌, ℕ, suc, ◌<◌, ◌≤◌, Bool, true, false, ℤ, pos, List, [], ◌∷◌, ◌++◌, length, refl, ap, ◌∙◌, arith, if◌then◌else◌, length-append, ◌≢◌, ◌==◌, ◌&&◌}
use Rattle.std.specs.Prelude.{slice_index_or}
use Rattle.std.specs.List.{AllByRecursion, Contains, list_any}
use Rattle.std.proofs.lemmas.List.{get_or-take, get_or_append_left}
use Rattle.std.proofs.lemmas.List.Elements.{All-from_recursion, Contains-append_left, Contains-append_right}
use Rattle.nona_tree.specs.declared.outcomes.Outcome.{Outcome}
use Rattle.nona_tree.specs.declared.outcomes.Outcome.TheVariants as outcome
use Rattle.nona_tree.specs.declared.trees.Stmt.{Stmt}
use Rattle.nona_tree.specs.Beside.{on_end, on_done}
use Rattle.nona_tree.specs.Deeds.{Deed, deeds, SparesScalar, SparesCell, SparesPrinted, reads, sets, folds, loads, stores, joins, prints}
use Rattle.nona_tree.specs.Memory.{Memory, scalar_at, cell_at, declare}
use Rattle.nona_tree.specs.Run.{Ran, then_from, then_do, run}
use Rattle.nona_tree.specs.Scope.{is_let}
use Rattle.nona_tree.proofs.DeedLaws.{each_of_both, scalar_stays, cell_stays, printed_stays}
use Rattle.nona_tree.proofs.Keeps.{NoFewer, scalars_kept, run_kept}
use Rattle.nona_forms.specs.References.{assigned, assigned_all}
use Rattle.nona_forms.proofs.Sound.{all_of_two}
use Rattle.nona_fission.specs.Sharing.{index_of, is_write}
use Rattle.nona_fission.proofs.Tasks.{each_of}
use Rattle.nona_fission.proofs.Untied.{or_none}
use Rattle.nona_fission.specs.Fission.{Fission, skipped, portion, portion_deeds, own_iteration, own_iteration_deeds}
use Rattle.nona_fission.proofs.Named.{end_all, if_all, IsNamedIn, text_of, deeds_named}
use Rattle.nona_fission.proofs.Thread.{spares}
use Rattle.nona_fission.proofs.Units.{skipped_arrays, skipped_printed, skipped_depth, skipped_scalar, no_shallower}

-- deeds of which none writes a cell

not_same : (a b c d : ℕ) → (a == b && c == d) ≡ false → a ≡ b → c ≢ d
not_same a b c d e same_a same_c = grind (arith, e, same_a, same_c)

spared : (a p : ℕ) (d : Deed) → is_write a p d ≡ false → SparesCell a p d
spared a p (reads x) e = tt
spared a p (sets x) e = tt
spared a p (folds f x) e = tt
spared a p (loads b c) e = tt
spared a p (stores b c) e = not_same b a c p e
spared a p (joins f b c) e = not_same b a c p e
spared a p prints e = tt

pub all_spared : (a p : ℕ) (ds : List Deed) → list_any (is_write a p) ds ≡ false → AllByRecursion (SparesCell a p) ds
all_spared a p [] e = tt
all_spared a p (d ∷ ds) e = let two = or_none (is_write a p d) (list_any (is_write a p) ds) e in (spared a p d two.0, all_spared a p ds two.1)

-- a relation between stores that a run has whose deeds are all spared
record IsSpared (S : Deed → Type 0) (R : Memory → Memory → Type 0) : Type 0 where
  same : (m : Memory) → R m m
  chain : (a b c : Memory) → R a b → R b c → R a c
  ran : (s : Stmt) (n : ℕ) (m : Memory) → AllByRecursion S (deeds s n m) → R m (run s n m).store
  left : (locals : ℕ → ℤ) (s : Stmt) (m : Memory) → R m (skipped locals s m)

spared_from : (S : Deed → Type 0) (R : Memory → Memory → Type 0) → IsSpared S R → (m r : Memory) (e : Outcome) (go : Memory → Ran) (given : Memory → List Deed)
    → R m r → ((x : Memory) → AllByRecursion S (given x) → R x (go x).store) → AllByRecursion S (on_end r e given) → R m (then_from r e go).store
spared_from S R k m r outcome.Done go given h g each = k.chain m r (go r).store h (g r each)
spared_from S R k m r (outcome.Trap t) go given h g each = h
spared_from S R k m r (outcome.OutOfTurns at) go given h g each = h

unit_spared : (S : Deed → Type 0) (R : Memory → Memory → Type 0) → IsSpared S R → (own : Bool) (locals : ℕ → ℤ) (s : Stmt) (n : ℕ) (m : Memory) (go : Memory → Ran) (given : Memory → List Deed)
    → ((x : Memory) → AllByRecursion S (given x) → R x (go x).store) → AllByRecursion S (if own then deeds s n m ++ on_done (run s n m) given else given (skipped locals s m))
    → R m (if own then then_do (run s n m) go else go (skipped locals s m)).store
unit_spared S R k true locals s n m go given g each =
    let parts = each_of_both S (deeds s n m) _ each in
    spared_from S R k m (run s n m).store (run s n m).end go given (k.ran s n m parts.0) g parts.1
unit_spared S R k false locals s n m go given g each = k.chain m (skipped locals s m) (go (skipped locals s m)).store (k.left locals s m) (g (skipped locals s m) each)

portion_spared : (S : Deed → Type 0) (R : Memory → Memory → Type 0) → IsSpared S R → (own : ℕ → Bool) (locals : ℕ → ℤ) (unit : ℕ) (ss : List Stmt) (n : ℕ) (m : Memory)
    → AllByRecursion S (portion_deeds own locals unit ss n m) → R m (portion own locals unit ss n m).store
portion_spared S R k own locals unit [] n m each = k.same m
portion_spared S R k own locals unit (s ∷ rest) n m each =
    unit_spared S R k (own unit) locals s n m (portion own locals (suc unit) rest n) (portion_deeds own locals (suc unit) rest n) (λ x. portion_spared S R k own locals (suc unit) rest n x) each

cells_spared : (a p : ℕ) → IsSpared (SparesCell a p) (λ m r. cell_at r a p ≡ cell_at m a p)
cells_spared a p = record {
  same = λ m. refl;
  chain = λ x y z h g. g ∙ h;
  ran = λ s n m each. cell_stays s n m a p (All-from_recursion (SparesCell a p) (deeds s n m) each);
  left = λ locals s m. ap (λ xs. slice_index_or (slice_index_or xs a []) p (pos 0)) (skipped_arrays locals s m);
}

printed_spared : IsSpared SparesPrinted (λ m r. r.printed ≡ m.printed)
printed_spared = record {
  same = λ m. refl;
  chain = λ x y z h g. g ∙ h;
  ran = λ s n m each. printed_stays s n m (All-from_recursion SparesPrinted (deeds s n m) each);
  left = skipped_printed;
}

skipped_more : (locals : ℕ → ℤ) (s : Stmt) (m : Memory) → length m.scalars ≤ length (skipped locals s m).scalars
skipped_more locals s m =
    let depth = skipped_depth locals s m in
    let more = no_shallower (is_let s) (length m.scalars) in
    omega (arith, depth, more)

-- a scalar that is visible before is so after, with its value
abbrev KeepsScalar : ℕ → Memory → Memory → Type 0
KeepsScalar id m r = id < length m.scalars → (id < length r.scalars) × (scalar_at r id ≡ scalar_at m id)

scalars_spared : (x : ℕ) → IsSpared (SparesScalar x) (KeepsScalar x)
scalars_spared x = record {
  same = λ m below. (below, refl);
  chain = λ a b c h g below. let first = h below in let second = g first.0 in (second.0, second.1 ∙ first.1);
  ran = λ s n m each below. let more = run_kept NoFewer scalars_kept s n m in
      (omega (arith, below, more), scalar_stays s n m x below (All-from_recursion (SparesScalar x) (deeds s n m) each));
  left = λ locals s m below. let more = skipped_more locals s m in (omega (arith, below, more), skipped_scalar locals s m x below);
}

pub iteration_cell : (s : Fission) (k a p : ℕ) (q : Memory) → AllByRecursion (SparesCell a p) (own_iteration_deeds s k q) → cell_at (own_iteration s k q).store a p ≡ cell_at q a p
iteration_cell s k a p q each =
    portion_spared (SparesCell a p) (λ m r. cell_at r a p ≡ cell_at m a p) (cells_spared a p) s.own (s.locals k) 1 s.sharing.entry.looped.body s.sharing.entry.turns (declare (index_of s.sharing.entry s.sharing.first k) q) each

pub iteration_printed : (s : Fission) (k : ℕ) (q : Memory) → AllByRecursion SparesPrinted (own_iteration_deeds s k q) → (own_iteration s k q).store.printed ≡ q.printed
iteration_printed s k q each =
    portion_spared SparesPrinted (λ m r. r.printed ≡ m.printed) printed_spared s.own (s.locals k) 1 s.sharing.entry.looped.body s.sharing.entry.turns (declare (index_of s.sharing.entry s.sharing.first k) q) each

pub iteration_scalar : (s : Fission) (k x : ℕ) (q : Memory) → x < length q.scalars → AllByRecursion (SparesScalar x) (own_iteration_deeds s k q) → scalar_at (own_iteration s k q).store x ≡ scalar_at q x
iteration_scalar s k x q below each =
    let i = index_of s.sharing.entry s.sharing.first k in
    let longer = length-append q.scalars (i ∷ []) in
    let kept = portion_spared (SparesScalar x) (KeepsScalar x) (scalars_spared x) s.own (s.locals k) 1 s.sharing.entry.looped.body s.sharing.entry.turns (declare i q) each (omega (arith, below, longer)) in
    get_or-take (length q.scalars) _ x (pos 0) below ∙ kept.1 ∙ get_or_append_left q.scalars (i ∷ []) (pos 0) x below

-- a scalar that no text of these units assigns stays

portion_spares : (own : ℕ → Bool) (locals : ℕ → ℤ) (unit : ℕ) (ss : List Stmt) (n : ℕ) (m : Memory) (x : ℕ) → (Contains (assigned_all ss) x → ⊥) → AllByRecursion (SparesScalar x) (portion_deeds own locals unit ss n m)
portion_spares own locals unit [] n m x free = tt
portion_spares own locals unit (s ∷ rest) n m x free =
    let later : Contains (assigned_all rest) x → ⊥ = (λ c. free (Contains-append_right (assigned s) (assigned_all rest) x c)) in
    if_all (SparesScalar x) (own unit) _ _
    (all_of_two (SparesScalar x) (deeds s n m) _ (each_of (IsNamedIn (text_of s)) (SparesScalar x) (spares s x (λ c. free (Contains-append_left (assigned s) (assigned_all rest) x c))) (deeds s n m) (deeds_named s n m))
    (end_all (SparesScalar x) (run s n m).store (run s n m).end (portion_deeds own locals (suc unit) rest n) (λ r. portion_spares own locals (suc unit) rest n r x later)))
    (portion_spares own locals (suc unit) rest n (skipped locals s m) x later)

pub portion_unassigned : (own : ℕ → Bool) (locals : ℕ → ℤ) (unit : ℕ) (ss : List Stmt) (n : ℕ) (m : Memory) (x : ℕ) → x < length m.scalars → (Contains (assigned_all ss) x → ⊥) → scalar_at (portion own locals unit ss n m).store x ≡ scalar_at m x
portion_unassigned own locals unit ss n m x below free =
    (portion_spared (SparesScalar x) (KeepsScalar x) (scalars_spared x) own locals unit ss n m (portion_spares own locals unit ss n m x free) below).1

-- no scalar is dropped

any_deeds : (ds : List Deed) → AllByRecursion (λ d. Unit {0}) ds
any_deeds [] = tt
any_deeds (d ∷ ds) = (tt, any_deeds ds)

more_spared : IsSpared (λ d. Unit {0}) NoFewer
more_spared = record {
  same = λ m. omega arith;
  chain = λ a b c h g. omega (arith, h, g);
  ran = λ s n m each. run_kept NoFewer scalars_kept s n m;
  left = skipped_more;
}

pub portion_grows : (own : ℕ → Bool) (locals : ℕ → ℤ) (unit : ℕ) (ss : List Stmt) (n : ℕ) (m : Memory) → NoFewer m (portion own locals unit ss n m).store
portion_grows own locals unit ss n m = portion_spared (λ d. Unit {0}) NoFewer more_spared own locals unit ss n m (any_deeds (portion_deeds own locals unit ss n m))
