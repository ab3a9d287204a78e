-- Accesses that are told apart are separate.
use Rattle.std.proofs.Common.{◌≡◌, ◌≢◌, ℕ, ◌<◌, ◌^◌, ◌==◌, ◌&&◌, Bool, true, false, not, ℤ, pos, negsuc, ◌≤ℤ◌, ◌<ℤ◌, List, [], ◌∷◌, length, map, refl, sym, ap, ◌∙◌, subst, arith, if◌then◌else◌, nat_lt, Some, None}
use Rattle.std.proofs.lemmas.Int.{ints}
use Rattle.std.specs.Prelude.{Ok}
use Rattle.std.specs.List.{AllByRecursion}
use Rattle.std.specs.declared.option.Option.{Option}
use Rattle.nona_tree.specs.declared.outcomes.TrapKind.TheVariants.{Index}
use Rattle.nona_tree.specs.declared.trees.Access.{Access}
use Rattle.nona_tree.specs.declared.trees.Expr.{Expr}
use Rattle.nona_tree.specs.declared.trees.Loop.{Loop}
use Rattle.nona_tree.specs.Memory.{Memory, scalar_at, cells_of}
use Rattle.nona_tree.specs.Numbers.{IsI64, AreI64, IsI64Expr}
use Rattle.nona_tree.specs.Value.{trap, then_use, place_of, value_of, cell_of}
use Rattle.nona_forms.specs.declared.terms.Term.{Term}
use Rattle.nona_forms.specs.Affine.{Affine, form_at, no_terms, form_of, among}
use Rattle.nona_forms.specs.References.{Inner, Reference, Fixed, HasValue, IsStoreWith, as_in, IsPossible, IsPossibleAt, given_in, Touches, names_of, invariants_of}
use Rattle.nona_forms.specs.declared.shapes.Spot.{Spot}
use Rattle.nona_forms.specs.declared.shapes.LoopShape.{LoopShape}
use Rattle.nona_forms.specs.Verdicts.{fixed_of, inner_forms, names_inside, spot_of, shape_of, invariant_terms, are_apart, if_form, is_apart}
use Rattle.nona_forms.specs.Separate.{IsLoopEntry, LiesAt}
use Rattle.nona_forms.proofs.Named.{AreAmong, IsForm, form_is}
use Rattle.nona_forms.proofs.InBoxes.{both_true, IsIn, AreIn, ids_same}
use Rattle.nona_forms.proofs.Exact.{exact_value, constant_value, few_cells}
use Rattle.nona_forms.proofs.Differing.{AreTwo, apart_differ}

-- an inner loop's index is declared behind this one, and the numbers in its bounds have 64 bits
pub record IsBehind (index : ℕ) (l : Inner) : Type 0 where
  pub after : index < l.id
  pub low : IsI64Expr l.low
  pub high : IsI64Expr l.high

-- values within bounds lie between them where they are constant
in_fixed_if : (f g : Affine) (low high j : ℤ) (b : Bool) → b ≡ true → low ≡ f.constant → high ≡ g.constant → low ≤ℤ j → j <ℤ high → IsIn (if b then Some (f.constant, g.constant) else None) j
in_fixed_if f g low high j true t e d h k = (subst (λ x. x ≤ℤ j) e h, subst (λ x. j <ℤ x) d k)
in_fixed_if f g low high j false t e d h k = tt

in_fixed_at : (f g : Affine) (low high j : ℤ) (b : Bool) → (no_terms f.terms && no_terms g.terms) ≡ b → (no_terms f.terms ≡ true → low ≡ f.constant) → (no_terms g.terms ≡ true → high ≡ g.constant) → low ≤ℤ j → j <ℤ high
    → IsIn (if b then Some (f.constant, g.constant) else None) j
in_fixed_at f g low high j true t e d h k =
    let both = both_true (no_terms f.terms) (no_terms g.terms) t in
    in_fixed_if f g low high j true refl (e both.0) (d both.1) h k
in_fixed_at f g low high j false t e d h k = tt

in_fixed : (o p : Option Affine) (low high j : ℤ) → ((f : Affine) → o ≡ Some f → no_terms f.terms ≡ true → low ≡ f.constant) → ((g : Affine) → p ≡ Some g → no_terms g.terms ≡ true → high ≡ g.constant)
    → low ≤ℤ j → j <ℤ high → IsIn (fixed_of o p) j
in_fixed None None low high j e d h k = tt
in_fixed None (Some g) low high j e d h k = tt
in_fixed (Some f) None low high j e d h k = tt
in_fixed (Some f) (Some g) low high j e d h k = in_fixed_at f g low high j (no_terms f.terms && no_terms g.terms) refl (e f refl) (d g refl) h k

pub between : (a b : Expr) (names : List ℕ) (m : Memory) (low high j : ℤ) → IsI64Expr a → IsI64Expr b → AreI64 m → value_of a m ≡ Ok low → value_of b m ≡ Ok high → low ≤ℤ j → j <ℤ high
    → IsIn (fixed_of (form_of a names) (form_of b names)) j
between a b names m low high j of_a of_b numbers e d h k =
    in_fixed (form_of a names) (form_of b names) low high j (λ f form none. constant_value a names m f low form none of_a numbers e) (λ g form none. constant_value b names m g high form none of_b numbers d) h k

-- where a run may stand, what is given holds, and each inner index lies within its constant bounds
pub stood : (entry : Memory) (index : ℕ) (inner : List Inner) (fixed : List Fixed) (names : List ℕ) (m : Memory) → AllByRecursion (IsBehind index) inner → IsPossible entry inner fixed m
    → IsStoreWith entry fixed m × AreIn (inner_forms names inner) (scalar_at m)
stood entry index [] fixed names m h s = (s, tt)
stood entry index (l ∷ inner) fixed names m h (k, low, high, j, such, begins, ends, from, to, rest) =
    let deep = stood entry index inner (record { id = l.id; value = j } ∷ fixed) (l.id ∷ names) m h.1 rest in
    let here : scalar_at m l.id ≡ j = deep.0.values.0 in (
      record { numbers = deep.0.numbers; sizes = deep.0.sizes; values = deep.0.values.1 },
      (subst (IsIn (fixed_of (form_of l.low names) (form_of l.high names))) (sym here) (between l.low l.high names k low high j h.0.low h.0.high such.numbers begins ends from to), deep.1),
    )

-- a scalar before the index that may occur is an invariant
passed : (b rest : Bool) → (b ≡ true → ⊥) → (if b then true else rest) ≡ true → rest ≡ true
passed true rest h e = absurd (h refl)
passed false rest h e = e

not_this : (id other : ℕ) (rest : Bool) → id ≢ other → (if id == other then true else rest) ≡ true → rest ≡ true
not_this id other rest h e = passed (id == other) rest (λ k. h (ids_same id other k)) e

outside : (index id : ℕ) (names : List ℕ) (inner : List Inner) → id < index → AllByRecursion (IsBehind index) inner → among id (names_inside names inner) ≡ true → among id names ≡ true
outside index id names [] h k e = e
outside index id names (l ∷ inner) h k e =
    not_this id l.id (among id names) (λ same. omega (arith, same, h, k.0.after)) (outside index id (l.id ∷ names) inner h k.1 e)

held_at : (entry m : Memory) (x : ℕ) (ids : List ℕ) (id : ℕ) (b : Bool) → (id == x) ≡ b → scalar_at m x ≡ scalar_at entry x → (among id ids ≡ true → scalar_at m id ≡ scalar_at entry id)
    → (if b then true else among id ids) ≡ true → scalar_at m id ≡ scalar_at entry id
held_at entry m x ids id true t h k e = subst (λ z. scalar_at m z ≡ scalar_at entry z) (sym (ids_same id x t)) h
held_at entry m x ids id false t h k e = k e

pub held : (entry m : Memory) (ids : List ℕ) (id : ℕ) → AllByRecursion (HasValue m) (map (as_in entry) ids) → among id ids ≡ true → scalar_at m id ≡ scalar_at entry id
held entry m [] id h e = cc
held entry m (x ∷ ids) id h e = held_at entry m x ids id (id == x) refl h.0 (λ k. held entry m ids id h.1 k) e

one_agrees : (l : Loop) (entry m k : Memory) (i j : ℤ) (inner : List Inner) (t : Term) → t.id < l.index.id → AllByRecursion (IsBehind l.index.id) inner → among t.id (names_inside (names_of l) inner) ≡ true
    → AllByRecursion (HasValue m) (given_in l entry i) → AllByRecursion (HasValue k) (given_in l entry j) → scalar_at m t.id ≡ scalar_at k t.id
one_agrees l entry m k i j inner t less h a g e =
    let invariant = not_this t.id l.index.id (among t.id (invariants_of l)) (λ same. omega (arith, same, less)) (outside l.index.id t.id (names_of l) inner less h a) in
    held entry m (invariants_of l) t.id g.1 invariant ∙ sym (held entry k (invariants_of l) t.id e.1 invariant)

less_found : (a b : ℕ) → nat_lt a b ≡ true → a < b
less_found a b e = grind arith

agrees_if : (m k : Memory) (t : Term) (ts : List Term) (b : Bool) → (b ≡ true → scalar_at m t.id ≡ scalar_at k t.id) → AllByRecursion (λ t. scalar_at m t.id ≡ scalar_at k t.id) ts
    → AllByRecursion (λ t. scalar_at m t.id ≡ scalar_at k t.id) (if b then t ∷ ts else ts)
agrees_if m k t ts true h g = (h refl, g)
agrees_if m k t ts false h g = g

agrees : (l : Loop) (entry m k : Memory) (i j : ℤ) (inner : List Inner) (ts : List Term) → AllByRecursion (IsBehind l.index.id) inner → AreAmong (names_inside (names_of l) inner) ts
    → AllByRecursion (HasValue m) (given_in l entry i) → AllByRecursion (HasValue k) (given_in l entry j)
    → AllByRecursion (λ t. scalar_at m t.id ≡ scalar_at k t.id) (invariant_terms l.index.id ts)
agrees l entry m k i j inner [] h a g e = tt
agrees l entry m k i j inner (t ∷ ts) h a g e =
    agrees_if m k t (invariant_terms l.index.id ts) (nat_lt t.id l.index.id) (λ less. one_agrees l entry m k i j inner t (less_found t.id l.index.id less) h a.0 g e) (agrees l entry m k i j inner ts h a.1 g e)

-- the cell that a plain access names is its exact value
pub found_index : (o : Option Affine) (go : Affine → Bool) → if_form o go ≡ true → (f : Affine) × (o ≡ Some f) × (go f ≡ true)
found_index None go e = cc
found_index (Some f) go e = (f, refl, e)

plain_if : (at i cell : ℕ) (b : Bool) → (if b then Ok i else trap Index at) ≡ Ok cell → i ≡ cell
plain_if at i cell true e = cc
plain_if at i cell false e = cc

plain_place : (at n cell : ℕ) (v : ℤ) → place_of false at n v ≡ Ok cell → v ≡ pos cell
plain_place at n cell (pos i) e = ap pos (plain_if at i cell (nat_lt i n) e)
plain_place at n cell (negsuc i) e = cc

named_cell : (c : Access) (m : Memory) (v : ℤ) (cell : ℕ) → c.wrap ≡ false → value_of c.index m ≡ Ok v → cell_of c m ≡ Ok cell → v ≡ pos cell
named_cell c m v cell plain value e =
    plain_place c.array.at (length (cells_of m c.array.id)) cell v
    (ap (λ w. place_of w c.array.at (length (cells_of m c.array.id)) v) (sym plain) ∙ ap (λ o. then_use o (λ i. place_of c.wrap c.array.at (length (cells_of m c.array.id)) i)) (sym value) ∙ e)

pub lies_fits : (v : ℤ) (n : ℕ) → n < 2 ^ 63 → pos 0 ≤ℤ v → v <ℤ pos n → IsI64 v
lies_fits v n few h g = omega (arith, ints)

-- what stands of a place: the inner loops lie inside, and the numbers have 64 bits
pub record IsSoundReference (index : ℕ) (x : Reference) : Type 0 where
  pub inner : AllByRecursion (IsBehind index) x.inner
  pub index_fits : IsI64Expr x.access.index

cell_is_exact : (l : Loop) (entry m : Memory) (x : Reference) (i : ℤ) (f : Affine) (cell : ℕ) → IsSoundReference l.index.id x → AreI64 entry → AreI64 m → x.access.wrap ≡ false
    → IsPossibleAt l entry x i m → LiesAt l entry x i → form_of x.access.index (names_inside (names_of l) x.inner) ≡ Some f → cell_of x.access m ≡ Ok cell
    → form_at (scalar_at m) f ≡ pos cell
cell_is_exact l entry m x i f cell sound of_entry of_m plain stands lies form e =
    let within = lies m f stands form in
    named_cell x.access m (form_at (scalar_at m) f) cell plain (exact_value x.access.index (names_inside (names_of l) x.inner) m f form sound.index_fits of_m (lies_fits (form_at (scalar_at m) f) (length (cells_of entry x.access.array.id)) (few_cells entry x.access.array.id of_entry) within.0 within.1)) e

turned : (b : Bool) → not b ≡ true → b ≡ false
turned true e = cc
turned false e = refl

-- the test speaks of forms
pub apart_forms : (shape : LoopShape) (x y : Spot) → is_apart shape x y ≡ true
    → (x.wrap ≡ false) × (y.wrap ≡ false) × ((f : Affine) × (g : Affine) × (x.form ≡ Some f) × (y.form ≡ Some g) × (are_apart shape x y f g ≡ true))
apart_forms shape x y e =
    let e1 = both_true (not x.wrap) _ e in
    let e2 = both_true (not y.wrap) _ e1.1 in
    let left = found_index x.form (λ f. if_form y.form (λ g. are_apart shape x y f g)) e2.1 in
    let right = found_index y.form (λ g. are_apart shape x y left.0 g) left.2 in
    (turned x.wrap e1.0, turned y.wrap e2.0, (left.0, right.0, left.1, right.1, right.2))

pub forms_named : (e : Expr) (names : List ℕ) (f : Affine) → form_of e names ≡ Some f → AreAmong names f.terms
forms_named e names f form = let h : IsForm names (Some f) = subst (IsForm names) form (form_is e names) in h.1

before_high : (i last high : ℤ) → i <ℤ last → last ≤ℤ high → i <ℤ high
before_high i last high h g = omega (arith, ints)

some_between : (low i last : ℤ) → low ≤ℤ i → i <ℤ last → low <ℤ last
some_between low i last h g = omega (arith, ints)

-- accesses that are told apart touch no cell both, in different iterations
pub apart_separates : (l : Loop) (entry : Memory) (low last : ℤ) (x y : Reference) → IsLoopEntry l entry low last → IsI64Expr l.low → IsI64Expr l.high → IsSoundReference l.index.id x → IsSoundReference l.index.id y
    → is_apart (shape_of l) (spot_of (names_of l) x) (spot_of (names_of l) y) ≡ true
    → (i j : ℤ) (cell : ℕ) → low ≤ℤ i → i <ℤ last → low ≤ℤ j → j <ℤ last → i ≢ j → LiesAt l entry x i → LiesAt l entry y j
    → Touches l entry x i cell → Touches l entry y j cell → ⊥
apart_separates l entry low last x y h of_low of_high sound_x sound_y apart i j cell i1 i2 j1 j2 others lies_x lies_y (m, stands_m, e) (k, stands_k, d) =
    let names = names_of l in
    let forms = apart_forms (shape_of l) (spot_of names x) (spot_of names y) apart in
    let f = forms.2.0 in
    let g = forms.2.1 in
    let left = stood entry l.index.id x.inner (given_in l entry i) names m sound_x.inner stands_m in
    let right = stood entry l.index.id y.inner (given_in l entry j) names k sound_y.inner stands_k in
    let at_m : scalar_at m l.index.id ≡ i = left.0.values.0 in
    let at_k : scalar_at k l.index.id ≡ j = right.0.values.0 in
    let bounds = fixed_of (form_of l.low names) (form_of l.high names) in
    let in_i : IsIn bounds i = between l.low l.high names entry low h.ends.0 i of_low of_high h.numbers h.begins h.ends.1 i1 (before_high i last h.ends.0 i2 (h.ends.2 (some_between low i last i1 i2))) in
    let in_j : IsIn bounds j = between l.low l.high names entry low h.ends.0 j of_low of_high h.numbers h.begins h.ends.1 j1 (before_high j last h.ends.0 j2 (h.ends.2 (some_between low j last j1 j2))) in
    let two : AreTwo (shape_of l) (spot_of names x) (spot_of names y) f (scalar_at m) (scalar_at k) = record {
      region_left = subst (IsIn bounds) (sym at_m) in_i;
      region_right = subst (IsIn bounds) (sym at_k) in_j;
      left = left.1;
      right = right.1;
      invariants = agrees l entry m k i j x.inner f.terms sound_x.inner (forms_named x.access.index (names_inside names x.inner) f forms.2.2) left.0.values right.0.values;
      others = λ same. others (sym at_m ∙ same ∙ at_k);
    } in
    apart_differ (shape_of l) (spot_of names x) (spot_of names y) f g (scalar_at m) (scalar_at k) two forms.2.4 (cell_is_exact l entry m x i f cell sound_x h.numbers left.0.numbers forms.0 stands_m lies_x forms.2.2 e ∙ sym (cell_is_exact l entry k y j g cell sound_y h.numbers right.0.numbers forms.1 stands_k lies_y forms.2.3 d))
