-- What the ties of a loop say of two of its units: units that are tied are both own or both not, and what no carried tie of an own
-- unit leaves.
use Rattle.std.proofs.Common.{◌≡◌, ◌⊎◌, inl, inr, ⊎_elim, ℕ, zero, suc, ◌<◌, ◌≤◌, ◌-◌, ◌==◌, Bool, true, false, not, ◌&&◌, ◌||◌, List, [], ◌∷◌, ◌++◌, length, map, filter, refl, sym, ap, ◌∙◌, subst, arith, if◌then◌else◌, length-append}
use Rattle.std.specs.Prelude.{nat_lt, nat_le, None, is_some, slice_index_or}
use Rattle.std.specs.List.{Contains, flat_map}
use Rattle.std.proofs.lemmas.Bool.{cases_lt}
use Rattle.std.proofs.lemmas.List.Elements.{Contains-append_left, Contains-append_right}
use Rattle.nona_tree.specs.declared.trees.Loop.{Loop}
use Rattle.nona_tree.specs.declared.trees.Stmt.{Stmt}
use Rattle.nona_forms.specs.Affine.{among}
use Rattle.nona_forms.specs.References.{Reference, references_all, assigned_all}
use Rattle.nona_plans.specs.declared.graphs.Tie.{Tie}
use Rattle.nona_plans.specs.declared.graphs.Local.{Local}
use Rattle.nona_plans.specs.Components.{up_to}
use Rattle.nona_plans.specs.Mentions.{reduction_of}
use Rattle.nona_plans.specs.Units.{named_in, arrays_in, unit_has, both_have, carried_scalars, written_arrays, has_pair, are_told_apart, may_meet, carried_arrays, locals_of, uses, share_local, unit_prints, is_carried, is_tied, tie_of, ties_without}
use Rattle.nona_plans.specs.Walks.{IsUnit}
use Rattle.nona_plans.proofs.Leading.{or_left, or_right, and_both}
use Rattle.nona_plans.proofs.Lists.{unit_among}
use Rattle.nona_fission.proofs.Untied.{any_of, in_among, in_filter, in_map, same_number, is_lt, one_less, no_and_yes, no_pair, apart_if, same_array}
use Rattle.nona_fission.specs.Fission.{Fission, MayBeApart}

-- a unit by the statements before it
unit_is : {A : Type 0} (f : Stmt → A) (d : A) (front : List Stmt) (s : Stmt) (rest : List Stmt) → slice_index_or (map f (front ++ s ∷ rest)) (length front) d ≡ f s
unit_is f d [] s rest = refl
unit_is f d (x ∷ front) s rest = unit_is f d front s rest

pub unit_at : {A : Type 0} (f : Stmt → A) (d : A) (l : Loop) (front : List Stmt) (s : Stmt) (rest : List Stmt) → l.body ≡ front ++ s ∷ rest → slice_index_or (map f l.body) (suc (length front) - 1) d ≡ f s
unit_at f d l front s rest e =
    ap (λ ss. slice_index_or (map f ss) (suc (length front) - 1) d) e ∙ ap (λ k. slice_index_or (map f (front ++ s ∷ rest)) k d) (one_less (length front)) ∙ unit_is f d front s rest

pub is_unit : (l : Loop) (front : List Stmt) (s : Stmt) (rest : List Stmt) → l.body ≡ front ++ s ∷ rest → IsUnit (length l.body) (suc (length front))
is_unit l front s rest e =
    let count = ap (λ (ss : List Stmt). length ss) e ∙ length-append front (s ∷ rest) in
    let longer : length (s ∷ rest) ≡ suc (length rest) = refl in (omega arith, omega (arith, count, longer))

-- a tie is among the ties

in_flat : {A B : Type 0} (f : A → List B) (xs : List A) (x : A) (y : B) → Contains xs x → Contains (f x) y → Contains (flat_map f xs) y
in_flat f [] x y (k, within, is) c = absurd (omega (arith, within))
in_flat f (z ∷ zs) x y (zero, within, is) c = Contains-append_left (f z) (flat_map f zs) y (subst (λ w. Contains (f w) y) (sym is) c)
in_flat f (z ∷ zs) x y (suc k, within, is) c = Contains-append_right (f z) (flat_map f zs) y (in_flat f zs x y (k, omega (arith, within), is) c)

one_tie : (b : Bool) (t : Tie) → b ≡ true → Contains (if b then t ∷ [] else []) t
one_tie true t e = (0, omega arith, refl)
one_tie false t e = cc

is_le : (u v : ℕ) → u ≤ v → nat_le u v ≡ true
is_le u v h = grind (arith, h)

tie_found : (out : List ℕ) (l : Loop) (u v : ℕ) → IsUnit (length l.body) u → IsUnit (length l.body) v → u ≤ v → is_tied out l u v ≡ true
    → Contains (ties_without out l) (record { first = u; second = v; carried = is_carried out l u v })
tie_found out l u v unit_u unit_v below e =
    let units = up_to (length l.body) in
    let t : Tie = record { first = u; second = v; carried = is_carried out l u v } in
    in_flat (λ i. flat_map (tie_of out l i) (filter (λ j. nat_le i j) units)) units u t (in_among u units (unit_among (length l.body) u unit_u))
    (in_flat (tie_of out l u) (filter (λ j. nat_le u j) units) v t (in_filter (λ j. nat_le u j) units v (in_among v units (unit_among (length l.body) v unit_v)) (is_le u v below))
    (one_tie (is_tied out l u v) t e))

-- tied units are both own or both not
pub together : (s : Fission) → MayBeApart s → (u v : ℕ) → IsUnit (length s.sharing.entry.looped.body) u → IsUnit (length s.sharing.entry.looped.body) v
    → is_tied s.folded s.sharing.entry.looped u v ≡ true → is_tied s.folded s.sharing.entry.looped v u ≡ true → s.own u ≡ s.own v
together s h u v unit_u unit_v e g =
    ⊎_elim (λ (below : u < v). h.closed _ (tie_found s.folded s.sharing.entry.looped u v unit_u unit_v (omega (arith, below)) e))
    (λ (above : v ≤ u). sym (h.closed _ (tie_found s.folded s.sharing.entry.looped v u unit_v unit_u above g)))
    (cases_lt u v)

own_and_other : (s : Fission) (u v : ℕ) → s.own u ≡ s.own v → s.own u ≡ true → s.own v ≡ false → ⊥
own_and_other s u v same own other = let no : true ≡ false = sym own ∙ same ∙ other in cc

-- no carried tie but for those by copied arrays has an own unit
abbrev pub IsFree : Fission → Type 0
IsFree s = (t : Tie) → Contains (ties_without s.folded s.sharing.entry.looped) t → s.own t.first ≡ true → t.carried ≡ false

no_carried : (s : Fission) → IsFree s → (u : ℕ) → IsUnit (length s.sharing.entry.looped.body) u → s.own u ≡ true → is_carried s.folded s.sharing.entry.looped u u ≡ true → ⊥
no_carried s free u unit own e =
    let l = s.sharing.entry.looped in
    no_and_yes (is_carried s.folded l u u) e (free _ (tie_found s.folded l u u unit unit (omega arith) (or_left (is_carried s.folded l u u) _ e)) own)

both_found : (list : Stmt → List ℕ) (l : Loop) (u v id : ℕ) (ids : List ℕ) → Contains ids id → unit_has list l u id ≡ true → unit_has list l v id ≡ true → both_have list l u v ids ≡ true
both_found list l u v id ids c first second =
    any_of (λ i. unit_has list l u i && unit_has list l v i) ids id c (and_both (unit_has list l u id) (unit_has list l v id) first second)

-- scalars from outside

carried_scalar : (l : Loop) (x : ℕ) → Contains (assigned_all l.body) x → x < l.index.id → reduction_of l x ≡ None → Contains (carried_scalars l) x
carried_scalar l x c below none =
    in_filter (λ i. nat_lt i l.index.id && not (is_some (reduction_of l i))) (assigned_all l.body) x c
    (and_both (nat_lt x l.index.id) (not (is_some (reduction_of l x))) (is_lt x l.index.id below) (ap (λ o. not (is_some o)) none))

scalar_carries : (out : List ℕ) (l : Loop) (u v x : ℕ) → Contains (carried_scalars l) x → unit_has named_in l u x ≡ true → unit_has named_in l v x ≡ true → is_carried out l u v ≡ true
scalar_carries out l u v x c first second = or_left (both_have named_in l u v (carried_scalars l)) _ (both_found named_in l u v x (carried_scalars l) c first second)

-- an own unit and another don't name one that the body assigns and that is no reduction
pub scalar_apart : (s : Fission) → MayBeApart s → (u v x : ℕ) → IsUnit (length s.sharing.entry.looped.body) u → IsUnit (length s.sharing.entry.looped.body) v → s.own u ≡ true → s.own v ≡ false
    → unit_has named_in s.sharing.entry.looped u x ≡ true → unit_has named_in s.sharing.entry.looped v x ≡ true → Contains (assigned_all s.sharing.entry.looped.body) x → x < s.sharing.entry.looped.index.id → reduction_of s.sharing.entry.looped x ≡ None → ⊥
scalar_apart s h u v x unit_u unit_v own other first second c below none =
    let l = s.sharing.entry.looped in
    let carried = carried_scalar l x c below none in
    own_and_other s u v (together s h u v unit_u unit_v (or_left (is_carried s.folded l u v) _ (scalar_carries s.folded l u v x carried first second)) (or_left (is_carried s.folded l v u) _ (scalar_carries s.folded l v u x carried second first))) own other

pub no_carried_scalar : (s : Fission) → IsFree s → (u x : ℕ) → IsUnit (length s.sharing.entry.looped.body) u → s.own u ≡ true
    → unit_has named_in s.sharing.entry.looped u x ≡ true → Contains (assigned_all s.sharing.entry.looped.body) x → x < s.sharing.entry.looped.index.id → reduction_of s.sharing.entry.looped x ≡ None → ⊥
no_carried_scalar s free u x unit own has c below none =
    let l = s.sharing.entry.looped in no_carried s free u unit own (scalar_carries s.folded l u u x (carried_scalar l x c below none) has has)

-- locals that are assigned

-- a unit declares a local or uses it
abbrev pub IsUser : Loop → Local → ℕ → Type 0
IsUser l w u = ((u == w.unit) || uses l w u) ≡ true

local_shared : (l : Loop) (u v : ℕ) (w : Local) → Contains (locals_of l) w → w.assigned ≡ true → IsUser l w u → IsUser l w v → share_local l u v ≡ true
local_shared l u v w c e first second =
    any_of (λ x. x.assigned && (((u == x.unit) || uses l x u) && ((v == x.unit) || uses l x v))) (locals_of l) w c
    (and_both w.assigned _ e (and_both ((u == w.unit) || uses l w u) ((v == w.unit) || uses l w v) first second))

tied_by_local : (out : List ℕ) (l : Loop) (u v : ℕ) → share_local l u v ≡ true → is_tied out l u v ≡ true
tied_by_local out l u v e = or_right (is_carried out l u v) _ (or_right (both_have arrays_in l u v (written_arrays out l)) (share_local l u v) e)

pub local_apart : (s : Fission) → MayBeApart s → (u v : ℕ) (w : Local) → IsUnit (length s.sharing.entry.looped.body) u → IsUnit (length s.sharing.entry.looped.body) v → s.own u ≡ true → s.own v ≡ false
    → Contains (locals_of s.sharing.entry.looped) w → w.assigned ≡ true → IsUser s.sharing.entry.looped w u → IsUser s.sharing.entry.looped w v → ⊥
local_apart s h u v w unit_u unit_v own other c e first second =
    let l = s.sharing.entry.looped in
    own_and_other s u v (together s h u v unit_u unit_v (tied_by_local s.folded l u v (local_shared l u v w c e first second)) (tied_by_local s.folded l v u (local_shared l v u w c e second first))) own other

-- arrays

written_array : (out : List ℕ) (l : Loop) (x : Reference) → Contains (references_all l.body) x → x.write ≡ true → among x.access.array.id out ≡ false → Contains (written_arrays out l) x.access.array.id
written_array out l x c writes plain =
    in_filter (λ i. not (among i out)) _ x.access.array.id (in_map (λ (y : Reference). y.access.array.id) (filter (λ y. y.write) (references_all l.body)) x (in_filter (λ y. y.write) (references_all l.body) x c writes)) (ap not plain)

tied_by_array : (out : List ℕ) (l : Loop) (u v a : ℕ) → Contains (written_arrays out l) a → unit_has arrays_in l u a ≡ true → unit_has arrays_in l v a ≡ true → is_tied out l u v ≡ true
tied_by_array out l u v a c first second =
    or_right (is_carried out l u v) _ (or_left (both_have arrays_in l u v (written_arrays out l)) _ (both_found arrays_in l u v a (written_arrays out l) c first second))

pub array_apart : (s : Fission) → MayBeApart s → (u v : ℕ) (x : Reference) → IsUnit (length s.sharing.entry.looped.body) u → IsUnit (length s.sharing.entry.looped.body) v → s.own u ≡ true → s.own v ≡ false
    → Contains (references_all s.sharing.entry.looped.body) x → x.write ≡ true → among x.access.array.id s.folded ≡ false → unit_has arrays_in s.sharing.entry.looped u x.access.array.id ≡ true → unit_has arrays_in s.sharing.entry.looped v x.access.array.id ≡ true → ⊥
array_apart s h u v x unit_u unit_v own other c writes plain first second =
    let l = s.sharing.entry.looped in
    let a = x.access.array.id in
    let written = written_array s.folded l x c writes plain in
    own_and_other s u v (together s h u v unit_u unit_v (tied_by_array s.folded l u v a written first second) (tied_by_array s.folded l v u a written second first)) own other

no_pairs : (s : Fission) → IsFree s → (u : ℕ) (x : Reference) (b : Bool) → has_pair (may_meet s.sharing.entry.looped x.access.array.id) (references_all s.sharing.entry.looped.body) ≡ b → IsUnit (length s.sharing.entry.looped.body) u → s.own u ≡ true
    → unit_has arrays_in s.sharing.entry.looped u x.access.array.id ≡ true → Contains (references_all s.sharing.entry.looped.body) x → x.write ≡ true → among x.access.array.id s.folded ≡ false → b ≡ false
no_pairs s free u x false e unit own has c writes plain = refl
no_pairs s free u x true e unit own has c writes plain =
    let l = s.sharing.entry.looped in
    let a = x.access.array.id in
    let carried : Contains (carried_arrays s.folded l) a = in_filter (λ i. has_pair (may_meet l i) (references_all l.body)) (written_arrays s.folded l) a (written_array s.folded l x c writes plain) e in
    absurd (no_carried s free u unit own (or_right (both_have named_in l u u (carried_scalars l)) _ (or_left (both_have arrays_in l u u (carried_arrays s.folded l)) _ (both_found arrays_in l u u a (carried_arrays s.folded l) carried has has))))

-- two accesses of an array without copies that an own unit has, the first of which writes, are told apart in one order
pub own_told_apart : (s : Fission) → IsFree s → (u : ℕ) (x y : Reference) → IsUnit (length s.sharing.entry.looped.body) u → s.own u ≡ true → unit_has arrays_in s.sharing.entry.looped u x.access.array.id ≡ true
    → Contains (references_all s.sharing.entry.looped.body) x → Contains (references_all s.sharing.entry.looped.body) y → x.write ≡ true → among x.access.array.id s.folded ≡ false → x.access.array.id ≡ y.access.array.id
    → (are_told_apart s.sharing.entry.looped x y ≡ true) ⊎ (are_told_apart s.sharing.entry.looped y x ≡ true)
own_told_apart s free u x y unit own has c d writes plain same =
    let l = s.sharing.entry.looped in
    let a = x.access.array.id in
    let none = no_pairs s free u x (has_pair (may_meet l a) (references_all l.body)) refl unit own has c writes plain in
    ⊎_elim
    (λ (e : may_meet l a x y ≡ false). inl (apart_if (a == a) (y.access.array.id == a) (x.write || y.write) (are_told_apart l x y) (same_number a) (same_array y.access.array.id a (sym same)) (or_left x.write y.write writes) e))
    (λ (e : may_meet l a y x ≡ false). inr (apart_if (y.access.array.id == a) (a == a) (y.write || x.write) (are_told_apart l y x) (same_array y.access.array.id a (sym same)) (same_number a) (or_right y.write x.write writes) e))
    (no_pair (may_meet l a) (references_all l.body) x y c d none)

-- printing

pub no_printing : (s : Fission) → IsFree s → (u : ℕ) → IsUnit (length s.sharing.entry.looped.body) u → s.own u ≡ true → unit_prints s.sharing.entry.looped u ≡ true → ⊥
no_printing s free u unit own e =
    let l = s.sharing.entry.looped in
    no_carried s free u unit own (or_right (both_have named_in l u u (carried_scalars l)) _ (or_right (both_have arrays_in l u u (carried_arrays s.folded l)) _ (and_both (unit_prints l u) (unit_prints l u) e e)))
