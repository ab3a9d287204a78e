-- What a list's map has, where one more name is declared and where the newest one goes.
use Rattle.std.proofs.Common.{◌≡◌, ⊎_elim, ℕ, ◌+◌, ◌-◌, ◌<◌, ◌≤◌, min, max, take, get_or, Bool, true, false, cond, ◌||◌, ◌&&◌, List, [], ◌∷◌, ◌++◌, length, Vec, None, Some, is_some, position, refl, sym, ap, ◌∙◌, subst, arith}
use Rattle.std.specs.declared.option.Option.{Option}
use Rattle.std.specs.declared.alloc.Global.{Global}
use Rattle.std.specs.Option.{option_map}
use Rattle.std.specs.List.{list_any, position_from}
use Rattle.std.specs.Str.{bytes_eq}
use Rattle.std.specs.BTreeMap.{BTreeMap, UpdatesBy, is_at}
use Rattle.std.specs.Map.{lookup, KeepsOthers, IsKeyTest, AreApart}
use Rattle.std.specs.Cmp.Lexicographic.{slice_cmp}
use Rattle.std.specs.Ordering.{nat_cmp, is_eq, eq_by_cmp}
use Rattle.std.specs.declared.cmp.Ordering.{Ordering}
use Rattle.std.proofs.lemmas.List.{take_more, take_min}
use Rattle.std.proofs.lemmas.Bool.{cases_Bool, or_parts, or_from, true≢false, cond-true, cond-false}
use Rattle.std.proofs.lemmas.Cmp.{nat_list_eq_equiv, nat_list_cmp_total, eq_by_cmp_equiv}
use Rattle.std.proofs.lemmas.Option.{none-some, same_Some}
use Rattle.std.proofs.lemmas.Map.Text.{is_eq-slice_cmp}
use Rattle.std.proofs.lemmas.Iterator.Adapters.{position_from-zero}
use Rattle.std.proofs.lemmas.List.Folds.{list_any-append}
use Rattle.std.proofs.lemmas.Slice.Eq.{bytes_eq-Decides}
use Rattle.nona_tree.specs.Names.{Visible, id_of, is_index}
use Rattle.nona_check.specs.declared.names.Known.{Known}
use Rattle.nona_check.specs.Known.{names_of, known_of, at_name, Agrees, is_visible, AreDistinct}

-- ---- places

from_push : {X : Type 0} (p : X → Bool) (i : ℕ) (xs : List X) (y : X) → list_any p xs ≡ false
    → position_from p i (xs ++ y ∷ []) ≡ cond (p y) (Some (i + length xs)) None
from_push p i [] y none = ap (λ n. cond (p y) (Some n) None) (omega arith)
from_push p i (x ∷ xs) y none =
    let parts = or_parts (p x) (list_any p xs) none in
    cond-false (p x) (Some i) (position_from p (i + 1) (xs ++ y ∷ [])) parts.0 ∙ from_push p (i + 1) xs y parts.1
    ∙ ap (λ n. cond (p y) (Some n) None) (omega arith)

from_more : {X : Type 0} (p : X → Bool) (i : ℕ) (xs : List X) (y : X) → p y ≡ false → position_from p i (xs ++ y ∷ []) ≡ position_from p i xs
from_more p i [] y other = cond-false (p y) (Some i) None other
from_more p i (x ∷ xs) y other = ap (λ o. cond (p x) (Some i) o) (from_more p (i + 1) xs y other)

from_any : {X : Type 0} (p : X → Bool) (i : ℕ) (xs : List X) → is_some (position_from p i xs) ≡ list_any p xs
from_any p i [] = refl
from_any p i (x ∷ xs) =
    elim (p x) as (λ b. is_some (cond b (Some i) (position_from p (i + 1) xs)) ≡ (b || list_any p xs)) [ true ↦ refl | false ↦ from_any p (i + 1) xs ]

place : {X : Type 0} (p : X → Bool) (xs : List X) → position p xs ≡ position_from p 0 xs
place p xs = position_from-zero p xs

-- the name of a scalar is visible where it has an id
pub seen : (name : List ℕ) (vs : List Visible) → is_some (id_of name vs) ≡ is_visible name vs
seen name vs = ap is_some (place (λ v. bytes_eq v.name name) vs) ∙ from_any (λ v. bytes_eq v.name name) 0 vs

-- ---- one more scalar

unseen_no_index : (name : List ℕ) (vs : List Visible) → is_visible name vs ≡ false → is_index name vs ≡ false
unseen_no_index name [] none = refl
unseen_no_index name (v ∷ vs) none =
    let parts = or_parts (bytes_eq v.name name) (is_visible name vs) none in
    or_from _ _ (ap (λ b. b && v.index) parts.0) (unseen_no_index name vs parts.1)

or_none : (b : Bool) → (b || false) ≡ b
or_none true = refl
or_none false = refl

newest : (v : Visible) (vs : List Visible) (name : List ℕ) → is_visible name vs ≡ false → bytes_eq v.name name ≡ true
    → known_of name (vs ++ v ∷ []) ≡ Some (record { id = length vs; index = v.index })
newest v vs name none here =
    let p : Visible → Bool = λ u. bytes_eq u.name name in
    let q : Visible → Bool = λ u. bytes_eq u.name name && u.index in
    let id : id_of name (vs ++ v ∷ []) ≡ Some (length vs) =
    place p (vs ++ v ∷ []) ∙ from_push p 0 vs v none ∙ cond-true (p v) (Some (0 + length vs)) None here ∙ ap Some (omega arith) in
    let index : is_index name (vs ++ v ∷ []) ≡ v.index =
    list_any-append q vs (v ∷ []) ∙ ap (λ b. b || list_any q (v ∷ [])) (unseen_no_index name vs none)
    ∙ ap (λ b. (b && v.index) || false) here ∙ or_none v.index in
    λ i. option_map (λ n. record { id = n; index = index i }) (id i)

older : (v : Visible) (vs : List Visible) (name : List ℕ) → bytes_eq v.name name ≡ false
    → known_of name (vs ++ v ∷ []) ≡ known_of name vs
older v vs name other =
    let p : Visible → Bool = λ u. bytes_eq u.name name in
    let q : Visible → Bool = λ u. bytes_eq u.name name && u.index in
    let id : id_of name (vs ++ v ∷ []) ≡ id_of name vs = place p (vs ++ v ∷ []) ∙ from_more p 0 vs v other ∙ sym (place p vs) in
    let index : is_index name (vs ++ v ∷ []) ≡ is_index name vs =
    list_any-append q vs (v ∷ []) ∙ ap (λ b. list_any q vs || ((b && v.index) || false)) other ∙ or_none (list_any q vs) in
    λ i. option_map (λ n. record { id = n; index = index i }) (id i)

none_at : (o : Option ℕ) (b : Bool) → is_some o ≡ false → option_map (λ n. let r : Known = record { id = n; index = b } in r) o ≡ None
none_at None b e = refl
none_at (Some n) b e = absurd (true≢false e)

unknown : (name : List ℕ) (vs : List Visible) → is_visible name vs ≡ false → known_of name vs ≡ None
unknown name vs none = none_at (id_of name vs) (is_index name vs) (seen name vs ∙ none)

-- what is known where one more scalar is visible
pub known_push : (v : Visible) (vs : List Visible) → is_visible v.name vs ≡ false → (name : List ℕ)
    → known_of name (vs ++ v ∷ []) ≡ cond (bytes_eq v.name name) (Some (record { id = length vs; index = v.index })) (known_of name vs)
known_push v vs none name =
    let new : Option Known = Some (record { id = length vs; index = v.index }) in
    ⊎_elim
    (λ here. newest v vs name (subst (λ l. is_visible l vs ≡ false) ((bytes_eq-Decides v.name name).0 here) none) here
    ∙ sym (cond-true (bytes_eq v.name name) new (known_of name vs) here))
    (λ other. older v vs name other ∙ sym (cond-false (bytes_eq v.name name) new (known_of name vs) other))
    (cases_Bool (bytes_eq v.name name))

pub distinct_push : (v : Visible) (vs : List Visible) → is_visible v.name vs ≡ false → AreDistinct vs → AreDistinct (vs ++ v ∷ [])
distinct_push v [] none h = (refl, tt)
distinct_push v (u ∷ vs) none h =
    let parts = or_parts (bytes_eq u.name v.name) (is_visible v.name vs) none in
    let flip : bytes_eq v.name u.name ≡ bytes_eq u.name v.name = nat_list_eq_equiv.symm v.name u.name in (
      list_any-append (λ w. bytes_eq w.name u.name) vs (v ∷ [])
          ∙ or_from (is_visible u.name vs) _ h.0 (or_from (bytes_eq v.name u.name) false (flip ∙ parts.0) refl),
      distinct_push v vs parts.1 h.1,
    )

pub distinct_pop : (v : Visible) (vs : List Visible) → AreDistinct (vs ++ v ∷ []) → AreDistinct vs × (is_visible v.name vs ≡ false)
distinct_pop v [] h = (tt, refl)
distinct_pop v (u ∷ vs) h =
    let rest = distinct_pop v vs h.1 in
    let parts = or_parts (is_visible u.name vs) (bytes_eq v.name u.name || false)
    (sym (list_any-append (λ w. bytes_eq w.name u.name) vs (v ∷ [])) ∙ h.0) in
    let flip : bytes_eq u.name v.name ≡ bytes_eq v.name u.name = nat_list_eq_equiv.symm u.name v.name in
    ((parts.0, rest.0), or_from (bytes_eq u.name v.name) (is_visible v.name vs) (flip ∙ (or_parts (bytes_eq v.name u.name) false parts.1).0) rest.1)

-- ---- the map

other_entries : {K X : Type 0} (eq : K → K → Bool) (test other : K → Bool) (old new : List (K × X))
    → KeepsOthers eq test old new → IsKeyTest eq other → AreApart test other → lookup other new ≡ lookup other old
unfolding KeepsOthers
other_entries eq test other old new h one apart = h other one apart

apart : (bs cs ks : List ℕ) → bytes_eq bs cs ≡ false → is_eq (slice_cmp nat_cmp bs ks) ≡ true → is_eq (slice_cmp nat_cmp cs ks) ≡ false
apart bs cs ks differ here =
    is_eq-slice_cmp cs ks ∙ nat_list_eq_equiv.symm cs ks
    ∙ sym (nat_list_eq_equiv.congr bs ks cs (sym (is_eq-slice_cmp bs ks) ∙ here)) ∙ differ

-- keys in the order of their bytes
abbrev key_cmp : Vec ℕ Global → Vec ℕ Global → Ordering
key_cmp x y = slice_cmp nat_cmp x.items y.items

-- what a map has at any name, after a change at the bytes bs
after_update : (bs : List ℕ) (m n : BTreeMap (Vec ℕ Global) Known) (w : Option Known)
    → UpdatesBy key_cmp (λ k. slice_cmp nat_cmp bs k.items) m n w → (name : List ℕ) → at_name name n ≡ cond (bytes_eq bs name) w (at_name name m)
after_update bs m n w h name =
    ⊎_elim
    (λ here. subst (λ l. at_name l n ≡ w) ((bytes_eq-Decides bs name).0 here) h.1 ∙ sym (cond-true (bytes_eq bs name) w (at_name name m) here))
    (λ other. other_entries (eq_by_cmp key_cmp) (is_at (λ k. slice_cmp nat_cmp bs k.items)) (is_at (λ k. slice_cmp nat_cmp name k.items)) m.entries n.entries h.3
    (λ x y. (eq_by_cmp_equiv nat_list_cmp_total).congr name x.items y.items)
    (λ k. apart bs name k.items other)
    ∙ sym (cond-false (bytes_eq bs name) w (at_name name m) other))
    (cases_Bool (bytes_eq bs name))

-- a map that has the new scalar too agrees with the longer list
pub agrees_push : (m n : BTreeMap (Vec ℕ Global) Known) (v : Visible) (vs : List Visible) (bs : List ℕ) (id : ℕ) → bs ≡ v.name → id ≡ length vs
    → is_visible v.name vs ≡ false → Agrees m vs
    → UpdatesBy key_cmp (λ k. slice_cmp nat_cmp bs k.items) m n (Some (record { id = id; index = v.index })) → Agrees n (vs ++ v ∷ [])
agrees_push m n v vs bs id same count none agrees h name =
    let made : ℕ → Option Known = λ i. Some (record { id = i; index = v.index }) in
    after_update bs m n (made id) h name ∙ ap (λ o. cond (bytes_eq bs name) (made id) o) (agrees name)
    ∙ ap (λ l. cond (bytes_eq l name) (made id) (known_of name vs)) same
    ∙ ap (λ i. cond (bytes_eq v.name name) (made i) (known_of name vs)) count
    ∙ sym (known_push v vs none name)

-- a map that has lost the newest scalar agrees with the shorter list
pub agrees_pop : (m n : BTreeMap (Vec ℕ Global) Known) (v : Visible) (vs : List Visible) (bs : List ℕ) → bs ≡ v.name
    → is_visible v.name vs ≡ false → Agrees m (vs ++ v ∷ []) → UpdatesBy key_cmp (λ k. slice_cmp nat_cmp bs k.items) m n None → Agrees n vs
agrees_pop m n v vs bs same none agrees h name =
    after_update bs m n None h name ∙ ap (λ l. cond (bytes_eq l name) None (at_name name m)) same
    ∙ ⊎_elim
    (λ here. cond-true (bytes_eq v.name name) None (at_name name m) here
    ∙ sym (unknown name vs (subst (λ l. is_visible l vs ≡ false) ((bytes_eq-Decides v.name name).0 here) none)))
    (λ other. cond-false (bytes_eq v.name name) None (at_name name m) other ∙ agrees name ∙ older v vs name other)
    (cases_Bool (bytes_eq v.name name))

-- ---- look-ups

found_in : (o : Option ℕ) (b : Bool) (k : Known) → option_map (λ n. let r : Known = record { id = n; index = b } in r) o ≡ Some k → (o ≡ Some k.id) × (b ≡ k.index)
found_in None b k e = absurd (none-some k e)
found_in (Some n) b k e = let same : record { id = n; index = b } ≡ k = same_Some _ k e in (ap (λ (r : Known). Some r.id) same, ap (λ (r : Known). r.index) same)

-- where something is known of a name
pub found : (name : List ℕ) (vs : List Visible) (k : Known) → known_of name vs ≡ Some k → (id_of name vs ≡ Some k.id) × (is_index name vs ≡ k.index)
found name vs k e = found_in (id_of name vs) (is_index name vs) k e

lost_in : (o : Option ℕ) (b : Bool) → option_map (λ n. let r : Known = record { id = n; index = b } in r) o ≡ None → o ≡ None
lost_in None b e = refl
lost_in (Some n) b e = absurd (none-some _ (sym e))

-- where nothing is known of a name
pub lost : (name : List ℕ) (vs : List Visible) → known_of name vs ≡ None → (id_of name vs ≡ None) × (is_index name vs ≡ false)
lost name vs e =
    let none : id_of name vs ≡ None = lost_in (id_of name vs) (is_index name vs) e in
    (none, unseen_no_index name vs (sym (seen name vs) ∙ ap is_some none))

-- a name without an id isn't visible
pub unseen : (name : List ℕ) (vs : List Visible) → id_of name vs ≡ None → is_visible name vs ≡ false
unseen name vs none = sym (seen name vs) ∙ ap is_some none

-- ---- words alone

words_from : (name : List ℕ) (i : ℕ) (vs : List Visible) → position_from (λ other. bytes_eq other name) i (names_of vs) ≡ position_from (λ v. bytes_eq v.name name) i vs
words_from name i [] = refl
words_from name i (v ∷ vs) = ap (λ o. cond (bytes_eq v.name name) (Some i) o) (words_from name (i + 1) vs)

-- a name has the same id among the words alone
pub id_in_words : (name : List ℕ) (vs : List Visible) → position (λ other. bytes_eq other name) (names_of vs) ≡ id_of name vs
id_in_words name vs = place _ (names_of vs) ∙ words_from name 0 vs ∙ sym (place _ vs)

no_id : (o : Option ℕ) → is_some o ≡ false → o ≡ None
no_id None h = refl
no_id (Some n) h = absurd (true≢false h)

-- a name that isn't among the words has no id
pub no_id_in_words : (name : List ℕ) (vs : List Visible) → is_some (position (λ other. bytes_eq other name) (names_of vs)) ≡ false → id_of name vs ≡ None
no_id_in_words name vs h = sym (id_in_words name vs) ∙ no_id _ h

-- ---- the first names

-- one of the first names goes
pub one_less : (vs now new : List Visible) (k count : ℕ) → count ≤ k → k < length vs → now ≡ take (length vs - (k - count)) vs
    → ((older : List Visible) (v : Visible) → now ≡ older ++ v ∷ [] → new ≡ older) → new ≡ take (length vs - (k + 1 - count)) vs
one_less vs now new k count low below is h =
    let none : Visible = record { name = []; index = false } in
    let m : ℕ = length vs - (k + 1 - count) in
    let more : length vs - (k - count) ≡ m + 1 = omega arith in
    h (take m vs) (get_or vs m none) (is ∙ ap (λ n. take n vs) more ∙ take_more vs m none (omega arith))

-- those that are left in the end
pub first_left : (vs : List Visible) (k count : ℕ) → count ≤ k → length vs ≤ k → k ≤ max count (length vs) → take (length vs - (k - count)) vs ≡ take count vs
first_left vs k count low end high = ap (λ n. take n vs) (let e : length vs - (k - count) ≡ min count (length vs) = omega arith in e) ∙ take_min count vs
