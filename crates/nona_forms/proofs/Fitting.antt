-- Where the guard holds, a calm body is done.
use Rattle.std.proofs.Common.{◌≡◌, ℕ, zero, suc, ◌<◌, ◌^◌, ◌&&◌, Bool, true, false, not, ℤ, pos, negsuc, ◌≤ℤ◌, ◌<ℤ◌, List, [], ◌∷◌, length, refl, sym, ap, ◌∙◌, subst, arith, if◌then◌else◌, Some, nat_lt}
use Rattle.std.proofs.lemmas.Int.{ints}
use Rattle.std.specs.Int.{int_rem_euclid}
use Rattle.std.specs.List.{AllByRecursion}
use Rattle.std.specs.Prelude.{Ok, int_lt, int_le, unsigned_abs}
use Rattle.nona_num.specs.declared.range.Range.{Range}
use Rattle.nona_num.specs.Ranges.{Holds}
use Rattle.nona_num.specs.Numbers.{neg_of, div_of, rem_of}
use Rattle.nona_tree.specs.declared.outcomes.TrapKind.TheVariants.{Index, Divide}
use Rattle.nona_tree.specs.declared.trees.Op.{Op}
use Rattle.nona_tree.specs.declared.trees.Op.TheVariants as op
use Rattle.nona_tree.specs.declared.trees.Expr.{Expr, Number, Scalar, Cell', Len, Neg', Not', Binary', more_of-Expr, end_of-Expr}
use Rattle.nona_tree.specs.declared.trees.Expr.TheBlock.{more_of-Access, end_of-Access}
use Rattle.nona_tree.specs.Memory.{Memory, scalar_at, cells_of}
use Rattle.nona_tree.specs.Numbers.{IsI64, AreI64, IsI64Expr}
use Rattle.nona_tree.specs.Deeds.{SameSizes}
use Rattle.nona_tree.specs.Value.{Answer, then_use, trap, apply, is_zero, from_test, place_of, value_of}
use Rattle.nona_forms.specs.declared.terms.Term.{Term}
use Rattle.nona_forms.specs.Affine.{Affine, form_at, form_of, among}
use Rattle.nona_forms.specs.Verdicts.{if_form}
use Rattle.nona_forms.specs.Calm.{is_division, is_divisor, is_plain, is_calm_expr}
use Rattle.nona_forms.specs.Guards.{lies_in, fits_place, fits_expr}
use Rattle.nona_forms.specs.Boxes.{box, point, form_range}
use Rattle.nona_forms.proofs.FormValues.{one_value}
use Rattle.nona_forms.proofs.Named.{AreAmong}
use Rattle.nona_forms.proofs.InBoxes.{both_true, sum_holds, box_holds}
use Rattle.nona_forms.proofs.Exact.{exact_value, few_cells}
use Rattle.nona_forms.proofs.Separate.{found_index, forms_named}

-- a store like that of the entry, whose scalars with these names lie in their ranges
pub record IsWithin (entry : Memory) (names : List ℕ) (ranges : ℕ → Range) (m : Memory) : Type 0 where
  pub numbers : AreI64 m
  pub sizes : SameSizes entry m
  pub there : (id : ℕ) → among id names ≡ true → id < length m.scalars
  pub ranged : (id : ℕ) → among id names ≡ true → Holds (ranges id) (scalar_at m id)

-- an answer is a value
abbrev pub HasValue : Answer → Type 0
HasValue o = (v : ℤ) × (o ≡ Ok v)

-- the exact value of a form lies in its range
terms_ranged : (names : List ℕ) (ranges : ℕ → Range) (s : ℕ → ℤ) → ((id : ℕ) → among id names ≡ true → Holds (ranges id) (s id)) → (ts : List Term) → AreAmong names ts
    → AllByRecursion (λ t. Holds (ranges t.id) (s t.id)) ts
terms_ranged names ranges s h [] a = tt
terms_ranged names ranges s h (t ∷ ts) a = (h t.id a.0, terms_ranged names ranges s h ts a.1)

pub at_point : (v : ℤ) → Holds (point v) v
at_point v = (omega (arith, ints), omega (arith, ints))

pub form_ranged : (e : Expr) (names : List ℕ) (ranges : ℕ → Range) (f : Affine) (s : ℕ → ℤ) → form_of e names ≡ Some f → ((id : ℕ) → among id names ≡ true → Holds (ranges id) (s id))
    → Holds (form_range ranges f) (form_at s f)
form_ranged e names ranges f s form h =
    sum_holds (point f.constant) (box ranges f.terms) f.constant _ (at_point f.constant) (box_holds ranges s f.terms (terms_ranged names ranges s h f.terms (forms_named e names f form)))

-- values, one after another
use_value : (o : Answer) (go : ℤ → Answer) → HasValue o → ((v : ℤ) → o ≡ Ok v → HasValue (go v)) → HasValue (then_use o go)
use_value o go (v, e) h = subst (λ x. HasValue (then_use x go)) (sym e) (h v e)

-- the place of an access that fits
abbrev FindsPlace : Bool → ℕ → ℕ → ℤ → Type 0
FindsPlace wrap at count v = (cell : ℕ) × (place_of wrap at count v ≡ Ok cell)

below_is : (i count : ℕ) → pos i <ℤ pos count → nat_lt i count ≡ true
below_is i count h = grind (arith, ints)

within_place : (at count i : ℕ) (b : Bool) → b ≡ true → (if b then Ok i else trap Index at) ≡ Ok i
within_place at count i true h = refl
within_place at count i false h = cc

low_enough : (low v : ℤ) → int_le (pos 0) low ≡ true → low ≤ℤ v → pos 0 ≤ℤ v
low_enough low v e h = omega (arith, ints)

high_enough : (high v : ℤ) (count : ℕ) → int_lt high (pos count) ≡ true → v ≤ℤ high → v <ℤ pos count
high_enough high v count e h = omega (arith, ints)

some_cell : (count : ℕ) → nat_lt 0 count ≡ true → 0 < count
some_cell count e = grind arith

turned : (b : Bool) → not b ≡ true → b ≡ false
turned true e = cc
turned false e = refl

use_place : (wrap : Bool) (at count : ℕ) (v : ℤ) (go : ℕ → Answer) → FindsPlace wrap at count v → ((cell : ℕ) → HasValue (go cell)) → HasValue (then_use (place_of wrap at count v) go)
use_place wrap at count v go (cell, e) h = subst (λ o. HasValue (then_use o go)) (sym e) (h cell)

plain_found : (at count : ℕ) (v : ℤ) → pos 0 ≤ℤ v → v <ℤ pos count → FindsPlace false at count v
plain_found at count (pos i) h g = (i, within_place at count i (nat_lt i count) (below_is i count g))
plain_found at count (negsuc i) h g = absurd (omega (arith, ints, h))

wrap_found : (at count : ℕ) (v : ℤ) → 0 < count → FindsPlace true at count v
wrap_found at zero v h = absurd (omega (arith, h))
wrap_found at (suc k) v h = (unsigned_abs (int_rem_euclid v (pos (suc k))), refl)

pub in_cells : (r : Range) (v : ℤ) (count : ℕ) → lies_in r count ≡ true → Holds r v → (pos 0 ≤ℤ v) × (v <ℤ pos count)
in_cells r v count e h =
    let both = both_true (int_le (pos 0) r.low) (int_lt r.high (pos count)) e in
    (low_enough r.low v both.0 h.0, high_enough r.high v count both.1 h.1)

cells_fit : (v : ℤ) (count : ℕ) → count < 2 ^ 63 → pos 0 ≤ℤ v → v <ℤ pos count → IsI64 v
cells_fit v count few h g = omega (arith, ints)

-- a plain index that fits
plain_fits : (entry m : Memory) (names : List ℕ) (ranges : ℕ → Range) (e : Expr) (id : ℕ) (v : ℤ) → IsWithin entry names ranges m → IsI64Expr e
    → if_form (form_of e names) (λ f. lies_in (form_range ranges f) (length (cells_of entry id))) ≡ true → value_of e m ≡ Ok v
    → (pos 0 ≤ℤ v) × (v <ℤ pos (length (cells_of m id)))
plain_fits entry m names ranges e id v w written fits value =
    let found = found_index (form_of e names) (λ f. lies_in (form_range ranges f) (length (cells_of entry id))) fits in
    let f = found.0 in
    let within = in_cells (form_range ranges f) (form_at (scalar_at m) f) (length (cells_of entry id)) found.2 (form_ranged e names ranges f (scalar_at m) found.1 w.ranged) in
    let few : length (cells_of entry id) < 2 ^ 63 = subst (λ c. c < 2 ^ 63) (w.sizes id) (few_cells m id w.numbers) in
    let exact = exact_value e names m f found.1 written w.numbers (cells_fit (form_at (scalar_at m) f) (length (cells_of entry id)) few within.0 within.1) in
    let same : v ≡ form_at (scalar_at m) f = one_value (value_of e m) v (form_at (scalar_at m) f) value exact in
    (subst (λ x. pos 0 ≤ℤ x) (sym same) within.0, subst (λ x. x <ℤ pos (length (cells_of m id))) (sym same) (subst (λ c. form_at (scalar_at m) f <ℤ pos c) (sym (w.sizes id)) within.1))

pub place_fits : (entry m : Memory) (names : List ℕ) (ranges : ℕ → Range) (wrap : Bool) (at : ℕ) (e : Expr) (id : ℕ) (v : ℤ) → IsWithin entry names ranges m → IsI64Expr e
    → fits_place wrap e (length (cells_of entry id)) names ranges ≡ true → value_of e m ≡ Ok v → FindsPlace wrap at (length (cells_of m id)) v
place_fits entry m names ranges true at e id v w written fits value = wrap_found at (length (cells_of m id)) v (subst (λ c. 0 < c) (sym (w.sizes id)) (some_cell (length (cells_of entry id)) fits))
place_fits entry m names ranges false at e id v w written fits value =
    let within = plain_fits entry m names ranges e id v w written fits value in
    plain_found at (length (cells_of m id)) v within.0 within.1

-- a divisor that is a number other than 0
divisor_is : (e : Expr) (m : Memory) (v : ℤ) → is_divisor e ≡ true → value_of e m ≡ Ok v → is_zero v ≡ false
divisor_is (Number w) m v e value = ap is_zero (sym (one_value (Ok w) w v refl value)) ∙ turned (is_zero w) e
divisor_is (Scalar x) m v e value = cc
divisor_is (Cell' p (more_of-Access array wrap index end_of-Access)) m v e value = cc
divisor_is (Len a) m v e value = cc
divisor_is (Neg' p (more_of-Expr x end_of-Expr)) m v e value = cc
divisor_is (Not' p (more_of-Expr x end_of-Expr)) m v e value = cc
divisor_is (Binary' o at p (more_of-Expr left end_of-Expr) q (more_of-Expr right end_of-Expr)) m v e value = cc

divided_has : (at : ℕ) (b v : ℤ) (z : Bool) → z ≡ false → HasValue (if z then trap Divide at else Ok v)
divided_has at b v true e = cc
divided_has at b v false e = (v, refl)

apply_has : (o : Op) (at : ℕ) (a b : ℤ) → (is_division o ≡ true → is_zero b ≡ false) → HasValue (apply o at a b)
apply_has op.Add at a b h = (_, refl)
apply_has op.Sub at a b h = (_, refl)
apply_has op.Mul at a b h = (_, refl)
apply_has op.Div at a b h = divided_has at b (div_of a b) (is_zero b) (h refl)
apply_has op.Rem at a b h = divided_has at b (rem_of a b) (is_zero b) (h refl)
apply_has op.And at a b h = (_, refl)
apply_has op.Or at a b h = (_, refl)
apply_has op.Xor at a b h = (_, refl)
apply_has op.Shl at a b h = (_, refl)
apply_has op.Shr at a b h = (_, refl)
apply_has op.Eq at a b h = (_, refl)
apply_has op.Ne at a b h = (_, refl)
apply_has op.Lt at a b h = (_, refl)
apply_has op.Le at a b h = (_, refl)
apply_has op.Gt at a b h = (_, refl)
apply_has op.Ge at a b h = (_, refl)

needed : (b c : Bool) → (if b then c else true) ≡ true → b ≡ true → c ≡ true
needed true c h e = h
needed false c h e = cc

-- an expression that is calm and fits has a value
pub value_has : (entry m : Memory) (names : List ℕ) (ranges : ℕ → Range) (e : Expr) → IsWithin entry names ranges m → IsI64Expr e → is_calm_expr e names ≡ true → fits_expr e names ranges entry ≡ true
    → HasValue (value_of e m)
value_has entry m names ranges (Number v) w t c f = (v, refl)
value_has entry m names ranges (Scalar x) w t c f = (scalar_at m x.id, refl)
value_has entry m names ranges (Cell' p (more_of-Access array wrap index end_of-Access)) w t c f =
    let calm = both_true (is_plain wrap index names) (is_calm_expr index names) c in
    let fits = both_true (fits_place wrap index (length (cells_of entry array.id)) names ranges) (fits_expr index names ranges entry) f in
    use_value (value_of index m) _ (value_has entry m names ranges index w t calm.1 fits.1) (λ v value. use_place wrap array.at (length (cells_of m array.id)) v _ (place_fits entry m names ranges wrap array.at index array.id v w t fits.0 value) (λ cell. (_, refl)))
value_has entry m names ranges (Len a) w t c f = (_, refl)
value_has entry m names ranges (Neg' p (more_of-Expr e end_of-Expr)) w t c f = use_value (value_of e m) _ (value_has entry m names ranges e w t c f) (λ v value. (neg_of v, refl))
value_has entry m names ranges (Not' p (more_of-Expr e end_of-Expr)) w t c f = use_value (value_of e m) _ (value_has entry m names ranges e w t c f) (λ v value. (from_test (is_zero v), refl))
value_has entry m names ranges (Binary' o at p (more_of-Expr left end_of-Expr) q (more_of-Expr right end_of-Expr)) w t c f =
    let calm = both_true (if is_division o then is_divisor right else true) (is_calm_expr left names && is_calm_expr right names) c in
    let calms = both_true (is_calm_expr left names) (is_calm_expr right names) calm.1 in
    let fits = both_true (fits_expr left names ranges entry) (fits_expr right names ranges entry) f in
    use_value (value_of left m) _ (value_has entry m names ranges left w t.0 calms.0 fits.0) (λ a left_value. use_value (value_of right m) _ (value_has entry m names ranges right w t.1 calms.1 fits.1) (λ b right_value. apply_has o at a b (λ divides. divisor_is right m b (needed (is_division o) (is_divisor right) calm.0 divides) right_value)))
