-- When two accesses are told apart: the dependence test.
use Rattle.std.specs.Prelude.{ℕ, zero, suc, ◌*◌, ◌%◌, ◌==◌, Bool, true, false, not, ◌&&◌, ◌||◌, if◌then◌else◌, nat_lt, max, ℤ, pos, negsuc, ◌+ℤ◌, ◌-ℤ◌, neg_ℤ, unsigned_abs, int_le, int_lt, List, [], ◌∷◌, filter, Some, None, is_some}
use Rattle.std.specs.List.{list_all, list_any}
use Rattle.std.specs.Int.{int_gap, div_ceil}
use Rattle.std.specs.Ordering.{int_eq}
use Rattle.std.specs.declared.option.Option.{Option}
use Rattle.nona_num.specs.declared.range.Range.{Range}
use Rattle.nona_tree.specs.declared.trees.Loop.{Loop}
use Rattle.nona_tree.specs.Value.{is_zero}
use Rattle.nona_tree.specs.Run.{count_of}
use Rattle.nona_forms.specs.declared.terms.Term.{Term}
use Rattle.nona_forms.specs.Affine.{Affine, no_terms, form_of}
use Rattle.nona_forms.specs.declared.shapes.InnerLoop.{InnerLoop}
use Rattle.nona_forms.specs.declared.shapes.LoopShape.{LoopShape}
use Rattle.nona_forms.specs.declared.shapes.Spot.{Spot}
use Rattle.nona_forms.specs.declared.shapes.Verdict.{Verdict}
use Rattle.nona_forms.specs.declared.shapes.Verdict.TheVariants.{Apart, Maybe}
use Rattle.nona_forms.specs.References.{Inner, Reference, names_of}
use Rattle.nona_forms.specs.Boxes.{sum_range, times_range, box, point}

-- constant bounds, where both forms exist without terms
abbrev pub fixed_of : Option Affine → Option Affine → Option (ℤ × ℤ)
fixed_of (Some f) (Some g) = if no_terms f.terms && no_terms g.terms then Some (f.constant, g.constant) else None
fixed_of _ _ = None

-- the forms of inner loops from outside in, each with the indices of those before it
abbrev pub inner_forms : List ℕ → List Inner → List InnerLoop
inner_forms names [] = []
inner_forms names (l ∷ inner) =
    record { id = l.id; low = form_of l.low names; high = form_of l.high names } ∷ inner_forms (l.id ∷ names) inner

-- the names that may occur inside inner loops
abbrev pub names_inside : List ℕ → List Inner → List ℕ
names_inside names [] = names
names_inside names (l ∷ inner) = names_inside (l.id ∷ names) inner

-- an access as the test sees it
abbrev pub spot_of : List ℕ → Reference → Spot
spot_of names x =
    record {
      array = x.access.array.id;
      at = x.access.array.at;
      wrap = x.access.wrap;
      write = x.write;
      form = form_of x.access.index (names_inside names x.inner);
      inner = inner_forms names x.inner;
    }

abbrev pub shape_of : Loop → LoopShape
shape_of l = record { index = l.index.id; fixed = fixed_of (form_of l.low (names_of l)) (form_of l.high (names_of l)) }

-- the terms of scalars that were declared before this one, and of those behind it
abbrev pub invariant_terms : ℕ → List Term → List Term
invariant_terms index ts = filter (λ t. nat_lt t.id index) ts

abbrev pub inner_terms : ℕ → List Term → List Term
inner_terms index ts = filter (λ t. nat_lt index t.id) ts

-- the coefficient of a scalar
abbrev pub coefficient_of : ℕ → List Term → ℤ
coefficient_of id [] = pos 0
coefficient_of id (t ∷ ts) = if t.id == id then t.coefficient +ℤ coefficient_of id ts else coefficient_of id ts

-- whether two lists have the same terms
abbrev pub same_terms : List Term → List Term → Bool
same_terms [] [] = true
same_terms (t ∷ ts) (u ∷ us) = (t.id == u.id) && (int_eq t.coefficient u.coefficient && same_terms ts us)
same_terms _ _ = false

-- whether there is no number from the low bound up to, without, the high one
abbrev pub is_empty : Option (ℤ × ℤ) → Bool
is_empty None = false
is_empty (Some b) = int_le b.1 b.0

abbrev pub fixed_inner : InnerLoop → Option (ℤ × ℤ)
fixed_inner l = fixed_of l.low l.high

-- the constant bounds of the inner loop with this index
abbrev pub bounds_of : List InnerLoop → ℕ → Option (ℤ × ℤ)
bounds_of [] id = None
bounds_of (l ∷ inner) id = if l.id == id then fixed_inner l else bounds_of inner id

-- whether each scalar of the terms is the index of an inner loop with constant bounds
abbrev pub all_fixed : List InnerLoop → List Term → Bool
all_fixed inner ts = list_all (λ t. is_some (bounds_of inner t.id)) ts

-- the values of an index with these bounds
abbrev pub range_in : Option (ℤ × ℤ) → Range
range_in None = record { low = pos 0; high = pos 0 }
range_in (Some b) = record { low = b.0; high = b.1 -ℤ pos 1 }

-- the box range of the inner indices' terms
abbrev pub inner_box : List InnerLoop → List Term → Range
inner_box inner ts = box (λ id. range_in (bounds_of inner id)) ts

-- Euclid's algorithm, in at most k steps
abbrev pub gcd_within : ℕ → ℕ → ℕ → ℕ
gcd_within zero a b = a
gcd_within (suc k) a b = if b == 0 then a else gcd_within k b (a % b)

-- the greatest common divisor
abbrev pub gcd_of : ℕ → ℕ → ℕ
gcd_of a b = gcd_within b a b

-- the greatest common divisor of a number and all coefficients
abbrev pub gcd_terms : ℕ → List Term → ℕ
gcd_terms g [] = g
gcd_terms g (t ∷ ts) = gcd_terms (gcd_of g (unsigned_abs t.coefficient)) ts

-- whether g divides c
abbrev pub divides : ℕ → ℤ → Bool
divides g c = if g == 0 then is_zero c else (unsigned_abs c % g) == 0

-- whether so many iterations lie between two of a loop with these bounds
abbrev pub is_distance : Option (ℤ × ℤ) → ℕ → Bool
is_distance None d = true
is_distance (Some b) d = nat_lt d (int_gap b.0 b.1)

-- whether a times some distance above 0 lies from low to high; the least that is at least low decides
abbrev pub has_multiple : Option (ℤ × ℤ) → ℕ → ℤ → ℤ → Bool
has_multiple fixed a low high =
    let d = max 1 (div_ceil (count_of low) a) in int_le (pos (a * d)) high && is_distance fixed d

-- whether c times some distance other than 0 lies in the range
abbrev pub has_distance : Option (ℤ × ℤ) → ℤ → Range → Bool
has_distance fixed c r =
    has_multiple fixed (unsigned_abs c) r.low r.high || has_multiple fixed (unsigned_abs c) (neg_ℤ r.high) (neg_ℤ r.low)

-- whether a number lies outside a range
abbrev pub is_outside : ℤ → Range → Bool
is_outside c r = int_lt c r.low || int_lt r.high c

-- no number of the loops: the region, or an inner loop around one of the two, has constant bounds and no turn
abbrev pub some_empty : LoopShape → Spot → Spot → Bool
some_empty shape x y =
    is_empty shape.fixed || (list_any (λ l. is_empty (fixed_inner l)) x.inner || list_any (λ l. is_empty (fixed_inner l)) y.inner)

-- the greatest common divisor of all coefficients of region and inner indices doesn't divide the difference
abbrev pub is_undivided : LoopShape → Affine → Affine → Bool
is_undivided shape f g =
    let c = unsigned_abs (coefficient_of shape.index f.terms) in
    let d = unsigned_abs (coefficient_of shape.index g.terms) in
    not (divides (gcd_terms (gcd_terms (gcd_of c d) (inner_terms shape.index f.terms)) (inner_terms shape.index g.terms)) (g.constant -ℤ f.constant))

-- the box range of the inner part of terms, where all inner indices that occur have constant bounds
abbrev pub inner_part : ℕ → List InnerLoop → List Term → Option Range
inner_part index inner ts = if all_fixed inner (inner_terms index ts) then Some (inner_box inner (inner_terms index ts)) else None

-- the range of the second inner part less the first, plus a number
abbrev pub rest_range : Range → Range → ℤ → Range
rest_range left right k = sum_range (sum_range right (times_range (negsuc 0) left)) (point k)

-- where both inner parts have ranges: c times no distance between two iterations lies in the second less the first plus k
abbrev pub near_of : Option (ℤ × ℤ) → ℤ → Option Range → Option Range → ℤ → Bool
near_of fixed c (Some left) (Some right) k =
    not (has_distance fixed c (rest_range left right k))
near_of fixed c _ _ k = false

-- the range of c times an index less d times another one, each within these bounds, plus the first inner part less the second
abbrev pub whole_range : ℤ × ℤ → ℤ → ℤ → Range → Range → Range
whole_range b c d left right =
    sum_range (sum_range (times_range c (range_in (Some b))) (times_range (neg_ℤ d) (range_in (Some b)))) (sum_range left (times_range (negsuc 0) right))

-- where both inner parts have ranges, and so has the region's index: k lies outside what all indices make
abbrev pub far_of : Option (ℤ × ℤ) → ℤ → ℤ → Option Range → Option Range → ℤ → Bool
far_of (Some b) c d (Some left) (Some right) k =
    is_outside k (whole_range b c d left right)
far_of _ c d _ _ k = false

-- the same coefficient of the region's index, and no distance between two iterations makes up for the rest
abbrev pub is_too_near : LoopShape → Spot → Spot → Affine → Affine → Bool
is_too_near shape x y f g =
    let c = coefficient_of shape.index f.terms in
    let left = inner_part shape.index x.inner f.terms in
    let right = inner_part shape.index y.inner g.terms in
    int_eq c (coefficient_of shape.index g.terms) && (not (is_zero c) && near_of shape.fixed c left right (g.constant -ℤ f.constant))

-- other coefficients of the region's index, and the difference lies outside what all indices make
abbrev pub is_too_far : LoopShape → Spot → Spot → Affine → Affine → Bool
is_too_far shape x y f g =
    let c = coefficient_of shape.index f.terms in
    let d = coefficient_of shape.index g.terms in
    let left = inner_part shape.index x.inner f.terms in
    let right = inner_part shape.index y.inner g.terms in
    not (int_eq c d) && far_of shape.fixed c d left right (g.constant -ℤ f.constant)

-- whether one of four reasons tells two forms of the same invariant part apart
abbrev pub has_reason : LoopShape → Spot → Spot → Affine → Affine → Bool
has_reason shape x y f g =
    some_empty shape x y || (is_undivided shape f g || (is_too_near shape x y f g || is_too_far shape x y f g))

-- whether two forms are told apart: their invariant parts are the same, and a reason holds
abbrev pub are_apart : LoopShape → Spot → Spot → Affine → Affine → Bool
are_apart shape x y f g =
    same_terms (invariant_terms shape.index f.terms) (invariant_terms shape.index g.terms) && has_reason shape x y f g

-- goes on with a form
abbrev pub if_form : Option Affine → (Affine → Bool) → Bool
if_form None go = false
if_form (Some f) go = go f

-- whether an access in an iteration and another in another iteration are told apart. The reasons may stand side by side: where
-- no index occurs, the divisor is 0 and divides 0 alone, and then neither of the last two holds
abbrev pub is_apart : LoopShape → Spot → Spot → Bool
is_apart shape x y =
    not x.wrap && (not y.wrap && if_form x.form (λ f. if_form y.form (λ g. are_apart shape x y f g)))

-- the answer of the dependence test
abbrev pub verdict_of : LoopShape → Spot → Spot → Verdict
verdict_of shape x y = if is_apart shape x y then Apart else Maybe
