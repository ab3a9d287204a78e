-- A check that holds others.
use Rattle.std.proofs.Common.{◌≡◌, ℕ, ◌+◌, ◌&&◌, ◌==◌, List, [], ◌∷◌, ◌++◌, refl, ap, ◌∙◌, if◌then◌else◌}
use Rattle.std.specs.Prelude.{max}
use Rattle.nona_num.specs.declared.range.Range.{Range}
use Rattle.nona_tree.specs.Memory.{Memory}
use Rattle.nona_forms.specs.Affine.{Affine}
use Rattle.nona_forms.specs.Guards.{with_range, fits_turns}
use Rattle.nona_forms.specs.Boxes.{form_range}
use Rattle.nona_guard.specs.declared.bounds.Bound.{Bound}
use Rattle.nona_guard.specs.declared.checks.Check.{Check, Turns, Row_of-Check, end_of-Check, more_of-Check, items-the_row-Check, items_hidden-the_row-Check-0}
use Rattle.nona_guard.specs.declared.checks.Check.TheBlock.{hidden-the_row-Check-0}
use Rattle.nona_guard.specs.Checks.{holds_check, holds_row, hold_all, base_range, last_range, ranges_by, IsThere, IsRowThere, AreThere, check_nesting, check_row_nesting, checks_nesting}

holds_row_at : (k : _) (row : Row_of-Check k) (ranges : ℕ → Range) (m : Memory) (n : ℕ) → holds_row row ranges m n ≡ hold_all (items-the_row-Check k row) ranges m n
holds_row_at k end_of-Check ranges m n = refl
holds_row_at k (more_of-Check c rest) ranges m n = ap (λ b. holds_check c ranges m n && b) (holds_row_at _ rest ranges m n)

holds_body : (body : List Check) (ranges : ℕ → Range) (m : Memory) (n : ℕ) → holds_row (hidden-the_row-Check-0 body) ranges m n ≡ hold_all body ranges m n
holds_body body ranges m n =
    holds_row_at _ (hidden-the_row-Check-0 body) ranges m n ∙ ap (λ (cs : List Check). hold_all cs ranges m n) (items_hidden-the_row-Check-0 body)

pub holds-Turns : (id : ℕ) (low high : Affine) (body : List Check) (ranges : ℕ → Range) (m : Memory) (n : ℕ)
    → holds_check (Turns id low high body) ranges m n ≡ fits_turns (form_range ranges low) (form_range ranges high) n (λ r. hold_all body (with_range id r ranges) m n)
holds-Turns id low high body ranges m n =
    λ i. fits_turns (form_range ranges low) (form_range ranges high) n (λ r. holds_body body (with_range id r ranges) m n i)

there_row_at : (k : _) (row : Row_of-Check k) (arrays : ℕ) → IsRowThere row arrays ≡ AreThere (items-the_row-Check k row) arrays
there_row_at k end_of-Check arrays = refl
there_row_at k (more_of-Check c rest) arrays = ap (λ P. IsThere c arrays × P) (there_row_at _ rest arrays)

pub there-Turns : (id : ℕ) (low high : Affine) (body : List Check) (arrays : ℕ) → IsThere (Turns id low high body) arrays ≡ AreThere body arrays
there-Turns id low high body arrays =
    there_row_at _ (hidden-the_row-Check-0 body) arrays ∙ ap (λ (cs : List Check). AreThere cs arrays) (items_hidden-the_row-Check-0 body)

nesting_row_at : (k : _) (row : Row_of-Check k) → check_row_nesting row ≡ checks_nesting (items-the_row-Check k row)
nesting_row_at k end_of-Check = refl
nesting_row_at k (more_of-Check c rest) = ap (max (check_nesting c)) (nesting_row_at _ rest)

pub nesting-Turns : (id : ℕ) (low high : Affine) (body : List Check) → check_nesting (Turns id low high body) ≡ checks_nesting body + 1
nesting-Turns id low high body =
    ap (λ n. n + 1) (nesting_row_at _ (hidden-the_row-Check-0 body) ∙ ap checks_nesting (items_hidden-the_row-Check-0 body))

-- one bound more
last_more : (r : Range) (bs : List Bound) (b : Bound) (id : ℕ) → last_range r (bs ++ b ∷ []) id ≡ (if id == b.id then b.range else last_range r bs id)
last_more r [] b id = refl
last_more r (c ∷ bs) b id = last_more (if id == c.id then c.range else r) bs b id

pub ranges_more : (index : ℕ) (m : Memory) (bs : List Bound) (id : ℕ) (r : Range)
    → ranges_by index m (bs ++ record { id = id; range = r } ∷ []) ≡ with_range id r (ranges_by index m bs)
ranges_more index m bs id r = λ i x. last_more (base_range index m x) bs (record { id = id; range = r }) x i
