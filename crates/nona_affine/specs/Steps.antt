-- A step of the sum of a box range, and the ranges that a list of bounds gives.
use Rattle.std.specs.Prelude.{◌≡◌, ℕ, ◌==◌, Bool, true, false, ◌&&◌, nat_lt, int_le, if◌then◌else◌, ℤ, pos, negsuc, List, [], ◌∷◌, Some, None, is_some}
use Rattle.std.specs.declared.option.Option.{Option}
use Rattle.nona_num.specs.declared.range.Range.{Range}
use Rattle.nona_tree.specs.Numbers.{IsI64}
use Rattle.nona_forms.specs.declared.shapes.InnerLoop.{InnerLoop}
use Rattle.nona_forms.specs.declared.terms.Term.{Term}
use Rattle.nona_forms.specs.Boxes.{sum_range, times_range}
use Rattle.nona_forms.specs.Verdicts.{bounds_of, range_in}

-- the range of an inner index's term; none where the index has no constant bounds
abbrev pub term_in : List InnerLoop → Term → Option Range
term_in inner t =
    if is_some (bounds_of inner t.id) then Some (times_range t.coefficient (range_in (bounds_of inner t.id))) else None

-- a range and that of one more term, unless it is no inner index's; none where the bounds aren't constant
abbrev pub added_term : ℕ → List InnerLoop → Term → Range → Option Range
added_term index inner t r =
    if nat_lt index t.id then (if is_some (bounds_of inner t.id) then Some (sum_range r (times_range t.coefficient (range_in (bounds_of inner t.id)))) else None)
    else Some r

-- the range that a list gives a scalar: the first one with its id, and 0 alone where it has none
abbrev pub range_among : List (ℕ × Range) → ℕ → Range
range_among [] id = record { low = pos 0; high = pos 0 }
range_among (b ∷ bounds) id = if b.0 == id then b.1 else range_among bounds id

-- a list has a range for a scalar
abbrev pub has_range : List (ℕ × Range) → ℕ → Bool
has_range [] id = false
has_range (b ∷ bounds) id = if b.0 == id then true else has_range bounds id

-- whether a number is one of 64 bits
abbrev pub is_i64 : ℤ → Bool
is_i64 v = int_le (negsuc 9223372036854775807) v && int_le v (pos 9223372036854775807)

-- whether a list has a range for a term's scalar, whose ends have 64 bits
abbrev pub is_bound : List (ℕ × Range) → Term → Bool
is_bound bounds t = has_range bounds t.id && (is_i64 (range_among bounds t.id).low && is_i64 (range_among bounds t.id).high)

-- the same as a fact
pub record IsBound (bounds : List (ℕ × Range)) (t : Term) : Type 0 where
  pub known : has_range bounds t.id ≡ true
  pub low : IsI64 (range_among bounds t.id).low
  pub high : IsI64 (range_among bounds t.id).high
