-- What the guard asks, and the ranges of scalars.
use Rattle.std.specs.Prelude.{ℕ, Bool, true, false, ◌&&◌, ◌==◌, ◌+◌, ◌<◌, max, nat_lt, if◌then◌else◌, pos, ◌-ℤ◌, int_le, List, [], ◌∷◌, length, Some, None}
use Rattle.std.specs.declared.option.Option.{Option}
use Rattle.nona_num.specs.declared.range.Range.{Range}
use Rattle.nona_tree.specs.Memory.{Memory, scalar_at, cells_of}
use Rattle.nona_forms.specs.Verdicts.{if_form}
use Rattle.nona_forms.specs.Guards.{lies_in, with_range, fits_turns, is_i64_range}
use Rattle.nona_forms.specs.Boxes.{point, form_range}
use Rattle.nona_guard.specs.declared.bounds.Bound.{Bound}
use Rattle.nona_guard.specs.declared.checks.Check.{Check, Place, Turns', Row_of-Check, end_of-Check, more_of-Check}

-- the range of a scalar at the entry: its one value
abbrev pub base_range : ℕ → Memory → ℕ → Range
base_range index m id = if nat_lt id index then point (scalar_at m id) else point (pos 0)

-- the range of the last of these bounds of a scalar, or another one
abbrev pub last_range : Range → List Bound → ℕ → Range
last_range r [] id = r
last_range r (b ∷ bs) id = last_range (if id == b.id then b.range else r) bs id

-- the ranges of all scalars
abbrev pub ranges_by : ℕ → Memory → List Bound → ℕ → Range
ranges_by index m bounds = λ id. last_range (base_range index m id) bounds id

abbrev mutual
  -- whether a check holds, where the scalars have these ranges
  pub holds_check : Check → (ℕ → Range) → Memory → ℕ → Bool
  holds_check (Place array wrap form) ranges m n =
      if wrap then nat_lt 0 (length (cells_of m array)) else if_form form (λ f. lies_in (form_range ranges f) (length (cells_of m array)))
  holds_check (Turns' id low high p body) ranges m n =
      fits_turns (form_range ranges low) (form_range ranges high) n (λ r. holds_row body (with_range id r ranges) m n)

  -- the same of one check after another
  pub holds_row : {k : _} → Row_of-Check k → (ℕ → Range) → Memory → ℕ → Bool
  holds_row end_of-Check ranges m n = true
  holds_row (more_of-Check c rest) ranges m n = holds_check c ranges m n && holds_row rest ranges m n

-- the same of one check after another
abbrev pub hold_all : List Check → (ℕ → Range) → Memory → ℕ → Bool
hold_all [] ranges m n = true
hold_all (c ∷ rest) ranges m n = holds_check c ranges m n && hold_all rest ranges m n

abbrev mutual
  -- each array of a check is there
  pub IsThere : Check → ℕ → Type 0
  IsThere (Place array wrap form) arrays = array < arrays
  IsThere (Turns' id low high p body) arrays = IsRowThere body arrays

  -- the same of one check after another
  pub IsRowThere : {k : _} → Row_of-Check k → ℕ → Type 0
  IsRowThere end_of-Check arrays = Unit {0}
  IsRowThere (more_of-Check c rest) arrays = IsThere c arrays × IsRowThere rest arrays

-- the same of one check after another
abbrev pub AreThere : List Check → ℕ → Type 0
AreThere [] arrays = Unit {0}
AreThere (c ∷ rest) arrays = IsThere c arrays × AreThere rest arrays

abbrev mutual
  -- how many loops of a check lie one inside another
  pub check_nesting : Check → ℕ
  check_nesting (Place array wrap form) = 0
  check_nesting (Turns' id low high p body) = check_row_nesting body + 1

  -- the same of one check after another
  pub check_row_nesting : {k : _} → Row_of-Check k → ℕ
  check_row_nesting end_of-Check = 0
  check_row_nesting (more_of-Check c rest) = max (check_nesting c) (check_row_nesting rest)

-- the same of one check after another
abbrev pub checks_nesting : List Check → ℕ
checks_nesting [] = 0
checks_nesting (c ∷ rest) = max (check_nesting c) (checks_nesting rest)

-- an inner loop whose bounds have these ranges: none where it doesn't fit; otherwise the range of its index, if it is walked
abbrev pub entry_of : Range → Range → ℕ → Option (Option Range)
entry_of low high n =
    if is_i64_range low && (is_i64_range high && int_le (high.high -ℤ low.low) (pos n))
    then (if int_le high.high low.low then Some None else Some (Some (record { low = low.low; high = high.high -ℤ pos 1 })))
    else None

-- goes on from there
abbrev pub by_entry : Option (Option Range) → (Range → Bool) → Bool
by_entry None body = false
by_entry (Some None) body = true
by_entry (Some (Some r)) body = body r
