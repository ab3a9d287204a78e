-- Box ranges: what terms may add up to, where each scalar has a range.
use Rattle.std.specs.Prelude.{ℕ, ℤ, pos, ◌+ℤ◌, ◌*ℤ◌, List, [], ◌∷◌}
use Rattle.std.specs.Int.{int_min, int_max}
use Rattle.nona_num.specs.declared.range.Range.{Range}
use Rattle.nona_forms.specs.declared.terms.Term.{Term}
use Rattle.nona_forms.specs.Affine.{Affine}

-- the range of sums, and of multiples
abbrev pub sum_range : Range → Range → Range
sum_range r s = record { low = r.low +ℤ s.low; high = r.high +ℤ s.high }

abbrev pub times_range : ℤ → Range → Range
times_range c r = record { low = int_min (r.low *ℤ c) (r.high *ℤ c); high = int_max (r.low *ℤ c) (r.high *ℤ c) }

-- the box range of terms, where the scalars have these ranges
abbrev pub box : (ℕ → Range) → List Term → Range
box ranges [] = record { low = pos 0; high = pos 0 }
box ranges (t ∷ ts) = sum_range (times_range t.coefficient (ranges t.id)) (box ranges ts)

-- one number as a range
abbrev pub point : ℤ → Range
point v = record { low = v; high = v }

-- the range of a form, where the scalars have these ranges
abbrev pub form_range : (ℕ → Range) → Affine → Range
form_range ranges f = sum_range (point f.constant) (box ranges f.terms)
