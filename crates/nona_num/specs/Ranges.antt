-- What a range stands for.
use Rattle.std.specs.Prelude.{ℤ, ◌≤ℤ◌}
use Rattle.nona_num.specs.declared.range.Range.{Range}

-- x lies in the range, whose ends belong to it
abbrev pub Holds : Range → ℤ → Type 0
Holds r x = (r.low ≤ℤ x) × (x ≤ℤ r.high)
