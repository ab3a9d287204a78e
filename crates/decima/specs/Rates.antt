-- Rates: iterations by ticks.
use Rattle.std.specs.Prelude.{ℕ, ◌*◌, Bool, nat_lt}
use Rattle.std.specs.declared.cmp.Ordering.{Ordering}
use Rattle.std.specs.Ordering.{nat_cmp}
use Rattle.decima.specs.declared.readings.Reading.{Reading}

-- how many iterations were done in how many ticks
pub record Rate : Type 0 where
  pub iterations : ℕ
  pub ticks : ℕ

-- the rate that a reading tells
abbrev pub rate_of_reading : Reading → Rate
rate_of_reading r = record { iterations = r.iterations; ticks = r.ticks }

-- how a rate compares with another one, by cross products
abbrev pub rate_order : Rate → Rate → Ordering
rate_order a b = nat_cmp (a.iterations * b.ticks) (b.iterations * a.ticks)

-- whether a rate is below another one, by cross products
abbrev pub is_below : Rate → Rate → Bool
is_below a b = nat_lt (a.iterations * b.ticks) (b.iterations * a.ticks)

-- whether a rate has fallen below seven eighths of another one
abbrev pub has_fallen : Rate → Rate → Bool
has_fallen now kept = nat_lt (8 * (now.iterations * kept.ticks)) (7 * (kept.iterations * now.ticks))
