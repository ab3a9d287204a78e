use Rattle.std.proofs.Common.{◌≡◌, ◌<◌, ◌+◌, ℕ, map, Some}
use Rattle.nona_sparse.specs.Sparse.{at_page, change_at, if_left}
use Rattle.nona_sparse.proofs.group.full_are.Given as goal

-- the values so far differ, or are the same
abbrev pub invariant-places : goal.invariant-places
invariant-places l = (q : ℕ) → q < l.place → change_at l.cells (l.first + q) (at_page (map Some l.values) q) ≡ if_left l.differ (at_page (map Some l.values) q)
