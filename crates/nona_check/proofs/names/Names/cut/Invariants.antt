use Rattle.std.proofs.Common.{◌≡◌, ◌-◌, ◌≤◌, length, max, take}
use Rattle.nona_check.proofs.names.Names.cut.Given as goal

-- the names so far left are the first ones
abbrev pub invariant-loop-newest : goal.invariant-loop-newest
invariant-loop-newest l =
    (l.count ≤ l._newest)
    × (l._newest ≤ max l.count (length l.initial.self))
    × (l.self ≡ take (length l.initial.self - (l._newest - l.count)) l.initial.self)
