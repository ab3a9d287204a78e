use Rattle.std.proofs.Common.{◌≡◌, ◌||◌, drop}
use Rattle.std.specs.List.{list_any}
use Rattle.nona_graph.specs.Facts.{joins}
use Rattle.nona_graph.proofs.tying.share_some.Given as goal

-- one is shared where one so far is, or one of the others
abbrev pub invariant-loop-local : goal.invariant-loop-local
invariant-loop-local l = list_any (joins l.looped l.u l.v) l.locals ≡ (l.found || list_any (joins l.looped l.u l.v) (drop l.local-index l.locals))
