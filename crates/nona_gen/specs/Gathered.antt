-- The loops of a program that are regions.
use Rattle.std.specs.Prelude.{Bool, List, map}
use Rattle.std.specs.Borrow.{Bor}
use Rattle.nona_tree.specs.declared.trees.Loop.{Loop}
use Rattle.nona_tree.specs.Entries.{is_among}
use Rattle.nona_stages.specs.declared.seen.Seen.{Seen}
use Rattle.nona_stages.specs.Seen.{seen_places}

-- whether a loop stands at the place of a region that is seen
abbrev pub is_seen : List Seen → Loop → Bool
is_seen seen = is_among (seen_places seen)

-- the loops that these refer to
abbrev pub loops_of : List (Bor Loop) → List Loop
loops_of lent = map (λ (l : Bor Loop). l.now) lent
