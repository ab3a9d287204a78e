-- What a walk over the loops outside regions needs of them, and what it finds of each.
use Rattle.std.specs.Prelude.{◌≤◌, ℕ, ◌+◌, if◌then◌else◌, List, [], ◌∷◌, length, IsTrue}
use Rattle.std.specs.List.{AllByRecursion}
use Rattle.nona_tree.specs.declared.trees.Loop.{Loop}
use Rattle.nona_tree.specs.Entries.{may_reshape}
use Rattle.nona_tree.specs.Names.{unit_bound}
use Rattle.nona_plans.specs.Plans.{plan_of}
use Rattle.nona_stages.specs.Seen.{is_parallel, plain_of}
use Rattle.nona_stages.specs.declared.outer.Found.{Found}
use Rattle.nona_stages.specs.declared.outer.Found.TheVariants as found
use Rattle.nona_stages.specs.declared.outer.Mark.{Mark}
use Rattle.nona_stages.specs.declared.seen.Seen.{Seen}
use Rattle.nona_stages.specs.declared.seen.Seen.TheVariants as seen

-- a loop is written `seq for`, or has few units
abbrev pub IsFew : Loop → Type 0
IsFew l = IsTrue (may_reshape l) → length l.body ≤ unit_bound

-- the same of each loop
abbrev pub AreFew : List Loop → Type 0
AreFew loops = AllByRecursion IsFew loops

-- the plan of a loop that is a region, or why it is none
abbrev pub found_of : Loop → Found
found_of l = if is_parallel l then found.Parallel (plan_of l) else found.Plain (plain_of l)

-- the place of a loop with what is found of it
abbrev pub mark_of : Loop → Mark
mark_of l = record { at = l.at; found = found_of l }

-- what is seen of a loop at a place, where it has this number if it is a region
abbrev pub seen_at : ℕ → ℕ → Found → Seen
seen_at number at (found.Parallel plan) = seen.Region (record { number = number; at = at; plan = plan })
seen_at number at (found.Plain reason) = seen.Plain at reason

-- the number of the next region
abbrev pub number_after : ℕ → Found → ℕ
number_after number (found.Parallel plan) = number + 1
number_after number (found.Plain reason) = number

-- what is seen of marked loops, where the first region among them has this number
abbrev pub seen_marked : ℕ → List Mark → List Seen
seen_marked number [] = []
seen_marked number (mark ∷ rest) = seen_at number mark.at mark.found ∷ seen_marked (number_after number mark.found) rest
