-- What is kept of regions by their places.
use Rattle.std.specs.Prelude.{◌≡◌, ℕ, List, ◌∷◌, Some, None, slice_get}
use Rattle.std.specs.declared.option.Option.{Option}
use Rattle.std.specs.BTreeMap.{BTreeMap, get}
use Rattle.std.specs.Ordering.{nat_cmp}
use Rattle.nona_stages.specs.declared.plans.Plans.TheInside.{Inside}
use Rattle.nona_stages.specs.declared.seen.Region.{Region}
use Rattle.nona_stages.specs.declared.seen.Seen.{Seen}
use Rattle.nona_stages.specs.declared.seen.Seen.TheVariants as seen
use Rattle.nona_stages.specs.Seen.{regions_of, region_at}

-- the index among all that is seen of a region, where there is one
abbrev pub IsIndexOf : Option ℕ → List Seen → Option Region → Type 0
IsIndexOf None all found = found ≡ None
IsIndexOf (Some k) all found = (r : Region) × (slice_get all k ≡ Some (seen.Region r)) × (found ≡ Some r)

-- each place has the index among all that is seen of the first region there in a part of it
abbrev pub AreIndexed : BTreeMap ℕ ℕ → List Seen → List Seen → Type 0
AreIndexed by_place all part = (at : ℕ) → IsIndexOf (get nat_cmp by_place at) all (region_at (regions_of part) at)

-- an index for each place of a region
abbrev pub IsPlans : Inside → Type 0
IsPlans a = AreIndexed a.by_place a.seen.now a.seen.now

-- what is seen with this index was put in front of a part
abbrev pub HasAdded : BTreeMap ℕ ℕ → BTreeMap ℕ ℕ → Seen → ℕ → Type 0
HasAdded old new one k = (all part : List Seen) → slice_get all k ≡ Some one → AreIndexed old all part → AreIndexed new all (one ∷ part)
