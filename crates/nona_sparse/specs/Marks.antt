-- The values of a page: a mark for each place that has one, and the values in order of place.
use Rattle.std.specs.Prelude.{◌≡◌, ◌≢◌, ◌<◌, ◌≤◌, nat_lt, ℕ, zero, suc, ◌+◌, ◌/◌, ◌%◌, ◌==◌, if◌then◌else◌, ℤ, pos, List, [], ◌∷◌, ◌++◌, length, slice_index_or, None, Some}
use Rattle.std.specs.declared.option.Option.{Option}
use Rattle.std.specs.Int.{bit_at}
use Rattle.nona_sparse.specs.declared.group.TheConstants.{GROUP}
use Rattle.nona_sparse.specs.declared.block.TheConstants.{WORDS}
use Rattle.nona_sparse.specs.declared.page.TheConstants.{PAGE}

-- how many places below this one are marked
unfoldable pub rank : (ℕ → ℕ) → ℕ → ℕ
rank marks zero = 0
rank marks (suc place) = rank marks place + marks place

-- a value where the mark is set, and none where it isn't
abbrev pub where_marked : ℕ → ℤ → Option ℤ
where_marked zero v = None
where_marked (suc mark) v = Some v

-- the value at a place: where it is marked, the one that stands behind those of the marked places below it
abbrev pub value_at : (ℕ → ℕ) → List ℤ → ℕ → Option ℤ
value_at marks values place = where_marked (marks place) (slice_index_or values (rank marks place) (pos 0))

-- there are as many values as of so many places are marked
abbrev pub AreMarked : ℕ → (ℕ → ℕ) → List ℤ → Type 0
AreMarked places marks values = length values ≡ rank marks places

-- this place is the lowest one that is marked
abbrev pub IsLowest : (ℕ → ℕ) → ℕ → Type 0
IsLowest marks place = (marks place ≡ 1) × ((q : ℕ) → q < place → marks q ≡ 0)

-- of so many places one has another mark
abbrev pub DifferAt : ℕ → ℕ → (ℕ → ℕ) → (ℕ → ℕ) → Type 0
DifferAt places place old new = (q : ℕ) → q < places → q ≢ place → new q ≡ old q

-- of a group's marks, those that the first so many values don't belong to
abbrev pub AreBehind : (ℕ → ℕ) → ℕ → (ℕ → ℕ) → Type 0
AreBehind marks done rest = (q : ℕ) → q < GROUP → rest q ≡ (if nat_lt (rank marks q) done then 0 else marks q)

-- the mark of a place, where each group's marks are the bits of a number
abbrev pub mark_in : List ℕ → ℕ → ℕ
mark_in groups place = bit_at (slice_index_or groups (place / GROUP) 0) (place % GROUP)

-- there are as many groups as a page has, and as many values as places of theirs are marked
abbrev pub AreMarkedIn : List ℕ → List ℤ → Type 0
AreMarkedIn groups values = (length groups ≡ WORDS) × AreMarked PAGE (mark_in groups) values

-- no place of a page from this one on is marked
abbrev pub IsEnd : ℕ → List ℕ → Type 0
IsEnd end groups = (q : ℕ) → end ≤ q → q < PAGE → mark_in groups q ≡ 0

-- what stands at each place below this one
unfoldable pub up_to : ℕ → (ℕ → Option ℤ) → List (Option ℤ)
up_to zero written = []
up_to (suc n) written = up_to n written ++ written n ∷ []

-- what stands at each place of a page with these marks and values
abbrev pub of_marks : (ℕ → ℕ) → List ℤ → List (Option ℤ)
of_marks marks values = up_to PAGE (value_at marks values)

-- the same, where each group's marks are the bits of a number
abbrev pub block_of : List ℕ → List ℤ → List (Option ℤ)
block_of groups values = of_marks (mark_in groups) values

-- one of two values by a mark: the first where it isn't set
abbrev pub by_mark : ℕ → Option ℤ → Option ℤ → Option ℤ
by_mark zero unmarked marked = unmarked
by_mark (suc mark) unmarked marked = marked

-- one place has another value, or none, and the others what they have
abbrev pub changed_at : ℕ → Option ℤ → (ℕ → Option ℤ) → ℕ → Option ℤ
changed_at place value written q = if place == q then value else written q

-- what stands on a page: nothing where it has no block
abbrev pub page_of : {B : Type 0} → (B → List (Option ℤ)) → Option B → List (Option ℤ)
page_of block None = []
page_of block (Some b) = block b
