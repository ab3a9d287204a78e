-- What stands at the places of a sparse array, and an array under it.
use Rattle.std.specs.Prelude.{ℕ, suc, ◌/◌, ◌%◌, ◌==◌, nat_lt, Bool, if◌then◌else◌, ℤ, pos, List, [], ◌∷◌, length, slice_index_or, None, Some}
use Rattle.std.specs.declared.option.Option.{Option}
use Rattle.std.specs.Option.{unwrap_or}
use Rattle.std.specs.Ordering.{int_eq}
use Rattle.nona_sparse.specs.declared.group.TheConstants.{GROUP}
use Rattle.nona_sparse.specs.declared.page.TheConstants.{PAGE}

-- the value at a place of a page, where one is
abbrev pub at_page : List (Option ℤ) → ℕ → Option ℤ
at_page page place = slice_index_or page place None

-- the value at a place of the pages, where one is
abbrev pub at : List (List (Option ℤ)) → ℕ → Option ℤ
at pages place = at_page (slice_index_or pages (place / PAGE) []) (place % PAGE)

-- the value that the page with this index has at a place of the array, where it has one
abbrev pub of_page : ℕ → List (Option ℤ) → ℕ → Option ℤ
of_page index page place = if place / PAGE == index then at_page page (place % PAGE) else None

-- the value that the group with this index has at a place of the array, where it has one
abbrev pub of_group : ℕ → (ℕ → Option ℤ) → ℕ → Option ℤ
of_group index written place = if place / GROUP == index then written (place % GROUP) else None

-- one place has this value, or none, and the others have none
abbrev pub only_at : ℕ → Option ℤ → ℕ → Option ℤ
only_at place value q = if place == q then value else None

-- one place has this value, and the others what they have
abbrev pub with_at : ℕ → ℤ → (ℕ → Option ℤ) → ℕ → Option ℤ
with_at place v written q = if place == q then Some v else written q

-- the value of an array's cell
abbrev pub cell : List ℤ → ℕ → ℤ
cell cells place = slice_index_or cells place (pos 0)

-- a value that isn't this one
abbrev pub changed : ℤ → Option ℤ → Option ℤ
changed was None = None
changed was (Some v) = if int_eq v was then None else Some v

-- what is left of a written value beside these cells: nothing where the cell at its place has it already
abbrev pub change_at : List ℤ → ℕ → Option ℤ → Option ℤ
change_at cells place written = if nat_lt place (length cells) then changed (cell cells place) written else written

-- a written value where it is left, and nothing where it isn't
abbrev pub if_left : Bool → Option ℤ → Option ℤ
if_left left written = if left then written else None

-- what is left of all written values beside these cells
abbrev pub changes : List ℤ → (ℕ → Option ℤ) → ℕ → Option ℤ
changes cells written place = change_at cells place (written place)

-- the cells of an array from this place on, those that are written with their values
abbrev pub cells_under : (ℕ → Option ℤ) → ℕ → List ℤ → List ℤ
cells_under over place [] = []
cells_under over place (v ∷ cells) = unwrap_or (over place) v ∷ cells_under over (suc place) cells

-- of what is written, what lies on the page with this index
abbrev pub on_page : ℕ → (ℕ → Option ℤ) → ℕ → Option ℤ
on_page index written place = if place / PAGE == index then written place else None

-- what is written but for the page with this index
abbrev pub off_page : ℕ → (ℕ → Option ℤ) → ℕ → Option ℤ
off_page index written place = if place / PAGE == index then None else written place

-- what is left of the values on the page with this index beside these cells, and all the others
abbrev pub changes_on : ℕ → List ℤ → (ℕ → Option ℤ) → ℕ → Option ℤ
changes_on index cells written place = if place / PAGE == index then change_at cells place (written place) else written place
