-- How a body names scalars.
use Rattle.std.specs.Prelude.{◌≡◌, ℕ, ◌<◌, ◌==◌, Bool, true, false, if◌then◌else◌, List, [], ◌∷◌, length, filter, slice_index_or, Some, None}
use Rattle.std.specs.declared.option.Option.{Option}
use Rattle.nona_num.specs.declared.folds.Fold.{Fold}
use Rattle.nona_plans.specs.declared.graphs.Mention.{Mention}
use Rattle.nona_plans.specs.Mentions.{is_fold, only_fold}
use Rattle.nona_graph.specs.declared.reducing.Usage.{Usage}

-- whether there is a mention
abbrev pub is_named : List Mention → Bool
is_named [] = false
is_named (m ∷ ms) = true

-- how these mentions name their scalar
abbrev pub use_by : List Mention → Usage
use_by ms = record { named = is_named ms; by = only_fold ms }

-- how mentions name a scalar
abbrev pub use_of : ℕ → List Mention → Usage
use_of id ms = use_by (filter (λ m. m.id == id) ms)

-- the fold of mentions by one, and of one mention more
abbrev pub joined_by : Option Fold → Option Fold → Option Fold
joined_by None by = None
joined_by (Some f) by = if is_fold f by then Some f else None

-- how a scalar is named with one mention more
abbrev pub use_after : Usage → Option Fold → Usage
use_after u by = record { named = true; by = if u.named then joined_by u.by by else by }

-- how the scalar with this id is named
abbrev pub use_at : List Usage → ℕ → Usage
use_at uses id = slice_index_or uses id (record { named = false; by = None })

-- each scalar is named as these mentions do
abbrev pub ShowUses : List Mention → List Usage → Type 0
ShowUses ms uses = (id : ℕ) → id < length uses → use_at uses id ≡ use_of id ms
