-- What a pipeline's tasks leave together beside a store, put into it.
use Rattle.std.specs.Prelude.{ℕ, zero, suc, ◌+◌, ◌==◌, Bool, if◌then◌else◌, ℤ, List, ◌++◌, map, length}
use Rattle.std.specs.List.{list_any, flat_map}
use Rattle.nona_num.specs.declared.folds.Fold.{Fold}
use Rattle.nona_tree.specs.Memory.{Memory, scalar_at, assign}
use Rattle.net_share.specs.Gathered.{own_scalar, with_joined, with_written}
use Rattle.net_share.specs.Settled.{settled_cell}
use Rattle.net_pipe.specs.Tasks.{TaskView, share_of}

-- the values that tasks have of the scalar with this id
abbrev pub values_of : ℕ → List TaskView → List ℤ
values_of id tasks = map (λ (x : TaskView). own_scalar id x.share) tasks

-- whether the scalar with this id is one of these reductions
abbrev pub is_reduced : ℕ → List (ℕ × Fold) → Bool
is_reduced id reductions = list_any (λ (r : ℕ × Fold). r.0 == id) reductions

-- a store whose scalar with this id, where it is no reduction, has the last value that a task changed it to, or else its own
abbrev pub with_scalar : List (ℕ × Fold) → List TaskView → ℕ → Memory → Memory
with_scalar reductions tasks id m =
    if is_reduced id reductions then m
    else assign id (settled_cell (scalar_at m id) (scalar_at m id) (values_of id tasks)) m

-- the same for so many scalars, from the one with this id on
abbrev pub with_scalars : List (ℕ × Fold) → List TaskView → ℕ → ℕ → Memory → Memory
with_scalars reductions tasks id zero m = m
with_scalars reductions tasks id (suc left) m = with_scalars reductions tasks (id + 1) left (with_scalar reductions tasks id m)

-- the same for all scalars of a store
abbrev pub scalars_settled : List (ℕ × Fold) → List TaskView → Memory → Memory
scalars_settled reductions tasks m = with_scalars reductions tasks 0 (length m.scalars) m

-- what tasks have printed, one task after another
abbrev pub all_printed : List TaskView → List ℤ
all_printed tasks = flat_map (λ (x : TaskView). x.share.printed) tasks

-- what tasks make of a store that have only what isn't in it already: its scalars are settled, it has the cells that they have written,
-- each reduction is joined, and what they have printed stands behind what was printed
abbrev pub brought_together : List (ℕ × Fold) → List TaskView → Memory → Memory
brought_together reductions tasks m =
    let joined = with_joined share_of reductions tasks (with_written share_of tasks (scalars_settled reductions tasks m)) in
    record joined { printed = joined.printed ++ all_printed tasks }
