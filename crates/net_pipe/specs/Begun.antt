-- A pipeline before its first step.
use Rattle.std.specs.Prelude.{ℕ, ℤ, List, []}
use Rattle.nona_num.specs.declared.folds.Fold.{Fold}
use Rattle.nona_fission.specs.Sharing.{with_units}
use Rattle.nona_tree.specs.Memory.{Memory}
use Rattle.net_flow.specs.Begun.{begun_net}
use Rattle.net_flow.specs.Net.{Net}
use Rattle.net_pipe.specs.Works.{Values, stages_work}
use Rattle.net_pipe.specs.declared.stages.Stages.{Stages}
use Rattle.net_pipe.specs.Staged.{staging_of}

-- what each task has before its first step: this store with each reduction at its unit, and no packet
abbrev pub first_values : Memory → List (ℕ × Fold) → Values
first_values m reductions = record { store = with_units reductions m; held = [] }

-- the net of these stages before its first step, over this store
abbrev pub first_net : Stages → Memory → List (ℕ × Fold) → Net Values (List ℤ)
first_net i m reductions = begun_net (stages_work (staging_of i)) i.limit (λ s w. first_values m reductions)
