-- What is asked of all tasks, one after another.
use Rattle.std.proofs.Common.{◌≡◌, ◌<◌, ◌+◌, ◌∙◌, ℕ, max, List, ◌∷◌, map, drop, slice_index_or, ap, arith, length}
use Rattle.std.specs.Prelude.{sum_by}
use Rattle.std.proofs.lemmas.List.{at_drop_more}
use Rattle.std.proofs.lemmas.List.Sums.{sum_by-cons}
use Rattle.nona_tree.specs.Memory.{Memory}
use Rattle.net_flow.specs.Net.{Task}
use Rattle.net_pipe.specs.Works.{Values}
use Rattle.net_pipe.specs.Kept.{most_moves}
use Rattle.net_pipe.specs.Tasks.{TaskView, task_over}

-- the most moves, with one more task
pub most_on : (m : Memory) (xs : List TaskView) (i : ℕ) (x : TaskView) (most : ℕ) → i < length xs → slice_index_or xs i x ≡ x
    → max most (most_moves (map (task_over m) (drop i xs))) ≡ max (max most x.moves) (most_moves (map (task_over m) (drop (i + 1) xs)))
most_on m xs i x most below is =
    let rest = most_moves (map (task_over m) (drop (i + 1) xs)) in
    at_drop_more (λ (ys : List TaskView). max most (most_moves (map (task_over m) ys))) xs i x below
    ∙ ap (λ (y : TaskView). max most (max y.moves rest)) is
    ∙ (let e : max most (max x.moves rest) ≡ max (max most x.moves) rest = omega arith in e)

-- how often these tasks have moved
abbrev pub moved_by : Memory → List TaskView → ℕ
moved_by m xs = sum_by (λ (x : Task Values). x.moves) (map (task_over m) xs)

-- the moves of all, with one more task
pub moves_on : (m : Memory) (xs : List TaskView) (i : ℕ) (x : TaskView) (moves : ℕ) → i < length xs → slice_index_or xs i x ≡ x
    → moves + moved_by m (drop i xs) ≡ moves + x.moves + moved_by m (drop (i + 1) xs)
moves_on m xs i x moves below is =
    let rest = drop (i + 1) xs in
    let all = at_drop_more (λ (ys : List TaskView). moved_by m ys) xs i x below ∙ ap (λ (y : TaskView). moved_by m (y ∷ rest)) is in
    let one = sum_by-cons (λ (y : Task Values). y.moves) (task_over m x) (map (task_over m) rest) in
    omega (arith, all, one)
