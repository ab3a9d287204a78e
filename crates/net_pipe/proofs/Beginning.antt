-- The tasks and links before the first step.
use Rattle.std.proofs.Common.{◌≡◌, ℕ, zero, suc, ◌+◌, ℤ, refl, sym, ap, ◌∙◌, arith, List, [], ◌∷◌, ◌++◌, map, replicate}
use Rattle.std.proofs.lemmas.List.{append-nil, append_assoc, map-append}
use Rattle.nona_store.proofs.Overlaying.{arrays_under_none}
use Rattle.nona_num.specs.declared.folds.Fold.{Fold}
use Rattle.nona_fission.specs.Sharing.{with_units}
use Rattle.nona_fission.proofs.Begun.{units_arrays, units_printed}
use Rattle.nona_tree.specs.Memory.{Memory}
use Rattle.net_flow.specs.Begun.{first_of, workers_of, tasks_of}
use Rattle.net_flow.specs.Flow.{idle}
use Rattle.net_flow.specs.Net.{Task, Message}
use Rattle.net_flow.specs.Shapes.{Shape, tasks_in}
use Rattle.net_pipe.specs.Works.{Values}
use Rattle.net_pipe.specs.Begun.{first_values}
use Rattle.net_pipe.specs.Links.{LinkView}
use Rattle.net_pipe.specs.Tasks.{TaskView, task_over, new_task, first_position, stand_of}

first_stand : (s : ℕ) → stand_of (first_position s) ≡ idle s
first_stand zero = refl
first_stand (suc s) = refl

-- a new task, as the net has it
pub new_over : (rs : List (ℕ × Fold)) (m : Memory) (s w reserved room : ℕ) (scalars : List ℤ) → scalars ≡ (with_units rs m).scalars
    → task_over m (new_task s w scalars reserved room) ≡ first_of (λ r v. first_values m rs) s w
new_over rs m s w reserved room scalars is = λ i. record {
  stage = s;
  worker = w;
  position = first_stand s i;
  done = 0;
  iteration = 0;
  values = record {
    store = record {
      scalars = is i;
      arrays = (arrays_under_none 0 m.arrays ∙ sym (units_arrays rs m)) i;
      printed = (append-nil m.printed ∙ sym (units_printed rs m)) i;
    };
    held = [];
  };
  moves = 0;
}

-- the tasks of a stage, one after another
pub none_more : (values : ℕ → ℕ → Values) (s : ℕ) (ts : List (Task Values)) → ts ≡ ts ++ workers_of values s 0
none_more values s ts = sym (append-nil ts)

pub one_more : (values : ℕ → ℕ → Values) (m : Memory) (s n : ℕ) (ts : List (Task Values)) (xs : List TaskView) (x : TaskView)
    → map (task_over m) xs ≡ ts ++ workers_of values s n → task_over m x ≡ first_of values s n
    → map (task_over m) (xs ++ x ∷ []) ≡ ts ++ workers_of values s (n + 1)
one_more values m s n ts xs x all new =
    map-append (task_over m) xs (x ∷ [])
    ∙ (λ i. all i ++ new i ∷ [])
    ∙ append_assoc ts (workers_of values s n) (first_of values s n ∷ [])
    ∙ ap (λ (k : ℕ). ts ++ workers_of values s k) (let e : suc n ≡ n + 1 = omega arith in e)

-- those of one more stage
pub one_stage : (shape : Shape) (values : ℕ → ℕ → Values) (m : Memory) (n : ℕ) (xs ys : List TaskView) → map (task_over m) xs ≡ tasks_of shape values n
    → map (task_over m) ys ≡ map (task_over m) xs ++ workers_of values n (tasks_in (shape.parallel n) shape.workers)
    → map (task_over m) ys ≡ tasks_of shape values (n + 1)
one_stage shape values m n xs ys all more =
    more
    ∙ ap (λ (ts : List (Task Values)). ts ++ workers_of values n (tasks_in (shape.parallel n) shape.workers)) all
    ∙ ap (tasks_of shape values) (let e : suc n ≡ n + 1 = omega arith in e)

-- one more link without messages
abbrev no_messages : List (Message (List ℤ))
no_messages = []

none_behind : (n : ℕ) → replicate n no_messages ++ no_messages ∷ [] ≡ replicate (suc n) no_messages
none_behind zero = refl
none_behind (suc n) = ap (λ (ls : List (List (Message (List ℤ)))). [] ∷ ls) (none_behind n)

pub one_link : (n : ℕ) (ls : List LinkView) (link : LinkView) → map (λ (l : LinkView). l.messages) ls ≡ replicate n [] → link.messages ≡ []
    → map (λ (l : LinkView). l.messages) (ls ++ link ∷ []) ≡ replicate (n + 1) []
one_link n ls link all none =
    map-append (λ (l : LinkView). l.messages) ls (link ∷ [])
    ∙ (λ i. all i ++ none i ∷ [])
    ∙ none_behind n
    ∙ ap (λ (k : ℕ). replicate k []) (let e : suc n ≡ n + 1 = omega arith in e)
