-- The tasks before their first steps.
use Rattle.std.proofs.Common.{◌≡◌, ℕ, zero, suc, ◌+◌, ℤ, false, refl, sym, ap, subst, ◌∙◌, arith, List, [], ◌∷◌, ◌++◌, ◌*◌, length, map, replicate}
use Rattle.std.proofs.lemmas.List.{append-nil, map-append, length-append, length-map}
use Rattle.nona_store.proofs.Overlaying.{arrays_under_none}
use Rattle.nona_num.specs.declared.folds.Fold.{Fold}
use Rattle.nona_fission.specs.Sharing.{with_units}
use Rattle.nona_fission.proofs.Begun.{units_arrays, units_printed}
use Rattle.nona_tree.specs.Memory.{Memory}
use Rattle.net_flow.specs.Begun.{first_of, workers_of, begun_net}
use Rattle.net_flow.specs.Flow.{Claims}
use Rattle.net_flow.specs.Net.{Task}
use Rattle.net_flow.specs.Sharing.{IsSharedNet}
use Rattle.net_flow.proofs.BegunSharing.{begun_sharing}
use Rattle.net_share.specs.declared.sharing.Sharing.{Sharing}
use Rattle.net_share.specs.Kept.{no_meaning, doing_of, work_of, net_of}
use Rattle.net_share.specs.Tasks.{TaskView, task_over, new_task}
use Rattle.net_share.specs.Works.{sharing_work}

-- a new task, as the net has it
pub new_over : (rs : List (ℕ × Fold)) (m : Memory) (number reserved room : ℕ) (scalars : List ℤ) → scalars ≡ (with_units rs m).scalars
    → task_over m (new_task number scalars reserved room) ≡ first_of (λ s w. with_units rs m) 0 number
new_over rs m number reserved room scalars is = λ i. record {
  stage = 0;
  worker = number;
  position = Claims;
  done = 0;
  iteration = 0;
  values = record {
    scalars = is i;
    arrays = (arrays_under_none 0 m.arrays ∙ sym (units_arrays rs m)) i;
    printed = (append-nil m.printed ∙ sym (units_printed rs m)) i;
  };
  moves = 0;
}

-- one more task
pub one_more : (values : ℕ → ℕ → Memory) (m : Memory) (xs : List TaskView) (n : ℕ) (x : TaskView) → map (task_over m) xs ≡ workers_of values 0 n
    → task_over m x ≡ first_of values 0 n → map (task_over m) (xs ++ x ∷ []) ≡ workers_of values 0 (n + 1)
one_more values m xs n x all new =
    map-append (task_over m) xs (x ∷ [])
    ∙ (λ i. all i ++ new i ∷ [])
    ∙ ap (workers_of values 0) (let e : suc n ≡ n + 1 = omega arith in e)

-- so many tasks are there
count_workers : (values : ℕ → ℕ → Memory) (n : ℕ) → length (workers_of values 0 n) ≡ n
count_workers values zero = refl
count_workers values (suc n) = length-append (workers_of values 0 n) (first_of values 0 n ∷ []) ∙ (let h = count_workers values n in omega (arith, h))

-- the machine before its first step
module _ (n : Sharing) (W : ℕ) (rs : List (ℕ × Fold)) (granted : n.granted ≡ 0) (going : n.paused ≡ false) (tasks : map (task_over n.store) n.tasks.items ≡ workers_of (λ s w. with_units rs n.store) 0 W) where
  pub count_is : length n.tasks.items ≡ W
  count_is = sym (length-map n.tasks.items (task_over n.store)) ∙ ap (λ (xs : List (Task Memory)). length xs) tasks ∙ count_workers (λ s w. with_units rs n.store) W

  pub net_begun : net_of n ≡ begun_net (sharing_work (doing_of n) W) n.iterations.limit (λ s w. with_units rs n.store)
  net_begun = λ i. record { granted = granted i; limit = n.iterations.limit; paused = going i; tasks = tasks i; links = replicate (no_links i) []; waits = 0 } where
    no_links : 0 ≡ 0 * W
    no_links = omega arith

  pub shared_begun : IsSharedNet (work_of n) no_meaning n.iterations.limit (length n.tasks.items) (net_of n)
  shared_begun =
      subst (λ (k : ℕ). IsSharedNet (sharing_work (doing_of n) k) no_meaning n.iterations.limit k (net_of n)) (sym count_is)
      (subst (IsSharedNet (sharing_work (doing_of n) W) no_meaning n.iterations.limit W) (sym net_begun)
      (begun_sharing Memory (Unit {0}) (sharing_work (doing_of n) W) no_meaning refl refl n.iterations.limit (λ s w. with_units rs n.store) (λ t below. tt)))
