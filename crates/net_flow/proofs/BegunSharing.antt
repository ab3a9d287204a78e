-- A net whose tasks share the claims stands before its first step.
use Rattle.std.proofs.Common.{◌≡◌, ◌⊎◌, ◌<◌, ◌+◌, ℕ, Bool, true, false, refl, sym, ap, subst, ◌∙◌, arith, [], length}
use Rattle.net_flow.specs.Begun.{first_of, begun_net}
use Rattle.net_flow.specs.Flow.{busy}
use Rattle.net_flow.specs.Net.{Work, Task, Net, no_task, task_at}
use Rattle.net_flow.specs.Shapes.{tasks_in, first_task}
use Rattle.net_flow.specs.Sharing.{SharedMeaning, IsSharing, IsSharedNet}
use Rattle.net_flow.proofs.BegunNet.{tasks_at, tasks_length}
use Rattle.net_flow.proofs.MovesMade.{sum_same, sum_all}
use Rattle.net_flow.proofs.Pipelines.{sum_list}

module _ (V P : Type 0) (work : Work V P) (m : SharedMeaning V) (alone : work.shape.stages ≡ 1) (spread : work.shape.parallel 0 ≡ true) (limit : ℕ) (values : ℕ → ℕ → V)
    (begins : (t : ℕ) → t < work.shape.workers → m.between t [] (values 0 t)) where
  abbrev first : Net V P
  first = begun_net work limit values

  first_length : length (begun_net work limit values).tasks ≡ work.shape.workers
  first_length =
      let h = tasks_length V work.shape values (no_task work) work.shape.stages in
      let one : first_task work.shape work.shape.stages ≡ 0 + tasks_in (work.shape.parallel 0) work.shape.workers = ap (first_task work.shape) alone in
      let all : tasks_in (work.shape.parallel 0) work.shape.workers ≡ work.shape.workers = ap (λ (p : Bool). tasks_in p work.shape.workers) spread in
      omega (arith, h, one, all)

  first_at : (t : ℕ) → t < work.shape.workers → task_at work (begun_net work limit values) t ≡ first_of values 0 t
  first_at t below =
      let e : t ≡ 0 + t = omega arith in
      let within : t < tasks_in (work.shape.parallel 0) work.shape.workers = subst (λ (p : Bool). t < tasks_in p work.shape.workers) (sym spread) below in
      ap (λ (i : ℕ). task_at work (begun_net work limit values) i) e ∙ tasks_at V work.shape values (no_task work) work.shape.stages 0 t (omega (arith, alone)) within

  first_stands : (t : ℕ) → t < length (begun_net work limit values).tasks → IsSharing work m limit [] ((false ≡ true) ⊎ (0 ≡ limit)) t (task_at work (begun_net work limit values) t)
  first_stands t below =
      let low : t < work.shape.workers = let l = first_length in omega (arith, below, l) in
      subst (IsSharing work m limit [] ((false ≡ true) ⊎ (0 ≡ limit)) t) (sym (first_at t low))
      (record { stage = refl; held = begins t low; moves = omega arith; shut = λ e. (cc) })

  pub begun_sharing : IsSharedNet work m limit work.shape.workers (begun_net work limit values)
  begun_sharing = record {
    claimants = [];
    sound = record {
      all = refl;
      few = omega arith;
      real = λ k below. absurd (omega (arith, below));
      each = first_stands;
      begun =
          let l = first_length in
          let one = sum_list (Task V) (λ x. x.done + busy x.position) (no_task work) (begun_net work limit values).tasks in
          let two = sum_same (length (begun_net work limit values).tasks) (λ t. let x = task_at work (begun_net work limit values) t in x.done + busy x.position) (λ t. 0)
          (λ t below. ap (λ (x : Task V). x.done + busy x.position) (first_at t (omega (arith, below, l)))) in
          let three = sum_all (length (begun_net work limit values).tasks) 0 in omega (arith, one, two, three);
    };
    limit_is = refl;
    tasks = first_length;
  }
