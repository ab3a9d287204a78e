-- A net whose tasks share the claims as a machine: its steps keep what stands of it, no task waits, and it runs out.
use Rattle.std.proofs.Common.{◌≡◌, ◌<◌, ◌≤◌, ◌+◌, ◌*◌, ℕ, Bool, true, false, refl, sym, ap, subst, ◌∙◌, arith, ◌⊎◌, inl, inr, List, length, inl, if◌then◌else◌}
use Rattle.std.proofs.Math.Nat.{mul-le-mul_right}
use Rattle.net_flow.specs.Flow.{Position, Claims, Unit_at, Sends, Receives, SendsEnd, Finished, busy}
use Rattle.net_flow.specs.Machines.{is_over, round, RunsOut}
use Rattle.net_flow.specs.MoveCounts.{sharing_moves}
use Rattle.net_flow.specs.Net.{Work, Task, Net, no_task, task_at, waits_at, moved_at, step, is_finished, net_machine, moves_of, paused_net, waited}
use Rattle.net_flow.specs.Shapes.{sum_to}
use Rattle.net_flow.specs.Sharing.{claimed_by, SharedMeaning, LawfulSharing, HoldsShared, sharing_beside, IsShared, IsSharedNet}
use Rattle.net_flow.proofs.MachineProgress.{unfinished_is, finished_is, round_rises, runs_out, kept_out}
use Rattle.net_flow.proofs.MovesMade.{sum_same, sum_times, sum_add, sum_all}
use Rattle.net_flow.proofs.Pipelines.{sum_mono, sum_list}
use Rattle.net_flow.proofs.SharingSteps.{shared_moves, sharing_at}
use Rattle.net_flow.proofs.StepForm.{rises, limit_kept, rest}

module _ (V P : Type 0) (work : Work V P) (m : SharedMeaning V) (alone : work.shape.stages ≡ 1) (limit many : ℕ) (law : LawfulSharing work m limit) where
  abbrev each_is : ℕ
  each_is = 1 + work.shape.units 0

  -- a task never waits
  never_waits : (net : Net V P) (claimants : List ℕ) (refused : Type 0) (t : ℕ) (x : Task V) (p : Position) → HoldsShared work m net.limit t claimants p x → waits_at work net x p ≡ false
  never_waits net claimants refused t x Claims h = refl
  never_waits net claimants refused t x (Unit_at u) h = refl
  never_waits net claimants refused t x Sends h = absurd h
  never_waits net claimants refused t x (Receives e) h = absurd h
  never_waits net claimants refused t x (SendsEnd i) h = absurd h
  never_waits net claimants refused t x Finished h = refl

  free : (net : Net V P) → IsSharedNet work m limit many net → (t : ℕ) → t < length net.tasks → waits_at work net (task_at work net t) (task_at work net t).position ≡ false
  free net here t below = let x = task_at work net t in never_waits net here.claimants ⊥ t x x.position (here.sound.each t below).held

  pub sharing_keeps : (net : Net V P) (t : ℕ) → IsSharedNet work m limit many net → t < length net.tasks → is_finished (task_at work net t).position ≡ false → IsSharedNet work m limit many (step work net t)
  sharing_keeps net t here below goes =
      let x = task_at work net t in
      let law' = subst (LawfulSharing work m) (sym here.limit_is) law in
      let z : Task V = sharing_at V P work m alone net law' here.claimants here.sound t below x.worker x.done x.iteration x.moves x.values x.position x.values x.iteration in
      let same : x ≡ z = ap (λ (i : ℕ). let u : Task V = record { stage = i; worker = x.worker; position = x.position; done = x.done; iteration = x.iteration; values = x.values; moves = x.moves } in u) (here.sound.each t below).stage in
      let on = shared_moves V P work m alone net law' here.claimants here.sound t below x.worker x.done x.iteration x.moves x.values x.position same goes in
      let e : step work net t ≡ moved_at work net t x x.position = ap (λ (q : Bool). if q then waited net else moved_at work net t x x.position) (free net here t below) in
      let back : moved_at work net t z x.position ≡ moved_at work net t x x.position = ap (λ (u : Task V). moved_at work net t u x.position) (sym same) in
      record {
        claimants = on.0;
        sound = subst (λ (n : Net V P). IsShared work m n on.0) (back ∙ sym e) on.1;
        limit_is = limit_kept V P work net t goes ∙ here.limit_is;
        tasks = (rises V P work net t below goes (free net here t below)).1 ∙ here.tasks;
      }

  pub sharing_pauses : (net : Net V P) → IsSharedNet work m limit many net → IsSharedNet work m limit many (paused_net net)
  sharing_pauses net here = record {
    claimants = here.claimants;
    sound = record {
      all = here.sound.all;
      few = here.sound.few;
      real = here.sound.real;
      each = λ t below. (let old = here.sound.each t below in record { stage = old.stage; held = old.held; moves = old.moves; shut = λ e. inl refl });
      begun = here.sound.begun;
    };
    limit_is = here.limit_is;
    tasks = here.tasks;
  }

  -- the most moves of a task
  few_moves : (x : Task V) (claimants : List ℕ) (limit' t : ℕ) (p : Position) → HoldsShared work m limit' t claimants p x → x.done * (1 + work.shape.units 0) + sharing_beside p ≤ (x.done + busy p) * (1 + work.shape.units 0) + 1
  few_moves x claimants limit' t Claims h = omega arith
  few_moves x claimants limit' t (Unit_at u) h = let inner = h.inner in omega (arith, inner)
  few_moves x claimants limit' t Sends h = absurd h
  few_moves x claimants limit' t (Receives e) h = absurd h
  few_moves x claimants limit' t (SendsEnd i) h = absurd h
  few_moves x claimants limit' t Finished h = omega arith

  begun_sum : (net : Net V P) → IsSharedNet work m limit many net → sum_to (length net.tasks) (λ t. let x = task_at work net t in x.done + busy x.position) ≡ net.granted
  begun_sum net here = sym (sum_list (Task V) (λ x. x.done + busy x.position) (no_task work) net.tasks) ∙ here.sound.begun

  pub sharing_bounded : (net : Net V P) → IsSharedNet work m limit many net → moves_of net ≤ limit * (1 + work.shape.units 0) + many
  sharing_bounded net here =
      let n = length net.tasks in
      let f = λ (t : ℕ). (task_at work net t).moves in
      let b = λ (t : ℕ). (task_at work net t).done + busy (task_at work net t).position in
      let one = sum_list (Task V) (λ x. x.moves) (no_task work) net.tasks in
      let two = sum_mono n f (λ t. b t * each_is + 1)
      (λ t below. (let s = here.sound.each t below in let h = few_moves (task_at work net t) here.claimants net.limit t (task_at work net t).position s.held in let e = s.moves in omega (arith, h, e))) in
      let three = sum_add n (λ t. b t * each_is) (λ t. 1) in
      let four = sum_times n each_is b in
      let five = sum_all n 1 in
      let six : sum_to n b * each_is ≡ net.granted * each_is = ap (λ (k : ℕ). k * each_is) (begun_sum net here) in
      let few : net.granted ≤ limit = let a = here.sound.few in let l = here.limit_is in omega (arith, a, l) in
      let seven = mul-le-mul_right each_is few in
      let tasks = here.tasks in
      omega (arith, one, two, three, four, five, six, seven, tasks)

  -- a net that has not finished has a task that moves
  pub sharing_never_stuck : (net : Net V P) → IsSharedNet work m limit many net → is_over (net_machine work) net ≡ false
      → (t : ℕ) × (t < length net.tasks) × (is_finished (task_at work net t).position ≡ false) × (waits_at work net (task_at work net t) (task_at work net t).position ≡ false)
  sharing_never_stuck net here going = let u = unfinished_is (Net V P) (net_machine work) net going in (u.0, u.1, u.2, free net here u.0 u.1)

  -- a round moves some task, where not all have finished
  pub sharing_round_rises : (net : Net V P) → IsSharedNet work m limit many net → is_over (net_machine work) net ≡ false
      → IsSharedNet work m limit many (round (net_machine work) net) × (moves_of net < moves_of (round (net_machine work) net))
  sharing_round_rises net here going =
      round_rises (Net V P) (net_machine work) (IsSharedNet work m limit many) moves_of (limit * (1 + work.shape.units 0) + many) sharing_bounded
      (λ n t s below goes. let k = sharing_keeps n t s below goes in k.tasks ∙ sym s.tasks)
      sharing_keeps (λ n t s below goes go. (rises V P work n t below goes go).0) (λ n t wait. rest V P work n t wait) sharing_never_stuck net here going

  -- the net runs out
  pub sharing_runs_out : (net : Net V P) → IsSharedNet work m limit many net → (end : Net V P) × RunsOut (net_machine work) net end × IsSharedNet work m limit many end
  sharing_runs_out net here =
      runs_out (Net V P) (net_machine work) (IsSharedNet work m limit many) moves_of (limit * (1 + work.shape.units 0) + many) sharing_bounded
      (λ n t s below goes. let k = sharing_keeps n t s below goes in k.tasks ∙ sym s.tasks)
      sharing_keeps (λ n t s below goes go. (rises V P work n t below goes go).0) (λ n t wait. rest V P work n t wait) sharing_never_stuck net here

  pub sharing_kept_out : (net end : Net V P) → RunsOut (net_machine work) net end → IsSharedNet work m limit many net → IsSharedNet work m limit many end × (is_over (net_machine work) end ≡ true)
  sharing_kept_out net end out here =
      kept_out (Net V P) (net_machine work) (IsSharedNet work m limit many) moves_of (limit * (1 + work.shape.units 0) + many) sharing_bounded
      (λ n t s below goes. let k = sharing_keeps n t s below goes in k.tasks ∙ sym s.tasks)
      sharing_keeps (λ n t s below goes go. (rises V P work n t below goes go).0) (λ n t wait. rest V P work n t wait) sharing_never_stuck net end out here

  -- a net whose tasks have all finished
  module _ (net : Net V P) (here : IsSharedNet work m limit many net) (over : is_over (net_machine work) net ≡ true) where
    position : (t : ℕ) → t < length net.tasks → (task_at work net t).position ≡ Finished
    position t below = by_position (task_at work net t).position (finished_is (Net V P) (net_machine work) net over t below) where
      by_position : (p : Position) → is_finished p ≡ true → p ≡ Finished
      by_position Claims h = cc
      by_position (Unit_at u) h = cc
      by_position Sends h = cc
      by_position (Receives e) h = cc
      by_position (SendsEnd i) h = cc
      by_position Finished h = refl

    -- each task has done the iterations that it claimed
    pub sharing_values : (t : ℕ) → t < length net.tasks → m.between t (claimed_by here.claimants t) (task_at work net t).values
    sharing_values t below = let h : HoldsShared work m net.limit t here.claimants Finished (task_at work net t) = subst (λ (p : Position). HoldsShared work m net.limit t here.claimants p (task_at work net t)) (position t below) (here.sound.each t below).held in h

    moves_is : (t : ℕ) → t < length net.tasks → (task_at work net t).moves ≡ ((task_at work net t).done + busy (task_at work net t).position) * (1 + work.shape.units 0) + 1
    moves_is t below =
        let x = task_at work net t in
        let a : x.moves ≡ x.done * (1 + work.shape.units 0) + 1 = (here.sound.each t below).moves ∙ ap (λ (p : Position). x.done * (1 + work.shape.units 0) + sharing_beside p) (position t below) in
        let b : (x.done + busy x.position) * (1 + work.shape.units 0) ≡ (x.done + 0) * (1 + work.shape.units 0) = ap (λ (p : Position). (x.done + busy p) * (1 + work.shape.units 0)) (position t below) in
        omega (arith, a, b)

    -- the moves are those of the formula
    pub sharing_moved : moves_of net ≡ sharing_moves many (work.shape.units 0) net.granted
    sharing_moved =
        let f = λ (t : ℕ). (task_at work net t).moves in
        let b = λ (t : ℕ). (task_at work net t).done + busy (task_at work net t).position in
        let k = length net.tasks in
        let one = sum_list (Task V) (λ x. x.moves) (no_task work) net.tasks in
        let two = sum_same k f (λ t. b t * each_is + 1) moves_is in
        let three = sum_add k (λ t. b t * each_is) (λ t. 1) in
        let four = sum_times k each_is b in
        let five = sum_all k 1 in
        let six : sum_to k b * each_is ≡ net.granted * each_is = ap (λ (j : ℕ). j * each_is) (begun_sum net here) in
        let tasks = here.tasks in
        omega (arith, one, two, three, four, five, six, tasks)

    -- no more was granted than the limit, and without a pause just the limit
    pub sharing_granted : 1 ≤ many → (net.granted ≤ limit) × (net.paused ≡ false → net.granted ≡ limit)
    sharing_granted some = (
      (let a = here.sound.few in let b = here.limit_is in omega (arith, a, b)),
      λ on. by_mark on ((here.sound.each 0 there).shut (position 0 there)),
    ) where
      there : 0 < length net.tasks
      there = let e = here.tasks in omega (arith, some, e)

      by_mark : net.paused ≡ false → (net.paused ≡ true) ⊎ (net.granted ≡ net.limit) → net.granted ≡ limit
      by_mark on (inl h) = cc
      by_mark on (inr h) = h ∙ here.limit_is
