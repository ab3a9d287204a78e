-- The net of a pipeline as a machine: its steps keep it sound, it is never stuck, and it runs out.
use Rattle.std.proofs.Common.{◌≡◌, ◌≢◌, ◌⊎◌, ◌<◌, ◌≤◌, ◌+◌, ◌-◌, ◌*◌, ℕ, zero, suc, Bool, true, false, nat_lt, refl, sym, ap, subst, ◌∙◌, arith, inl, inr, List, [], ◌∷◌, length, get_or, if◌then◌else◌}
use Rattle.std.specs.Prelude.{sum_by}
use Rattle.std.proofs.lemmas.List.Sums.{sum_by-cons}
use Rattle.std.proofs.lemmas.Bool.Decides.{nat_tests}
use Rattle.std.proofs.Math.Nat.{mul-le-mul_right}
use Rattle.net_flow.specs.Dealing.{next_link, due}
use Rattle.net_flow.specs.Flow.{Position, Claims, Unit_at, Sends, Receives, SendsEnd, Finished, Progress, received, sent, received_on, sent_on, is_closed, busy, IsPositionOf, IsProgress}
use Rattle.net_flow.specs.Machines.{is_over, round, RunsOut}
use Rattle.net_flow.specs.MoveCounts.{pipeline_moves, to_close, to_end, beside, made, per_iteration}
use Rattle.net_flow.specs.Net.{Message, Work, Task, Net, no_task, task_at, link_at, is_full, is_empty, waits_at, moved_at, step, is_finished, net_machine, moves_of, paused_net, waited}
use Rattle.net_flow.specs.Shapes.{Shape, IsPipeline, IsTask, HasLink, worker_on, links_of, first_link, sum_to, tasks_in, first_task, task_of}
use Rattle.net_flow.specs.Sound.{Meaning, LawfulWork, Holds, message, flow_of, IsSound, IsNet}
use Rattle.net_flow.proofs.FlowSteps.{Blocked}
use Rattle.net_flow.proofs.LinkContents.{count}
use Rattle.net_flow.proofs.MachineProgress.{unfinished_is, finished_is, round_rises, runs_out, kept_out}
use Rattle.net_flow.proofs.MovesMade.{made_in, made_by_all, sum_same, below_worker, moved_in_all}
use Rattle.net_flow.proofs.Numbering.{task_below, task_with}
use Rattle.net_flow.proofs.StepForm.{rises, limit_kept, rest}
use Rattle.net_flow.proofs.StepKept.{worker_on_is, sound_at}
use Rattle.net_flow.proofs.TaskKept.{head_is_task, next_link_below, on_next_link, has_below, due_mono}
use Rattle.net_flow.proofs.NeverStuck.{Mover, never_stuck as flow_never_stuck}

-- sums over numbers, over a list, and over the tasks of stages
pub sum_mono : (n : ℕ) (f g : ℕ → ℕ) → ((i : ℕ) → i < n → f i ≤ g i) → sum_to n f ≤ sum_to n g
sum_mono zero f g h = omega arith
sum_mono (suc n) f g h = let a = sum_mono n f g (λ i below. h i (omega (arith, below))) in let b = h n (omega arith) in omega (arith, a, b)

sum_front : (n : ℕ) (f : ℕ → ℕ) → sum_to (suc n) f ≡ f 0 + sum_to n (λ i. f (suc i))
sum_front zero f = omega arith
sum_front (suc n) f = let h = sum_front n f in omega (arith, h)

sum_parts : (a b : ℕ) (f : ℕ → ℕ) → sum_to (a + b) f ≡ sum_to a f + sum_to b (λ i. f (a + i))
sum_parts a zero f = let e : a + 0 ≡ a = omega arith in ap (λ (n : ℕ). sum_to n f) e ∙ (let z : sum_to a f ≡ sum_to a f + 0 = omega arith in z)
sum_parts a (suc b) f =
    let h = sum_parts a b f in
    let e : a + suc b ≡ suc (a + b) = omega arith in
    let z = ap (λ (n : ℕ). sum_to n f) e in omega (arith, h, z)

pub sum_list : (X : Type 0) (f : X → ℕ) (d : X) (xs : List X) → sum_by f xs ≡ sum_to (length xs) (λ i. f (get_or xs i d))
sum_list X f d [] = refl
sum_list X f d (x ∷ xs) =
    let h = sum_list X f d xs in
    let k = sum_front (length xs) (λ i. f (get_or (x ∷ xs) i d)) in
    let z = sum_by-cons f x xs in omega (arith, h, k, z)

sum_stages : (shape : Shape) (n : ℕ) (f : ℕ → ℕ) → sum_to (first_task shape n) f ≡ sum_to n (λ s. sum_to (tasks_in (shape.parallel s) shape.workers) (λ w. f (task_of shape s w)))
sum_stages shape zero f = refl
sum_stages shape (suc n) f =
    let h = sum_stages shape n f in
    let k = sum_parts (first_task shape n) (tasks_in (shape.parallel n) shape.workers) f in omega (arith, h, k)

-- the most moves of a task
pub most_of : (shape : Shape) (s w b : ℕ) (closed : Bool) (x : Progress) → IsProgress shape s w b closed x → made shape s w x ≤ due (shape.parallel s) shape.workers w b * per_iteration shape s + (to_close shape s + to_end shape s)
most_of shape s w b closed x fits = by_position x.position refl where
  n : ℕ
  n = due (shape.parallel s) shape.workers w b

  times : (a : ℕ) → a ≤ due (shape.parallel s) shape.workers w b → a * per_iteration shape s ≤ due (shape.parallel s) shape.workers w b * per_iteration shape s
  times a few = mul-le-mul_right (per_iteration shape s) few

  to_end_is : s + 1 < shape.stages → to_end shape s ≡ links_of (shape.parallel s) shape.workers
  to_end_is more = let next : nat_lt (s + 1) shape.stages ≡ true = grind (arith, nat_tests) in ap (λ (q : Bool). if q then links_of (shape.parallel s) shape.workers else 0) next

  to_close_is : (r : ℕ) → s ≡ r → 0 < r → to_close shape r ≡ links_of (shape.parallel r) shape.workers
  to_close_is zero at some = absurd (omega (arith, some))
  to_close_is (suc r) at some = refl

  ends_few : (p : Bool) (i : ℕ) → HasLink p shape.workers w i → i - first_link p w ≤ links_of p shape.workers
  ends_few true i has = omega (arith, has)
  ends_few false i has = omega (arith, has)

  made_is : (p : Position) → x.position ≡ p → made shape s w x ≡ x.done * per_iteration shape s + beside shape s w p
  made_is p at = ap (λ (q : Position). x.done * per_iteration shape s + beside shape s w q) at

  fit_is : (p : Position) → x.position ≡ p → IsPositionOf shape s w p
  fit_is p at = subst (IsPositionOf shape s w) at fits.position

  by_position : (p : Position) → x.position ≡ p → made shape s w x ≤ due (shape.parallel s) shape.workers w b * per_iteration shape s + (to_close shape s + to_end shape s)
  by_position Claims at = let h = times x.done (let z = fits.within in omega (arith, z)) in omega (arith, h, made_is Claims at)
  by_position (Unit_at u) at =
      let one : busy x.position ≡ 1 = ap busy at in
      let h = times (x.done + 1) (let z = fits.within in omega (arith, z, one)) in
      let fit : u < shape.units s = fit_is (Unit_at u) at in omega (arith, h, made_is (Unit_at u) at, fit)
  by_position Sends at =
      let one : busy x.position ≡ 1 = ap busy at in
      let h = times (x.done + 1) (let z = fits.within in omega (arith, z, one)) in omega (arith, h, made_is Sends at)
  by_position (Receives e) at =
      let h = times x.done (let z = fits.within in omega (arith, z)) in
      let fit : (0 < s) × (e < links_of (shape.parallel s) shape.workers) = fit_is (Receives e) at in
      let l = to_close_is s refl fit.0 in
      let few = fit.1 in omega (arith, h, made_is (Receives e) at, l, few)
  by_position (SendsEnd i) at =
      let h = times x.done (let z = fits.within in omega (arith, z)) in
      let fit : (s + 1 < shape.stages) × HasLink (shape.parallel s) shape.workers w i = fit_is (SendsEnd i) at in
      let few = ends_few (shape.parallel s) i fit.1 in
      let t = to_end_is fit.0 in omega (arith, h, made_is (SendsEnd i) at, few, t)
  by_position Finished at = let h = times x.done (let z = fits.within in omega (arith, z)) in omega (arith, h, made_is Finished at)

-- the most moves of all, where so many claims may be granted
unfoldable pub most_moves : Shape → ℕ → ℕ
most_moves shape limit = sum_to shape.stages (λ s. sum_to (tasks_in (shape.parallel s) shape.workers) (λ w. due (shape.parallel s) shape.workers w limit * per_iteration shape s + (to_close shape s + to_end shape s)))

module _ (V P : Type 0) (work : Work V P) (m : Meaning V P) (is : IsPipeline work.shape) (limit : ℕ) (law : LawfulWork work m limit) where
  moves_made : (net : Net V P) → IsSound work m net → moves_of net ≡ made_by_all work.shape (flow_of work net)
  moves_made net sound =
      let shape = work.shape in
      let f = λ (t : ℕ). (task_at work net t).moves in
      let one = sum_list (Task V) (λ x. x.moves) (no_task work) net.tasks in
      let two : sum_to (length net.tasks) f ≡ sum_to (first_task shape shape.stages) f = ap (λ (n : ℕ). sum_to n f) sound.tasks in
      let three = sum_stages shape shape.stages f in
      let four : sum_to shape.stages (λ s. sum_to (tasks_in (shape.parallel s) shape.workers) (λ w. f (task_of shape s w))) ≡ made_by_all shape (flow_of work net) =
      sum_same shape.stages (λ s. sum_to (tasks_in (shape.parallel s) shape.workers) (λ w. f (task_of shape s w))) (made_in shape (flow_of work net))
      (λ s within. sum_same (tasks_in (shape.parallel s) shape.workers) (λ w. f (task_of shape s w)) (λ w. made shape s w (flow_of work net s w))
      (λ w below. sound.moves s w (within, below_worker (shape.parallel s) shape.workers w below))) in
      one ∙ two ∙ three ∙ four

  pub bounded : (net : Net V P) → IsNet work m limit net → moves_of net ≤ most_moves work.shape limit
  unfolding most_moves
  bounded net here =
      let shape = work.shape in
      let sound = here.sound in
      let few : net.granted ≤ limit = let a = sound.few in let e = here.limit_is in omega (arith, a, e) in
      let h = sum_mono shape.stages (made_in shape (flow_of work net)) (λ s. sum_to (tasks_in (shape.parallel s) shape.workers) (λ w. due (shape.parallel s) shape.workers w limit * per_iteration shape s + (to_close shape s + to_end shape s)))
      (λ s within. sum_mono (tasks_in (shape.parallel s) shape.workers) (λ w. made shape s w (flow_of work net s w)) (λ w. due (shape.parallel s) shape.workers w limit * per_iteration shape s + (to_close shape s + to_end shape s))
      (λ w below.
      (let worker = below_worker (shape.parallel s) shape.workers w below in
      let fits = sound.flow.tasks s w (within, worker) in
      let a = most_of shape s w net.granted (is_closed (flow_of work net 0 0).position) (flow_of work net s w) fits in
      let b = mul-le-mul_right (per_iteration shape s) (due_mono (shape.parallel s) shape.workers w net.granted limit worker few) in
      omega (arith, a, b)))) in
      let k = moves_made net sound in omega (arith, h, k)

  -- a step that waits keeps a net sound
  sound_waited : (net : Net V P) → IsSound work m net → IsSound work m (waited net)
  sound_waited net s = record { few = s.few; shut = s.shut; flow = s.flow; tasks = s.tasks; link_total = s.link_total; stage = s.stage; worker = s.worker; moves = s.moves; holds = s.holds; links = s.links }

  -- and so does a pause
  sound_paused : (net : Net V P) → IsSound work m net → IsSound work m (paused_net net)
  sound_paused net s = record { few = s.few; shut = λ h. inl refl; flow = s.flow; tasks = s.tasks; link_total = s.link_total; stage = s.stage; worker = s.worker; moves = s.moves; holds = s.holds; links = s.links }

  pub paused_keeps : (net : Net V P) → IsNet work m limit net → IsNet work m limit (paused_net net)
  paused_keeps net here = record { sound = sound_paused net here.sound; limit_is = here.limit_is }

  -- a task with its stage and worker given by its number
  abbrev named : ℕ → ℕ → Task V → Task V
  named s w y = record { stage = s; worker = w; position = y.position; done = y.done; iteration = y.iteration; values = y.values; moves = y.moves }

  is_named : (s w : ℕ) (y : Task V) → y.stage ≡ s → y.worker ≡ w → y ≡ named s w y
  is_named s w y stage worker =
      ap (λ (i : ℕ). named i y.worker y) stage ∙ ap (λ (i : ℕ). named s i y) worker

  pub keeps : (net : Net V P) (t : ℕ) → IsNet work m limit net → t < length net.tasks → is_finished (task_at work net t).position ≡ false → IsNet work m limit (step work net t)
  keeps net t here below goes = record { sound = by_waits (waits_at work net x x.position) refl; limit_is = limit_kept V P work net t goes ∙ here.limit_is } where
    x : Task V
    x = task_at work net t

    sound : IsSound work m net
    sound = here.sound

    law' : LawfulWork work m net.limit
    law' = subst (LawfulWork work m) (sym here.limit_is) law

    at : (s : ℕ) × (w : ℕ) × IsTask work.shape s w × (task_of work.shape s w ≡ t)
    at = task_with work.shape work.shape.stages t (omega arith) (let e = sound.tasks in omega (arith, below, e))

    by_waits : (q : Bool) → waits_at work net (task_at work net t) (task_at work net t).position ≡ q
        → IsSound work m (if q then waited net else moved_at work net t (task_at work net t) (task_at work net t).position)
    by_waits true wait = sound_waited net sound
    by_waits false free =
        let s = at.0 in
        let w = at.1 in
        let y = task_at work net (task_of work.shape s w) in
        let z = named s w y in
        let same : y ≡ z = is_named s w y (sound.stage s w at.2) (sound.worker s w at.2) in
        let goes' : is_finished y.position ≡ false = subst (λ (i : ℕ). is_finished (task_at work net i).position ≡ false) (sym at.3) goes in
        let free' : waits_at work net y y.position ≡ false = subst (λ (i : ℕ). waits_at work net (task_at work net i) (task_at work net i).position ≡ false) (sym at.3) free in
        let free'' : waits_at work net z z.position ≡ false = subst (λ (u : Task V). waits_at work net u u.position ≡ false) same free' in
        let h : IsSound work m (moved_at work net (task_of work.shape s w) z z.position) =
        sound_at V P work m is net law' sound s w at.2 y.done y.iteration y.moves y.values y.position same goes' free'' in
        let k : IsSound work m (moved_at work net (task_of work.shape s w) y y.position) = subst (λ (u : Task V). IsSound work m (moved_at work net (task_of work.shape s w) u u.position)) (sym same) h in
        subst (λ (i : ℕ). IsSound work m (moved_at work net i (task_at work net i) (task_at work net i).position)) at.3 k

  -- a task that waits is blocked, by the counts of its link
  module _ (net : Net V P) (sound : IsSound work m net) (s w : ℕ) (is_task : IsTask work.shape s w) where
    length_is : (r l : ℕ) → r + 1 < work.shape.stages → l < work.shape.workers
        → length (link_at work net r l) ≡ sent_on work.shape (flow_of work net) r l - received_on work.shape (flow_of work net) (r + 1) l
    length_is r l within below =
        ap length (sound.links r l within below)
        ∙ count P (message (m.carried r) work.shape.workers l (Rattle.net_flow.specs.Flow.packets_on work.shape (flow_of work net) r l)) (received_on work.shape (flow_of work net) (r + 1) l)
        (sent_on work.shape (flow_of work net) r l - received_on work.shape (flow_of work net) (r + 1) l)

    full_is : (l : ℕ) → s + 1 < work.shape.stages → l < work.shape.workers → worker_on (work.shape.parallel s) l ≡ w → is_full work (link_at work net s l) ≡ true
        → received_on work.shape (flow_of work net) (s + 1) l + work.shape.capacity ≤ sent (work.shape.parallel s) work.shape.workers l (flow_of work net s w)
    full_is l more below on full =
        let h : work.shape.capacity ≤ length (link_at work net s l) = grind (arith, nat_tests) in
        let n = length_is s l more below in
        let k = sound.flow.links s (s + 1) l refl more below in
        let e : sent_on work.shape (flow_of work net) s l ≡ sent (work.shape.parallel s) work.shape.workers l (flow_of work net s w) =
        ap (λ (i : ℕ). sent (work.shape.parallel s) work.shape.workers l (flow_of work net s i)) on in
        omega (arith, h, n, k, e)

    empty_is : (r l : ℕ) → r + 1 ≡ s → l < work.shape.workers → worker_on (work.shape.parallel s) l ≡ w → is_empty (link_at work net r l) ≡ true
        → sent_on work.shape (flow_of work net) r l ≤ received (work.shape.parallel s) work.shape.workers l (flow_of work net s w)
    empty_is r l next below on empty =
        let none : length (link_at work net r l) ≡ 0 = by_link (link_at work net r l) empty in
        let n = length_is r l (omega (arith, next, is_task.0)) below in
        let e : received_on work.shape (flow_of work net) (r + 1) l ≡ received (work.shape.parallel s) work.shape.workers l (flow_of work net s w) =
        ap (λ (i : ℕ). received_on work.shape (flow_of work net) i l) next ∙ ap (λ (i : ℕ). received (work.shape.parallel s) work.shape.workers l (flow_of work net s i)) on in
        omega (arith, none, n, e)
      where
        by_link : (link : List (Message P)) → is_empty link ≡ true → length link ≡ 0
        by_link [] h = refl
        by_link (x ∷ rest) h = cc

    blocked_if : (p : Position) (d k n : ℕ) (v : V) → task_at work net (task_of work.shape s w) ≡ record { stage = s; worker = w; position = p; done = d; iteration = k; values = v; moves = n }
        → waits_at work net (record { stage = s; worker = w; position = p; done = d; iteration = k; values = v; moves = n }) p ≡ true → Blocked work.shape (flow_of work net) s w p
    blocked_if Claims d k n v at wait = cc
    blocked_if (Unit_at u) d k n v at wait = cc
    blocked_if Sends d k n v at wait =
        let done_is : (flow_of work net s w).done ≡ d = ap (λ (x : Task V). x.done) at in
        let position_is : (flow_of work net s w).position ≡ Sends = ap (λ (x : Task V). x.position) at in
        let more : s + 1 < work.shape.stages = subst (IsPositionOf work.shape s w) position_is (sound.flow.tasks s w is_task).position in
        let l = next_link (work.shape.parallel s) work.shape.workers w d in
        let below = next_link_below (work.shape.parallel s) work.shape.workers w d is.some_worker is_task.1 in
        let h = full_is l more below (on_next_link (work.shape.parallel s) work.shape.workers w d is_task.1) wait in
        subst (λ (i : ℕ). received_on work.shape (flow_of work net) (s + 1) (next_link (work.shape.parallel s) work.shape.workers w i) + work.shape.capacity
        ≤ sent (work.shape.parallel s) work.shape.workers (next_link (work.shape.parallel s) work.shape.workers w i) (flow_of work net s w)) (sym done_is) h
    blocked_if (Receives e) d k n v at wait = λ r next.
        let done_is : (flow_of work net s w).done ≡ d = ap (λ (x : Task V). x.done) at in
        let l = next_link (work.shape.parallel s) work.shape.workers w (d + e) in
        let below = next_link_below (work.shape.parallel s) work.shape.workers w (d + e) is.some_worker is_task.1 in
        let from_stage : s - 1 ≡ r = omega (arith, next) in
        let wait' : is_empty (link_at work net r l) ≡ true = subst (λ (i : ℕ). is_empty (link_at work net i l) ≡ true) from_stage wait in
        let h = empty_is r l next below (on_next_link (work.shape.parallel s) work.shape.workers w (d + e) is_task.1) wait' in
        subst (λ (i : ℕ). sent_on work.shape (flow_of work net) r (next_link (work.shape.parallel s) work.shape.workers w (i + e))
        ≤ received (work.shape.parallel s) work.shape.workers (next_link (work.shape.parallel s) work.shape.workers w (i + e)) (flow_of work net s w)) (sym done_is) h
    blocked_if (SendsEnd i) d k n v at wait =
        let position_is : (flow_of work net s w).position ≡ SendsEnd i = ap (λ (x : Task V). x.position) at in
        let fit : (s + 1 < work.shape.stages) × HasLink (work.shape.parallel s) work.shape.workers w i = subst (IsPositionOf work.shape s w) position_is (sound.flow.tasks s w is_task).position in
        let below = has_below (work.shape.parallel s) work.shape.workers w i is_task.1 fit.1 in
        full_is i fit.0 below (worker_on_is (work.shape.parallel s) work.shape.workers w i is_task.1 fit.1) wait
    blocked_if Finished d k n v at wait = cc

  finished_position : (p : Position) → is_finished p ≡ false → p ≢ Finished
  finished_position p h e = let z : true ≡ false = sym (ap is_finished e) ∙ h in cc

  position_finished : (p : Position) → p ≢ Finished → is_finished p ≡ false
  position_finished Claims h = refl
  position_finished (Unit_at u) h = refl
  position_finished Sends h = refl
  position_finished (Receives e) h = refl
  position_finished (SendsEnd i) h = refl
  position_finished Finished h = absurd (h refl)

  free_is : (net : Net V P) (sound : IsSound work m net) (s w : ℕ) (is_task : IsTask work.shape s w) → (Blocked work.shape (flow_of work net) s w (flow_of work net s w).position → ⊥)
      → (q : Bool) → waits_at work net (task_at work net (task_of work.shape s w)) (task_at work net (task_of work.shape s w)).position ≡ q
      → waits_at work net (task_at work net (task_of work.shape s w)) (task_at work net (task_of work.shape s w)).position ≡ false
  free_is net sound s w is_task free false at = at
  free_is net sound s w is_task free true at =
      let y = task_at work net (task_of work.shape s w) in
      let same = is_named s w y (sound.stage s w is_task) (sound.worker s w is_task) in
      let at' = subst (λ (u : Task V). waits_at work net u u.position ≡ true) same at in
      absurd (free (blocked_if net sound s w is_task y.position y.done y.iteration y.moves y.values same at'))

  -- a net that has not finished has a task that moves
  pub never_stuck : (net : Net V P) → IsNet work m limit net → is_over (net_machine work) net ≡ false
      → (t : ℕ) × (t < length net.tasks) × (is_finished (task_at work net t).position ≡ false) × (waits_at work net (task_at work net t) (task_at work net t).position ≡ false)
  never_stuck net here going = by_mover (flow_never_stuck work.shape is net.granted (flow_of work net) here.sound.flow at.0 at.1 at.2 position) where
    u : (t : ℕ) × (t < length net.tasks) × (is_finished (task_at work net t).position ≡ false)
    u = unfinished_is (Net V P) (net_machine work) net going

    at : (s : ℕ) × (w : ℕ) × IsTask work.shape s w × (task_of work.shape s w ≡ u.0)
    at = task_with work.shape work.shape.stages u.0 (omega arith) (let e = here.sound.tasks in let b = u.1 in omega (arith, b, e))

    position : (flow_of work net at.0 at.1).position ≢ Finished
    position = finished_position (flow_of work net at.0 at.1).position (subst (λ (i : ℕ). is_finished (task_at work net i).position ≡ false) (sym at.3) u.2)

    by_mover : Mover work.shape is net.granted (flow_of work net) here.sound.flow
        → (t : ℕ) × (t < length net.tasks) × (is_finished (task_at work net t).position ≡ false) × (waits_at work net (task_at work net t) (task_at work net t).position ≡ false)
    by_mover mover =
        let t = task_of work.shape mover.stage mover.worker in
        let y = task_at work net t in
        let below : t < length net.tasks = let b = task_below work.shape mover.stage mover.worker mover.is_task in let e = here.sound.tasks in omega (arith, b, e) in
        (t, below, position_finished y.position mover.goes_on, free_is net here.sound mover.stage mover.worker mover.is_task mover.free (waits_at work net y y.position) refl)

  -- a round moves some task, where not all have finished
  pub net_round_rises : (net : Net V P) → IsNet work m limit net → is_over (net_machine work) net ≡ false
      → IsNet work m limit (round (net_machine work) net) × (moves_of net < moves_of (round (net_machine work) net))
  net_round_rises net here going =
      round_rises (Net V P) (net_machine work) (IsNet work m limit) moves_of (most_moves work.shape limit)
      bounded (λ n t s below goes. let k = keeps n t s below goes in let a = k.sound.tasks in a ∙ sym s.sound.tasks)
      keeps (λ n t s below goes free. (rises V P work n t below goes free).0) (λ n t wait. rest V P work n t wait) never_stuck
      net here going

  -- the net runs out
  pub net_runs_out : (net : Net V P) → IsNet work m limit net → (end : Net V P) × RunsOut (net_machine work) net end × IsNet work m limit end
  net_runs_out net here =
      runs_out (Net V P) (net_machine work) (IsNet work m limit) moves_of (most_moves work.shape limit)
      bounded (λ n t s below goes. let k = keeps n t s below goes in let a = k.sound.tasks in a ∙ sym s.sound.tasks)
      keeps (λ n t s below goes free. (rises V P work n t below goes free).0) (λ n t wait. rest V P work n t wait) never_stuck
      net here

  pub net_kept_out : (net end : Net V P) → RunsOut (net_machine work) net end → IsNet work m limit net → IsNet work m limit end × (is_over (net_machine work) end ≡ true)
  net_kept_out net end out here =
      kept_out (Net V P) (net_machine work) (IsNet work m limit) moves_of (most_moves work.shape limit)
      bounded (λ n t s below goes. let k = keeps n t s below goes in let a = k.sound.tasks in a ∙ sym s.sound.tasks)
      keeps (λ n t s below goes free. (rises V P work n t below goes free).0) (λ n t wait. rest V P work n t wait) never_stuck
      net end out here

  position_over : (p : Position) → is_finished p ≡ true → p ≡ Finished
  position_over Claims h = cc
  position_over (Unit_at u) h = cc
  position_over Sends h = cc
  position_over (Receives e) h = cc
  position_over (SendsEnd i) h = cc
  position_over Finished h = refl

  -- a net whose tasks have all finished
  module _ (net : Net V P) (here : IsNet work m limit net) (over : is_over (net_machine work) net ≡ true) where
    positions : (s w : ℕ) → IsTask work.shape s w → (flow_of work net s w).position ≡ Finished
    positions s w is_task =
        position_over (flow_of work net s w).position
        (finished_is (Net V P) (net_machine work) net over (task_of work.shape s w) (let b = task_below work.shape s w is_task in let e = here.sound.tasks in omega (arith, b, e)))

    -- each task has done all that is due to it
    pub net_values : (s w : ℕ) → IsTask work.shape s w → m.between s w (due (work.shape.parallel s) work.shape.workers w net.granted) (task_at work net (task_of work.shape s w)).values
    net_values s w is_task =
        let x = task_at work net (task_of work.shape s w) in
        let at = positions s w is_task in
        let all = ((here.sound.flow.tasks s w is_task).all (ap is_closed at)).0 in
        let h : Holds work m s w Finished x = subst (λ (p : Position). Holds work m s w p x) at (here.sound.holds s w is_task) in
        subst (λ (d : ℕ). m.between s w d x.values) all h

    -- the moves are those of the formula
    pub net_moves : moves_of net ≡ pipeline_moves work.shape net.granted
    net_moves = moves_made net here.sound ∙ moved_in_all work.shape is net.granted (flow_of work net) here.sound.flow positions

    -- no more was granted than the limit, and without a pause just the limit
    pub net_granted : (net.granted ≤ limit) × (net.paused ≡ false → net.granted ≡ limit)
    net_granted = (
      (let a = here.sound.few in let b = here.limit_is in omega (arith, a, b)),
      λ on. by_mark on (here.sound.shut (ap is_closed (positions 0 0 (head_is_task work.shape is)))),
    ) where
      by_mark : net.paused ≡ false → (net.paused ≡ true) ⊎ (net.granted ≡ net.limit) → net.granted ≡ limit
      by_mark on (inl h) = cc
      by_mark on (inr h) = h ∙ here.limit_is
