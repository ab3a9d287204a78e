-- What a move of one task makes of the net.
use Rattle.std.proofs.Common.{◌≡◌, ◌<◌, ◌≤◌, ◌+◌, nat_lt, arith, ℕ, Bool, true, false, sym, ap, ◌∙◌, List, [], length, map, get_or, set, if◌then◌else◌}
use Rattle.std.proofs.lemmas.List.{get_or-map, map-set}
use Rattle.std.proofs.lemmas.Bool.Decides.{nat_tests}
use Rattle.nona_tree.specs.Memory.{Memory}
use Rattle.net_flow.specs.Flow.{Claims, Unit_at}
use Rattle.net_flow.specs.Net.{Work, Task, Net, no_task, task_at, enters, closes, with_task, is_granted, moved_at}
use Rattle.net_share.specs.Tasks.{TaskView, task_over, counted, unit_done}

-- a net of these tasks over a store
abbrev pub net_with : ℕ → ℕ → Bool → Memory → List TaskView → Net Memory (Unit {0})
net_with granted limit paused m xs =
    record { granted = granted; limit = limit; paused = paused; tasks = map (task_over m) xs; links = []; waits = 0 }

module _ (work : Work Memory (Unit {0})) (g l : ℕ) (p : Bool) (m : Memory) (xs : List TaskView) (t : ℕ) (old : TaskView) (below : t < length xs) (is : get_or xs t old ≡ old) where
  abbrev net : Net Memory (Unit {0})
  net = net_with g l p m xs

  -- the task as the net has it
  pub at : task_at work net t ≡ task_over m old
  at = get_or-map (task_over m) xs t old (no_task work) below ∙ ap (task_over m) is

  -- the tasks, where one of them is another one
  changed : (k : ℕ) (new : TaskView) (y : Task Memory) → task_over m new ≡ counted y → net_with k l p m (set xs t new) ≡ with_task (record net { granted = k }) t y
  changed k new y eq = ap (λ (ts : List (Task Memory)). let n : Net Memory (Unit {0}) = record { granted = k; limit = l; paused = p; tasks = ts; links = []; waits = 0 } in n)
      (map-set (task_over m) xs t new ∙ ap (set (map (task_over m) xs) t) eq)

  -- a claim that is granted
  pub granted_is : (new : TaskView) → is_granted net ≡ true → task_over m new ≡ counted (enters work g work.no_packet (task_over m old))
      → net_with (g + 1) l p m (set xs t new) ≡ moved_at work net t (task_at work net t) Claims
  granted_is new may eq =
      changed (g + 1) new (enters work g work.no_packet (task_over m old)) eq
      ∙ ap (λ (x : Task Memory). with_task (record net { granted = g + 1 }) t (enters work g work.no_packet x)) (sym at)
      ∙ ap (λ (q : Bool). if q then with_task (record net { granted = net.granted + 1 }) t (enters work net.granted work.no_packet (task_at work net t)) else with_task net t (closes work (task_at work net t))) (sym may)

  -- a claim that is refused
  pub refused_is : (new : TaskView) → is_granted net ≡ false → task_over m new ≡ counted (closes work (task_over m old))
      → net_with g l p m (set xs t new) ≡ moved_at work net t (task_at work net t) Claims
  refused_is new may eq =
      changed g new (closes work (task_over m old)) eq
      ∙ ap (λ (x : Task Memory). with_task net t (closes work x)) (sym at)
      ∙ ap (λ (q : Bool). if q then with_task (record net { granted = net.granted + 1 }) t (enters work net.granted work.no_packet (task_at work net t)) else with_task net t (closes work (task_at work net t))) (sym may)

  -- a unit
  pub unit_is : (u : ℕ) (new : TaskView) → task_over m new ≡ counted (unit_done work u (task_over m old))
      → net_with g l p m (set xs t new) ≡ moved_at work net t (task_at work net t) (Unit_at u)
  unit_is u new eq =
      changed g new (unit_done work u (task_over m old)) eq
      ∙ ap (λ (x : Task Memory). with_task net t (unit_done work u x)) (sym at)

-- a number that isn't below another one
pub not_below : (u n : ℕ) → n ≤ u → nat_lt u n ≡ false
not_below u n high = grind (arith, nat_tests)
