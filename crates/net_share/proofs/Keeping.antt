-- What stands of the machine is kept by a step.
use Rattle.std.proofs.Common.{◌≡◌, ◌<◌, ◌≤◌, ◌+◌, ◌*◌, ◌^◌, ◌-◌, ◌&&◌, ℕ, suc, Bool, true, false, max, List, map, drop, slice_index_or, refl, sym, ap, subst, subst₂, ◌∙◌, arith, length, pos, ◌+ℤ◌, FitsSigned, w64, if◌then◌else◌}
use Rattle.std.specs.Prelude.{All}
use Rattle.std.proofs.Math.Nat.{mul-le-mul_right}
use Rattle.std.proofs.lemmas.List.{at_drop_more}
use Rattle.nona_tree.specs.Memory.{Memory}
use Rattle.net_flow.specs.Flow.{Position}
use Rattle.net_flow.specs.Machines.{Machine, is_over, over_from}
use Rattle.net_flow.specs.Net.{net_machine, moves_of, Work, Task, Net, task_at, waits_at, moved_at, waited, step, is_finished}
use Rattle.net_flow.specs.Sharing.{LawfulSharing, IsSharedNet}
use Rattle.net_flow.proofs.SharingMachine.{sharing_keeps, sharing_moved}
use Rattle.net_share.specs.declared.iterations.Iterations.{Iterations}
use Rattle.net_share.specs.declared.sharing.Sharing.{Sharing}
use Rattle.net_share.specs.declared.task.Position.{Position as Place}
use Rattle.net_share.specs.declared.task.Position.TheVariants as place
use Rattle.net_share.specs.Kept.{no_meaning, doing_of, work_of, net_of, task_of, most_moves, IsSharing, Stays}
use Rattle.net_share.specs.Tasks.{TaskView, HasRoom, stand_of, task_over}
use Rattle.net_share.specs.Works.{Doing, doing, sharing_work}

-- where nothing is said of values, any work keeps it
pub any_work : (work : Work Memory (Unit {0})) (limit : ℕ) → LawfulSharing work no_meaning limit
any_work work limit = record {
  enter = λ t claimants v below h. tt;
  unit = λ t claimants u v below inner h. tt;
  leave = λ t claimants v below h. tt;
}

-- a step of a task that moves keeps the net
step_keeps : (does : Doing) (W limit many : ℕ) (net : Net Memory (Unit {0})) → IsSharedNet (sharing_work does W) no_meaning limit many net → (t : ℕ) → t < length net.tasks
    → is_finished (task_at (sharing_work does W) net t).position ≡ false → IsSharedNet (sharing_work does W) no_meaning limit many (step (sharing_work does W) net t)
step_keeps does W limit many net here t below goes = sharing_keeps Memory (Unit {0}) (sharing_work does W) no_meaning refl limit many (any_work (sharing_work does W) limit) net t here below goes

-- where a task that shares iterations stands, it doesn't wait
waits_never : (work : Work Memory (Unit {0})) (net : Net Memory (Unit {0})) (x : Task Memory) (p : Place) → waits_at work net x (stand_of p) ≡ false
waits_never w net x place.Claims = refl
waits_never w net x (place.Unit u) = refl
waits_never w net x place.Finished = refl

-- so its step moves
pub step_moves : (work : Work Memory (Unit {0})) (net : Net Memory (Unit {0})) (t : ℕ) (p : Place) → stand_of p ≡ (task_at work net t).position
    → step work net t ≡ moved_at work net t (task_at work net t) (stand_of p)
step_moves work net t p is =
    let x = task_at work net t in
    ap (λ (q : Position). if waits_at work net x q then waited net else moved_at work net t x q) (sym is)
    ∙ ap (λ (q : Bool). if q then waited net else moved_at work net t x (stand_of p)) (waits_never work net x p)

-- what stands of the machine after a step
module _ (old new : Sharing) (here : IsSharing old) (s : Stays old new) where
  -- what its tasks compute is the same
  pub work_stays : work_of new ≡ work_of old
  work_stays i = sharing_work (doing (s.iterations i) (s.depth i)) (s.count i)

  pub stands : IsSharedNet (work_of old) no_meaning old.iterations.limit (length old.tasks.items) (net_of new) → IsSharing new
  stands net = record {
    room = subst (λ (i : Iterations). All (λ (x : TaskView). i.units.now.room ≤ x.room) new.tasks.items) (sym s.iterations) s.room;
    reserved =
        subst (λ (d : ℕ). All (λ (x : TaskView). HasRoom d new.iterations.units.now x.share) new.tasks.items) (sym s.depth)
        (subst (λ (i : Iterations). All (λ (x : TaskView). HasRoom old.depth i.units.now x.share) new.tasks.items) (sym s.iterations) s.reserved);
    fits = subst (λ (i : Iterations). (k : ℕ) → k < i.limit → FitsSigned w64 (i.from +ℤ pos k)) (sym s.iterations) here.fits;
    few =
        subst (λ (c : ℕ). new.iterations.limit * (1 + length new.iterations.units.now.body) + (1 + c) < 2 ^ 64) (sym s.count)
        (subst (λ (i : Iterations). i.limit * (1 + length i.units.now.body) + (1 + length old.tasks.items) < 2 ^ 64) (sym s.iterations) here.few);
    net =
        subst (λ (w : Work Memory (Unit {0})). IsSharedNet w no_meaning new.iterations.limit (length new.tasks.items) (net_of new)) (sym work_stays)
        (subst₂ (λ (l c : ℕ). IsSharedNet (work_of old) no_meaning l c (net_of new)) (sym (ap (λ (i : Iterations). i.limit) s.iterations)) (sym s.count) net);
  }

  module _ (t : ℕ) (there : t < length old.tasks.items) (p : Place) (is : stand_of p ≡ (task_of old t).position) (goes : is_finished (stand_of p) ≡ false)
      (moved : net_of new ≡ moved_at (work_of old) (net_of old) t (task_of old t) (stand_of p)) where
    pub sound_step : IsSharing new
    sound_step =
        let below : t < length (net_of old).tasks = subst (λ (k : ℕ). t < k) (sym here.net.tasks) there in
        let going : is_finished (task_of old t).position ≡ false = ap is_finished (sym is) ∙ goes in
        let kept = step_keeps (doing_of old) (length old.tasks.items) old.iterations.limit (length old.tasks.items) (net_of old) here.net t below going in
        stands (subst (IsSharedNet (work_of old) no_meaning old.iterations.limit (length old.tasks.items)) (step_moves (work_of old) (net_of old) t p is ∙ sym moved) kept)

-- how often the tasks have moved, once all have finished
module _ (n : Sharing) (here : IsSharing n) where
  pub moves_fit : n.granted * length n.iterations.units.now.body + n.granted + length n.tasks.items < 2 ^ 64
  moves_fit =
      let few = here.few in
      let granted = here.net.sound.few in
      let product = mul-le-mul_right (1 + length n.iterations.units.now.body) granted in
      omega (arith, few, product)

  pub moves_are : is_over (net_machine (work_of n)) (net_of n) ≡ true → moves_of (net_of n) ≡ n.granted * length n.iterations.units.now.body + n.granted + length n.tasks.items
  moves_are over =
      let h = sharing_moved Memory (Unit {0}) (work_of n) no_meaning refl n.iterations.limit (length n.tasks.items) (any_work (work_of n) n.iterations.limit) (net_of n) here.net over in
      omega (arith, h)

-- whether all tasks have finished, asked one after another
pub over_begins : {N : Type 0} (machine : Machine N) (net : N) (n : ℕ) → n ≡ machine.tasks net → (true && over_from machine (n - 0) 0 net) ≡ is_over machine net
over_begins machine net n all = ap (λ (k : ℕ). over_from machine k 0 net) (let e : n - 0 ≡ machine.tasks net = omega (arith, all) in e)

and_both : (a b c : Bool) → (a && (b && c)) ≡ ((a && b) && c)
and_both true b c = refl
and_both false b c = refl

pub over_on : {N : Type 0} (machine : Machine N) (net : N) (n t : ℕ) (over : Bool) → t < n
    → (over && over_from machine (n - t) t net) ≡ ((over && machine.finished net t) && over_from machine (n - (t + 1)) (t + 1) net)
over_on machine net n t over below =
    ap (λ (k : ℕ). over && over_from machine k t net) (let e : n - t ≡ suc (n - (t + 1)) = omega (arith, below) in e)
    ∙ and_both over (machine.finished net t) (over_from machine (n - (t + 1)) (t + 1) net)

and_true : (a : Bool) → (a && true) ≡ a
and_true true = refl
and_true false = refl

pub over_ends : {N : Type 0} (machine : Machine N) (net : N) (n t : ℕ) (over : Bool) → n ≤ t → (over && over_from machine (n - t) t net) ≡ over
over_ends machine net n t over past = ap (λ (k : ℕ). over && over_from machine k t net) (let e : n - t ≡ 0 = omega (arith, past) in e) ∙ and_true over

-- the most moves, with one more task
pub most_on : (m : Memory) (xs : List TaskView) (i : ℕ) (x : TaskView) (most : ℕ) → i < length xs → slice_index_or xs i x ≡ x
    → max most (most_moves (map (task_over m) (drop i xs))) ≡ max (max most x.moves) (most_moves (map (task_over m) (drop (i + 1) xs)))
most_on m xs i x most below is =
    let rest = most_moves (map (task_over m) (drop (i + 1) xs)) in
    at_drop_more (λ (ys : List TaskView). max most (most_moves (map (task_over m) ys))) xs i x below
    ∙ ap (λ (y : TaskView). max most (max y.moves rest)) is
    ∙ (let e : max most (max x.moves rest) ≡ max (max most x.moves) rest = omega arith in e)
