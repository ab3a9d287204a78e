-- The net of an interval whose tasks share an entry's iterations: its work keeps what its tasks' stores mean.
use Rattle.std.proofs.Common.{◌≡◌, ℕ, ◌<◌, ◌≤◌, true, false, List, length, refl, subst, arith}
use Rattle.nona_tree.specs.Entries.{Entry}
use Rattle.nona_tree.specs.Memory.{Memory}
use Rattle.net_flow.specs.Flow.{Position, Claims, Unit_at, Sends, Receives, SendsEnd, Finished}
use Rattle.net_flow.specs.Machines.{RunsOut, is_over}
use Rattle.net_flow.specs.MoveCounts.{sharing_moves}
use Rattle.net_flow.specs.Net.{Task, Net, is_finished, moves_of, net_machine, paused_net, step, task_at}
use Rattle.net_flow.specs.Sharing.{claimed_by, LawfulSharing, HoldsShared, IsSharedNet}
use Rattle.net_flow.proofs.BegunSharing.{begun_sharing}
use Rattle.net_flow.proofs.SharingMachine.{sharing_keeps, sharing_pauses, sharing_runs_out, sharing_kept_out, sharing_moved}
use Rattle.net_share.specs.Entries.{MayShare, IsWithin, IsEntryNet, begun_in, doing_in, entry_net, meaning_in, work_in}
use Rattle.net_share.specs.Kept.{no_meaning}
use Rattle.net_share.specs.May.{MayStep, MayStepAt}
use Rattle.net_share.proofs.Keeping.{any_work}
use Rattle.net_share.proofs.SharedOut.{body_written, depth_behind, depth_between, done_behind}
use Rattle.net_share.proofs.UnitsLeft.{entered, may_run, unit_within, iteration_left}

-- what a task computes keeps what its store means
pub lawful : (e : Entry) (first limit W : ℕ) → MayShare e first limit → LawfulSharing (work_in e first W) (meaning_in e first) limit
lawful e first limit W h = record {
  enter = λ t cs m below ready. entered e first limit t cs m h below ready;
  unit = λ t cs u m below inner w. unit_within e first (claimed_by cs t) (length cs) u m w (done_behind e first limit t cs h below w.begun w.ready) inner (body_written e first limit h);
  leave = λ t cs m below w. iteration_left e first (claimed_by cs t) (length cs) m w (depth_behind e first limit t cs h below w.begun w.ready);
}

pub begins : (e : Entry) (first limit W : ℕ) → MayShare e first limit → IsEntryNet e first limit W (entry_net e first limit W)
begins e first limit W h =
    begun_sharing Memory (Unit {0}) (work_in e first W) (meaning_in e first) refl refl limit (λ s w. begun_in e first) (λ t below. refl)

module _ (e : Entry) (first limit W : ℕ) (net : Net Memory (Unit {0})) (here : IsEntryNet e first limit W net) where
  there : (t : ℕ) → t < W → t < length net.tasks
  there t below = let tasks = here.tasks in omega (arith, below, tasks)

  pub granted_few : net.granted ≤ limit
  granted_few = let few = here.sound.few in let limit_is = here.limit_is in omega (arith, few, limit_is)

  module _ (h : MayShare e first limit) where
    law : LawfulSharing (work_in e first W) (meaning_in e first) limit
    law = lawful e first limit W h

    pub steps : (t : ℕ) → t < W → is_finished (task_at (work_in e first W) net t).position ≡ false → IsEntryNet e first limit W (step (work_in e first W) net t)
    steps t below goes = sharing_keeps Memory (Unit {0}) (work_in e first W) (meaning_in e first) refl limit W law net t here (there t below) goes

    pub pauses : IsEntryNet e first limit W (paused_net net)
    pauses = sharing_pauses Memory (Unit {0}) (work_in e first W) (meaning_in e first) refl limit W law net here

    may_at : (t : ℕ) (x : Task Memory) (p : Position) → HoldsShared (work_in e first W) (meaning_in e first) limit t here.claimants p x → MayStepAt (doing_in e first) p x.values
    may_at t x Claims held = depth_between e first (claimed_by here.claimants t) x.values held
    may_at t x (Unit_at u) held =
        let w : IsWithin e first (claimed_by held.before t) (length held.before) u x.values = held.values in
        may_run e first (claimed_by held.before t) (length held.before) u x.values w (done_behind e first limit t held.before h held.below w.begun w.ready) held.inner
    may_at t x Sends held = tt
    may_at t x (Receives end) held = tt
    may_at t x (SendsEnd link) held = tt
    may_at t x Finished held = tt

    pub may_step : (t : ℕ) → t < W → MayStep (doing_in e first) (task_at (work_in e first W) net t)
    may_step t below =
        let x = task_at (work_in e first W) net t in
        may_at t x x.position (subst (λ (l : ℕ). HoldsShared (work_in e first W) (meaning_in e first) l t here.claimants x.position x) here.limit_is (here.sound.each t (there t below)).held)

    pub ends : (end : Net Memory (Unit {0})) × RunsOut (net_machine (work_in e first W)) net end × IsEntryNet e first limit W end × (is_over (net_machine (work_in e first W)) end ≡ true)
    ends =
        let out = sharing_runs_out Memory (Unit {0}) (work_in e first W) (meaning_in e first) refl limit W law net here in
        let kept = sharing_kept_out Memory (Unit {0}) (work_in e first W) (meaning_in e first) refl limit W law net out.0 out.1 here in
        (out.0, out.1, kept.0, kept.1)

-- the moves, whatever the tasks' stores mean

module _ (e : Entry) (first W : ℕ) where
  unsaid_at : (limit t : ℕ) (cs : List ℕ) (x : Task Memory) (p : Position) → HoldsShared (work_in e first W) (meaning_in e first) limit t cs p x → HoldsShared (work_in e first W) no_meaning limit t cs p x
  unsaid_at limit t cs x Claims held = tt
  unsaid_at limit t cs x (Unit_at u) held = record { before = held.before; below = held.below; number = held.number; took = held.took; values = tt; inner = held.inner }
  unsaid_at limit t cs x Sends held = held
  unsaid_at limit t cs x (Receives end) held = held
  unsaid_at limit t cs x (SendsEnd link) held = held
  unsaid_at limit t cs x Finished held = tt

  unsaid : (limit : ℕ) (net : Net Memory (Unit {0})) → IsEntryNet e first limit W net → IsSharedNet (work_in e first W) no_meaning limit W net
  unsaid limit net here = record {
    claimants = here.claimants;
    sound = record {
      all = here.sound.all;
      few = here.sound.few;
      real = here.sound.real;
      each = λ t below. (let old = here.sound.each t below in let x = task_at (work_in e first W) net t in
          record { stage = old.stage; held = unsaid_at net.limit t here.claimants x x.position old.held; moves = old.moves; shut = old.shut });
      begun = here.sound.begun;
    };
    limit_is = here.limit_is;
    tasks = here.tasks;
  }

pub moves_are : (e : Entry) (first limit W : ℕ) (net : Net Memory (Unit {0})) → IsEntryNet e first limit W net → is_over (net_machine (work_in e first W)) net ≡ true
    → moves_of net ≡ sharing_moves W (length e.looped.body) net.granted
moves_are e first limit W net here over =
    sharing_moved Memory (Unit {0}) (work_in e first W) no_meaning refl limit W (any_work (work_in e first W) limit) net (unsaid e first W limit net here) over
