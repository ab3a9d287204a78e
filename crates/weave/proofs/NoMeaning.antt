-- The net of tasks that share iterations, of whose values nothing is said: its steps keep what stands of it.
use Rattle.std.proofs.Common.{ℕ, refl, sym, ◌∙◌}
use Rattle.nona_tree.specs.Memory.{Memory}
use Rattle.morta_task.specs.Entries.{EntryView, loop_of}
use Rattle.net_flow.specs.Net.{Net}
use Rattle.net_flow.specs.Sharing.{IsSharedNet}
use Rattle.net_flow.proofs.SharingMachine.{sharing_keeps, sharing_pauses}
use Rattle.net_flow.proofs.BegunSharing.{begun_sharing}
use Rattle.net_share.specs.Entries.{begun_in, work_in}
use Rattle.net_share.specs.Kept.{no_meaning}
use Rattle.net_share.proofs.Keeping.{any_work}
use Rattle.weave.specs.Shared.{begun_shared, shared_machine}
use Rattle.weave.proofs.Keeping.{Kept}

-- the net of so many tasks that share the iterations of an entry
abbrev pub IsAnyNet : EntryView → ℕ → ℕ → ℕ → Net Memory (Unit {0}) → Type 0
IsAnyNet e before limit workers net = IsSharedNet (work_in (loop_of e) before workers) no_meaning limit workers net

pub any_kept : (e : EntryView) (before limit workers : ℕ) → Kept (shared_machine e before workers) (IsAnyNet e before limit workers)
any_kept e before limit workers =
    let work = work_in (loop_of e) before workers in
    record {
      step = λ net t there going here.
          let on = sharing_keeps Memory (Unit {0}) work no_meaning refl limit workers (any_work work limit) net t here there going in
          (on, on.tasks ∙ sym here.tasks);
      pause = λ net here. sharing_pauses Memory (Unit {0}) work no_meaning refl limit workers (any_work work limit) net here;
    }

-- it stands before the first step
pub any_begun : (e : EntryView) (before limit workers : ℕ) → IsAnyNet e before limit workers (begun_shared e before limit workers)
any_begun e before limit workers =
    begun_sharing Memory (Unit {0}) (work_in (loop_of e) before workers) no_meaning refl refl limit (λ s w. begun_in (loop_of e) before) (λ t below. tt)
