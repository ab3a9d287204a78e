-- What the run of an entry does.
use Rattle.std.specs.Prelude.{◌≡◌, ◌≢◌, ℕ, ◌<◌, ◌≤◌, length, None, Some}
use Rattle.std.specs.Int.{int_gap}
use Rattle.std.specs.declared.option.Option.{Option}
use Rattle.fate_io.specs.Sending.{Sent}
use Rattle.nona_tree.specs.declared.outcomes.Outcome.{Outcome}
use Rattle.nona_tree.specs.declared.outcomes.Outcome.TheVariants.{Done}
use Rattle.nona_tree.specs.declared.trees.Stmt.{For}
use Rattle.nona_tree.specs.Memory.{Memory, Extends}
use Rattle.nona_tree.specs.Run.{Ran, Reaches, run, done, starved}
use Rattle.morta_task.specs.declared.intervals.Interval.{Interval}
use Rattle.morta_task.specs.declared.intervals.Handoff.{Handoff}
use Rattle.morta_task.specs.Entries.{EntryView, IsEntered, last, before, state_after}
use Rattle.morta_task.specs.LogView.{LogView}
use Rattle.morta_task.specs.Promise.{Promise}
use Rattle.morta_task.specs.Legal.{last_in, GoesOnBehind, IsClosed}
use Rattle.morta_exec.specs.declared.fault.DriveFault.{DriveFault}
use Rattle.morta_exec.specs.Began.{Began, all_entries, whole_run}
use Rattle.morta_exec.specs.Log.{LogStands}
use Rattle.morta_exec.specs.Drive.{StopsShort}
use Rattle.morta_exec.specs.Standing.{StandsBetween, StandsBefore, IsOfRun}

-- the run of the whole loop of an entry
unfoldable pub whole_loop : EntryView → Ran
whole_loop e = run (For e.looped) e.turns e.store

-- How the whole loop of an entry stands to the states after its iterations: it ends with the last of them, out of turns
-- where it has more; it ends with one that ended otherwise than done; and what is printed only grows.
pub record LoopsOfEntries : Type 0 where
  pub whole : (e : EntryView) (m : Memory) → IsEntered e → state_after e (before e (last e)) ≡ done m → int_gap e.low e.high ≤ e.turns
      → whole_loop e ≡ done m
  pub starves : (e : EntryView) (m : Memory) → IsEntered e → state_after e (before e (last e)) ≡ done m → e.turns < int_gap e.low e.high
      → whole_loop e ≡ starved e.looped.at m
  pub over : (e : EntryView) (k : ℕ) → IsEntered e → k ≤ before e (last e) → (state_after e k).end ≢ Done → whole_loop e ≡ state_after e k
  pub grows : (e : EntryView) (j k : ℕ) → j ≤ k → Extends (state_after e j).store.printed (state_after e k).store.printed
  pub leads : (e : EntryView) (k : ℕ) → IsEntered e → k ≤ before e (last e)
      → Extends (state_after e k).store.printed (whole_loop e).store.printed

-- An entry goes on behind what an interval did; or its whole loop has ended so, in the store behind that interval.
abbrev pub EndsWith : EntryView → Interval → Option Outcome → Type 0
EndsWith e i None = (before e i.done.to < before e (last e)) × GoesOnBehind i.done.cut
EndsWith e i (Some end) =
    Reaches (whole_loop e) (state_after e (before e i.done.to)).store end
    × (GoesOnBehind i.done.cut → i.done.to ≡ last e) × (end ≡ Done → GoesOnBehind i.done.cut)

-- an entry was run to the end of its loop, and the log's last interval is its last
pub record HasEnded {M : Type 0} (promise : Promise M) (b : Began M) (now : M) (e : EntryView) (log : LogView) (store : Memory) (end : Outcome) : Type 0 where
  pub stands : StandsBetween promise b now log
  pub reaches : Reaches (whole_loop e) store end
  pub counted : length log.entries ≡ e.number
  pub interval : Interval
  pub is_last : last_in log.intervals ≡ Some interval
  pub number : interval.entry ≡ e.number
  pub state : store ≡ (state_after e (before e interval.done.to)).store
  pub closed : GoesOnBehind interval.done.cut → IsClosed (all_entries b) interval
  pub goes_on : end ≡ Done → GoesOnBehind interval.done.cut

-- behind an interval an entry goes on, or has ended
abbrev pub GoesOnAt : {M : Type 0} → Promise M → Began M → M → EntryView → LogView → Handoff → Option Outcome → Type 0
GoesOnAt promise b now e log handoff None = StandsBefore promise b now e log (record { kept = None; handoff = handoff })
GoesOnAt promise b now e log handoff (Some end) = HasEnded promise b now e log handoff.store end

-- a run that stopped short, with its log
pub record HasStopped {M : Type 0} (promise : Promise M) (b : Began M) (log : LogView) (sent : Sent) (fault : DriveFault) : Type 0 where
  pub log_stands : LogStands promise (all_entries b) b.first log
  pub later : sent.faults_before ≤ sent.faults
  pub stops : StopsShort (all_entries b) (whole_run b).store log.intervals sent fault

-- an entry of the run, whose loop prints no more than the whole run
pub record IsOn {M : Type 0} (b : Began M) (e : EntryView) : Type 0 where
  pub of_run : IsOfRun b e
  pub leads : Extends (whole_loop e).store.printed (whole_run b).store.printed
