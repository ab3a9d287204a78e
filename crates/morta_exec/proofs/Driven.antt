-- What a whole drive says, by what it began with.
use Rattle.std.proofs.Common.{◌≡◌, ◌≤◌, ℕ, List, length, arith, sym, ap, subst, Ok, Err}
use Rattle.std.specs.Prelude.{IfOk, IfErr, OnOk}
use Rattle.std.specs.declared.option.Option.{Option}
use Rattle.std.specs.declared.result.Result.{Result}
use Rattle.std.specs.Io.KnownBytes.{Appends}
use Rattle.fate_io.specs.Sending.{Sent, sent_since}
use Rattle.nona_tree.specs.Memory.{Memory}
use Rattle.nona_tree.specs.Run.{Ran, Reaches}
use Rattle.morta_task.specs.ImageView.{ImageView}
use Rattle.morta_task.specs.LogView.{LogView}
use Rattle.morta_task.specs.Legal.{IsWholeLog}
use Rattle.morta_task.specs.Promise.{Promise}
use Rattle.nona_store.specs.declared.ended.Ended.{Ended}
use Rattle.morta_exec.specs.declared.fault.DriveFault.{DriveFault}
use Rattle.morta_exec.specs.declared.start.Beginning.{Beginning}
use Rattle.morta_exec.specs.Began.{Began, all_entries, whole_run}
use Rattle.morta_text.specs.Texts.{number_lines}
use Rattle.morta_exec.specs.Log.{LogStands}
use Rattle.morta_exec.specs.Places.{most}
use Rattle.morta_exec.specs.Drive.{StopsShort}
use Rattle.morta_exec.specs.Puts.{HasPut}
use Rattle.morta_exec.specs.EntryRun.{HasStopped}
use Rattle.morta_exec.specs.MainRun.{IsOver}

-- what is said of three values is said of those that they equal
pub moved : {A B C : Type 0} (P : A → B → C → Type 0) (a x : A) (b y : B) (c z : C) → a ≡ x → b ≡ y → c ≡ z → P a b c → P x y z
moved P a x b y c z ax by cz h = subst (λ k. P x y k) cz (subst (λ k. P x k c) by (subst (λ k. P k b c) ax h))

-- what a run begins with where its store and what runs and asks are these
abbrev pub begins : {M : Type 0} → ImageView → ℕ → Memory → M → Began M
begins image turns store first = record { image = image; from = record { store = store; turns = turns }; first = first }

-- all that is said of a drive
pub record Says {M : Type 0} (promise : Promise M) (b : Began M) (log : LogView) (sent : Sent) (r : Result Ended DriveFault) : Type 0 where
  pub ended : IfOk r (λ (ended : Ended). Reaches (whole_run b) ended.store ended.outcome)
  pub put : OnOk r (Appends sent.before sent.after (number_lines (whole_run b).store.printed))
  pub kept : OnOk r (sent.faults ≡ sent.faults_before)
  pub log_stands : LogStands promise (all_entries b) b.first log
  pub whole : OnOk r (IsWholeLog (promise.may_ask b.first) (all_entries b) log)
  pub few : length log.intervals ≤ most
  pub later : sent.faults_before ≤ sent.faults
  pub stops : IfErr r (λ (fault : DriveFault). StopsShort (all_entries b) (whole_run b).store log.intervals sent fault)

-- by how it ended
says : {M : Type 0} (promise : Promise M) (b : Began M) (log : LogView) (sent : Sent) (r : Result Ended DriveFault)
    → IfOk r (λ (ended : Ended). IsOver promise b log ended.store ended.outcome) → IfOk r (λ (ended : Ended). HasPut sent ended.store.printed)
    → IfErr r (λ (fault : DriveFault). HasStopped promise b log sent fault) → Says promise b log sent r
says promise b log sent (Ok ended) run put stopped = record {
  ended = run.reaches;
  put = subst (λ (m : Memory). Appends sent.before sent.after (number_lines m.printed)) (sym (ap (λ (r : Ran). r.store) run.reaches)) put.put;
  kept = put.kept;
  log_stands = run.log_stands;
  whole = record { legal = run.log_stands.legal; ended = run.whole };
  few = run.few;
  later = omega (arith, put.kept);
  stops = tt;
}
says promise b log sent (Err fault) run put stopped = record {
  ended = tt;
  put = tt;
  kept = tt;
  log_stands = stopped.log_stands;
  whole = tt;
  few = stopped.stops.behind.few;
  later = stopped.later;
  stops = stopped.stops;
}

-- a drive that began with copies of the store, of what runs and asks, and of the sink
pub driven : {M K : Type 0} (promise : Promise M) (written : K → Option (List ℕ)) (faults : K → ℕ) (image : ImageView) (from : Beginning) (morta : M) (out : K)
    (store' : Memory) (morta' : M) (out' new : K) (log : LogView) (r : Result Ended DriveFault) → store' ≡ from.store → morta' ≡ morta → out' ≡ out
    → IfOk r (λ (ended : Ended). IsOver promise (begins image from.turns store' morta') log ended.store ended.outcome)
    → IfOk r (λ (ended : Ended). HasPut (sent_since written faults out' new) ended.store.printed)
    → IfErr r (λ (fault : DriveFault). HasStopped promise (begins image from.turns store' morta') log (sent_since written faults out' new) fault)
    → Says promise (record { image = image; from = from; first = morta }) log (sent_since written faults out new) r
driven promise written faults image from morta out store' morta' out' new log r same_store same_morta same_out run put stopped =
    moved (λ x y z. Says promise (begins image from.turns x y) log (sent_since written faults z new) r) store' from.store morta' morta out' out same_store same_morta same_out
    (says promise (begins image from.turns store' morta') log (sent_since written faults out' new) r run put stopped)
