-- What a value that runs or asks promises.
use Rattle.std.specs.Prelude.{◌≡◌, ◌⊎◌, ◌↔◌, ℕ, ℤ}
use Rattle.std.specs.declared.option.Option.{Option}
use Rattle.nona_tree.specs.declared.plans.Plan.{Plan}
use Rattle.nona_tree.specs.declared.trees.Loop.{Loop}
use Rattle.morta_task.specs.declared.schemes.Scheme.{Scheme}
use Rattle.morta_task.specs.declared.schemes.Config.{Config}
use Rattle.morta_task.specs.declared.schemes.Ask.{Ask}
use Rattle.morta_task.specs.declared.intervals.Ran.{Ran}
use Rattle.morta_task.specs.declared.intervals.Interval.{Interval}
use Rattle.morta_task.specs.Entries.{EntryView}
use Rattle.morta_task.specs.LogView.{LogView, with_interval, IsAtHand}
use Rattle.morta_task.specs.Running.{chosen, limit_of, interval_of, IsFor}

-- What contracts say of a value that runs intervals or asks for them. Between two intervals it stands for a log; then it
-- has asked, then it has run, and once it was told of the interval it stands for the log with it.
pub record Promise (M : Type 0) : Type 1 where
  -- the loops and plans that it runs, each in which version
  pub serves : M → Loop → Plan → Scheme → Type 0
  -- the ticks of each later interval, where it tells them
  pub ticks_to_come : M → Option (ℕ → ℕ)
  -- what each of its intervals meets: an entry, what ran, the first index, and what was done
  pub meets : M → EntryView → Config → ℤ → Ran → Type 0
  -- the versions that it may ever ask for
  pub names : M → Scheme → Type 0
  -- the requests that it may make for an entry after a log
  pub may_ask : M → EntryView → LogView → Ask → Type 0
  -- the logs for which it stands
  pub stands_for : M → LogView → Type 0
  -- it stood for a log, and has asked this for an entry at an index
  pub asked : M → LogView → EntryView → ℤ → Ask → Type 0
  -- it stood for a log, has asked, and this interval has run
  pub ran : M → LogView → EntryView → Interval → Type 0
  -- it runs what anyone asks for, and need not be told
  pub led : M → Type 0
  -- it asks, whoever runs
  pub alone : M → Type 0
  -- what each log for which it stands meets
  pub log_relation : M → LogView → Type 0

-- no call changes what a value serves, its relations, or who it works with, nor adds a version to those that it names
pub record Keeps {M : Type 0} (promise : Promise M) (old new : M) : Type 0 where
  pub serves : (l : Loop) (p : Plan) (s : Scheme) → promise.serves old l p s ↔ promise.serves new l p s
  pub meets : (e : EntryView) (c : Config) (from : ℤ) (done : Ran) → promise.meets old e c from done ↔ promise.meets new e c from done
  pub names : (s : Scheme) → promise.names new s → promise.names old s
  pub may_ask : (e : EntryView) (log : LogView) (ask : Ask) → promise.may_ask old e log ask ↔ promise.may_ask new e log ask
  pub log_relation : (log : LogView) → promise.log_relation old log ↔ promise.log_relation new log
  pub led : promise.led old ↔ promise.led new
  pub alone : promise.alone old ↔ promise.alone new

-- what has run for a request leads on from each log that it was asked for
abbrev pub GoesOn : {M : Type 0} → Promise M → M → M → EntryView → Config → ℤ → ℕ → Ran → Type 0
GoesOn promise old new e config from limit done =
    (log : LogView) (ask : Ask) → promise.asked old log e from ask → config ≡ chosen e ask.config
    → limit ≡ limit_of e from ask.until → promise.ran new log e (interval_of e ask config from done)

-- it may ask this for an entry after each log for which it stands
abbrev pub MayAsk : {M : Type 0} → Promise M → M → EntryView → Ask → Type 0
MayAsk promise m e ask = (log : LogView) → promise.stands_for m log → promise.may_ask m e log ask

-- it has asked this for the entry at hand of each log for which it stood
abbrev pub HasAskedFor : {M : Type 0} → Promise M → M → M → EntryView → ℤ → Ask → Type 0
HasAskedFor promise old new e from ask = (log : LogView) → IsAtHand log e → promise.stands_for old log → promise.asked new log e from ask

-- once it was told of an interval that had run, it stands for each log with it
abbrev pub StandsOn : {M : Type 0} → Promise M → M → M → EntryView → Interval → Type 0
StandsOn promise old new e i = (log : LogView) → promise.ran old log e i → promise.stands_for new (with_interval log e i)

-- a value stands only for logs that meet its relation
abbrev pub StandsOnly : {M : Type 0} → Promise M → Type 0
StandsOnly {M} promise = (m : M) (log : LogView) → promise.stands_for m log → promise.log_relation m log

-- A runner that is led by another's requests: whatever is asked for, it may run, and where it is not told it stands for the
-- longer log all the same.
pub record IsLed {M : Type 0} (promise : Promise M) : Type 0 where
  pub by_any : (m : M) (log : LogView) (e : EntryView) (from : ℤ) (ask : Ask) → promise.led m → IsAtHand log e → promise.stands_for m log
      → promise.asked m log e from ask
  pub untold : (m : M) (log : LogView) (e : EntryView) (i : Interval) → promise.led m → promise.ran m log e i
      → promise.stands_for m (with_interval log e i)

-- an asker whose intervals another one runs
abbrev pub AsksAlone : {M : Type 0} → Promise M → Type 0
AsksAlone {M} promise =
    (m : M) (log : LogView) (e : EntryView) (from : ℤ) (ask : Ask) (i : Interval) → promise.alone m
    → promise.asked m log e from ask → IsFor e from ask i → promise.ran m log e i

-- one of two parts says what logs they stand for: the asker where it asks alone, the runner where it is led
abbrev pub SaysOfLogs : {R A : Type 0} → Promise R → Promise A → R → A → Type 0
SaysOfLogs r a runner asker = a.alone asker ⊎ r.led runner

-- The promise of two parts, of which one runs and the other asks: of the asker where it asks alone, and of the runner where
-- it is led. Where it is neither, they stand for no log.
abbrev pub both_promise : {B R A : Type 0} → (B → R) → (B → A) → Promise R → Promise A → Promise B
both_promise runner asker r a = record {
  serves = λ b. r.serves (runner b);
  ticks_to_come = λ b. r.ticks_to_come (runner b);
  meets = λ b. r.meets (runner b);
  names = λ b. a.names (asker b);
  may_ask = λ b e log ask. a.alone (asker b) → a.may_ask (asker b) e log ask;
  stands_for = λ b log. SaysOfLogs r a (runner b) (asker b)
      × (a.alone (asker b) → a.stands_for (asker b) log) × (r.led (runner b) → r.stands_for (runner b) log);
  asked = λ b log e from ask. SaysOfLogs r a (runner b) (asker b)
      × (a.alone (asker b) → a.asked (asker b) log e from ask) × (r.led (runner b) → r.asked (runner b) log e from ask);
  ran = λ b log e i. SaysOfLogs r a (runner b) (asker b)
      × (a.alone (asker b) → a.ran (asker b) log e i) × (r.led (runner b) → r.ran (runner b) log e i);
  led = λ b. ⊥;
  alone = λ b. ⊥;
  log_relation = λ b log. (a.alone (asker b) → a.log_relation (asker b) log) × (r.led (runner b) → r.log_relation (runner b) log);
}
