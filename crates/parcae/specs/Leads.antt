-- What leads a replay: which requests it makes, and which commands the tasks follow.
use Rattle.std.specs.Prelude.{ℕ, List, []}
use Rattle.morta_task.specs.declared.schemes.Ask.{Ask}
use Rattle.morta_task.specs.Entries.{EntryView}
use Rattle.morta_task.specs.LogView.{LogView}
use Rattle.morta_task.specs.Promise.{Promise, both_promise}
use Rattle.morta_task.specs.declared.both.Both.{Both}
use Rattle.morta_script.specs.declared.script.Command.{Command as Order}
use Rattle.morta_control.specs.ControllerPromise.{controller_promise}
use Rattle.morta_control.specs.ControllerView.{ControllerView}
use Rattle.morta_control.specs.Decisions.{control_asks}
use Rattle.morta_exec.specs.Log.{LogStands}
use Rattle.weave.specs.Replay.{script_asks, IsReplay}
use Rattle.weave.specs.WeavePromise.{weave_promise}
use Rattle.weave.specs.WeaveView.{WeaveView}

-- the request for the next interval of an entry behind a log, and the commands that say in which order tasks step
pub record Lead : Type 0 where
  pub asks : EntryView → LogView → Ask
  pub commands : List Order

-- a script makes the requests too; what it has taken of its commands depends on the links of pipelines
abbrev pub script_leads : (links : ℕ) → List Order → Lead
script_leads links commands = record { asks = λ e so_far. script_asks links commands so_far; commands = commands }

-- a controller for at most so many workers makes the requests, and the tasks step round robin
abbrev pub control_leads : (workers : ℕ) → Lead
control_leads workers = record { asks = λ e so_far. control_asks workers e so_far; commands = [] }

-- a log with these entries is that of the replay that is led so, with links that hold so many messages, up to its last interval
abbrev pub IsLedReplay : Lead → ℕ → List EntryView → LogView → Type 0
IsLedReplay lead links = IsReplay lead.asks links lead.commands

-- what runs and asks is led so: each log that stands for it is that of the replay
abbrev pub IsLedSo : {M : Type 0} → Promise M → M → Lead → ℕ → Type 0
IsLedSo promise morta lead links = (es : List EntryView) (log : LogView) → LogStands promise es morta log → IsLedReplay lead links es log

-- the promise of a replay whose intervals a controller asks for
abbrev pub control_promise : Promise (Both WeaveView ControllerView)
control_promise = both_promise (λ b. b.runner) (λ b. b.asker) weave_promise controller_promise
