-- The replay of a script: what its commands do to each interval, and which requests it makes.
use Rattle.std.specs.Prelude.{◌≡◌, ℕ, ◌-◌, ℤ, List, [], ◌∷◌, None, Some, Contains, slice_get}
use Rattle.std.specs.declared.option.Option.{Option}
use Rattle.nona_tree.specs.Memory.{Memory}
use Rattle.morta_task.specs.declared.schemes.Scheme.{Scheme}
use Rattle.morta_task.specs.declared.schemes.Scheme.TheVariants.{Seq, Any, Pipe}
use Rattle.morta_task.specs.declared.schemes.Config.{Config}
use Rattle.morta_task.specs.declared.schemes.Ask.{Ask}
use Rattle.morta_task.specs.declared.intervals.Interval.{Interval}
use Rattle.morta_task.specs.declared.intervals.Ran.{Ran}
use Rattle.morta_task.specs.Entries.{EntryView, before, state_after}
use Rattle.morta_task.specs.Legal.{IsLegalLog}
use Rattle.morta_task.specs.LogView.{LogView}
use Rattle.morta_task.specs.Running.{seq_one, limit_of}
use Rattle.morta_script.specs.declared.script.Command.{Command}
use Rattle.morta_script.specs.declared.script.Command.TheVariants.{Use, Step, Pause}
use Rattle.net_flow.specs.Machines.{RunsOut}
use Rattle.net_flow.specs.Net.{Net}
use Rattle.weave.specs.Following.{Followed, follow}
use Rattle.weave.specs.SeqNet.{SeqNet, begun_net, seq_machine, ran_of}
use Rattle.net_pipe.specs.Works.{Values}
use Rattle.weave.specs.Shared.{shared_machine, begun_shared, shared_ran}
use Rattle.weave.specs.Staged.{staged_machine, begun_staged, staged_ran}

-- the machine of an interval under `seq` that begins at an index, once it has followed the commands
abbrev pub followed_in_sequence : EntryView → ℤ → ℕ → List Command → Followed SeqNet
followed_in_sequence e from limit commands =
    follow seq_machine commands (begun_net e (before e from) limit (state_after e (before e from)).store)

-- the same of the machine of so many tasks that share the iterations
abbrev pub followed_by_tasks : EntryView → ℤ → ℕ → ℕ → List Command → Followed (Net Memory (Unit {0}))
followed_by_tasks e from limit workers commands =
    follow (shared_machine e (before e from) workers) commands (begun_shared e (before e from) limit workers)

-- the same of the machine of the tasks of the stages, with so many workers and so many messages in a link
abbrev pub followed_by_stages : EntryView → ℤ → ℕ → ℕ → ℕ → List Command → Followed (Net Values (List ℤ))
followed_by_stages e from limit workers capacity commands =
    follow (staged_machine e (before e from) workers capacity) commands (begun_staged e (before e from) limit workers capacity)

-- what an interval did in this version, with so many workers, whose links hold so many messages
abbrev pub IsReplayedIn : Scheme → ℕ → ℕ → EntryView → ℤ → ℕ → List Command → Ran → Type 0
IsReplayedIn Seq workers capacity e from limit commands done =
    (end : SeqNet) × RunsOut seq_machine (followed_in_sequence e from limit commands).net end × (done ≡ ran_of end)
IsReplayedIn Any workers capacity e from limit commands done =
    (end : Net Memory (Unit {0})) × RunsOut (shared_machine e (before e from) workers) (followed_by_tasks e from limit workers commands).net end
    × (done ≡ shared_ran e (before e from) end)
IsReplayedIn Pipe workers capacity e from limit commands done =
    (end : Net Values (List ℤ))
    × RunsOut (staged_machine e (before e from) workers capacity) (followed_by_stages e from limit workers capacity commands).net end
    × (done ≡ staged_ran e (before e from) end)

-- What an interval did that ran in this configuration, where a link holds so many messages, from an index up to a limit, with
-- these commands left at its start: the commands are followed, and then the tasks step round robin until all have finished.
abbrev pub IsReplayed : ℕ → Config → EntryView → ℤ → ℕ → List Command → Ran → Type 0
IsReplayed capacity config = IsReplayedIn config.scheme config.workers capacity

-- the commands that an interval in this version leaves
abbrev pub commands_left_in : Scheme → ℕ → ℕ → EntryView → ℤ → ℕ → List Command → List Command
commands_left_in Seq workers capacity e from limit commands = (followed_in_sequence e from limit commands).left
commands_left_in Any workers capacity e from limit commands = (followed_by_tasks e from limit workers commands).left
commands_left_in Pipe workers capacity e from limit commands = (followed_by_stages e from limit workers capacity commands).left

-- the commands that an interval in this configuration leaves
abbrev pub commands_left : ℕ → Config → EntryView → ℤ → ℕ → List Command → List Command
commands_left capacity config = commands_left_in config.scheme config.workers capacity

-- the commands of an interval: a `use` that comes first asks for it, and is taken before
abbrev pub behind_use : List Command → List Command
behind_use (Use config until ∷ rest) = rest
behind_use (Step task moves ∷ rest) = Step task moves ∷ rest
behind_use (Pause ∷ rest) = Pause ∷ rest
behind_use [] = []

-- the commands that are left behind an interval of this entry
abbrev pub left_behind : ℕ → Option EntryView → Interval → List Command → List Command
left_behind capacity None i commands = commands
left_behind capacity (Some e) i commands = commands_left capacity i.ran e i.from (limit_of e i.from i.asked.until) (behind_use commands)

-- the commands that are left behind these intervals of these entries
abbrev pub left_after : ℕ → List EntryView → List Interval → List Command → List Command
left_after capacity es [] commands = commands
left_after capacity es (i ∷ is) commands = left_after capacity es is (left_behind capacity (slice_get es (i.entry - 1)) i commands)

-- an interval of its entry did what the commands say that are left before it
abbrev pub IsDriven : ℕ → List EntryView → List Command → Interval → Type 0
IsDriven capacity es commands i =
    (e : EntryView) × (slice_get es (i.entry - 1) ≡ Some e)
    × IsReplayed capacity i.ran e i.from (limit_of e i.from i.asked.until) (behind_use commands) i.done

-- each interval did what the commands say that are left before it
abbrev pub AreDriven : ℕ → List EntryView → List Command → List Interval → Type 0
AreDriven capacity es commands [] = Unit {0}
AreDriven capacity es commands (i ∷ is) =
    IsDriven capacity es commands i × AreDriven capacity es (left_behind capacity (slice_get es (i.entry - 1)) i commands) is

-- the intervals of a log did what these commands say, one interval after another, whoever asked for them
abbrev pub IsReplayOf : ℕ → List Command → LogView → Type 0
IsReplayOf capacity commands log = AreDriven capacity log.entries commands log.intervals

-- the commands that are left behind a log
abbrev pub left_at : ℕ → List Command → LogView → List Command
left_at capacity script log = left_after capacity log.entries log.intervals script

-- what is asked for the next interval: what a `use` says that comes first, or the current configuration
abbrev pub next_request : List Command → Config → Ask
next_request (Use config until ∷ rest) current = record { config = config; until = until }
next_request (Step task moves ∷ rest) current = record { config = current; until = None }
next_request (Pause ∷ rest) current = record { config = current; until = None }
next_request [] current = record { config = current; until = None }

-- the current configuration behind these intervals of these entries: what each asked for that a `use` came before, or the
-- one before
abbrev pub current_after : ℕ → List EntryView → List Interval → List Command → Config → Config
current_after capacity es [] commands current = current
current_after capacity es (i ∷ is) commands current =
    current_after capacity es is (left_behind capacity (slice_get es (i.entry - 1)) i commands) (next_request commands current).config

-- the current configuration behind a log: one thread at first
abbrev pub current_at : ℕ → List Command → LogView → Config
current_at capacity script log = current_after capacity log.entries log.intervals script seq_one

-- what a script asks for behind a log
abbrev pub script_asks : ℕ → List Command → LogView → Ask
script_asks capacity script log = next_request (left_at capacity script log) (current_at capacity script log)

-- The log of a replay, up to its last interval: it is legal, each request is the one that is asked for its entry behind the log
-- so far, and each interval did what the commands say.
pub record IsReplay (asks : EntryView → LogView → Ask) (capacity : ℕ) (commands : List Command) (es : List EntryView) (log : LogView) : Type 0 where
  pub legal : IsLegalLog (λ e so_far ask. ask ≡ asks e so_far) es log
  pub replayed : IsReplayOf capacity commands log

-- the log of the replay of a script, which makes the requests too
abbrev pub IsScriptReplay : ℕ → List Command → List EntryView → LogView → Type 0
IsScriptReplay capacity script = IsReplay (λ e so_far. script_asks capacity script so_far) capacity script

-- a script names a version in one of its commands
abbrev pub UsesScheme : List Command → Scheme → Type 0
UsesScheme script scheme = (config : Config) × (until : Option ℕ) × Contains script (Use config until) × (config.scheme ≡ scheme)
