-- A command that was read, as contracts see it.
use Rattle.std.specs.Prelude.{◌≡◌, ◌≤◌, List, MatchOption, None, Some, option_map, string_bytes}
use Rattle.std.specs.declared.option.Option.{Option}
use Rattle.morta_task.specs.declared.limits.TheConstants.{WORKERS}
use Rattle.weave.specs.declared.limits.TheConstants.{CAPACITY}
use Rattle.parcae.specs.declared.words.Run.{Run}
use Rattle.parcae.specs.declared.words.Leader.{Leader as ReadLeader}
use Rattle.parcae.specs.declared.words.Leader.TheVariants.{Script, Control}
use Rattle.parcae.specs.declared.words.Replay.{Replay as ReadReplay}
use Rattle.parcae.specs.declared.words.Command.{Command as Read}
use Rattle.parcae.specs.declared.words.Command.TheVariants.{Seq, Check, Replay, Trial}
use Rattle.parcae.specs.declared.words.TheConstants.{TURN_LIMIT, TRIAL_LIMIT}
use Rattle.clap.specs.Matches.{found_of}
use Rattle.clap.specs.Walk.{Row, rows_of}
use Rattle.clap.specs.declared.parser.matches.ArgMatches.{ArgMatches}
use Rattle.parcae.specs.Words.{Task, Leader, by_script, by_control, ReplayTask, Command, seq, check, replay, trial}

-- what clap found
abbrev pub entries : ArgMatches → List Row
entries found = rows_of (found_of found)

-- what a run takes
abbrev pub task_of : Run → Task
task_of r = record { file = string_bytes r.file; input = option_map string_bytes r.input; turns = r.turns; memory = r.memory }

-- what asks for the intervals of a replay
abbrev pub leader_of : ReadLeader → Leader
leader_of (Script file) = by_script (string_bytes file)
leader_of (Control workers) = by_control workers

-- what a replay takes
abbrev pub replay_task_of : ReadReplay → ReplayTask
replay_task_of r = record { run = task_of r.run; leader = leader_of r.leader; links = r.links; log = r.log }

-- a command
abbrev pub command_of : Read → Command
command_of (Seq r) = seq (task_of r)
command_of (Check file) = check (string_bytes file)
command_of (Replay r) = replay (replay_task_of r)
command_of (Trial number) = trial number

-- what was read of words is what they mean
abbrev pub IsMeant : Option Read → Option Command → Type 0
IsMeant read meaning = MatchOption read (meaning ≡ None) (λ c. meaning ≡ Some (command_of c))

-- the turns of a loop are from 1 to 10^12
abbrev pub HasTurns : Run → Type 0
HasTurns r = (1 ≤ r.turns) × (r.turns ≤ TURN_LIMIT)

-- the messages that a link holds are from 1 to as many as a replay may have
abbrev pub HasLinks : ReadReplay → Type 0
HasLinks r = (1 ≤ r.links) × (r.links ≤ CAPACITY)

-- the workers of a controller are from 1 to as many as a configuration may have
abbrev pub HasWorkers : ReadLeader → Type 0
HasWorkers (Script file) = Unit {0}
HasWorkers (Control workers) = (1 ≤ workers) × (workers ≤ WORKERS)

-- the numbers of a command are in their ranges
abbrev pub IsInRange : Read → Type 0
IsInRange (Seq r) = HasTurns r
IsInRange (Check file) = Unit {0}
IsInRange (Replay r) = HasTurns r.run × HasLinks r × HasWorkers r.leader
IsInRange (Trial number) = number ≤ TRIAL_LIMIT
