-- Which command the words of a call are.
use Rattle.std.specs.Prelude.{ℕ, Bool, true, false, if◌then◌else◌, List, [], ◌∷◌, ◌++◌, None, Some, codes, option_map, option_and_then}
use Rattle.std.specs.declared.option.Option.{Option}
use Rattle.std.specs.Str.{bytes_eq}
use Rattle.nona_text.specs.Digits.{number_within}
use Rattle.clap.specs.Kinds.{Kinds}
use Rattle.clap.specs.Walk.{Row, Rule, first_of}
use Rattle.clap.specs.Simple.{App, matches_of, new_rule, new_shape}
use Rattle.clap.specs.Takes.{is_given}
use Rattle.clap.specs.Faults.{fault_of}
use Rattle.clap.specs.declared.builder.action.ArgAction.TheVariants.{SetTrue}
use Rattle.morta_task.specs.declared.limits.TheConstants.{WORKERS}
use Rattle.weave.specs.declared.limits.TheConstants.{CAPACITY}
use Rattle.parcae.specs.declared.words.TheConstants.{DEFAULT_TURNS, TURN_LIMIT, DEFAULT_LINKS, DEFAULT_WORKERS, TRIAL_LIMIT}

-- what a run takes: the program's file, the input's where there is one, how many turns a loop may take whenever it is
-- entered, and whether the memory is written
pub record Task : Type 0 where
  pub file : List ℕ
  pub input : Option (List ℕ)
  pub turns : ℕ
  pub memory : Bool

-- what asks for the intervals of a replay: the script in a file, or a controller for so many workers at most
pub data Leader : Type 0 where
  by_script : (file : List ℕ) → Leader
  by_control : (workers : ℕ) → Leader

-- what a replay takes: what its run takes, what asks for its intervals, how many messages a link between two tasks holds, and
-- whether the log is written
pub record ReplayTask : Type 0 where
  pub run : Task
  pub leader : Leader
  pub links : ℕ
  pub log : Bool

-- a command: a run in one thread, what is seen of a program's loops, a replay, or the trial of a number
pub data Command : Type 0 where
  seq : (task : Task) → Command
  check : (file : List ℕ) → Command
  replay : (task : ReplayTask) → Command
  trial : (number : ℕ) → Command

-- a positional argument: the first word that is no option's is for the first such argument
abbrev pub positional_argument : List ℕ → Bool → Rule
positional_argument id required = record (new_rule id) { required = required }

-- an option with a value
abbrev pub option_argument : List ℕ → Rule
option_argument id = record (new_rule id) { long = Some id }

-- a flag
abbrev pub flag_argument : List ℕ → Rule
flag_argument id = record (new_rule id) { long = Some id; action = Some SetTrue }

-- a command with these arguments alone, without `--help`, whose words begin behind its name
abbrev pub with_arguments : List ℕ → List Rule → App
with_arguments name arguments = record {
  top = record (new_shape name) { rules = arguments; no_binary_name = true; disable_help_flag = true };
  subs = [];
}

-- `FILE [INPUT] [--turns N] [--memory]`
abbrev pub run_arguments : List Rule
run_arguments =
    positional_argument (codes "file") true ∷ positional_argument (codes "input") false ∷ option_argument (codes "turns")
    ∷ flag_argument (codes "memory") ∷ []

-- what `seq` takes
abbrev pub seq_arguments : App
seq_arguments = with_arguments (codes "seq") run_arguments

-- what `check` takes: `FILE`
abbrev pub check_arguments : App
check_arguments = with_arguments (codes "check") (positional_argument (codes "file") true ∷ [])

-- `[--log] [--links L]`
abbrev pub log_arguments : List Rule
log_arguments = flag_argument (codes "log") ∷ option_argument (codes "links") ∷ []

-- `--script S` or `--control [--workers W]`
abbrev pub lead_arguments : List Rule
lead_arguments = option_argument (codes "script") ∷ flag_argument (codes "control") ∷ option_argument (codes "workers") ∷ []

-- what `replay` takes
abbrev pub replay_arguments : App
replay_arguments = with_arguments (codes "replay") (run_arguments ++ log_arguments ++ lead_arguments)

-- what `trial` takes: `N`
abbrev pub trial_arguments : App
trial_arguments = with_arguments (codes "trial") (positional_argument (codes "number") true ∷ [])

-- what was found, where there is no fault
abbrev pub where_taken : Kinds → List Row → Option (List Row)
where_taken [] found = Some found
where_taken (fault ∷ faults) found = None

-- what clap finds in the words behind a command's name, where it doesn't refuse them
unfoldable pub found_in : App → List (List ℕ) → Option (List Row)
found_in arguments words = where_taken (fault_of arguments words) (matches_of arguments words)

-- how many turns a loop may take, by the text behind `--turns`
abbrev pub turns_by : Option (List ℕ) → Option ℕ
turns_by None = Some DEFAULT_TURNS
turns_by (Some text) = number_within 1 TURN_LIMIT text

-- how many messages a link holds, by the text behind `--links`
abbrev pub links_by : Option (List ℕ) → Option ℕ
links_by None = Some DEFAULT_LINKS
links_by (Some text) = number_within 1 CAPACITY text

-- for how many workers a controller asks at most, by the text behind `--workers`
abbrev pub workers_by : Option (List ℕ) → Option ℕ
workers_by None = Some DEFAULT_WORKERS
workers_by (Some text) = number_within 1 WORKERS text

-- what asks, by the text behind `--script`, by whether `--control` is there, and by the workers: one of the two, and not both
abbrev pub leader_by : Option (List ℕ) → Bool → ℕ → Option Leader
leader_by None false workers = None
leader_by None true workers = Some (by_control workers)
leader_by (Some file) false workers = Some (by_script file)
leader_by (Some file) true workers = None

-- what asks, by what was found
abbrev pub leader_in : List Row → Option Leader
leader_in found =
    option_and_then (leader_by (first_of (codes "script") found) (is_given (codes "control") found)) (workers_by (first_of (codes "workers") found))

-- what a run takes, by what was found
abbrev pub task_by : List Row → Option Task
task_by found = option_and_then (λ file. option_map (λ turns. record {
  file = file;
  input = first_of (codes "input") found;
  turns = turns;
  memory = is_given (codes "memory") found;
}) (turns_by (first_of (codes "turns") found))) (first_of (codes "file") found)

-- the command `seq`
abbrev pub seq_by : List Row → Option Command
seq_by found = option_map seq (task_by found)

-- the command `check`
abbrev pub check_by : List Row → Option Command
check_by found = option_map check (first_of (codes "file") found)

-- the command `replay`: there is none where nothing asks
abbrev pub replay_by : List Row → Option Command
replay_by found = option_and_then (λ leader. option_and_then (λ links. option_map (λ run. replay (record {
  run = run;
  leader = leader;
  links = links;
  log = is_given (codes "log") found;
})) (task_by found)) (links_by (first_of (codes "links") found))) (leader_in found)

-- the command `trial`
abbrev pub trial_by : List Row → Option Command
trial_by found = option_map trial (option_and_then (number_within 0 TRIAL_LIMIT) (first_of (codes "number") found))

-- the command that words are, or none: the first word is its name
abbrev pub meant : List (List ℕ) → Option Command
meant [] = None
meant (name ∷ words) =
    if bytes_eq name (codes "seq") then option_and_then seq_by (found_in seq_arguments words)
    else if bytes_eq name (codes "check") then option_and_then check_by (found_in check_arguments words)
    else if bytes_eq name (codes "replay") then option_and_then replay_by (found_in replay_arguments words)
    else if bytes_eq name (codes "trial") then option_and_then trial_by (found_in trial_arguments words)
    else None
