-- The machine of an interval under `seq`: one task, which claims an iteration, does its units in text order, and claims again.
use Rattle.std.specs.Prelude.{ℕ, ◌+◌, nat_lt, Bool, true, false, not, ◌&&◌, if◌then◌else◌, pos, ◌+ℤ◌, List, [], ◌∷◌, length, Some}
use Rattle.nona_tree.specs.declared.outcomes.Outcome.{Outcome}
use Rattle.nona_tree.specs.declared.outcomes.Outcome.TheVariants as outcome
use Rattle.nona_tree.specs.declared.trees.Stmt.{Stmt}
use Rattle.nona_tree.specs.Memory.{Memory, declare, cut_to}
use Rattle.nona_tree.specs.Run.{Ran as Run, run}
use Rattle.morta_task.specs.declared.intervals.Ran.{Ran}
use Rattle.morta_task.specs.Entries.{EntryView}
use Rattle.morta_task.specs.Running.{cut_of}
use Rattle.net_flow.specs.Machines.{Machine}

-- where the task stands: before a claim, before a unit of its iteration, with those behind it, or finished
pub data Stand : Type 0 where
  Claims : Stand
  Unit_of : Stmt → List Stmt → Stand
  Finished : Stand

-- The entry; how many iterations of it were done before the interval; the limit of the interval; how many claims were
-- granted; whether the pause mark is set; where the task stands; the store, with the scalars of the iteration that it is in;
-- how its last iteration ended; and how often it moved.
pub record SeqNet : Type 0 where
  pub entry : EntryView
  pub before : ℕ
  pub limit : ℕ
  pub granted : ℕ
  pub paused : Bool
  pub place : Stand
  pub store : Memory
  pub end : Outcome
  pub moves : ℕ

-- before the first step
abbrev pub begun_net : EntryView → ℕ → ℕ → Memory → SeqNet
begun_net e before limit m = record {
  entry = e;
  before = before;
  limit = limit;
  granted = 0;
  paused = false;
  place = Claims;
  store = m;
  end = outcome.Done;
  moves = 0;
}

-- the scalars of an iteration go
abbrev pub left_iteration : SeqNet → Memory → Memory
left_iteration net m = cut_to (length net.entry.store.scalars) m

-- before the first of these units, or at the end of the iteration
abbrev pub at_units : List Stmt → SeqNet → SeqNet
at_units [] net = record net { place = Claims; store = left_iteration net net.store }
at_units (s ∷ rest) net = record net { place = Unit_of s rest }

-- whether a claim is granted: the mark isn't set, and the number is below the limit
abbrev pub is_granted : SeqNet → Bool
is_granted net = not net.paused && nat_lt net.granted net.limit

-- a claim: of the next iteration, whose index is declared, or refused, which finishes the task
abbrev pub claimed : SeqNet → SeqNet
claimed net =
    if is_granted net then
    at_units net.entry.looped.body (record net { granted = net.granted + 1; store = declare (net.entry.low +ℤ pos (net.before + net.granted)) net.store })
    else record net { place = Finished }

-- a unit that ended so: where it is done the next one follows, and else the interval is at its end
abbrev pub behind_unit : List Stmt → Outcome → Memory → SeqNet → SeqNet
behind_unit rest outcome.Done m net = at_units rest (record net { store = m })
behind_unit rest (outcome.Trap t) m net =
    record net { place = Finished; store = left_iteration net m; end = outcome.Trap t }
behind_unit rest (outcome.OutOfTurns at) m net =
    record net { place = Finished; store = left_iteration net m; end = outcome.OutOfTurns at }

-- one unit
abbrev pub unit_done : List Stmt → Run → SeqNet → SeqNet
unit_done rest r net = behind_unit rest r.end r.store net

-- what a step makes of a net where the task stands so
abbrev pub step_at : Stand → SeqNet → SeqNet
step_at Claims net = claimed net
step_at (Unit_of s rest) net = unit_done rest (run s net.entry.turns net.store) net
step_at Finished net = net

-- one step of the task
abbrev pub moved : SeqNet → SeqNet
moved net = let next = step_at net.place net in record next { moves = net.moves + 1 }

-- whether the task has finished
abbrev pub is_finished : Stand → Bool
is_finished Claims = false
is_finished (Unit_of s rest) = false
is_finished Finished = true

-- the machine: one task, which never waits
abbrev pub seq_machine : Machine SeqNet
seq_machine = record {
  tasks = λ net. 1;
  finished = λ net task. is_finished net.place;
  waits = λ net task. false;
  step = λ net task. moved net;
  pause = λ net. record net { paused = true };
}

-- what an interval did whose task has finished: its steps are the moves, and its ticks those of the task that moved most
abbrev pub ran_of : SeqNet → Ran
ran_of net = record {
  to = net.entry.low +ℤ pos (net.before + net.granted);
  work = Some (record { steps = net.moves; waits = 0 });
  ticks = net.moves;
  cut = cut_of net.end net.granted net.limit;
}
