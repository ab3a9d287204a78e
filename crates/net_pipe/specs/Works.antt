-- What the tasks of a pipeline's stages compute: each stage runs some units of a loop's body, and hands on the locals that cross to
-- the next one.
use Rattle.std.specs.Prelude.{ℕ, zero, suc, ◌+◌, ◌-◌, ◌==◌, true, not, if◌then◌else◌, ℤ, pos, ◌+ℤ◌, List, [], ◌∷◌, length, map, take, drop, get_or}
use Rattle.nona_tree.specs.declared.plans.Stage.{Stage}
use Rattle.nona_tree.specs.declared.trees.Stmt.{Stmt}
use Rattle.nona_tree.specs.Memory.{Memory, scalar_at, declare, cut_to}
use Rattle.nona_fission.specs.Fission.{skipped}
use Rattle.net_flow.specs.Shapes.{Shape}
use Rattle.net_flow.specs.Net.{Work}
use Rattle.net_share.specs.Works.{run_first}

-- The units of a loop's body; the index of the interval's first iteration; how many turns a loop in a unit may take; how many scalars
-- are around the loop; how many workers a parallel stage has, and how many packets a link holds; the stages; and for each stage
-- but the last the ids of the locals that cross from it to the next one.
pub record Staging : Type 0 where
  pub body : List Stmt
  pub from : ℤ
  pub turns : ℕ
  pub depth : ℕ
  pub workers : ℕ
  pub capacity : ℕ
  pub pipe : List Stage
  pub crossing : List (List ℕ)

-- What a task has: the store that it sees, and the values of the packet with which its iteration began.
pub record Values : Type 0 where
  pub store : Memory
  pub held : List ℤ

-- a stage that isn't there
abbrev pub no_stage : Stage
no_stage = record { sequential = true; units = [] }

-- a stage by its number
abbrev pub stage_at : Staging → ℕ → Stage
stage_at g s = get_or g.pipe s no_stage

-- the number from 1 of a stage's own unit; behind the last one, the number behind the body's last unit
abbrev pub unit_number : Staging → ℕ → ℕ → ℕ
unit_number g s u = get_or (stage_at g s).units u (length g.body + 1)

-- the units before a stage's first own one
abbrev pub others_first : Staging → ℕ → List Stmt
others_first g s = take (unit_number g s 0 - 1) g.body

-- the units between an own one and the next own one, or the body's end
abbrev pub others_behind : Staging → ℕ → ℕ → List Stmt
others_behind g s u = take (unit_number g s (u + 1) - suc (unit_number g s u)) (drop (unit_number g s u) g.body)

-- the ids of the locals that a packet from this stage to the next one has
abbrev pub sent_from : Staging → ℕ → List ℕ
sent_from g s = get_or g.crossing s []

-- the ids of those with which an iteration begins in a stage
abbrev pub received_in : Staging → ℕ → List ℕ
received_in g zero = []
received_in g (suc s) = sent_from g s

-- the value that a packet with these locals has for the one with this id: 0 where it has none
abbrev pub value_for : List ℕ → List ℤ → ℕ → ℤ
value_for [] values id = pos 0
value_for (x ∷ ids) [] id = pos 0
value_for (x ∷ ids) (v ∷ values) id = if x == id then v else value_for ids values id

-- what is left of units that aren't run
abbrev pub skipped_all : (ℕ → ℤ) → List Stmt → Memory → Memory
skipped_all locals [] m = m
skipped_all locals (s ∷ rest) m = skipped_all locals rest (skipped locals s m)

-- a store in which a stage skips these units, where its iteration began with these values
abbrev pub skips : Staging → ℕ → List ℤ → List Stmt → Memory → Memory
skips g s held others m = skipped_all (value_for (received_in g s) held) others m

-- what becomes of a store where an iteration begins
abbrev pub entered : Staging → ℕ → ℕ → List ℤ → Memory → Memory
entered g s k held m = skips g s held (others_first g s) (declare (g.from +ℤ pos k) m)

-- what becomes of one by an own unit and those behind it that are skipped
abbrev pub unit_run : Staging → ℕ → ℕ → List ℤ → Memory → Memory
unit_run g s u held m = skips g s held (others_behind g s u) (run_first (drop (unit_number g s u - 1) g.body) g.turns m).store

-- the shape of the pipeline
abbrev pub shape_of : Staging → Shape
shape_of g = record {
  stages = length g.pipe;
  workers = g.workers;
  capacity = g.capacity;
  parallel = λ s. not (stage_at g s).sequential;
  units = λ s. length (stage_at g s).units;
}

-- What each task computes on the store that it sees: an iteration begins with its index as a new scalar; an own unit is the run of its
-- statement; where another stage's unit declares a local, the packet's value for it stands there; at the iteration's end the
-- scalars that are in it go; and a packet has the values of the locals that cross.
abbrev pub stages_work : Staging → Work Values (List ℤ)
stages_work g = record {
  shape = shape_of g;
  enter = λ s k p v. record { store = entered g s k p v.store; held = p };
  unit = λ s u v. record { store = unit_run g s u v.held v.store; held = v.held };
  leave = λ s v. record { store = cut_to g.depth v.store; held = v.held };
  packet = λ s v. map (scalar_at v.store) (sent_from g s);
  no_packet = [];
  no_values = record { store = record { scalars = []; arrays = []; printed = [] }; held = [] };
}
