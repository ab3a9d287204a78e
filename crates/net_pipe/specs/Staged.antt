-- The stages that iterations go through, as the machine has them.
use Rattle.std.specs.Prelude.{ℕ, ◌+◌, ◌-◌, ◌*◌, ◌^◌, ◌≤◌, ◌<◌, length}
use Rattle.nona_plans.specs.declared.limits.TheConstants.{CROSSING}
use Rattle.net_pipe.specs.Works.{Staging, stage_at, unit_number, sent_from}
use Rattle.net_pipe.specs.declared.stages.Stages.{Stages}

-- what these stages do
abbrev pub staging_of : Stages → Staging
staging_of i = record {
  body = i.units.now.body;
  from = i.from;
  turns = i.turns;
  depth = i.depth;
  workers = i.workers;
  capacity = i.capacity;
  pipe = i.plan.now.pipe;
  crossing = i.plan.now.crossing;
}

-- There is a worker; the workers, the stages, the links and the units have numbers of 63 bits; each own unit is a unit of the body;
-- and few locals cross from one stage to the next.
pub record IsStaged (g : Staging) : Type 0 where
  pub some_worker : 1 ≤ g.workers
  pub workers : g.workers < 2 ^ 63
  pub stages : length g.pipe < 2 ^ 63
  pub units : length g.body + 1 < 2 ^ 63
  pub links : (length g.pipe - 1) * g.workers < 2 ^ 63
  pub first : (s u : ℕ) → 1 ≤ unit_number g s u
  pub last : (s u : ℕ) → unit_number g s u ≤ length g.body + 1
  pub counts : (s : ℕ) → length (stage_at g s).units < 2 ^ 63
  pub inner : (s u : ℕ) → u < length (stage_at g s).units → unit_number g s u ≤ length g.body
  pub narrow : (s : ℕ) → length (sent_from g s) ≤ CROSSING
