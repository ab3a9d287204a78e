-- What a step does to the task that moves.
use Rattle.std.proofs.Common.{◌≡◌, ◌<◌, ◌≤◌, ◌+◌, ℕ, zero, suc, Bool, true, false, nat_lt, refl, subst, arith, if◌then◌else◌}
use Rattle.std.proofs.lemmas.Bool.Decides.{nat_tests}
use Rattle.net_flow.specs.Dealing.{number}
use Rattle.net_flow.specs.Flow.{Position, Unit_at, Sends, Receives, SendsEnd, Finished, Progress, idle}
use Rattle.net_flow.specs.Net.{Work, Task, leaves, arrives, closes, takes_end, passes_end}
use Rattle.net_flow.specs.Shapes.{IsTask, links_of, first_link}
use Rattle.net_flow.specs.Sound.{Meaning, LawfulWork, Holds}
use Rattle.net_flow.proofs.FlowSteps.{behind, arrived, closing, took_end, sent_end}
use Rattle.net_flow.proofs.NetChange.{counted, progress_of}

-- a task with this stage and worker that moved so often
pub record Named (V : Type 0) (s w n : ℕ) (y : Task V) : Type 0 where
  pub stage : y.stage ≡ s
  pub worker : y.worker ≡ w
  pub moves : y.moves ≡ n

module _ (V P : Type 0) (work : Work V P) (m : Meaning V P) (bound s w : ℕ) (law : LawfulWork work m bound) (is_task : IsTask work.shape s w) (d k : ℕ) (n : ℕ) where
  abbrev pub W : ℕ
  W = work.shape.workers

  abbrev pub par : Bool
  par = work.shape.parallel s

  abbrev pub at_it : Position → V → Task V
  at_it p v = record { stage = s; worker = w; position = p; done = d; iteration = k; values = v; moves = n }

  -- a task that was changed: it has this progress, is the same task, and holds its values
  pub record Becomes (y : Task V) (x : Progress) : Type 0 where
    pub counts : progress_of y ≡ x
    pub named : Named V s w n y
    pub holds : Holds work m s w y.position (counted y)

  becomes_idle : (p : Position) (v : V) → number par W w d < bound → m.within s w d (work.shape.units s) v → Becomes (leaves work (at_it p v)) (record { position = idle s; done = d + 1 })
  becomes_idle p v below here = record {
    counts = refl;
    named = record { stage = refl; worker = refl; moves = refl };
    holds = by_stage s (law.leave s w d v is_task below here);
  } where
    by_stage : (r : ℕ) → m.between s w (d + 1) (work.leave s v) → Holds work m s w (idle r) (counted (leaves work (at_it p v)))
    by_stage zero between = between
    by_stage (suc r) between = between

  pub becomes_left : (p : Position) (v : V) → number par W w d < bound → m.within s w d (work.shape.units s) v → Becomes (leaves work (at_it p v)) (record { position = idle s; done = d + 1 })
  becomes_left p v below here = becomes_idle p v below here

  pub becomes_arrived : (p : Position) (u : ℕ) (v : V) → number par W w d < bound → k ≡ number par W w d → u ≤ work.shape.units s → m.within s w d u v
      → Becomes (arrives work u (at_it p v)) (arrived work.shape s u d)
  becomes_arrived p u v below is_number within here = by_test (nat_lt u (work.shape.units s)) refl where
    by_next : (q : Bool) → u ≡ work.shape.units s
        → Becomes (if q then at_it Sends v else leaves work (at_it p v)) (if q then record { position = Sends; done = d } else record { position = idle s; done = d + 1 })
    by_next true all = record {
      counts = refl;
      named = record { stage = refl; worker = refl; moves = refl };
      holds = (subst (λ (i : ℕ). m.within s w d i v) all here, is_number);
    }
    by_next false all = becomes_idle p v below (subst (λ (i : ℕ). m.within s w d i v) all here)

    by_test : (q : Bool) → nat_lt u (work.shape.units s) ≡ q
        → Becomes (if q then at_it (Unit_at u) v else if nat_lt (s + 1) work.shape.stages then at_it Sends v else leaves work (at_it p v))
        (if q then record { position = Unit_at u; done = d } else behind work.shape s d)
    by_test true at = record { counts = refl; named = record { stage = refl; worker = refl; moves = refl }; holds = (here, is_number) }
    by_test false at = by_next (nat_lt (s + 1) work.shape.stages) (grind (arith, nat_tests))

  pub becomes_closed : (p : Position) (v : V) → m.between s w d v → Becomes (closes work (at_it p v)) (closing work.shape s w d)
  becomes_closed p v here = by_test (nat_lt (s + 1) work.shape.stages) where
    by_test : (q : Bool) → Becomes (if q then at_it (SendsEnd (first_link par w)) v else at_it Finished v) (if q then record { position = SendsEnd (first_link par w); done = d } else record { position = Finished; done = d })
    by_test true = record { counts = refl; named = record { stage = refl; worker = refl; moves = refl }; holds = here }
    by_test false = record { counts = refl; named = record { stage = refl; worker = refl; moves = refl }; holds = here }

  pub becomes_took : (p : Position) (e : ℕ) (v : V) → m.between s w d v → Becomes (takes_end work e (at_it p v)) (took_end work.shape s w e d)
  becomes_took p e v here = by_test (nat_lt (e + 1) (links_of par W)) where
    by_test : (q : Bool) → Becomes (if q then at_it (Receives (suc e)) v else closes work (at_it p v)) (if q then record { position = Receives (suc e); done = d } else closing work.shape s w d)
    by_test true = record { counts = refl; named = record { stage = refl; worker = refl; moves = refl }; holds = here }
    by_test false = becomes_closed p v here

  pub becomes_sent : (p : Position) (i : ℕ) (v : V) → m.between s w d v → Becomes (passes_end work i (at_it p v)) (sent_end work.shape s w i d)
  becomes_sent p i v here = by_test (nat_lt (i + 1) (first_link par w + links_of par W)) where
    by_test : (q : Bool) → Becomes (if q then at_it (SendsEnd (i + 1)) v else at_it Finished v) (if q then record { position = SendsEnd (i + 1); done = d } else record { position = Finished; done = d })
    by_test true = record { counts = refl; named = record { stage = refl; worker = refl; moves = refl }; holds = here }
    by_test false = record { counts = refl; named = record { stage = refl; worker = refl; moves = refl }; holds = here }
