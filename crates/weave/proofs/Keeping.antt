-- What commands and rounds keep that each step keeps.
use Rattle.std.proofs.Common.{◌≡◌, ◌<◌, ◌≤◌, ◌+◌, ℕ, zero, suc, nat_lt, Bool, true, false, List, [], ◌∷◌, refl, sym, subst, arith, if◌then◌else◌}
use Rattle.morta_script.specs.declared.script.Command.{Command}
use Rattle.morta_script.specs.declared.script.Command.TheVariants.{Use, Step, Pause}
use Rattle.net_flow.specs.Machines.{Machine, is_over, step_times, stepped, step_once, round_from, round, RunsOut, at_end, one_round}
use Rattle.weave.specs.Following.{Followed, follow}

-- what each step keeps of an unfinished task that is there, with the number of tasks
abbrev pub KeptOnStep : {N : Type 0} → Machine N → (N → Type 0) → Type 0
KeptOnStep {N} machine P =
    (net : N) (task : ℕ) → task < machine.tasks net → machine.finished net task ≡ false → P net
    → P (machine.step net task) × (machine.tasks (machine.step net task) ≡ machine.tasks net)

-- what each step and the pause keep
pub record Kept {N : Type 0} (machine : Machine N) (P : N → Type 0) : Type 0 where
  pub step : KeptOnStep machine P
  pub pause : (net : N) → P net → P (machine.pause net)

-- once a machine has run out, all its tasks have finished
pub out_is_over : {N : Type 0} (machine : Machine N) (net end : N) → RunsOut machine net end → is_over machine end ≡ true
out_is_over machine _ _ (at_end net ended) = ended
out_is_over machine _ _ (one_round net end going later) = out_is_over machine (round machine net) end later

module _ {N : Type 0} (machine : Machine N) (P : N → Type 0) where
  by_test : (b : Bool) (one other : N) → (b ≡ true → P one) → (b ≡ false → P other) → P (if b then one else other)
  by_test true one other h k = h refl
  by_test false one other h k = k refl

  kept_times : KeptOnStep machine P → (moves task : ℕ) (net : N) → task < machine.tasks net → P net → P (step_times machine moves task net)
  kept_times k zero task net there here = here
  kept_times k (suc moves) task net there here =
      let next = machine.step net task in
      by_test (machine.finished net task) net (if machine.waits net task then next else step_times machine moves task next) (λ done. here)
      (λ going. let on = k net task there going here in
      by_test (machine.waits net task) next (step_times machine moves task next) (λ waits. on.0)
      (λ free. kept_times k moves task next (subst (λ (n : ℕ). task < n) (sym on.1) there) on.0))

  kept_stepped : KeptOnStep machine P → (moves task : ℕ) (net : N) → P net → P (stepped machine moves task net)
  kept_stepped k moves task net here =
      by_test (nat_lt task (machine.tasks net)) (step_times machine moves task net) net
      (λ there. kept_times k moves task net (grind arith) here) (λ off. here)

  kept_followed : (b : Bool) (done on : Followed N) → P done.net → P on.net → P (if b then done else on).net
  kept_followed true done on here there = here
  kept_followed false done on here there = there

  -- commands keep it
  pub kept_follow : Kept machine P → (commands : List Command) (net : N) → P net → P (follow machine commands net).net
  kept_follow k [] net here = here
  kept_follow k (Use config until ∷ rest) net here =
      kept_followed (is_over machine net) (record { net = net; left = Use config until ∷ rest }) (record { net = machine.pause net; left = Use config until ∷ rest }) here (k.pause net here)
  kept_follow k (Step task moves ∷ rest) net here =
      kept_followed (is_over machine net) (record { net = net; left = Step task moves ∷ rest }) (follow machine rest (stepped machine moves task net)) here
      (kept_follow k rest (stepped machine moves task net) (kept_stepped k.step moves task net here))
  kept_follow k (Pause ∷ rest) net here =
      kept_followed (is_over machine net) (record { net = net; left = Pause ∷ rest }) (follow machine rest (machine.pause net)) here
      (kept_follow k rest (machine.pause net) (k.pause net here))

  -- what is kept of a net, and that it has as many tasks as another one
  abbrev StillAll : N → N → Type 0
  StillAll first net = P net × (machine.tasks net ≡ machine.tasks first)

  kept_once : KeptOnStep machine P → (task : ℕ) (net : N) → task < machine.tasks net → P net → StillAll net (step_once machine task net)
  kept_once k task net there here = by_finished (machine.finished net task) refl where
    by_finished : (b : Bool) → machine.finished net task ≡ b → StillAll net (if b then net else machine.step net task)
    by_finished true done = (here, refl)
    by_finished false going = k net task there going here

  kept_some : KeptOnStep machine P → (left task : ℕ) (net : N) → task + left ≤ machine.tasks net → P net → P (round_from machine left task net)
  kept_some k zero task net within here = here
  kept_some k (suc left) task net within here =
      let on = kept_once k task net (omega (arith, within)) here in
      let same = on.1 in
      kept_some k left (task + 1) (step_once machine task net) (omega (arith, within, same)) on.0

  -- a round keeps it
  pub kept_round : KeptOnStep machine P → (net : N) → P net → P (round machine net)
  kept_round k net here = kept_some k (machine.tasks net) 0 net (omega arith) here

  -- what runs out keeps it
  pub kept_out : KeptOnStep machine P → (net end : N) → RunsOut machine net end → P net → P end
  kept_out k _ _ (at_end net ended) here = here
  kept_out k _ _ (one_round net end going later) here = kept_out k (round machine net) end later (kept_round k net here)
