-- Rounds of tasks of which some come once all have finished.
use Rattle.std.proofs.Common.{◌≡◌, ◌≤◌, ◌+◌, ℕ, zero, suc, Bool, true, false, ◌&&◌, if◌then◌else◌, refl, sym, ap, subst, ◌∙◌, arith}
use Rattle.net_flow.specs.Machines.{Machine, over_from, is_over, round_from, round, RunsOut, one_round}
use Rattle.weave.specs.declared.net.Net.{Net}
use Rattle.weave.specs.NetView.{NetView, machine as net_machine}
use Rattle.weave.specs.Nets.{IsNet, left_in, view_of}
use Rattle.weave.proofs.LeftIn.{left_falls}

-- a round of tasks that have all finished changes nothing
round_over : {N : Type 0} (machine : Machine N) (left task : ℕ) (net : N) → over_from machine left task net ≡ true → round_from machine left task net ≡ net
round_over machine zero task net over = refl
round_over machine (suc left) task net over = by_test (machine.finished net task) refl over (λ later. round_over machine left (task + 1) net later) where
  by_test : (b : Bool) → machine.finished net task ≡ b → (b && over_from machine left (task + 1) net) ≡ true
      → (over_from machine left (task + 1) net ≡ true → round_from machine left (task + 1) net ≡ net)
      → round_from machine left (task + 1) (if machine.finished net task then net else machine.step net task) ≡ net
  by_test false at later up = cc
  by_test true at later up = ap (λ (b : Bool). round_from machine left (task + 1) (if b then net else machine.step net task)) at ∙ up later

-- what runs out from behind a round runs out from before it
pub runs_before : {N : Type 0} (machine : Machine N) (net end : N) → RunsOut machine (round machine net) end → RunsOut machine net end
runs_before {N} machine net end out = by_test (is_over machine net) refl where
  by_test : (b : Bool) → is_over machine net ≡ b → RunsOut machine net end
  by_test true over = subst (λ (n : N). RunsOut machine n end) (round_over machine (machine.tasks net) 0 net over) out
  by_test false going = one_round net end going out

-- a round leaves no more moves than it found
pub left_no_more : (n : Net) → IsNet n → left_in (round net_machine (view_of n)) ≤ left_in (view_of n)
left_no_more n here = by_test (is_over net_machine (view_of n)) refl where
  by_test : (b : Bool) → is_over net_machine (view_of n) ≡ b → left_in (round net_machine (view_of n)) ≤ left_in (view_of n)
  by_test true over =
      subst (λ (m : NetView). left_in m ≤ left_in (view_of n)) (sym (round_over net_machine (net_machine.tasks (view_of n)) 0 (view_of n) over)) (omega arith)
  by_test false going = let less = left_falls n here going in omega (arith, less)
