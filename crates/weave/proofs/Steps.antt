-- The steps of a task, one after another, and those of a round.
use Rattle.std.proofs.Common.{◌≡◌, ◌⊎◌, ◌<◌, ◌+◌, ◌-◌, ℕ, suc, Bool, inl, inr, sym, ap, subst, ◌∙◌, arith, if◌then◌else◌}
use Rattle.net_flow.specs.Machines.{step_times, step_once, round_from}
use Rattle.net_share.specs.declared.sharing.StepEnd.{StepEnd}
use Rattle.net_share.specs.declared.sharing.StepEnd.TheVariants as step_end
use Rattle.weave.specs.NetView.{NetView, StepSays, machine, waits_in, after_step}

-- the next one of the steps that are left, where it moved, is the first of them
pub times_moved : (moves taken task : ℕ) (net next : NetView) → taken < moves → StepSays step_end.Moved task net next
    → step_times machine (moves - taken) task net ≡ step_times machine (moves - (taken + 1)) task next
times_moved moves taken task net next more (going, free, is) =
    let left = moves - (taken + 1) in
    let one : moves - taken ≡ suc left = omega (arith, more) in
    let on = after_step net task in
    ap (λ (n : ℕ). step_times machine n task net) one
    ∙ ap (λ (b : Bool). if b then net else if waits_in net task then on else step_times machine left task on) going
    ∙ ap (λ (b : Bool). if b then on else step_times machine left task on) free
    ∙ ap (step_times machine left task) (sym is)

-- where it waits, it is the last one
times_waits : (moves taken task : ℕ) (net next : NetView) → taken < moves → StepSays step_end.Waits task net next
    → step_times machine (moves - taken) task net ≡ next
times_waits moves taken task net next more (going, waits, is) =
    let left = moves - (taken + 1) in
    let one : moves - taken ≡ suc left = omega (arith, more) in
    let on = after_step net task in
    ap (λ (n : ℕ). step_times machine n task net) one
    ∙ ap (λ (b : Bool). if b then net else if waits_in net task then on else step_times machine left task on) going
    ∙ ap (λ (b : Bool). if b then on else step_times machine left task on) waits
    ∙ sym is

-- where the task has finished, there is none
times_finished : (moves taken task : ℕ) (net next : NetView) → taken < moves → StepSays step_end.Finished task net next
    → step_times machine (moves - taken) task net ≡ next
times_finished moves taken task net next more (done, is) =
    let left = moves - (taken + 1) in
    let one : moves - taken ≡ suc left = omega (arith, more) in
    let on = after_step net task in
    ap (λ (n : ℕ). step_times machine n task net) one
    ∙ ap (λ (b : Bool). if b then net else if waits_in net task then on else step_times machine left task on) done
    ∙ sym is

-- so a step that didn't move leads to where all of them lead
pub times_stopped : (end : StepEnd) (moves taken task : ℕ) (net next : NetView) → taken < moves → (end ≡ step_end.Waits) ⊎ (end ≡ step_end.Finished)
    → StepSays end task net next → step_times machine (moves - taken) task net ≡ next
times_stopped end moves taken task net next more (inl is) says =
    times_waits moves taken task net next more (subst (λ (e : StepEnd). StepSays e task net next) is says)
times_stopped end moves taken task net next more (inr is) says =
    times_finished moves taken task net next more (subst (λ (e : StepEnd). StepSays e task net next) is says)

-- what a step says of a task is what one step of it does
once_says : (end : StepEnd) (task : ℕ) (net next : NetView) → StepSays end task net next → step_once machine task net ≡ next
once_says step_end.Moved task net next (going, free, is) = ap (λ (b : Bool). if b then net else after_step net task) going ∙ sym is
once_says step_end.Waits task net next (going, waits, is) = ap (λ (b : Bool). if b then net else after_step net task) going ∙ sym is
once_says step_end.Finished task net next (done, is) = ap (λ (b : Bool). if b then net else after_step net task) done ∙ sym is

-- the next step of a round is the first of those that are left
pub round_on : (end : StepEnd) (many task : ℕ) (net next : NetView) → task < many → StepSays end task net next
    → round_from machine (many - task) task net ≡ round_from machine (many - (task + 1)) (task + 1) next
round_on end many task net next more says =
    let left = many - (task + 1) in
    let one : many - task ≡ suc left = omega (arith, more) in
    ap (λ (n : ℕ). round_from machine n task net) one ∙ ap (round_from machine left (task + 1)) (once_says end task net next says)
