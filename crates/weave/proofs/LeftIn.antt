-- A round leaves fewer moves, where not all tasks have finished.
use Rattle.std.proofs.Common.{◌≡◌, ◌<◌, ◌≤◌, ◌+◌, ◌-◌, ◌*◌, ℕ, ℤ, false, List, length, refl, sym, ap, subst, ◌∙◌, arith}
use Rattle.nona_tree.specs.Memory.{Memory}
use Rattle.morta_task.specs.Entries.{EntryView, loop_of}
use Rattle.net_flow.specs.Machines.{is_over, round}
use Rattle.net_flow.specs.MoveCounts.{pipeline_moves, sharing_moves}
use Rattle.net_flow.specs.Net.{Net as TaskNet, moves_of}
use Rattle.net_flow.specs.Sharing.{IsSharedNet}
use Rattle.net_flow.proofs.SharingMachine.{sharing_round_rises, sharing_bounded}
use Rattle.net_share.specs.Entries.{work_in}
use Rattle.net_share.specs.Kept.{no_meaning, net_of as shares_of}
use Rattle.net_share.specs.Works.{Doing, sharing_work}
use Rattle.net_pipe.specs.Kept.{net_of as staged_of}
use Rattle.net_pipe.specs.Entries.{IsPipeNet, MayPipe, staging_in}
use Rattle.net_pipe.specs.Works.{Values, shape_of}
use Rattle.weave.specs.declared.net.Net.{Net}
use Rattle.weave.specs.declared.net.Net.TheVariants as net
use Rattle.weave.specs.declared.shared_tasks.SharedTasks.{SharedTasks}
use Rattle.weave.specs.NetView.{NetView, One, Shared, Staged, machine}
use Rattle.weave.specs.Nets.{IsNet, view_of, left_in}
use Rattle.weave.specs.OneTask.{net_of}
use Rattle.weave.specs.SeqNet.{SeqNet, moved, seq_machine, is_finished}
use Rattle.weave.specs.Shared.{shared_machine}
use Rattle.weave.specs.SharedTasks.{IsSharedTasks, done_before, workers_of}
use Rattle.weave.specs.Staged.{staged_machine}
use Rattle.weave.specs.StagedTasks.{capacity_of, done_before as staged_behind, workers_of as staged_workers}
use Rattle.weave.proofs.Injected.{is_over_part, round_part}
use Rattle.net_share.proofs.Keeping.{any_work}
use Rattle.weave.proofs.NoMeaning.{IsAnyNet}
use Rattle.weave.proofs.RunsOut.{over, round_is}
use Rattle.weave.proofs.SeqLaws.{falls}
use Rattle.weave.proofs.StagedMoves.{moves_few, round_more}
use Rattle.weave.proofs.Versions.{one_is_part, shared_is_part, staged_is_part}

-- of one task
one_falls : (net : SeqNet) → is_over machine (One net) ≡ false → left_in (round machine (One net)) < left_in (One net)
one_falls net going =
    let on : is_finished net.place ≡ false = sym (over net) ∙ sym (is_over_part seq_machine machine One one_is_part net) ∙ going in
    let same : round machine (One net) ≡ One (moved net) = round_part seq_machine machine One one_is_part net ∙ ap One (round_is net on) in
    subst (λ (n : NetView). left_in n < left_in (One net)) (sym same) (let less = falls net on in omega (arith, less))

-- of tasks that share iterations
shared_falls : (e : EntryView) (before workers : ℕ) (net : TaskNet Memory (Unit {0})) → IsAnyNet e before net.limit workers net
    → is_over machine (Shared e before workers net) ≡ false
    → left_in (round machine (Shared e before workers net)) < left_in (Shared e before workers net)
shared_falls e before workers net here going =
    let work = work_in (loop_of e) before workers in
    let part = shared_machine e before workers in
    let seen = Shared e before workers in
    let limit = net.limit in
    let units = length e.looped.body in
    let on : is_over part net ≡ false = sym (is_over_part part machine seen (shared_is_part e before workers) net) ∙ going in
    let next = round part net in
    let more = sharing_round_rises Memory (Unit {0}) work no_meaning refl limit workers (any_work work limit) net here on in
    let rose : moves_of net < moves_of next = more.1 in
    let kept : IsAnyNet e before limit workers next = more.0 in
    let most : moves_of next ≤ limit * (1 + units) + workers = sharing_bounded Memory (Unit {0}) work no_meaning refl limit workers (any_work work limit) next kept in
    let less : sharing_moves workers units limit - moves_of next < sharing_moves workers units limit - moves_of net = omega (arith, rose, most) in
    let same : sharing_moves workers units next.limit ≡ sharing_moves workers units limit = ap (sharing_moves workers units) kept.limit_is in
    subst (λ (n : NetView). left_in n < left_in (seen net)) (sym (round_part part machine seen (shared_is_part e before workers) net))
    (subst (λ (k : ℕ). k - moves_of next < sharing_moves workers units limit - moves_of net) (sym same) less)

-- of tasks of stages
staged_falls : (e : EntryView) (before workers capacity : ℕ) (net : TaskNet Values (List ℤ)) → MayPipe (loop_of e) e.plan workers capacity before net.limit
    → IsPipeNet (loop_of e) e.plan workers capacity before net.limit net → is_over machine (Staged e before workers capacity net) ≡ false
    → left_in (round machine (Staged e before workers capacity net)) < left_in (Staged e before workers capacity net)
staged_falls e before workers capacity net may here going =
    let part = staged_machine e before workers capacity in
    let seen = Staged e before workers capacity in
    let is_part = staged_is_part e before workers capacity in
    let shape = shape_of (staging_in (loop_of e) e.plan workers capacity before) in
    let limit = net.limit in
    let on : is_over part net ≡ false = sym (is_over_part part machine seen is_part net) ∙ going in
    let next = round part net in
    let more = round_more e before limit workers capacity may net here on in
    let rose : moves_of net < moves_of next = more.1 in
    let kept : IsPipeNet (loop_of e) e.plan workers capacity before limit next = more.0 in
    let most : moves_of next ≤ pipeline_moves shape limit = moves_few e before limit workers capacity may next kept in
    let less : pipeline_moves shape limit - moves_of next < pipeline_moves shape limit - moves_of net = omega (arith, rose, most) in
    let same : pipeline_moves shape next.limit ≡ pipeline_moves shape limit = ap (pipeline_moves shape) kept.limit_is in
    subst (λ (n : NetView). left_in n < left_in (seen net)) (sym (round_part part machine seen is_part net))
    (subst (λ (k : ℕ). k - moves_of next < pipeline_moves shape limit - moves_of net) (sym same) less)

-- what stands of shared tasks stands of their net
any_of : (t : SharedTasks) → IsSharedTasks t → IsAnyNet t.entry.now (done_before t) (shares_of t.sharing).limit (workers_of t) (shares_of t.sharing)
any_of t here =
    subst (λ (does : Doing). IsSharedNet (sharing_work does (workers_of t)) no_meaning (shares_of t.sharing).limit (workers_of t) (shares_of t.sharing)) here.does here.sharing.net

pub left_falls : (n : Net) → IsNet n → is_over machine (view_of n) ≡ false → left_in (round machine (view_of n)) < left_in (view_of n)
left_falls (net.One task) here going = one_falls (net_of task) going
left_falls (net.Shared tasks) here going =
    shared_falls tasks.entry.now (done_before tasks) (workers_of tasks) (shares_of tasks.sharing) (any_of tasks here) going
left_falls (net.Staged tasks) here going =
    staged_falls tasks.entry.now (staged_behind tasks) (staged_workers tasks) (capacity_of tasks) (staged_of tasks.pipeline) here.staged.may here.staged.net going
