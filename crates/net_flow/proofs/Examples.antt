-- Worked counts of moves, by the formulas and by the steps of the nets.
use Rattle.std.proofs.Common.{◌≡◌, ℕ, zero, suc, true, ◌==◌, if◌then◌else◌, refl, List}
use Rattle.net_flow.specs.Machines.{Machine, is_over, round}
use Rattle.net_flow.specs.MoveCounts.{pipeline_moves, sharing_moves}
use Rattle.net_flow.specs.Net.{Net, step, paused_net, moves_of}
use Rattle.net_flow.specs.Shapes.{Shape}
use Rattle.net_flow.specs.Sharing.{sharing_shape}
use Rattle.net_flow.specs.Tracing.{tracing, traced_net, traced_machine}

-- so many rounds
rounds : {N : Type 0} → Machine N → ℕ → N → N
rounds machine zero net = net
rounds machine (suc n) net = rounds machine n (round machine net)

-- two tasks share ten iterations of one unit; a pause comes after the first claim
two_tasks : Net (List ℕ) ℕ
two_tasks = paused_net (step (tracing (sharing_shape 2 1)) (traced_net (sharing_shape 2 1) 10) 0)

paused_count : sharing_moves 2 1 1 ≡ 4
paused_count = refl

paused_run : moves_of (rounds (traced_machine (sharing_shape 2 1)) 2 two_tasks) ≡ 4
unfolding two_tasks rounds
paused_run = refl

paused_end : is_over (traced_machine (sharing_shape 2 1)) (rounds (traced_machine (sharing_shape 2 1)) 2 two_tasks) ≡ true
unfolding two_tasks rounds
paused_end = refl

-- and the nine that are left follow in an interval of their own
rest_count : sharing_moves 2 1 9 ≡ 20
rest_count = refl

rest_run : moves_of (rounds (traced_machine (sharing_shape 2 1)) 11 (traced_net (sharing_shape 2 1) 9)) ≡ 20
unfolding rounds
rest_run = refl

-- a pipeline of three stages with five units in all, the middle one with three workers, and four iterations
three_stages : Shape
three_stages = record { stages = 3; workers = 3; capacity = 2; parallel = λ s. s == 1; units = λ s. if s == 1 then 3 else 1 }

piped_count : pipeline_moves three_stages 4 ≡ 53
unfolding three_stages
piped_count = refl

piped_run : moves_of (rounds (traced_machine three_stages) 40 (traced_net three_stages 4)) ≡ 53
unfolding three_stages rounds
piped_run = refl

piped_end : is_over (traced_machine three_stages) (rounds (traced_machine three_stages) 40 (traced_net three_stages 4)) ≡ true
unfolding three_stages rounds
piped_end = refl
