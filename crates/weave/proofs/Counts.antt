-- How often the task of an interval under `seq` has moved.
use Rattle.std.proofs.Common.{◌≡◌, ◌<◌, ◌≤◌, ◌+◌, ◌-◌, ◌*◌, ℕ, suc, pos, ◌+ℤ◌, Bool, true, false, List, [], ◌∷◌, length, sym, ap, subst, ◌∙◌, arith, if◌then◌else◌}
use Rattle.nona_tree.specs.declared.outcomes.Outcome.{Outcome}
use Rattle.nona_tree.specs.declared.outcomes.Outcome.TheVariants as outcome
use Rattle.nona_tree.specs.declared.trees.Stmt.{Stmt}
use Rattle.nona_tree.specs.Memory.{Memory, declare}
use Rattle.nona_tree.specs.Run.{run}
use Rattle.morta_task.specs.Entries.{EntryView}
use Rattle.weave.specs.SeqNet.{SeqNet, Stand, Claims, Unit_of, Finished, at_units, is_granted, behind_unit, step_at, moved, is_finished, begun_net}
use Rattle.weave.specs.SeqState.{HasEndedAfter, HasMovedAt, HasMoved}

-- one iteration more
pub one_more : (granted units : ℕ) → granted ≡ suc (granted - 1) → granted * (units + 1) ≡ (granted - 1) * (units + 1) + (units + 1)
one_more granted units is = ap (λ (n : ℕ). n * (units + 1)) is ∙ omega arith

grants_one : (granted units : ℕ) → (granted + 1) * (units + 1) ≡ granted * (units + 1) + (units + 1)
grants_one granted units = omega arith

-- the count of a net, with this count of moves
abbrev Counts : SeqNet → ℕ → Type 0
Counts net moves = HasMovedAt net.place net.end moves net.granted (length net.entry.looped.body)

counts_before : (units : List Stmt) (net : SeqNet) (moves : ℕ) → length units ≤ length net.entry.looped.body
    → moves + length units ≡ net.granted * (length net.entry.looped.body + 1) → Counts (at_units units net) moves
counts_before [] net moves within is = omega (arith, is)
counts_before (s ∷ rest) net moves within is = (omega (arith, within), omega (arith, is))

counts_claim : (b : Bool) (net : SeqNet) (moves : ℕ) → net.end ≡ outcome.Done → moves ≡ net.granted * (length net.entry.looped.body + 1)
    → Counts (if b then at_units net.entry.looped.body (record net { granted = net.granted + 1; store = declare (net.entry.low +ℤ pos (net.before + net.granted)) net.store }) else record net { place = Finished }) (moves + 1)
counts_claim true net moves ended is =
    let next : SeqNet = record net { granted = net.granted + 1; store = declare (net.entry.low +ℤ pos (net.before + net.granted)) net.store } in
    let units = length net.entry.looped.body in
    counts_before net.entry.looped.body next (moves + 1) (omega arith) (omega (arith, is, grants_one net.granted units))
counts_claim false net moves ended is =
    let units = length net.entry.looped.body in
    let count : moves + 1 ≡ net.granted * (units + 1) + 1 = omega (arith, is) in
    subst (λ (o : Outcome). HasEndedAfter o (moves + 1) net.granted units) (sym ended) count

counts_unit : (o : Outcome) (rest : List Stmt) (m : Memory) (net : SeqNet) (moves : ℕ) → length rest < length net.entry.looped.body
    → moves + (length rest + 1) ≡ net.granted * (length net.entry.looped.body + 1) → Counts (behind_unit rest o m net) (moves + 1)
counts_unit outcome.Done rest m net moves within is = counts_before rest (record net { store = m }) (moves + 1) (omega (arith, within)) (omega (arith, is))
counts_unit (outcome.Trap t) rest m net moves within is = (length rest, within, omega (arith, is))
counts_unit (outcome.OutOfTurns at) rest m net moves within is = (length rest, within, omega (arith, is))

counts_at : (p : Stand) (net : SeqNet) (moves : ℕ) → is_finished p ≡ false → net.end ≡ outcome.Done
    → HasMovedAt p net.end moves net.granted (length net.entry.looped.body) → Counts (step_at p net) (moves + 1)
counts_at Claims net moves going ended is = counts_claim (is_granted net) net moves ended is
counts_at (Unit_of s rest) net moves going ended is =
    let r = run s net.entry.turns net.store in counts_unit r.end rest r.store net moves is.0 is.1
counts_at Finished net moves going ended is = cc

-- a step counts one move more
pub counted_moved : (net : SeqNet) → is_finished net.place ≡ false → net.end ≡ outcome.Done → HasMoved net → HasMoved (moved net)
counted_moved net going ended is = counts_at net.place net net.moves going ended is

-- before the first step there is none
pub counted_begun : (e : EntryView) (before limit : ℕ) (m : Memory) → HasMoved (begun_net e before limit m)
counted_begun e before limit m = omega arith

-- a task that has finished has moved as often as the end of its last iteration says
pub finished_moves : (p : Stand) (end : Outcome) (moves granted units : ℕ) → is_finished p ≡ true → HasMovedAt p end moves granted units → HasEndedAfter end moves granted units
finished_moves Claims end moves granted units over here = cc
finished_moves (Unit_of s rest) end moves granted units over here = cc
finished_moves Finished end moves granted units over here = here
