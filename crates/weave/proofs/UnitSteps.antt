-- A unit, as the machine's step does it.
use Rattle.std.proofs.Common.{◌≡◌, ◌≢◌, ◌<◌, ◌+◌, ℕ, List, [], ◌∷◌, drop, length, refl, sym, ap, subst, ◌∙◌}
use Rattle.nona_tree.specs.declared.outcomes.Outcome.{Outcome}
use Rattle.nona_tree.specs.declared.outcomes.Outcome.TheVariants as outcome
use Rattle.nona_tree.specs.declared.trees.Stmt.{Stmt}
use Rattle.nona_tree.specs.Memory.{Memory, cut_to}
use Rattle.nona_tree.specs.Run.{Ran as Run, run}
use Rattle.nona_units.specs.Units.{FirstReaches}
use Rattle.nona_units.proofs.Statements.{begins_with}
use Rattle.weave.specs.OneTask.{place_before, store_before}
use Rattle.weave.specs.SeqNet.{SeqNet, Stand, Finished, left_iteration, at_units, behind_unit, unit_done, step_at}

-- the place and the store before units
arrived : (rest : List Stmt) (net : SeqNet) (r : Memory) → at_units rest (record net { store = r })
    ≡ record net { place = place_before rest; store = store_before (length net.entry.store.scalars) rest r }
arrived [] net r = refl
arrived (s ∷ rest) net r = refl

-- a unit that is done leads to those behind it
unit_first : (ss rest : List Stmt) (s : Stmt) (net : SeqNet) (r : Memory) → ss ≡ s ∷ rest → FirstReaches ss net.entry.turns net.store r outcome.Done
    → step_at (place_before ss) net ≡ at_units rest (record net { store = r })
unit_first ss rest s net r is reached =
    let ran : run s net.entry.turns net.store ≡ record { store = r; end = outcome.Done } =
    subst (λ (xs : List Stmt). FirstReaches xs net.entry.turns net.store r outcome.Done) is reached in
    ap (λ xs. step_at (place_before xs) net) is ∙ ap (λ (q : Run). unit_done rest q net) ran

pub unit_goes_on : (net : SeqNet) (units : List Stmt) (at depth n : ℕ) (there : Stand) (r m : Memory) → at < length units
    → depth ≡ length net.entry.store.scalars → n ≡ net.entry.turns → FirstReaches (drop at units) n net.store r outcome.Done
    → there ≡ place_before (drop (at + 1) units) → m ≡ store_before depth (drop (at + 1) units) r
    → (record net { place = there; store = m }) ≡ step_at (place_before (drop at units)) net
unit_goes_on net units at depth n there r m within deep turns reached place store =
    let rest = drop (at + 1) units in
    let b = begins_with units at within in
    let stored : m ≡ store_before (length net.entry.store.scalars) rest r = store ∙ ap (λ (d : ℕ). store_before d rest r) deep in
    (λ i. record net { place = place i; store = stored i }) ∙ sym (arrived rest net r)
    ∙ sym (unit_first (drop at units) rest b.statement net r b.here (subst (λ (k : ℕ). FirstReaches (drop at units) k net.store r outcome.Done) turns reached))

-- one that ends otherwise finishes the task
stopped_by : (rest : List Stmt) (end : Outcome) (net : SeqNet) (r : Memory) → end ≢ outcome.Done
    → behind_unit rest end r net ≡ record net { place = Finished; store = left_iteration net r; end = end }
stopped_by rest outcome.Done net r other = absurd (other refl)
stopped_by rest (outcome.Trap t) net r other = refl
stopped_by rest (outcome.OutOfTurns at) net r other = refl

pub unit_stops : (net : SeqNet) (units : List Stmt) (at depth n : ℕ) (end : Outcome) (r m : Memory) → at < length units
    → depth ≡ length net.entry.store.scalars → n ≡ net.entry.turns → end ≢ outcome.Done → FirstReaches (drop at units) n net.store r end
    → m ≡ cut_to depth r → (record net { place = Finished; store = m; end = end }) ≡ step_at (place_before (drop at units)) net
unit_stops net units at depth n end r m within deep turns other reached store =
    let rest = drop (at + 1) units in
    let b = begins_with units at within in
    let ran : run b.statement net.entry.turns net.store ≡ record { store = r; end = end } =
    subst (λ (xs : List Stmt). FirstReaches xs net.entry.turns net.store r end) b.here (subst (λ (k : ℕ). FirstReaches (drop at units) k net.store r end) turns reached) in
    let stored : m ≡ left_iteration net r = store ∙ ap (λ (d : ℕ). cut_to d r) deep in
    (λ i. record net { place = Finished; store = stored i; end = end }) ∙ sym (stopped_by rest end net r other)
    ∙ sym (ap (λ xs. step_at (place_before xs) net) b.here ∙ ap (λ (q : Run). unit_done rest q net) ran)
