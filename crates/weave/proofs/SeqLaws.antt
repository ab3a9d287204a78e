-- The machine of an interval under `seq` has what one thread has.
use Rattle.std.proofs.Common.{◌≡◌, ◌≢◌, ◌<◌, ◌≤◌, ◌+◌, ◌-◌, ◌*◌, ℕ, ℤ, pos, ◌+ℤ◌, Bool, true, false, List, [], ◌∷◌, length, map, refl, sym, ap, subst, subst₂, ◌∙◌, arith, inl, inr, if◌then◌else◌, length-append}
use Rattle.std.proofs.lemmas.List.{length-map}
use Rattle.nona_tree.specs.declared.outcomes.Outcome.{Outcome}
use Rattle.nona_tree.specs.declared.outcomes.Outcome.TheVariants as outcome
use Rattle.nona_tree.specs.declared.trees.Stmt.{Stmt}
use Rattle.nona_tree.specs.Memory.{Memory, declare, cut_to}
use Rattle.nona_tree.specs.Run.{Ran as Run, done, then_do, run, run_all}
use Rattle.nona_tree.specs.Scope.{AreScoped}
use Rattle.nona_tree.proofs.Depth.{turns_depth}
use Rattle.nona_tree.proofs.Equations.{scoped-For}
use Rattle.nona_tree.proofs.EntryLaws.{after_one_more, after_stays}
use Rattle.nona_tree.proofs.Keeps.{SameArrays, arrays_kept, turns_kept}
use Rattle.nona_tree.proofs.Turns.{end_stays}
use Rattle.nona_units.proofs.Statements.{after_statement}
use Rattle.morta_task.specs.Entries.{EntryView, IsEntered, loop_of, state_after}
use Rattle.weave.specs.SeqNet.{SeqNet, Stand, Claims, Unit_of, Finished, at_units, is_granted, behind_unit, step_at, moved, is_finished}
use Rattle.weave.specs.SeqState.{InIteration, StandsAt, moves_at, moves_left}

-- fewer iterations are done where more are
pub done_before : (e : EntryView) (j k : ℕ) → j ≤ k → (state_after e k).end ≡ outcome.Done → (state_after e j).end ≡ outcome.Done
done_before e j k within finished = by_end (state_after e j).end refl where
  by_end : (o : Outcome) → (state_after e j).end ≡ o → (state_after e j).end ≡ outcome.Done
  by_end outcome.Done is = is
  by_end (outcome.Trap t) is =
      let other : (state_after e j).end ≢ outcome.Done = λ h. (cc) in
      ap (λ (r : Run). r.end) (sym (after_stays (loop_of e) j k within other)) ∙ finished
  by_end (outcome.OutOfTurns at) is =
      let other : (state_after e j).end ≢ outcome.Done = λ h. (cc) in
      ap (λ (r : Run). r.end) (sym (after_stays (loop_of e) j k within other)) ∙ finished

-- a claim is granted below the limit
pub granted_below : (net : SeqNet) → is_granted net ≡ true → net.granted < net.limit
granted_below net h = grind arith

-- the moves that are left before these units
pub left_before : (units : List Stmt) (net : SeqNet) → moves_left (at_units units net) ≡ (net.limit - net.granted) * (length net.entry.looped.body + 1) + 1 + length units
left_before [] net = omega arith
left_before (s ∷ rest) net = omega arith

-- an iteration less takes the moves of its claim and its units
pub one_less : (limit granted units : ℕ) → granted < limit → (limit - (granted + 1)) * (units + 1) + 1 + units + 1 ≡ (limit - granted) * (units + 1) + 1
one_less limit granted units below =
    let more : limit - granted ≡ (limit - (granted + 1)) + 1 = omega (arith, below) in
    omega (arith, ap (λ (n : ℕ). n * (units + 1)) more)

falls_claim : (b : Bool) (net : SeqNet) → is_granted net ≡ b
    → moves_left (if b then at_units net.entry.looped.body (record net { granted = net.granted + 1; store = declare (net.entry.low +ℤ pos (net.before + net.granted)) net.store }) else record net { place = Finished }) + 1
    ≤ moves_at Claims (net.limit - net.granted) (length net.entry.looped.body)
falls_claim true net is =
    let after : SeqNet = record net { granted = net.granted + 1; store = declare (net.entry.low +ℤ pos (net.before + net.granted)) net.store } in
    omega (arith, left_before net.entry.looped.body after, one_less net.limit net.granted (length net.entry.looped.body) (granted_below net is))
falls_claim false net is = omega arith

falls_unit : (s : Stmt) (rest : List Stmt) (o : Outcome) (m : Memory) (net : SeqNet)
    → moves_left (behind_unit rest o m net) + 1 ≤ moves_at (Unit_of s rest) (net.limit - net.granted) (length net.entry.looped.body)
falls_unit s rest outcome.Done m net = let after : SeqNet = record net { store = m } in omega (arith, left_before rest after)
falls_unit s rest (outcome.Trap t) m net = omega arith
falls_unit s rest (outcome.OutOfTurns at) m net = omega arith

-- a step leaves fewer moves
pub falls_at : (p : Stand) (net : SeqNet) → is_finished p ≡ false
    → moves_left (step_at p net) + 1 ≤ moves_at p (net.limit - net.granted) (length net.entry.looped.body)
falls_at Claims net going = falls_claim (is_granted net) net refl
falls_at (Unit_of s rest) net going =
    let r = run s net.entry.turns net.store in falls_unit s rest r.end r.store net
falls_at Finished net going = cc

pub falls : (net : SeqNet) → is_finished net.place ≡ false → moves_left (moved net) + 1 ≤ moves_left net
falls net going = falls_at net.place net going

-- as many scalars as before the first iteration
pub depth_after_some : (e : EntryView) (k : ℕ) (m : Memory) → state_after e k ≡ done m → length m.scalars ≡ length e.store.scalars
depth_after_some e k m ready =
    ap (λ (r : Run). length r.store.scalars) (sym ready) ∙ turns_depth e.looped.body e.turns e.low k e.store

-- one more iteration, as its body ends
pub one_more : (e : EntryView) (k : ℕ) (begun m : Memory) (end : Outcome) → state_after e k ≡ done begun
    → run_all e.looped.body e.turns (declare (e.low +ℤ pos k) begun) ≡ record { store = m; end = end }
    → state_after e (k + 1) ≡ record { store = cut_to (length e.store.scalars) m; end = end }
one_more e k begun m end ready ran =
    let depth : length begun.scalars ≡ length e.store.scalars = depth_after_some e k begun ready in
    after_one_more (loop_of e) k begun ready
    ∙ ap (λ (r : Run). let q : Run = record { store = cut_to (length begun.scalars) r.store; end = r.end } in q) ran
    ∙ ap (λ (d : ℕ). let q : Run = record { store = cut_to d m; end = end } in q) depth

-- the body has what it names behind the index of an iteration
pub body_scoped : (e : EntryView) (k : ℕ) (begun : Memory) (index : ℤ) → IsEntered e → state_after e k ≡ done begun
    → AreScoped e.looped.body (length (declare index begun).scalars) (length (declare index begun).arrays)
body_scoped e k begun index entered ready =
    let depth : length begun.scalars ≡ length e.store.scalars = depth_after_some e k begun ready in
    let arrays : length begun.arrays ≡ length e.store.arrays =
    sym (length-map begun.arrays length)
    ∙ ap (λ (r : Run). length (map length r.store.arrays)) (sym ready)
    ∙ ap length (turns_kept SameArrays arrays_kept e.looped.body e.turns e.low k e.store)
    ∙ length-map e.store.arrays length in
    let one : length (declare index begun).scalars ≡ length e.store.scalars + 1 = omega (arith, depth, length-append begun.scalars (index ∷ [])) in
    subst₂ (λ (d a : ℕ). AreScoped e.looped.body d a) (sym one) (sym arrays) (subst (λ P. P) (scoped-For e.looped (length e.store.scalars) (length e.store.arrays)) entered.scoped).3

-- before these units, or behind the last of them
stands_before : (units : List Stmt) (net : SeqNet) (k : ℕ) → net.before + net.granted ≡ k + 1 → InIteration net.entry k units net.store → 1 ≤ net.granted
    → net.end ≡ outcome.Done → StandsAt (at_units units net).place (at_units units net)
stands_before [] net k here i some ended =
    (ap (state_after net.entry) here ∙ one_more net.entry k i.begun net.store outcome.Done i.ready i.goes_on, ended)
stands_before (s ∷ rest) net k here i some ended = (k, here, i, some, ended)

stands_claimed : (b : Bool) (net : SeqNet) → IsEntered net.entry → StandsAt Claims net
    → let next : SeqNet = if b then at_units net.entry.looped.body (record net { granted = net.granted + 1; store = declare (net.entry.low +ℤ pos (net.before + net.granted)) net.store }) else record net { place = Finished } in
    StandsAt next.place next
stands_claimed true net entered here =
    let k = net.before + net.granted in
    let index = net.entry.low +ℤ pos k in
    let next : SeqNet = record net { granted = net.granted + 1; store = declare index net.store } in
    let i : InIteration net.entry k net.entry.looped.body next.store = record {
      begun = net.store;
      ready = here.0;
      goes_on = refl;
      scoped = body_scoped net.entry k net.store index entered here.0;
    } in
    stands_before net.entry.looped.body next k (omega arith) i (omega arith) here.1
stands_claimed false net entered here =
    (here.0 ∙ ap (λ (o : Outcome). let q : Run = record { store = net.store; end = o } in q) (sym here.1), inl here.1)

-- a unit that ended otherwise than done ends its iteration
ended_in : (e : EntryView) (k : ℕ) (s : Stmt) (rest : List Stmt) (m r : Memory) (end : Outcome) → InIteration e k (s ∷ rest) m
    → run s e.turns m ≡ record { store = r; end = end } → end ≢ outcome.Done
    → state_after e (k + 1) ≡ record { store = cut_to (length e.store.scalars) r; end = end }
ended_in e k s rest m r end i ran other =
    one_more e k i.begun r end i.ready
    (i.goes_on ∙ ap (λ (q : Run). then_do q (run_all rest e.turns)) ran ∙ end_stays r end (run_all rest e.turns) other)

stands_behind : (o : Outcome) (s : Stmt) (rest : List Stmt) (m : Memory) (net : SeqNet) → run s net.entry.turns net.store ≡ record { store = m; end = o }
    → StandsAt (Unit_of s rest) net → StandsAt (behind_unit rest o m net).place (behind_unit rest o m net)
stands_behind outcome.Done s rest m net ran here =
    let i : InIteration net.entry here.0 rest m = record {
      begun = here.2.begun;
      ready = here.2.ready;
      goes_on = here.2.goes_on ∙ ap (λ (q : Run). then_do q (run_all rest net.entry.turns)) ran;
      scoped = after_statement (AreScoped rest) s net.entry.turns net.store m ran here.2.scoped.1;
    } in
    stands_before rest (record net { store = m }) here.0 here.1 i here.3 here.4
stands_behind (outcome.Trap t) s rest m net ran here =
    (ap (state_after net.entry) here.1 ∙ ended_in net.entry here.0 s rest net.store m (outcome.Trap t) here.2 ran (λ h. (cc)), inr here.3)
stands_behind (outcome.OutOfTurns at) s rest m net ran here =
    (ap (state_after net.entry) here.1 ∙ ended_in net.entry here.0 s rest net.store m (outcome.OutOfTurns at) here.2 ran (λ h. (cc)), inr here.3)

-- the place after a step
pub stands_on : (p : Stand) (net : SeqNet) → IsEntered net.entry → is_finished p ≡ false → StandsAt p net → StandsAt (step_at p net).place (step_at p net)
stands_on Claims net entered going here = stands_claimed (is_granted net) net entered here
stands_on (Unit_of s rest) net entered going here =
    let r = run s net.entry.turns net.store in stands_behind r.end s rest r.store net refl here
stands_on Finished net entered going here = cc
