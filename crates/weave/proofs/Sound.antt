-- Each step keeps what the machine of an interval under `seq` has.
use Rattle.std.proofs.Common.{◌≡◌, ◌≤◌, ◌+◌, ◌-◌, ℕ, pos, ◌+ℤ◌, Bool, true, false, List, [], ◌∷◌, refl, ap, subst, ◌∙◌, arith, if◌then◌else◌}
use Rattle.nona_tree.specs.declared.outcomes.Outcome.{Outcome}
use Rattle.nona_tree.specs.declared.outcomes.Outcome.TheVariants as outcome
use Rattle.nona_tree.specs.declared.trees.Stmt.{Stmt}
use Rattle.nona_tree.specs.Memory.{Memory, declare}
use Rattle.nona_tree.specs.Run.{Ran as Run, done, run}
use Rattle.morta_task.specs.Entries.{EntryView, IsEntered, state_after}
use Rattle.weave.specs.SeqNet.{SeqNet, Stand, Claims, Unit_of, Finished, at_units, is_granted, behind_unit, step_at, moved, is_finished, seq_machine, begun_net}
use Rattle.weave.specs.SeqState.{StandsAt, IsSound}
use Rattle.weave.proofs.SeqLaws.{done_before, granted_below, stands_on}
use Rattle.weave.proofs.Counts.{counted_moved, counted_begun}

-- the interval is the same one
pub record SameInterval (net next : SeqNet) : Type 0 where
  pub entry : next.entry ≡ net.entry
  pub before : next.before ≡ net.before
  pub limit : next.limit ≡ net.limit

-- no more claims are granted than the limit, and the iterations before the last one are done
record Claimed (net : SeqNet) : Type 0 where
  within : net.granted ≤ net.limit
  quiet : (state_after net.entry (net.before + net.granted - 1)).end ≡ outcome.Done

-- a step keeps the interval and the count of moves
record Steps (net next : SeqNet) : Type 0 where
  same : SameInterval net next
  moves : next.moves ≡ net.moves
  claimed : Claimed next

at_units_steps : (units : List Stmt) (net next : SeqNet) → Steps net next → Steps net (at_units units next)
at_units_steps [] net next s = record {
  same = record { entry = s.same.entry; before = s.same.before; limit = s.same.limit };
  moves = s.moves;
  claimed = record { within = s.claimed.within; quiet = s.claimed.quiet };
}
at_units_steps (u ∷ rest) net next s = record {
  same = record { entry = s.same.entry; before = s.same.before; limit = s.same.limit };
  moves = s.moves;
  claimed = record { within = s.claimed.within; quiet = s.claimed.quiet };
}

claim_steps : (b : Bool) (net : SeqNet) → is_granted net ≡ b → Claimed net → (state_after net.entry (net.before + net.granted)).end ≡ outcome.Done
    → Steps net (if b then at_units net.entry.looped.body (record net { granted = net.granted + 1; store = declare (net.entry.low +ℤ pos (net.before + net.granted)) net.store }) else record net { place = Finished })
claim_steps true net is c here =
    let next : SeqNet = record net { granted = net.granted + 1; store = declare (net.entry.low +ℤ pos (net.before + net.granted)) net.store } in
    let back : net.before + net.granted ≡ net.before + (net.granted + 1) - 1 = omega arith in
    at_units_steps net.entry.looped.body net next (record {
      same = record { entry = refl; before = refl; limit = refl };
      moves = refl;
      claimed = record {
        within = omega (arith, granted_below net is);
        quiet = subst (λ (k : ℕ). (state_after net.entry k).end ≡ outcome.Done) back here;
      };
    })
claim_steps false net is c here = record {
  same = record { entry = refl; before = refl; limit = refl };
  moves = refl;
  claimed = record { within = c.within; quiet = c.quiet };
}

unit_steps : (o : Outcome) (rest : List Stmt) (m : Memory) (net : SeqNet) → Claimed net → Steps net (behind_unit rest o m net)
unit_steps outcome.Done rest m net c =
    at_units_steps rest net (record net { store = m }) (record {
      same = record { entry = refl; before = refl; limit = refl };
      moves = refl;
      claimed = record { within = c.within; quiet = c.quiet };
    })
unit_steps (outcome.Trap t) rest m net c = record {
  same = record { entry = refl; before = refl; limit = refl };
  moves = refl;
  claimed = record { within = c.within; quiet = c.quiet };
}
unit_steps (outcome.OutOfTurns at) rest m net c = record {
  same = record { entry = refl; before = refl; limit = refl };
  moves = refl;
  claimed = record { within = c.within; quiet = c.quiet };
}

steps_at : (p : Stand) (net : SeqNet) → is_finished p ≡ false → StandsAt p net → Claimed net → Steps net (step_at p net)
steps_at Claims net going here c = claim_steps (is_granted net) net refl c (ap (λ (r : Run). r.end) here.0)
steps_at (Unit_of s rest) net going here c =
    let r = run s net.entry.turns net.store in unit_steps r.end rest r.store net c
steps_at Finished net going here c = cc

claimed_of : (net : SeqNet) → IsSound net → Claimed net
claimed_of net s = record { within = s.within; quiet = s.quiet }

steps_of : (net : SeqNet) → is_finished net.place ≡ false → IsSound net → Steps net (step_at net.place net)
steps_of net going s = steps_at net.place net going s.stands (claimed_of net s)

-- what a step does leaves the count of moves
pub moves_stay : (net : SeqNet) → is_finished net.place ≡ false → IsSound net → (step_at net.place net).moves ≡ net.moves
moves_stay net going s = (steps_of net going s).moves

-- a step keeps the interval
pub same_moved : (net : SeqNet) → is_finished net.place ≡ false → IsSound net → SameInterval net (moved net)
same_moved net going s =
    let k = (steps_of net going s).same in record { entry = k.entry; before = k.before; limit = k.limit }

stands_again : (p : Stand) (net : SeqNet) (moves : ℕ) → StandsAt p net → StandsAt p (record net { moves = moves })
stands_again Claims net moves here = (here.0, here.1)
stands_again (Unit_of s rest) net moves here = (here.0, here.1, here.2, here.3, here.4)
stands_again Finished net moves here = (here.0, here.1)

still_going : (p : Stand) (net : SeqNet) → is_finished p ≡ false → StandsAt p net → net.end ≡ outcome.Done
still_going Claims net going here = here.1
still_going (Unit_of s rest) net going here = here.4
still_going Finished net going here = cc

-- a step keeps what one thread has
pub sound_moved : (net : SeqNet) → IsEntered net.entry → is_finished net.place ≡ false → IsSound net → IsSound (moved net)
sound_moved net entered going s =
    let k = steps_of net going s in
    let next = step_at net.place net in
    record {
      within = k.claimed.within;
      quiet = k.claimed.quiet;
      stands = stands_again next.place next (net.moves + 1) (stands_on net.place net entered going s.stands);
      counted = counted_moved net going (still_going net.place net going s.stands) s.counted;
    }

-- the pause keeps it
pub sound_paused : (net : SeqNet) → IsSound net → IsSound (seq_machine.pause net)
sound_paused net s = record { within = s.within; quiet = s.quiet; stands = paused net.place s.stands; counted = s.counted } where
  paused : (p : Stand) → StandsAt p net → StandsAt p (record net { paused = true })
  paused Claims here = (here.0, here.1)
  paused (Unit_of u rest) here = (here.0, here.1, here.2, here.3, here.4)
  paused Finished here = (here.0, here.1)

-- so it is before the first step
pub sound_begun : (e : EntryView) (before limit : ℕ) (m : Memory) → state_after e before ≡ done m → IsSound (begun_net e before limit m)
sound_begun e before limit m ready =
    let none : before + 0 ≡ before = omega arith in
    let here : state_after e (before + 0) ≡ done m = ap (state_after e) none ∙ ready in
    record {
      within = omega arith;
      quiet = done_before e (before + 0 - 1) before (omega arith) (ap (λ (r : Run). r.end) ready);
      stands = (here, refl);
      counted = counted_begun e before limit m;
    }
