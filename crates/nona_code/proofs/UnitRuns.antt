-- A unit runs as its statement.
use Rattle.std.proofs.Common.{◌≡◌, ℕ, ◌+◌, ◌≤◌, List, [], length, Option, Some, None, ℤ, pos, refl, sym, ap, subst, ◌∙◌, arith}
use Rattle.std.specs.Prelude.{replicate, drop}
use Rattle.std.proofs.lemmas.List.{length-replicate}
use Rattle.std.specs.List.{AllByRecursion}
use Rattle.nona_tree.specs.declared.outcomes.Outcome.{Outcome}
use Rattle.nona_tree.specs.declared.trees.Stmt.{Stmt}
use Rattle.nona_tree.specs.Memory.{Memory}
use Rattle.nona_tree.specs.Run.{Ran, run}
use Rattle.nona_tree.specs.Scope.{IsScoped}
use Rattle.nona_tree.specs.Numbers.{AreI64}
use Rattle.nona_tree.specs.Deeds.{Deed, deeds}
use Rattle.nona_code.specs.declared.instr.Instr.{Instr}
use Rattle.nona_code.specs.declared.registers.Registers.{Registers}
use Rattle.nona_code.specs.Machine.{State, Halt, ended, region, stuck, Trace, trace, begun, most_steps}
use Rattle.nona_store.specs.Banks.{HasRoom}
use Rattle.nona_code.specs.Ready.{state_of}
use Rattle.nona_code.specs.Rule.{UsesBelow}
use Rattle.nona_code.specs.SoundView.{SoundView, IsSoundView}
use Rattle.nona_code.specs.Stands.{StandsFor, on_cells}
use Rattle.nona_code.specs.Rested.{IsRested, AreKept}
use Rattle.nona_code.specs.Stops.{IsOver, KeepsFrom, IsOnWay}
use Rattle.nona_code.proofs.Running.{follows_first}

pub start_is : (f : Registers) (m : Memory) → f.stack.items ≡ [] → f.hidden.items ≡ replicate 256 (pos 0) → f.counters.items ≡ replicate 256 0 → state_of f 0 m ≡ begun m
start_is f m a b c = λ i. let s : State = record { pc = 0; stack = a i; hidden = b i; counters = c i; store = m } in s

-- the trace of a unit's code
pub unit_trace : (code : List Instr) (s : Stmt) (n : ℕ) (f : Registers) (m : Memory) → StandsFor code s → IsScoped s (length m.scalars) (length m.arrays) → AreI64 m
    → f.stack.items ≡ [] → f.hidden.items ≡ replicate 256 (pos 0) → f.counters.items ≡ replicate 256 0
    → trace code n (most_steps code n) (state_of f 0 m) ≡ record { end = Some (ended (run s n m)); did = on_cells (deeds s n m) }
unit_trace code s n f m stands scoped fits a b c = ap (trace code n (most_steps code n)) (start_is f m a b c) ∙ stands n m scoped fits

pub unit_over : (t : Trace) (r : Ran) (ds : List Deed) → t ≡ record { end = Some (ended r); did = ds } → IsOver t.end
unit_over t r ds e = subst (λ (x : Trace). IsOver x.end) (sym e) tt

pub unit_allowed : (P : Deed → Type 0) (t : Trace) (r : Ran) (ds : List Deed) → t ≡ record { end = Some (ended r); did = ds } → AllByRecursion P ds → AllByRecursion P t.did
unit_allowed P t r ds e h = subst (λ (x : Trace). AllByRecursion P x.did) (sym e) h

fewer : (room : Option ℕ) (a b : ℕ) → a ≤ b → HasRoom room b → HasRoom room a
fewer None a b le h = tt
fewer (Some r) a b le h = omega (arith, le, h)

-- registers with an empty stack stand on a way before the first instruction
pub unit_starts : (v : SoundView) (code : List Instr) (r : Registers) (room : Option ℕ) (m : Memory) → IsSoundView v → code ≡ v.instrs → r.stack.items ≡ [] → v.deepest ≤ r.stack.room → HasRoom room (length m.scalars + v.scalars) → IsOnWay code room r 0 m
unit_starts v code r room m sound is empty high many =
    subst (λ c. IsOnWay c room r 0 m) (sym is) (record {
      base = length m.scalars;
      follows = follows_first v.instrs (state_of r 0 m) refl empty;
      high = λ pc a w. omega (arith, sound.deepest.bounds pc a w, high);
      many = λ pc a w. fewer room (length m.scalars + a.declared) (length m.scalars + v.scalars) (omega (arith, sound.scalars.bounds pc a w)) many;
    })

abbrev the_run : Option Halt → Ran → Ran
the_run (Some (ended r)) d = r
the_run (Some (region number low high s)) d = d
the_run (Some stuck) d = d
the_run None d = d

pub same_run : (t : Trace) (r q : Ran) (ds : List Deed) → t ≡ record { end = Some (ended r); did = ds } → t.end ≡ Some (ended q) → r ≡ q
same_run t r q ds e h = ap (λ o. the_run o r) (sym (ap (λ (x : Trace). x.end) e) ∙ h)

pub no_region : (t : Trace) (r : Ran) (ds : List Deed) (number : ℕ) (low high : ℤ) (s : State) → t ≡ record { end = Some (ended r); did = ds } → t.end ≡ Some (region number low high s) → ⊥
no_region t r ds number low high s e h = let x : Some (ended r) ≡ Some (region number low high s) = sym (ap (λ (y : Trace). y.end) e) ∙ h in cc

pub ended_as : (o : Option Halt) (m : Memory) (e f : Outcome) → o ≡ Some (ended (record { store = m; end = e })) → e ≡ f → o ≡ Some (ended (record { store = m; end = f }))
ended_as o m e f h is = h ∙ ap (λ x. let r : Ran = record { store = m; end = x } in Some (ended r)) is

-- what a unit has used is all that isn't 0
pub kept_from : (hidden counters : ℕ) (old new : Registers) → IsRested old → KeepsFrom hidden counters old new → AreKept hidden counters new
kept_from hidden counters old new rested keeps = record {
  hidden = keeps.hidden ∙ ap (drop hidden) rested.hidden;
  counters = keeps.counters ∙ ap (drop counters) rested.counters;
  all_hidden = keeps.all_hidden ∙ ap length rested.hidden ∙ length-replicate 256 (pos 0);
  all_counters = keeps.all_counters ∙ ap length rested.counters ∙ length-replicate {A = ℕ} 256 0;
}

pub kept_after : (v : SoundView) (code : List Instr) (old new : Registers) → IsSoundView v → code ≡ v.instrs → IsRested old → ((h k : ℕ) → UsesBelow h k code → KeepsFrom h k old new) → AreKept v.hidden v.counters new
kept_after v code old new sound is rested keeps =
    kept_from v.hidden v.counters old new rested (keeps v.hidden v.counters (subst (UsesBelow v.hidden v.counters) (sym is) sound.uses))
