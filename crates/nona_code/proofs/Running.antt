-- What each instruction of code that stops says.
use Rattle.std.proofs.Common.{◌≡◌, ℕ, zero, suc, ◌+◌, ◌-◌, ◌≤◌, List, [], length, Option, Some, refl, sym, ap, subst, arith}
use Rattle.std.specs.Prelude.{slice_get, slice_index_or, ℤ}
use Rattle.std.specs.List.{AllByRecursion}
use Rattle.std.proofs.lemmas.Option.{get_or_from_slice_get}
use Rattle.nona_tree.specs.Memory.{Memory}
use Rattle.nona_tree.specs.Deeds.{Deed}
use Rattle.nona_tree.proofs.DeedLaws.{each_of_both}
use Rattle.nona_code.specs.declared.instr.Instr.{Instr}
use Rattle.nona_code.specs.declared.instr.Instr.TheVariants as instr
use Rattle.nona_code.specs.Machine.{State, Next, goes, act, act_deeds, open_at, step_by, Trace, noting, trace}
use Rattle.nona_store.specs.Banks.{HasRoom}
use Rattle.nona_code.specs.declared.registers.Registers.{Registers}
use Rattle.nona_code.specs.Ready.{HasPlace, state_of}
use Rattle.nona_code.specs.Rule.{Way, begins, goes_on, takes, puts}
use Rattle.nona_code.specs.Stops.{IsOver, Follows, IsOnWay}
use Rattle.nona_code.proofs.Nearer.{NotStuck, is_at}
use Rattle.nona_code.proofs.Readiness.{Moves}

-- the instruction at hand
pub record IsHere (code : List Instr) (n : ℕ) (s : State) (i : Instr) : Type 0 where
  pub is : slice_get code s.pc ≡ Some i
  pub acts : NotStuck (act i (open_at code s.pc) n s)

pub here : (code : List Instr) (n B : ℕ) (s : State) (d : Instr) → IsOver (trace code n B s).end → IsHere code n s (slice_index_or code s.pc d)
here code n B s d over =
    let a = is_at code n B s over in
    let same : slice_index_or code s.pc d ≡ a.next = get_or_from_slice_get code s.pc a.next d a.is in
    subst (IsHere code n s) (sym same) (record { is = a.is; acts = a.acts })

did_by : (P : Deed → Type 0) (o : Option Instr) (i : Instr) (out n : ℕ) (s : State) (go : State → Trace) → o ≡ Some i → AllByRecursion P (step_by o out n s go).did → AllByRecursion P (act_deeds i s)
did_by P o i out n s go is all =
    (each_of_both P (act_deeds i s) _ (subst (λ x. AllByRecursion P (step_by x out n s go).did) is all)).0

pub did_here : (P : Deed → Type 0) (code : List Instr) (n B : ℕ) (s : State) (i : Instr) → slice_get code s.pc ≡ Some i → IsOver (trace code n B s).end → AllByRecursion P (trace code n B s).did → AllByRecursion P (act_deeds i s)
did_here P code n zero s i is over all = absurd over
did_here P code n (suc k) s i is over all = did_by P (slice_get code s.pc) i (open_at code s.pc) n s (trace code n k) is all

begins_with : (code : List Instr) (st : List ℤ) → st ≡ [] → Way code 0 (record { depth = length st; declared = 0 })
begins_with code st e = subst (λ (l : List ℤ). Way code 0 (record { depth = length l; declared = 0 })) (sym e) begins

pub follows_first : (code : List Instr) (s : State) → s.pc ≡ 0 → s.stack ≡ [] → Follows code (length s.store.scalars) s
follows_first code s at_first empty = record {
  declared = 0;
  way = subst (λ p. Way code p (record { depth = length s.stack; declared = 0 })) (sym at_first) (begins_with code s.stack empty);
  scalars = omega arith;
}

pub has_place : (code : List Instr) (room : Option ℕ) (r : Registers) (pc : ℕ) (m : Memory) (i : Instr) → IsOnWay code room r pc m → slice_get code pc ≡ Some i → HasPlace i room (length m.scalars)
has_place code room r pc m instr.Declare w is =
    let f = w.follows in
    let on = goes_on pc (pc + 1) instr.Declare _ f.way is refl in
    let e : w.base + (f.declared - 0 + 1) ≡ length m.scalars + 1 = omega (arith, f.scalars) in
    subst (HasRoom room) e (w.many (pc + 1) _ on)
has_place code room r pc m _ w is = tt

-- room is wanted only where an instruction puts more than it takes
pub room_here : (code : List Instr) (room : Option ℕ) (r : Registers) (pc : ℕ) (m : Memory) (i : Instr) → IsOnWay code room r pc m → slice_get code pc ≡ Some i → length r.stack.items - takes i + puts i ≤ r.stack.room
room_here code room r pc m (instr.Push v) w is = w.high (pc + 1) _ (goes_on pc (pc + 1) (instr.Push v) _ w.follows.way is refl)
room_here code room r pc m (instr.Load id) w is = w.high (pc + 1) _ (goes_on pc (pc + 1) (instr.Load id) _ w.follows.way is refl)
room_here code room r pc m (instr.Len a) w is = w.high (pc + 1) _ (goes_on pc (pc + 1) (instr.Len a) _ w.follows.way is refl)
room_here code room r pc m (instr.Bound a b at) w is = w.high (pc + 1) _ (goes_on pc (pc + 1) (instr.Bound a b at) _ w.follows.way is refl)
room_here code room r pc m (instr.Get a) w is = w.high (pc + 1) _ (goes_on pc (pc + 1) (instr.Get a) _ w.follows.way is refl)
room_here code room r pc m instr.Neg w is = w.high (pc + 1) _ (goes_on pc (pc + 1) instr.Neg _ w.follows.way is refl)
room_here code room r pc m instr.Not w is = w.high (pc + 1) _ (goes_on pc (pc + 1) instr.Not _ w.follows.way is refl)
room_here code room r pc m (instr.Binary op at) w is = w.high (pc + 1) _ (goes_on pc (pc + 1) (instr.Binary op at) _ w.follows.way is refl)
room_here code room r pc m _ w is = omega (arith, w.high pc _ w.follows.way)

-- one more instruction leads on along the way
pub on_way : (code : List Instr) (room : Option ℕ) (old new : Registers) (pc to : ℕ) (m l : Memory) → (w : IsOnWay code room old pc m)
    → new.stack.room ≡ old.stack.room → Follows code w.base (state_of new to l) → IsOnWay code room new to l
on_way code room old new pc to m l w same f = record {
  base = w.base;
  follows = f;
  high = λ at a is. omega (arith, w.high at a is, same);
  many = w.many;
}

pub end_rest : (ds : List Deed) (a b : Trace) → a ≡ noting ds b → b.end ≡ a.end
end_rest ds a b e = sym (ap (λ (t : Trace). t.end) e)

pub did_rest : (P : Deed → Type 0) (ds : List Deed) (a b : Trace) → a ≡ noting ds b → AllByRecursion P a.did → AllByRecursion P b.did
did_rest P ds a b e all = (each_of_both P ds b.did (subst (λ (t : Trace). AllByRecursion P t.did) e all)).1

pub moved : (P : State → Type 0) (x : Next) (t : State) → x ≡ goes t → Moves P x → P t
moved P x t e h = subst (Moves P) e h
