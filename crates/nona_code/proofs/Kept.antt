-- An instruction keeps the hidden scalars and counters that it doesn't use.
use Rattle.std.proofs.Common.{◌≡◌, ℕ, ◌+◌, ◌-◌, ◌<◌, Bool, true, false, if◌then◌else◌, ℤ, pos, length, refl, ap, ◌∙◌, arith}
use Rattle.std.specs.Prelude.{drop, nat_lt, nat_le, slice_set, slice_index_or, unsigned_abs}
use Rattle.std.proofs.lemmas.Bool.{ltb-false}
use Rattle.std.proofs.lemmas.List.{length-set, drop-set-lt}
use Rattle.nona_num.specs.Folds.{join_of}
use Rattle.nona_tree.specs.Memory.{Memory, scalar_at, cells_of, cell_at, assign, put_cell}
use Rattle.nona_tree.specs.Value.{place_of, apply}
use Rattle.nona_tree.specs.Run.{starved}
use Rattle.nona_code.specs.declared.instr.Instr.{Instr}
use Rattle.nona_code.specs.declared.instr.Instr.TheVariants as instr
use Rattle.nona_code.specs.declared.registers.Registers.{Registers}
use Rattle.nona_code.specs.Machine.{State, ended, Next, goes, halts, act, where_so, given, pushed, stored, leave, first_hidden}
use Rattle.nona_code.specs.Rule.{IsNumbered}
use Rattle.nona_code.specs.Ready.{state_of}
use Rattle.nona_code.specs.Stops.{KeepsFrom}
use Rattle.nona_code.proofs.Readiness.{Moves, one_moves, two_moves, so_moves, so_moves_if, if_moves, given_moves}

-- from these numbers on hidden scalars and counters are as they were
pub record KeepsOn (h k : ℕ) (s t : State) : Type 0 where
  pub hidden : drop h t.hidden ≡ drop h s.hidden
  pub counters : drop k t.counters ≡ drop k s.counters
  pub all_hidden : length t.hidden ≡ length s.hidden
  pub all_counters : length t.counters ≡ length s.counters

unmoved : (h k : ℕ) (s t : State) → t.hidden ≡ s.hidden → t.counters ≡ s.counters → KeepsOn h k s t
unmoved h k s t a b = record { hidden = ap (drop h) a; counters = ap (drop k) b; all_hidden = ap length a; all_counters = ap length b }

moved_hidden : (h k : ℕ) (s t : State) (i : ℕ) (v : ℤ) → i < h → t.hidden ≡ slice_set s.hidden i v → t.counters ≡ s.counters → KeepsOn h k s t
moved_hidden h k s t i v below a b = record {
  hidden = ap (drop h) a ∙ drop-set-lt h s.hidden i v below;
  counters = ap (drop k) b;
  all_hidden = ap length a ∙ length-set s.hidden i v;
  all_counters = ap length b;
}

moved_counter : (h k : ℕ) (s t : State) (i v : ℕ) → i < k → t.counters ≡ slice_set s.counters i v → t.hidden ≡ s.hidden → KeepsOn h k s t
moved_counter h k s t i v below a b = record {
  hidden = ap (drop h) b;
  counters = ap (drop k) a ∙ drop-set-lt k s.counters i v below;
  all_hidden = ap length b;
  all_counters = ap length a ∙ length-set s.counters i v;
}

if_moves_no : (P : State → Type 0) (b : Bool) (x y : Next) → Moves P x → (b ≡ false → Moves P y) → Moves P (if b then x else y)
if_moves_no P true x y h k = h
if_moves_no P false x y h k = k refl

pub kept : (h k out n : ℕ) (i : Instr) (s : State) → IsNumbered h k i → Moves (KeepsOn h k s) (act i out n s)
kept h k out n (instr.Push v) s b = unmoved h k s _ refl refl
kept h k out n (instr.Load id) s b = if_moves (KeepsOn h k s) (nat_lt id first_hidden) (where_so (nat_lt id (length s.store.scalars)) (goes (pushed (scalar_at s.store id) s))) (where_so (nat_lt (id - first_hidden) (length s.hidden)) (goes (pushed (slice_index_or s.hidden (id - first_hidden) (pos 0)) s))) (so_moves (KeepsOn h k s) _ (goes (pushed (scalar_at s.store id) s)) (unmoved h k s _ refl refl)) (so_moves (KeepsOn h k s) _ (goes (pushed (slice_index_or s.hidden (id - first_hidden) (pos 0)) s)) (unmoved h k s _ refl refl))
kept h k out n (instr.Len array) s b = so_moves (KeepsOn h k s) _ (goes (pushed (pos (length (cells_of s.store array))) s)) (unmoved h k s _ refl refl)
kept h k out n (instr.Save id) s b = one_moves (KeepsOn h k s) s.stack _ (λ v rest e. if_moves_no (KeepsOn h k s) (nat_lt id first_hidden) (where_so (nat_lt id (length s.store.scalars)) (goes (stored (assign id v s.store) (record s { stack = rest })))) (where_so (nat_lt (id - first_hidden) (length s.hidden)) (goes (record s { pc = s.pc + 1; stack = rest; hidden = slice_set s.hidden (id - first_hidden) v }))) (so_moves (KeepsOn h k s) _ (goes (stored (assign id v s.store) (record s { stack = rest }))) (unmoved h k s _ refl refl)) (λ no. so_moves (KeepsOn h k s) _ (goes (record s { pc = s.pc + 1; stack = rest; hidden = slice_set s.hidden (id - first_hidden) v })) (moved_hidden h k s _ (id - first_hidden) v (omega (arith, b, ltb-false _ _ no)) refl refl)))
kept h k out n instr.Drop s b = one_moves (KeepsOn h k s) s.stack _ (λ v rest e. unmoved h k s _ refl refl)
kept h k out n instr.Print s b = one_moves (KeepsOn h k s) s.stack _ (λ v rest e. unmoved h k s _ refl refl)
kept h k out n instr.Declare s b = one_moves (KeepsOn h k s) s.stack _ (λ v rest e. unmoved h k s _ refl refl)
kept h k out n (instr.Leave count) s b = so_moves_if (KeepsOn h k s) _ (goes (stored (leave count s.store) s)) (λ is. unmoved h k s _ refl refl)
kept h k out n (instr.Bound array wrap at) s b = one_moves (KeepsOn h k s) s.stack _ (λ v rest e. so_moves (KeepsOn h k s) _ (given (place_of wrap at (length (cells_of s.store array)) v) out s.store (λ place. goes (pushed (pos place) (record s { stack = rest })))) (given_moves (KeepsOn h k s) (place_of wrap at (length (cells_of s.store array)) v) out s.store (λ place. goes (pushed (pos place) (record s { stack = rest }))) (λ place. unmoved h k s _ refl refl)))
kept h k out n (instr.Get array) s b = one_moves (KeepsOn h k s) s.stack _ (λ v rest e. so_moves (KeepsOn h k s) _ (goes (pushed (cell_at s.store array (unsigned_abs v)) (record s { stack = rest }))) (unmoved h k s _ refl refl))
kept h k out n (instr.Put array) s b = two_moves (KeepsOn h k s) s.stack _ (λ a b rest e. so_moves (KeepsOn h k s) _ (goes (stored (put_cell array (unsigned_abs a) b s.store) (record s { stack = rest }))) (unmoved h k s _ refl refl))
kept h k out n (instr.FoldPut array f_) s b = two_moves (KeepsOn h k s) s.stack _ (λ a b rest e. so_moves (KeepsOn h k s) _ (goes (stored (put_cell array (unsigned_abs a) (join_of f_ (cell_at s.store array (unsigned_abs a)) b) s.store) (record s { stack = rest }))) (unmoved h k s _ refl refl))
kept h k out n (instr.FoldSave id f_) s b = one_moves (KeepsOn h k s) s.stack _ (λ v rest e. so_moves (KeepsOn h k s) _ (goes (stored (assign id (join_of f_ (scalar_at s.store id) v) s.store) (record s { stack = rest }))) (unmoved h k s _ refl refl))
kept h k out n instr.Neg s b = one_moves (KeepsOn h k s) s.stack _ (λ v rest e. unmoved h k s _ refl refl)
kept h k out n instr.Not s b = one_moves (KeepsOn h k s) s.stack _ (λ v rest e. unmoved h k s _ refl refl)
kept h k out n (instr.Binary op at) s b = two_moves (KeepsOn h k s) s.stack _ (λ a b rest e. given_moves (KeepsOn h k s) (apply op at a b) out s.store (λ v. goes (pushed v (record s { stack = rest }))) (λ v. unmoved h k s _ refl refl))
kept h k out n (instr.Jump target) s b = unmoved h k s _ refl refl
kept h k out n (instr.Zero target) s b = one_moves (KeepsOn h k s) s.stack _ (λ v rest e. unmoved h k s _ refl refl)
kept h k out n (instr.Enter counter) s b = so_moves (KeepsOn h k s) _ (goes (record s { pc = s.pc + 1; counters = slice_set s.counters counter 0 })) (moved_counter h k s _ counter 0 b refl refl)
kept h k out n (instr.Turn counter at) s b = so_moves (KeepsOn h k s) (nat_lt counter (length s.counters)) (where_so (nat_le out (length s.store.scalars)) (if nat_lt (slice_index_or s.counters counter 0) n then goes (record s { pc = s.pc + 1; counters = slice_set s.counters counter (slice_index_or s.counters counter 0 + 1) }) else halts (ended (starved at (leave out s.store))))) (so_moves (KeepsOn h k s) (nat_le out (length s.store.scalars)) (if nat_lt (slice_index_or s.counters counter 0) n then goes (record s { pc = s.pc + 1; counters = slice_set s.counters counter (slice_index_or s.counters counter 0 + 1) }) else halts (ended (starved at (leave out s.store)))) (if_moves (KeepsOn h k s) (nat_lt (slice_index_or s.counters counter 0) n) (goes (record s { pc = s.pc + 1; counters = slice_set s.counters counter (slice_index_or s.counters counter 0 + 1) })) (halts (ended (starved at (leave out s.store)))) (moved_counter h k s _ counter (slice_index_or s.counters counter 0 + 1) b refl refl) tt))
kept h k out n (instr.Region number) s b = two_moves (KeepsOn h k s) s.stack _ (λ a b rest e. tt)
kept h k out n instr.Stop s b = tt

-- registers keep what they kept, over one more instruction
pub keeps_more : (h k pc at : ℕ) (first old new : Registers) (m l : Memory) → KeepsFrom h k first old → KeepsOn h k (state_of old pc m) (state_of new at l) → KeepsFrom h k first new
keeps_more h k pc at first old new m l a b = record {
  hidden = b.hidden ∙ a.hidden;
  counters = b.counters ∙ a.counters;
  all_hidden = b.all_hidden ∙ a.all_hidden;
  all_counters = b.all_counters ∙ a.all_counters;
}

-- and where the code stops
pub keeps_at_end : (h k : ℕ) (first old new : Registers) → KeepsFrom h k first old → (new.hidden.items ≡ old.hidden.items) × (new.counters.items ≡ old.counters.items) → KeepsFrom h k first new
keeps_at_end h k first old new a b = record {
  hidden = ap (drop h) b.0 ∙ a.hidden;
  counters = ap (drop k) b.1 ∙ a.counters;
  all_hidden = ap length b.0 ∙ a.all_hidden;
  all_counters = ap length b.1 ∙ a.all_counters;
}
