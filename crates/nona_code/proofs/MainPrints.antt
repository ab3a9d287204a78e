-- What main code has to come only adds to what is printed.
use Rattle.std.proofs.Common.{◌≡◌, ℕ, zero, suc, ◌+◌, ◌-◌, Bool, true, false, if◌then◌else◌, ℤ, pos, List, [], ◌∷◌, length, Option, Some, None, subst}
use Rattle.std.specs.Prelude.{Result, Ok, Err, nat_lt, nat_le, slice_get, slice_set, slice_index_or, unsigned_abs}
use Rattle.nona_num.specs.Folds.{join_of}
use Rattle.nona_tree.specs.declared.outcomes.Outcome.{Outcome}
use Rattle.nona_tree.specs.declared.outcomes.Trap.{Trap}
use Rattle.nona_tree.specs.declared.trees.Stmt.{For}
use Rattle.nona_tree.specs.Memory.{Memory, scalar_at, cells_of, cell_at, assign, put_cell}
use Rattle.nona_tree.specs.Value.{place_of, apply}
use Rattle.nona_tree.specs.Run.{run, trapped, starved}
use Rattle.nona_tree.proofs.Keeps.{MorePrinted, printed_kept, run_kept}
use Rattle.nona_code.specs.Course.{Course}
use Rattle.nona_code.specs.declared.instr.Instr.{Instr}
use Rattle.nona_code.specs.declared.instr.Instr.TheVariants as instr
use Rattle.nona_code.specs.Machine.{State, Halt, ended, region, stuck, Next, goes, halts, act, open_at, step_by, Trace, trace, onward, most_steps, take_one, take_two, where_so, given, given_by, pushed, stored, leave, first_hidden}
use Rattle.nona_code.specs.Main.{Left, over, stops, leaves}

-- what holds where an instruction lacks something holds of what it does where it holds of each way to do it
module _ (Q : Next → Type 0) (lack : Q (halts stuck)) where
  pub one_next : (st : List ℤ) (go : ℤ → List ℤ → Next) → ((v : ℤ) (rest : List ℤ) → Q (go v rest)) → Q (take_one st go)
  one_next [] go h = lack
  one_next (v ∷ rest) go h = h v rest

  pub two_next : (st : List ℤ) (go : ℤ → ℤ → List ℤ → Next) → ((a b : ℤ) (rest : List ℤ) → Q (go a b rest)) → Q (take_two st go)
  two_next [] go h = lack
  two_next (b ∷ []) go h = lack
  two_next (b ∷ a ∷ rest) go h = h a b rest

  pub so_next : (b : Bool) (next : Next) → Q next → Q (where_so b next)
  so_next true next h = h
  so_next false next h = lack

  pub if_next : (b : Bool) (x y : Next) → Q x → Q y → Q (if b then x else y)
  if_next true x y h k = h
  if_next false x y h k = k

  given_next_by : {A : Type 0} (o : Result A Trap) (out : ℕ) (m : Memory) (go : A → Next) → ((t : Trap) → Q (halts (ended (trapped t (leave out m))))) → ((v : A) → Q (go v)) → Q (given_by o out m go)
  given_next_by (Ok v) out m go h k = k v
  given_next_by (Err t) out m go h k = h t

  pub given_next : {A : Type 0} (o : Result A Trap) (out : ℕ) (m : Memory) (go : A → Next) → ((t : Trap) → Q (halts (ended (trapped t (leave out m))))) → ((v : A) → Q (go v)) → Q (given o out m go)
  given_next o out m go h k = so_next _ _ (given_next_by o out m go h k)

-- nothing is added, and one thing after another adds what both do
same : (m : Memory) → MorePrinted m m
same = printed_kept.order.same

-- code that halts has only added to what was printed in this store
abbrev pub HaltPrints : Memory → Halt → Type 0
HaltPrints m (ended r) = MorePrinted m r.store
HaltPrints m (region number low high t) = MorePrinted m t.store
HaltPrints m stuck = Unit {0}

-- so has an instruction, whatever comes of it
abbrev P : State → Next → Type 0
P s (goes t) = MorePrinted s.store t.store
P s (halts h) = HaltPrints s.store h

act_prints : (out n : ℕ) (i : Instr) (s : State) → P s (act i out n s)
act_prints out n (instr.Push v) s = same s.store
act_prints out n (instr.Load id) s = if_next (P s) tt (nat_lt id first_hidden) (where_so (nat_lt id (length s.store.scalars)) (goes (pushed (scalar_at s.store id) s))) (where_so (nat_lt (id - first_hidden) (length s.hidden)) (goes (pushed (slice_index_or s.hidden (id - first_hidden) (pos 0)) s))) (so_next (P s) tt _ (goes (pushed (scalar_at s.store id) s)) (same s.store)) (so_next (P s) tt _ (goes (pushed (slice_index_or s.hidden (id - first_hidden) (pos 0)) s)) (same s.store))
act_prints out n (instr.Len array) s = so_next (P s) tt _ (goes (pushed (pos (length (cells_of s.store array))) s)) (same s.store)
act_prints out n (instr.Save id) s = one_next (P s) tt s.stack _ (λ v rest. if_next (P s) tt (nat_lt id first_hidden) (where_so (nat_lt id (length s.store.scalars)) (goes (stored (assign id v s.store) (record s { stack = rest })))) (where_so (nat_lt (id - first_hidden) (length s.hidden)) (goes (record s { pc = s.pc + 1; stack = rest; hidden = slice_set s.hidden (id - first_hidden) v }))) (so_next (P s) tt _ (goes (stored (assign id v s.store) (record s { stack = rest }))) (same s.store)) (so_next (P s) tt _ (goes (record s { pc = s.pc + 1; stack = rest; hidden = slice_set s.hidden (id - first_hidden) v })) (same s.store)))
act_prints out n instr.Drop s = one_next (P s) tt s.stack _ (λ v rest. same s.store)
act_prints out n instr.Print s = one_next (P s) tt s.stack _ (λ v rest. printed_kept.printed v s.store)
act_prints out n instr.Declare s = one_next (P s) tt s.stack _ (λ v rest. same s.store)
act_prints out n (instr.Leave count) s = so_next (P s) tt _ (goes (stored (leave count s.store) s)) (same s.store)
act_prints out n (instr.Bound array wrap at) s = one_next (P s) tt s.stack _ (λ v rest. so_next (P s) tt _ (given (place_of wrap at (length (cells_of s.store array)) v) out s.store (λ place. goes (pushed (pos place) (record s { stack = rest })))) (given_next (P s) tt (place_of wrap at (length (cells_of s.store array)) v) out s.store (λ place. goes (pushed (pos place) (record s { stack = rest }))) (λ t. same s.store) (λ place. same s.store)))
act_prints out n (instr.Get array) s = one_next (P s) tt s.stack _ (λ v rest. so_next (P s) tt _ (goes (pushed (cell_at s.store array (unsigned_abs v)) (record s { stack = rest }))) (same s.store))
act_prints out n (instr.Put array) s = two_next (P s) tt s.stack _ (λ a b rest. so_next (P s) tt _ (goes (stored (put_cell array (unsigned_abs a) b s.store) (record s { stack = rest }))) (same s.store))
act_prints out n (instr.FoldPut array f_) s = two_next (P s) tt s.stack _ (λ a b rest. so_next (P s) tt _ (goes (stored (put_cell array (unsigned_abs a) (join_of f_ (cell_at s.store array (unsigned_abs a)) b) s.store) (record s { stack = rest }))) (same s.store))
act_prints out n (instr.FoldSave id f_) s = one_next (P s) tt s.stack _ (λ v rest. so_next (P s) tt _ (goes (stored (assign id (join_of f_ (scalar_at s.store id) v) s.store) (record s { stack = rest }))) (same s.store))
act_prints out n instr.Neg s = one_next (P s) tt s.stack _ (λ v rest. same s.store)
act_prints out n instr.Not s = one_next (P s) tt s.stack _ (λ v rest. same s.store)
act_prints out n (instr.Binary op at) s = two_next (P s) tt s.stack _ (λ a b rest. given_next (P s) tt (apply op at a b) out s.store (λ v. goes (pushed v (record s { stack = rest }))) (λ t. same s.store) (λ v. same s.store))
act_prints out n (instr.Jump target) s = same s.store
act_prints out n (instr.Zero target) s = one_next (P s) tt s.stack _ (λ v rest. same s.store)
act_prints out n (instr.Enter counter) s = so_next (P s) tt _ (goes (record s { pc = s.pc + 1; counters = slice_set s.counters counter 0 })) (same s.store)
act_prints out n (instr.Turn counter at) s = so_next (P s) tt (nat_lt counter (length s.counters)) (where_so (nat_le out (length s.store.scalars)) (if nat_lt (slice_index_or s.counters counter 0) n then goes (record s { pc = s.pc + 1; counters = slice_set s.counters counter (slice_index_or s.counters counter 0 + 1) }) else halts (ended (starved at (leave out s.store))))) (so_next (P s) tt (nat_le out (length s.store.scalars)) (if nat_lt (slice_index_or s.counters counter 0) n then goes (record s { pc = s.pc + 1; counters = slice_set s.counters counter (slice_index_or s.counters counter 0 + 1) }) else halts (ended (starved at (leave out s.store)))) (if_next (P s) tt (nat_lt (slice_index_or s.counters counter 0) n) (goes (record s { pc = s.pc + 1; counters = slice_set s.counters counter (slice_index_or s.counters counter 0 + 1) })) (halts (ended (starved at (leave out s.store)))) (same s.store) (same s.store)))
act_prints out n (instr.Region number) s = two_next (P s) tt s.stack _ (λ a b rest. same s.store)
act_prints out n instr.Stop s = same s.store

-- what was printed on the way to a state is there where the code halts
later : (a b : Memory) (h : Halt) → MorePrinted a b → HaltPrints b h → HaltPrints a h
later a b (ended r) p q = printed_kept.order.chain a b r.store p q
later a b (region number low high t) p q = printed_kept.order.chain a b t.store p q
later a b stuck p q = tt

onward_prints : (s : State) (next : Next) (go : State → Trace) (h : Halt) → P s next → ((t : State) → (go t).end ≡ Some h → HaltPrints t.store h)
    → (onward next go).end ≡ Some h → HaltPrints s.store h
onward_prints s (goes t) go h p rest is = later s.store t.store h p (rest t is)
onward_prints s (halts x) go h p rest is = let same_halt : x ≡ h = cc in subst (HaltPrints s.store) same_halt p

step_prints : (o : Option Instr) (out n : ℕ) (s : State) (go : State → Trace) (h : Halt) → ((t : State) → (go t).end ≡ Some h → HaltPrints t.store h)
    → (step_by o out n s go).end ≡ Some h → HaltPrints s.store h
step_prints None out n s go h rest is = let lacks : stuck ≡ h = cc in subst (HaltPrints s.store) lacks tt
step_prints (Some i) out n s go h rest is = onward_prints s (act i out n s) go h (act_prints out n i s) rest is

-- so has code
pub halt_prints : (code : List Instr) (n B : ℕ) (s : State) (h : Halt) → (trace code n B s).end ≡ Some h → HaltPrints s.store h
halt_prints code n zero s h is = let no : None ≡ Some h = is in cc
halt_prints code n (suc k) s h is =
    step_prints (slice_get code s.pc) (open_at code s.pc) n s (trace code n k) h (λ t. halt_prints code n k t h) is

-- what main code has to come only adds to what is printed
pub left_prints : (code : List Instr) (n : ℕ) (s : State) (end : Outcome) (course : Course) → Left code n s end course → MorePrinted s.store course.ran.store
left_prints code n _ _ _ (over s r is) = halt_prints code n (most_steps code n) s (ended r) is
left_prints code n _ _ _ (stops s t number low high l rest is scoped low_is high_is on) =
    let q = (run (For l) n t.store).store in
    printed_kept.order.chain s.store t.store rest.ran.store
    (halt_prints code n (most_steps code n) s (region number low high t) is)
    (printed_kept.order.chain t.store q rest.ran.store (run_kept MorePrinted printed_kept (For l) n t.store) (left_prints code n _ _ rest on))
left_prints code n _ _ _ (leaves s end other few) = same s.store
