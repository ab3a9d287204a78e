-- An instruction that isn't stuck has what it needs, and leads on by the stack rule.
use Rattle.std.proofs.Common.{◌≡◌, ℕ, ◌+◌, ◌-◌, ◌≤◌, Bool, true, false, if◌then◌else◌, ℤ, pos, List, [], ◌∷◌, length, Some, refl, sym, ap, subst, arith, length-append, length-take}
use Rattle.std.specs.Prelude.{Result, Ok, Err, nat_lt, nat_le, slice_get, slice_set, slice_index_or, ◌⊎◌, unsigned_abs}
use Rattle.std.proofs.Common.{inl, inr}
use Rattle.std.proofs.lemmas.Bool.{ltb-true, leb-true}
use Rattle.std.proofs.lemmas.List.{length-set}
use Rattle.nona_num.specs.Folds.{join_of}
use Rattle.nona_tree.specs.declared.outcomes.Trap.{Trap}
use Rattle.nona_tree.specs.Memory.{Memory, scalar_at, cells_of, cell_at, assign, put_cell, cut_to}
use Rattle.nona_tree.specs.Value.{place_of, apply, is_zero}
use Rattle.nona_tree.specs.Run.{starved}
use Rattle.nona_code.specs.declared.instr.Instr.{Instr}
use Rattle.nona_code.specs.declared.instr.Instr.TheVariants as instr
use Rattle.nona_code.specs.Machine.{State, ended, Next, goes, halts, act, take_one, take_two, where_so, given, given_by, pushed, stored, leave, first_hidden}
use Rattle.nona_code.specs.Ready.{with_one, with_two, IsThereBy, IsReady}
use Rattle.nona_code.specs.Rule.{Way, goes_on, takes, puts, leaves, declares, IsNext, IsSound}
use Rattle.nona_code.specs.Stops.{Follows}
use Rattle.nona_code.proofs.Nearer.{NotStuck}

one_ready : (P : ℤ → Type 0) (st : List ℤ) (go : ℤ → List ℤ → Next) → ((v : ℤ) (rest : List ℤ) → NotStuck (go v rest) → P v) → NotStuck (take_one st go) → with_one st P
one_ready P [] go h k = k
one_ready P (v ∷ rest) go h k = h v rest k

two_ready : (P : ℤ → ℤ → Type 0) (st : List ℤ) (go : ℤ → ℤ → List ℤ → Next) → ((a b : ℤ) (rest : List ℤ) → NotStuck (go a b rest) → P a b) → NotStuck (take_two st go) → with_two st P
two_ready P [] go h k = k
two_ready P (b ∷ []) go h k = k
two_ready P (b ∷ a ∷ rest) go h k = h a b rest k

so_ready : (b : Bool) (next : Next) → NotStuck (where_so b next) → (b ≡ true) × NotStuck next
so_ready true next k = (refl, k)
so_ready false next k = absurd k

there_ready : (b : Bool) (id : ℕ) (s : State) (f g : State) → NotStuck (if b then where_so (nat_lt id (length s.store.scalars)) (goes f) else where_so (nat_lt (id - first_hidden) (length s.hidden)) (goes g)) → IsThereBy b id (length s.store.scalars) (length s.hidden)
there_ready true id s f g k = ltb-true _ _ (so_ready (nat_lt id (length s.store.scalars)) (goes f) k).0
there_ready false id s f g k = ltb-true _ _ (so_ready (nat_lt (id - first_hidden) (length s.hidden)) (goes g) k).0

pub ready : (i : Instr) (out n : ℕ) (s : State) → NotStuck (act i out n s) → IsReady i out s
ready (instr.Push v) out n s k = tt
ready (instr.Load id) out n s k = there_ready (nat_lt id first_hidden) id s _ _ k
ready (instr.Len array) out n s k = ltb-true _ _ (so_ready _ _ k).0
ready (instr.Save id) out n s k = one_ready _ s.stack _ (λ v rest h. there_ready (nat_lt id first_hidden) id s _ _ h) k
ready instr.Drop out n s k = one_ready _ s.stack _ (λ v rest h. tt) k
ready instr.Print out n s k = one_ready _ s.stack _ (λ v rest h. tt) k
ready instr.Declare out n s k = one_ready _ s.stack _ (λ v rest h. tt) k
ready (instr.Leave count) out n s k = leb-true _ _ (so_ready _ _ k).0
ready (instr.Bound array wrap at) out n s k = one_ready _ s.stack _ (λ v rest h. let b = so_ready _ _ h in (ltb-true _ _ b.0, leb-true _ _ (so_ready _ _ b.1).0)) k
ready (instr.Get array) out n s k = one_ready _ s.stack _ (λ v rest h. (so_ready _ _ h).0) k
ready (instr.Put array) out n s k = two_ready _ s.stack _ (λ place v rest h. (so_ready _ _ h).0) k
ready (instr.FoldPut array f) out n s k = two_ready _ s.stack _ (λ place v rest h. (so_ready _ _ h).0) k
ready (instr.FoldSave id f) out n s k = one_ready _ s.stack _ (λ v rest h. ltb-true _ _ (so_ready _ _ h).0) k
ready instr.Neg out n s k = one_ready _ s.stack _ (λ v rest h. tt) k
ready instr.Not out n s k = one_ready _ s.stack _ (λ v rest h. tt) k
ready (instr.Binary op at) out n s k = two_ready _ s.stack _ (λ a b rest h. leb-true _ _ (so_ready _ _ h).0) k
ready (instr.Jump target) out n s k = tt
ready (instr.Zero target) out n s k = one_ready _ s.stack _ (λ v rest h. tt) k
ready (instr.Enter counter) out n s k = ltb-true _ _ (so_ready _ _ k).0
ready (instr.Turn counter at) out n s k = let b = so_ready _ _ k in (ltb-true _ _ b.0, leb-true _ _ (so_ready _ _ b.1).0)
ready (instr.Region number) out n s k = two_ready _ s.stack _ (λ a b rest h. tt) k
ready instr.Stop out n s k = tt

-- what holds of the state that an instruction leads to
abbrev pub Moves : (State → Type 0) → Next → Type 0
Moves P (goes t) = P t
Moves P (halts h) = Unit {0}

pub one_moves : (P : State → Type 0) (st : List ℤ) (go : ℤ → List ℤ → Next) → ((v : ℤ) (rest : List ℤ) → st ≡ v ∷ rest → Moves P (go v rest)) → Moves P (take_one st go)
one_moves P [] go h = tt
one_moves P (v ∷ rest) go h = h v rest refl

pub two_moves : (P : State → Type 0) (st : List ℤ) (go : ℤ → ℤ → List ℤ → Next) → ((a b : ℤ) (rest : List ℤ) → st ≡ b ∷ a ∷ rest → Moves P (go a b rest)) → Moves P (take_two st go)
two_moves P [] go h = tt
two_moves P (b ∷ []) go h = tt
two_moves P (b ∷ a ∷ rest) go h = h a b rest refl

pub so_moves : (P : State → Type 0) (b : Bool) (next : Next) → Moves P next → Moves P (where_so b next)
so_moves P true next h = h
so_moves P false next h = tt

pub so_moves_if : (P : State → Type 0) (b : Bool) (next : Next) → (b ≡ true → Moves P next) → Moves P (where_so b next)
so_moves_if P true next h = h refl
so_moves_if P false next h = tt

pub if_moves : (P : State → Type 0) (b : Bool) (x y : Next) → Moves P x → Moves P y → Moves P (if b then x else y)
if_moves P true x y h k = h
if_moves P false x y h k = k

given_moves_by : {A : Type 0} (P : State → Type 0) (o : Result A Trap) (out : ℕ) (m : Memory) (go : A → Next) → ((v : A) → Moves P (go v)) → Moves P (given_by o out m go)
given_moves_by P (Ok v) out m go h = h v
given_moves_by P (Err t) out m go h = tt

pub given_moves : {A : Type 0} (P : State → Type 0) (o : Result A Trap) (out : ℕ) (m : Memory) (go : A → Next) → ((v : A) → Moves P (go v)) → Moves P (given o out m go)
given_moves P o out m go h = so_moves P _ _ (given_moves_by P o out m go h)

follows_by : (code : List Instr) (base : ℕ) (i : Instr) (s t : State) (f : Follows code base s) → slice_get code s.pc ≡ Some i → IsNext i s.pc t.pc
    → length t.stack ≡ length s.stack - takes i + puts i → length t.store.scalars + leaves i ≡ length s.store.scalars + declares i → leaves i ≤ f.declared → Follows code base t
follows_by code base i s t f is next depth scalars few =
    let d = f.declared - leaves i + declares i in
    record {
      declared = d;
      way = subst (λ (x : ℕ). Way code t.pc (record { depth = x; declared = d })) (sym depth) (goes_on s.pc t.pc i _ f.way is next);
      scalars = omega (arith, scalars, few, f.scalars);
    }

cut_count : (count : ℕ) (m : Memory) → length (cut_to count m).scalars ≤ count
cut_count count m = omega (arith, length-take count m.scalars)

-- an instruction leads on by the rule
zero_next : (b : Bool) (target pc : ℕ) → ((if b then target else pc + 1) ≡ target) ⊎ ((if b then target else pc + 1) ≡ pc + 1)
zero_next true target pc = inl refl
zero_next false target pc = inr refl

pub follows : (code : List Instr) (base out n : ℕ) (i : Instr) (s : State) → IsSound code → Follows code base s → slice_get code s.pc ≡ Some i → Moves (Follows code base) (act i out n s)
follows code base out n (instr.Push v) s sound f is = follows_by code base (instr.Push v) s _ f is refl (omega arith) (omega arith) (sound.leaves s.pc (instr.Push v) _ f.way is)
follows code base out n (instr.Load id) s sound f is = if_moves (Follows code base) (nat_lt id first_hidden) (where_so (nat_lt id (length s.store.scalars)) (goes (pushed (scalar_at s.store id) s))) (where_so (nat_lt (id - first_hidden) (length s.hidden)) (goes (pushed (slice_index_or s.hidden (id - first_hidden) (pos 0)) s))) (so_moves (Follows code base) _ (goes (pushed (scalar_at s.store id) s)) (follows_by code base (instr.Load id) s _ f is refl (omega arith) (omega arith) (sound.leaves s.pc (instr.Load id) _ f.way is))) (so_moves (Follows code base) _ (goes (pushed (slice_index_or s.hidden (id - first_hidden) (pos 0)) s)) (follows_by code base (instr.Load id) s _ f is refl (omega arith) (omega arith) (sound.leaves s.pc (instr.Load id) _ f.way is)))
follows code base out n (instr.Len array) s sound f is = so_moves (Follows code base) _ (goes (pushed (pos (length (cells_of s.store array))) s)) (follows_by code base (instr.Len array) s _ f is refl (omega arith) (omega arith) (sound.leaves s.pc (instr.Len array) _ f.way is))
follows code base out n (instr.Save id) s sound f is = one_moves (Follows code base) s.stack _ (λ v rest e. if_moves (Follows code base) (nat_lt id first_hidden) (where_so (nat_lt id (length s.store.scalars)) (goes (stored (assign id v s.store) (record s { stack = rest })))) (where_so (nat_lt (id - first_hidden) (length s.hidden)) (goes (record s { pc = s.pc + 1; stack = rest; hidden = slice_set s.hidden (id - first_hidden) v }))) (so_moves (Follows code base) _ (goes (stored (assign id v s.store) (record s { stack = rest }))) (follows_by code base (instr.Save id) s _ f is refl (omega (arith, ap length e)) (omega (arith, length-set s.store.scalars id v)) (sound.leaves s.pc (instr.Save id) _ f.way is))) (so_moves (Follows code base) _ (goes (record s { pc = s.pc + 1; stack = rest; hidden = slice_set s.hidden (id - first_hidden) v })) (follows_by code base (instr.Save id) s _ f is refl (omega (arith, ap length e)) (omega arith) (sound.leaves s.pc (instr.Save id) _ f.way is))))
follows code base out n instr.Drop s sound f is = one_moves (Follows code base) s.stack _ (λ v rest e. follows_by code base instr.Drop s _ f is refl (omega (arith, ap length e)) (omega arith) (sound.leaves s.pc instr.Drop _ f.way is))
follows code base out n instr.Print s sound f is = one_moves (Follows code base) s.stack _ (λ v rest e. follows_by code base instr.Print s _ f is refl (omega (arith, ap length e)) (omega arith) (sound.leaves s.pc instr.Print _ f.way is))
follows code base out n instr.Declare s sound f is = one_moves (Follows code base) s.stack _ (λ v rest e. follows_by code base instr.Declare s _ f is refl (omega (arith, ap length e)) (omega (arith, length-append s.store.scalars (v ∷ []))) (sound.leaves s.pc instr.Declare _ f.way is))
follows code base out n (instr.Leave count) s sound f is = so_moves_if (Follows code base) _ (goes (stored (leave count s.store) s)) (λ h. let le = leb-true count _ h in follows_by code base (instr.Leave count) s _ f is refl (omega arith) (omega (arith, le, length-take (length s.store.scalars - count) s.store.scalars)) (sound.leaves s.pc (instr.Leave count) _ f.way is))
follows code base out n (instr.Bound array wrap at) s sound f is = one_moves (Follows code base) s.stack _ (λ v rest e. so_moves (Follows code base) _ (given (place_of wrap at (length (cells_of s.store array)) v) out s.store (λ place. goes (pushed (pos place) (record s { stack = rest })))) (given_moves (Follows code base) (place_of wrap at (length (cells_of s.store array)) v) out s.store (λ place. goes (pushed (pos place) (record s { stack = rest }))) (λ place. follows_by code base (instr.Bound array wrap at) s _ f is refl (omega (arith, ap length e)) (omega arith) (sound.leaves s.pc (instr.Bound array wrap at) _ f.way is))))
follows code base out n (instr.Get array) s sound f is = one_moves (Follows code base) s.stack _ (λ v rest e. so_moves (Follows code base) _ (goes (pushed (cell_at s.store array (unsigned_abs v)) (record s { stack = rest }))) (follows_by code base (instr.Get array) s _ f is refl (omega (arith, ap length e)) (omega arith) (sound.leaves s.pc (instr.Get array) _ f.way is)))
follows code base out n (instr.Put array) s sound f is = two_moves (Follows code base) s.stack _ (λ a b rest e. so_moves (Follows code base) _ (goes (stored (put_cell array (unsigned_abs a) b s.store) (record s { stack = rest }))) (follows_by code base (instr.Put array) s _ f is refl (omega (arith, ap length e)) (omega arith) (sound.leaves s.pc (instr.Put array) _ f.way is)))
follows code base out n (instr.FoldPut array f_) s sound f is = two_moves (Follows code base) s.stack _ (λ a b rest e. so_moves (Follows code base) _ (goes (stored (put_cell array (unsigned_abs a) (join_of f_ (cell_at s.store array (unsigned_abs a)) b) s.store) (record s { stack = rest }))) (follows_by code base (instr.FoldPut array f_) s _ f is refl (omega (arith, ap length e)) (omega arith) (sound.leaves s.pc (instr.FoldPut array f_) _ f.way is)))
follows code base out n (instr.FoldSave id f_) s sound f is = one_moves (Follows code base) s.stack _ (λ v rest e. so_moves (Follows code base) _ (goes (stored (assign id (join_of f_ (scalar_at s.store id) v) s.store) (record s { stack = rest }))) (follows_by code base (instr.FoldSave id f_) s _ f is refl (omega (arith, ap length e)) (omega (arith, length-set s.store.scalars id (join_of f_ (scalar_at s.store id) v))) (sound.leaves s.pc (instr.FoldSave id f_) _ f.way is)))
follows code base out n instr.Neg s sound f is = one_moves (Follows code base) s.stack _ (λ v rest e. follows_by code base instr.Neg s _ f is refl (omega (arith, ap length e)) (omega arith) (sound.leaves s.pc instr.Neg _ f.way is))
follows code base out n instr.Not s sound f is = one_moves (Follows code base) s.stack _ (λ v rest e. follows_by code base instr.Not s _ f is refl (omega (arith, ap length e)) (omega arith) (sound.leaves s.pc instr.Not _ f.way is))
follows code base out n (instr.Binary op at) s sound f is = two_moves (Follows code base) s.stack _ (λ a b rest e. given_moves (Follows code base) (apply op at a b) out s.store (λ v. goes (pushed v (record s { stack = rest }))) (λ v. follows_by code base (instr.Binary op at) s _ f is refl (omega (arith, ap length e)) (omega arith) (sound.leaves s.pc (instr.Binary op at) _ f.way is)))
follows code base out n (instr.Jump target) s sound f is = follows_by code base (instr.Jump target) s _ f is refl (omega arith) (omega arith) (sound.leaves s.pc (instr.Jump target) _ f.way is)
follows code base out n (instr.Zero target) s sound f is = one_moves (Follows code base) s.stack _ (λ v rest e. follows_by code base (instr.Zero target) s _ f is (zero_next (is_zero v) target s.pc) (omega (arith, ap length e)) (omega arith) (sound.leaves s.pc (instr.Zero target) _ f.way is))
follows code base out n (instr.Enter counter) s sound f is = so_moves (Follows code base) _ (goes (record s { pc = s.pc + 1; counters = slice_set s.counters counter 0 })) (follows_by code base (instr.Enter counter) s _ f is refl (omega arith) (omega arith) (sound.leaves s.pc (instr.Enter counter) _ f.way is))
follows code base out n (instr.Turn counter at) s sound f is = so_moves (Follows code base) (nat_lt counter (length s.counters)) (where_so (nat_le out (length s.store.scalars)) (if nat_lt (slice_index_or s.counters counter 0) n then goes (record s { pc = s.pc + 1; counters = slice_set s.counters counter (slice_index_or s.counters counter 0 + 1) }) else halts (ended (starved at (leave out s.store))))) (so_moves (Follows code base) (nat_le out (length s.store.scalars)) (if nat_lt (slice_index_or s.counters counter 0) n then goes (record s { pc = s.pc + 1; counters = slice_set s.counters counter (slice_index_or s.counters counter 0 + 1) }) else halts (ended (starved at (leave out s.store)))) (if_moves (Follows code base) (nat_lt (slice_index_or s.counters counter 0) n) (goes (record s { pc = s.pc + 1; counters = slice_set s.counters counter (slice_index_or s.counters counter 0 + 1) })) (halts (ended (starved at (leave out s.store)))) (follows_by code base (instr.Turn counter at) s _ f is refl (omega arith) (omega arith) (sound.leaves s.pc (instr.Turn counter at) _ f.way is)) tt))
follows code base out n (instr.Region number) s sound f is = two_moves (Follows code base) s.stack _ (λ a b rest e. tt)
follows code base out n instr.Stop s sound f is = tt
