-- Where main code stops, and what it still has to come there.
use Rattle.std.proofs.Common.{◌≡◌, ◌≢◌, ℕ, zero, suc, ◌+◌, ◌-◌, ◌≤◌, if◌then◌else◌, ℤ, pos, List, [], ◌∷◌, length, Option, Some, None, refl, sym, ap, subst, ◌∙◌, arith}
use Rattle.std.specs.Prelude.{Ok, nat_lt, nat_le, slice_get, slice_set, slice_index_or, unsigned_abs}
use Rattle.nona_num.specs.Folds.{join_of}
use Rattle.nona_tree.specs.declared.outcomes.Outcome.{Outcome}
use Rattle.nona_tree.specs.declared.outcomes.Outcome.TheVariants as outcome
use Rattle.nona_tree.specs.declared.trees.Loop.{Loop}
use Rattle.nona_tree.specs.declared.trees.Stmt.{For}
use Rattle.nona_tree.specs.Memory.{Memory, scalar_at, cells_of, cell_at, assign, put_cell}
use Rattle.nona_tree.specs.Scope.{IsScoped}
use Rattle.nona_tree.specs.Value.{place_of, apply, value_of}
use Rattle.nona_tree.specs.Run.{Ran, run, done, starved}
use Rattle.nona_tree.proofs.Depth.{same_if_no_let}
use Rattle.nona_code.specs.Course as course
use Rattle.nona_code.specs.Course.{Course, opens}
use Rattle.nona_code.specs.MainStops.{opened, IsAtRegion}
use Rattle.nona_code.specs.declared.instr.Instr.{Instr}
use Rattle.nona_code.specs.declared.instr.Instr.TheVariants as instr
use Rattle.nona_code.specs.Machine.{State, Halt, ended, region, stuck, Next, goes, halts, act, open_at, step_by, Trace, trace, onward, most_steps, onto, where_so, given, pushed, stored, leave, first_hidden, take_two}
use Rattle.nona_code.specs.Main.{HaltsAt, behind, Left, over, stops, leaves}
use Rattle.nona_code.proofs.MainPrints.{one_next, two_next, so_next, if_next, given_next, left_prints}
use Rattle.nona_code.specs.Rule.{Way, goes_on, IsSound}
use Rattle.nona_code.specs.declared.main_frame.CodeFrame.{CodeFrame}
use Rattle.nona_code.specs.MainLeft.{IsLeft, state_in}
use Rattle.nona_code.specs.SoundView.{SoundView, IsSoundView}
use Rattle.nona_code.specs.Stops.{IsOver, Follows, IsOnWay}
use Rattle.nona_code.proofs.Readiness.{Moves, follows}

-- what holds of the state at a region, where an instruction stops there
abbrev pub AtRegion : (State → Type 0) → Next → Type 0
AtRegion P (goes t) = Unit {0}
AtRegion P (halts (ended r)) = Unit {0}
AtRegion P (halts (region number low high t)) = P t
AtRegion P (halts stuck) = Unit {0}

region_one : (code : List Instr) (base number : ℕ) (s : State) → Follows code base s → slice_get code s.pc ≡ Some (instr.Region number) → (st : List ℤ) → s.stack ≡ st
    → AtRegion (Follows code base) (take_two st (λ low high rest. halts (region number low high (onto (record s { stack = rest })))))
region_one code base number s f is [] e = tt
region_one code base number s f is (b ∷ []) e = tt
region_one code base number s f is (b ∷ a ∷ rest) e =
    let on = goes_on s.pc (s.pc + 1) (instr.Region number) _ f.way is refl in
    let deep : length s.stack - 2 + 0 ≡ length rest = omega (arith, ap length e) in
    let declared : f.declared - 0 + 0 ≡ f.declared = omega arith in
    record {
      declared = f.declared;
      way = subst (λ d. Way code (s.pc + 1) (record { depth = length rest; declared = d })) declared (subst (λ h. Way code (s.pc + 1) (record { depth = h; declared = f.declared - 0 + 0 })) deep on);
      scalars = f.scalars;
    }

-- a way that leads to an instruction leads on, where it stops at a region
region_follows : (code : List Instr) (base out n : ℕ) (i : Instr) (s : State) → Follows code base s → slice_get code s.pc ≡ Some i → AtRegion (Follows code base) (act i out n s)
region_follows code base out n (instr.Push v) s f is = tt
region_follows code base out n (instr.Load id) s f is = if_next (AtRegion (Follows code base)) tt (nat_lt id first_hidden) (where_so (nat_lt id (length s.store.scalars)) (goes (pushed (scalar_at s.store id) s))) (where_so (nat_lt (id - first_hidden) (length s.hidden)) (goes (pushed (slice_index_or s.hidden (id - first_hidden) (pos 0)) s))) (so_next (AtRegion (Follows code base)) tt _ (goes (pushed (scalar_at s.store id) s)) tt) (so_next (AtRegion (Follows code base)) tt _ (goes (pushed (slice_index_or s.hidden (id - first_hidden) (pos 0)) s)) tt)
region_follows code base out n (instr.Len array) s f is = so_next (AtRegion (Follows code base)) tt _ (goes (pushed (pos (length (cells_of s.store array))) s)) tt
region_follows code base out n (instr.Save id) s f is = one_next (AtRegion (Follows code base)) tt s.stack _ (λ v rest. if_next (AtRegion (Follows code base)) tt (nat_lt id first_hidden) (where_so (nat_lt id (length s.store.scalars)) (goes (stored (assign id v s.store) (record s { stack = rest })))) (where_so (nat_lt (id - first_hidden) (length s.hidden)) (goes (record s { pc = s.pc + 1; stack = rest; hidden = slice_set s.hidden (id - first_hidden) v }))) (so_next (AtRegion (Follows code base)) tt _ (goes (stored (assign id v s.store) (record s { stack = rest }))) tt) (so_next (AtRegion (Follows code base)) tt _ (goes (record s { pc = s.pc + 1; stack = rest; hidden = slice_set s.hidden (id - first_hidden) v })) tt))
region_follows code base out n instr.Drop s f is = one_next (AtRegion (Follows code base)) tt s.stack _ (λ v rest. tt)
region_follows code base out n instr.Print s f is = one_next (AtRegion (Follows code base)) tt s.stack _ (λ v rest. tt)
region_follows code base out n instr.Declare s f is = one_next (AtRegion (Follows code base)) tt s.stack _ (λ v rest. tt)
region_follows code base out n (instr.Leave count) s f is = so_next (AtRegion (Follows code base)) tt _ (goes (stored (leave count s.store) s)) tt
region_follows code base out n (instr.Bound array wrap at) s f is = one_next (AtRegion (Follows code base)) tt s.stack _ (λ v rest. so_next (AtRegion (Follows code base)) tt _ (given (place_of wrap at (length (cells_of s.store array)) v) out s.store (λ place. goes (pushed (pos place) (record s { stack = rest })))) (given_next (AtRegion (Follows code base)) tt (place_of wrap at (length (cells_of s.store array)) v) out s.store (λ place. goes (pushed (pos place) (record s { stack = rest }))) (λ t. tt) (λ place. tt)))
region_follows code base out n (instr.Get array) s f is = one_next (AtRegion (Follows code base)) tt s.stack _ (λ v rest. so_next (AtRegion (Follows code base)) tt _ (goes (pushed (cell_at s.store array (unsigned_abs v)) (record s { stack = rest }))) tt)
region_follows code base out n (instr.Put array) s f is = two_next (AtRegion (Follows code base)) tt s.stack _ (λ a b rest. so_next (AtRegion (Follows code base)) tt _ (goes (stored (put_cell array (unsigned_abs a) b s.store) (record s { stack = rest }))) tt)
region_follows code base out n (instr.FoldPut array f_) s f is = two_next (AtRegion (Follows code base)) tt s.stack _ (λ a b rest. so_next (AtRegion (Follows code base)) tt _ (goes (stored (put_cell array (unsigned_abs a) (join_of f_ (cell_at s.store array (unsigned_abs a)) b) s.store) (record s { stack = rest }))) tt)
region_follows code base out n (instr.FoldSave id f_) s f is = one_next (AtRegion (Follows code base)) tt s.stack _ (λ v rest. so_next (AtRegion (Follows code base)) tt _ (goes (stored (assign id (join_of f_ (scalar_at s.store id) v) s.store) (record s { stack = rest }))) tt)
region_follows code base out n instr.Neg s f is = one_next (AtRegion (Follows code base)) tt s.stack _ (λ v rest. tt)
region_follows code base out n instr.Not s f is = one_next (AtRegion (Follows code base)) tt s.stack _ (λ v rest. tt)
region_follows code base out n (instr.Binary op at) s f is = two_next (AtRegion (Follows code base)) tt s.stack _ (λ a b rest. given_next (AtRegion (Follows code base)) tt (apply op at a b) out s.store (λ v. goes (pushed v (record s { stack = rest }))) (λ t. tt) (λ v. tt))
region_follows code base out n (instr.Jump target) s f is = tt
region_follows code base out n (instr.Zero target) s f is = one_next (AtRegion (Follows code base)) tt s.stack _ (λ v rest. tt)
region_follows code base out n (instr.Enter counter) s f is = so_next (AtRegion (Follows code base)) tt _ (goes (record s { pc = s.pc + 1; counters = slice_set s.counters counter 0 })) tt
region_follows code base out n (instr.Turn counter at) s f is = so_next (AtRegion (Follows code base)) tt (nat_lt counter (length s.counters)) (where_so (nat_le out (length s.store.scalars)) (if nat_lt (slice_index_or s.counters counter 0) n then goes (record s { pc = s.pc + 1; counters = slice_set s.counters counter (slice_index_or s.counters counter 0 + 1) }) else halts (ended (starved at (leave out s.store))))) (so_next (AtRegion (Follows code base)) tt (nat_le out (length s.store.scalars)) (if nat_lt (slice_index_or s.counters counter 0) n then goes (record s { pc = s.pc + 1; counters = slice_set s.counters counter (slice_index_or s.counters counter 0 + 1) }) else halts (ended (starved at (leave out s.store)))) (if_next (AtRegion (Follows code base)) tt (nat_lt (slice_index_or s.counters counter 0) n) (goes (record s { pc = s.pc + 1; counters = slice_set s.counters counter (slice_index_or s.counters counter 0 + 1) })) (halts (ended (starved at (leave out s.store)))) tt tt))
region_follows code base out n (instr.Region number) s f is = region_one code base number s f is s.stack refl
region_follows code base out n instr.Stop s f is = tt

-- the end of a trace that goes on after an instruction
at_next : (code : List Instr) (base n : ℕ) (next : Next) (go : State → Trace) (number : ℕ) (low high : ℤ) (t : State) → Moves (Follows code base) next → AtRegion (Follows code base) next
    → ((u : State) → Follows code base u → (go u).end ≡ Some (region number low high t) → Follows code base t) → (onward next go).end ≡ Some (region number low high t) → Follows code base t
at_next code base n (goes u) go number low high t moves at rest is = rest u moves is
at_next code base n (halts h) go number low high t moves at rest is =
    let same : h ≡ region number low high t = cc in
    subst (λ x. AtRegion (Follows code base) (halts x)) same at

at_step : (code : List Instr) (base n : ℕ) (o : Option Instr) (s : State) (go : State → Trace) (number : ℕ) (low high : ℤ) (t : State) → IsSound code → Follows code base s → slice_get code s.pc ≡ o
    → ((u : State) → Follows code base u → (go u).end ≡ Some (region number low high t) → Follows code base t)
    → (step_by o (open_at code s.pc) n s go).end ≡ Some (region number low high t) → Follows code base t
at_step code base n None s go number low high t sound f here rest is = let no : stuck ≡ region number low high t = cc in cc
at_step code base n (Some i) s go number low high t sound f here rest is =
    at_next code base n (act i (open_at code s.pc) n s) go number low high t (follows code base (open_at code s.pc) n i s sound f here) (region_follows code base (open_at code s.pc) n i s f here) rest is

-- sound code that comes to a region comes to it on a way
pub at_region : (code : List Instr) (base n B : ℕ) (s : State) (number : ℕ) (low high : ℤ) (t : State) → IsSound code → Follows code base s
    → (trace code n B s).end ≡ Some (region number low high t) → Follows code base t
at_region code base n zero s number low high t sound f is = let no : None ≡ Some (region number low high t) = is in cc
at_region code base n (suc k) s number low high t sound f is =
    at_step code base n (slice_get code s.pc) s (trace code n k) number low high t sound f refl (λ u g. at_region code base n k u number low high t sound g) is

-- behind a region a way leads on, however its loop ended
pub way_behind : (code : List Instr) (base n : ℕ) (l : Loop) (t : State) → Follows code base t → Follows code base (behind t (run (For l) n t.store).store)
way_behind code base n l t f = record { declared = f.declared; way = f.way; scalars = same_if_no_let (For l) n t.store refl ∙ f.scalars }

abbrev ran_in : Halt → Ran → Ran
ran_in (ended r) d = r
ran_in (region number low high t) d = d
ran_in stuck d = d

-- what is to come where the code comes to its end
pub over_is : (code : List Instr) (n : ℕ) (s : State) (end : Outcome) (c : Course) (r : Ran) → end ≡ outcome.Done → HaltsAt code n s (ended r) → Left code n s end c → c ≡ course.ended r.store r.end
over_is code n _ _ _ r done halts_so (over s q is) = let same : ended q ≡ ended r = cc in ap (λ (x : Ran). course.ended x.store x.end) (ap (λ h. ran_in h r) same)
over_is code n _ _ _ r done halts_so (stops s t number low high l rest is scoped low_is high_is on) = let no : region number low high t ≡ ended r = cc in cc
over_is code n _ _ _ r done halts_so (leaves s end other few) = absurd (other done)

-- what is to come where the code comes to a region
pub record IsRegionAt (code : List Instr) (n : ℕ) (c : Course) (number : ℕ) (low high : ℤ) (t : State) : Type 0 where
  pub looped : Loop
  pub scoped : IsScoped (For looped) (length t.store.scalars) (length t.store.arrays)
  pub low_is : value_of looped.low t.store ≡ Ok low
  pub high_is : value_of looped.high t.store ≡ Ok high
  pub rest : Course
  pub on : Left code n (behind t (run (For looped) n t.store).store) (run (For looped) n t.store).end rest
  pub whole : c ≡ opens (opened number looped low high t.store) rest

-- the same of how the code halts
abbrev IsAtHalt : List Instr → ℕ → Course → Halt → Type 0
IsAtHalt code n c (ended r) = Unit {0}
IsAtHalt code n c (region number low high t) = IsRegionAt code n c number low high t
IsAtHalt code n c stuck = Unit {0}

pub region_is : (code : List Instr) (n : ℕ) (s : State) (end : Outcome) (c : Course) (number : ℕ) (low high : ℤ) (t : State) → end ≡ outcome.Done → HaltsAt code n s (region number low high t) → Left code n s end c
    → IsRegionAt code n c number low high t
region_is code n _ _ _ number low high t done halts_so (over s q is) = let no : ended q ≡ region number low high t = cc in cc
region_is code n _ _ _ number low high t done halts_so (stops s u k a b l rest is scoped low_is high_is on) =
    let same : region k a b u ≡ region number low high t = cc in
    subst (IsAtHalt code n (opens (opened k l a b u.store) rest)) same (record { looped = l; scoped = scoped; low_is = low_is; high_is = high_is; rest = rest; on = on; whole = refl })
region_is code n _ _ _ number low high t done halts_so (leaves s end other few) = absurd (other done)

-- what is to come of main code before an end other than done
pub leaves_is : (code : List Instr) (n : ℕ) (s : State) (end : Outcome) (c : Course) → end ≢ outcome.Done → Left code n s end c
    → (open_at code s.pc ≤ length s.store.scalars) × (c ≡ course.ended (leave (open_at code s.pc) s.store) end)
leaves_is code n _ _ _ other (over s q is) = absurd (other refl)
leaves_is code n _ _ _ other (stops s u k a b l rest is scoped low_is high_is on) = absurd (other refl)
leaves_is code n _ _ _ other (leaves s end differs few) = (few, refl)

-- code that has something to come is over at some point
pub left_over : (code : List Instr) (n : ℕ) (s : State) (end : Outcome) (c : Course) → end ≡ outcome.Done → Left code n s end c → IsOver (trace code n (most_steps code n) s).end
left_over code n _ _ _ done (over s q is) = subst IsOver (sym is) tt
left_over code n _ _ _ done (stops s u k a b l rest is scoped low_is high_is on) = subst IsOver (sym is) tt
left_over code n _ _ _ done (leaves s end other few) = absurd (other done)

-- a frame that has something to come runs on a way of its code, over a whole store
pub frame_way : (frame : CodeFrame) (code : List Instr) (n : ℕ) (r : Ran) (c : Course) → IsSoundView frame.code.now → code ≡ frame.code.now.instrs → IsLeft frame n r c
    → IsOnWay code None frame.registers frame.pc r.store
frame_way frame code n r c sound is left = subst (λ x. IsOnWay x None frame.registers frame.pc r.store) (sym is) (record {
  base = left.base;
  follows = left.follows;
  high = λ to a w. omega (arith, sound.deepest.bounds to a w, left.room);
  many = λ to a w. tt;
})

-- where its code comes to an end, nothing else is to come of a frame
pub frame_over : (frame : CodeFrame) (code : List Instr) (n : ℕ) (m : Memory) (r : Ran) → code ≡ frame.code.now.instrs
    → (trace code n (most_steps code n) (state_in frame m)).end ≡ Some (ended r)
    → (c : Course) → IsLeft frame n (done m) c → c ≡ course.ended r.store r.end
frame_over frame code n m r is at c left =
    over_is frame.code.now.instrs n (state_in frame m) outcome.Done c r refl (subst (λ x. HaltsAt x n (state_in frame m) (ended r)) is at) left.left

-- where its code comes to a region, the entry to it is to come of a frame, and then what is left behind it
pub frame_at_region : (frame after : CodeFrame) (code : List Instr) (n : ℕ) (m k : Memory) (number : ℕ) (low high : ℤ) → IsSoundView frame.code.now → code ≡ frame.code.now.instrs
    → after.code.now ≡ frame.code.now → after.registers.stack.room ≡ frame.registers.stack.room
    → (trace code n (most_steps code n) (state_in frame m)).end ≡ Some (region number low high (state_in after k))
    → (c : Course) → IsLeft frame n (done m) c → IsAtRegion (IsLeft after n) c number low high k n
frame_at_region frame after code n m k number low high sound is same room at c left =
    let own = frame.code.now.instrs in
    let t = state_in after k in
    let halts_so : HaltsAt own n (state_in frame m) (region number low high t) = subst (λ x. HaltsAt x n (state_in frame m) (region number low high t)) is at in
    let here = region_is own n (state_in frame m) outcome.Done c number low high t refl halts_so left.left in
    let way = way_behind own left.base n here.looped t (at_region own left.base n (most_steps own n) (state_in frame m) number low high t sound.sound left.follows halts_so) in
    record {
      looped = here.looped;
      scoped = here.scoped;
      low_is = here.low_is;
      high_is = here.high_is;
      rest = here.rest;
      goes_on = record {
        left = subst (λ (v : SoundView). Left v.instrs n (state_in after (run (For here.looped) n k).store) (run (For here.looped) n k).end here.rest) (sym same) here.on;
        prints = left_prints own n _ _ here.rest here.on;
        room = omega (arith, ap (λ (v : SoundView). v.deepest) same, room, left.room);
        base = left.base;
        follows = subst (λ (v : SoundView). Follows v.instrs left.base (state_in after (run (For here.looped) n k).store)) (sym same) way;
      };
      whole = here.whole;
    }

-- behind an end other than done, nothing is to come of a frame but that it leaves the blocks around
pub frame_leaves : (frame : CodeFrame) (n : ℕ) (r : Ran) (c : Course) → r.end ≢ outcome.Done → IsLeft frame n r c
    → (open_at frame.code.now.instrs frame.pc ≤ length r.store.scalars) × (c ≡ course.ended (leave (open_at frame.code.now.instrs frame.pc) r.store) r.end)
frame_leaves frame n r c other left = leaves_is frame.code.now.instrs n (state_in frame r.store) r.end c other left.left
