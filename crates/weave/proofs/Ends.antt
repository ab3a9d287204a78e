-- What an interval under `seq` did whose machine has run out.
use Rattle.std.proofs.Common.{◌≡◌, ◌≤◌, ◌+◌, ◌-◌, ◌*◌, ◌⊎◌, ℕ, suc, ℤ, pos, negsuc, ◌+ℤ◌, Bool, true, false, List, length, refl, sym, ap, subst, subst₂, ◌∙◌, arith, inl, inr, nat_lt, min, FitsSigned, if◌then◌else◌}
use Rattle.std.proofs.lemmas.Int.{ints}
use Rattle.std.specs.Int.{w64, int_gap}
use Rattle.nona_tree.specs.declared.outcomes.Outcome.{Outcome}
use Rattle.nona_tree.specs.declared.outcomes.Outcome.TheVariants as outcome
use Rattle.nona_tree.specs.Memory.{Memory}
use Rattle.nona_tree.specs.Run.{Ran as Run, done}
use Rattle.morta_task.specs.declared.schemes.Scheme.TheVariants.{Seq}
use Rattle.morta_task.specs.declared.schemes.Config.{Config}
use Rattle.morta_task.specs.declared.intervals.Cut.TheVariants.{Limit, Paused}
use Rattle.morta_task.specs.Entries.{EntryView, IsEntered, IsWithin, before, last, state_after}
use Rattle.morta_task.specs.Running.{CutSays, IsDone, cut_of}
use Rattle.morta_script.specs.declared.script.Command.{Command}
use Rattle.net_flow.specs.Machines.{RunsOut}
use Rattle.weave.specs.Following.{follow}
use Rattle.weave.specs.SeqNet.{SeqNet, Stand, Claims, Unit_of, Finished, is_finished, seq_machine, begun_net, ran_of}
use Rattle.weave.specs.SeqState.{StandsAt, HasEndedAfter, StopsWithin}
use Rattle.weave.proofs.SeqLaws.{done_before}
use Rattle.weave.proofs.Counts.{one_more, finished_moves}
use Rattle.weave.proofs.Sound.{SameInterval, sound_begun}
use Rattle.weave.proofs.Keeping.{kept_follow, kept_out}
use Rattle.weave.proofs.RunsOut.{Sound, sound_kept}

-- how far a number lies above another one that it was made from
pub above : (low z : ℤ) (k : ℕ) → z ≡ low +ℤ pos k → int_gap low z ≡ k
above (pos a) (pos b) k h = omega (arith, ints, h)
above (pos a) (negsuc b) k h = absurd (omega (arith, ints, h))
above (negsuc a) (pos b) k h = omega (arith, ints, h)
above (negsuc a) (negsuc b) k h = omega (arith, ints, h)

-- the gap behind an index within
pub gap_within : (low from high : ℤ) (b t : ℕ) → from ≡ low +ℤ pos b → high ≡ low +ℤ pos t → b ≤ t → b + int_gap from high ≡ t
gap_within low from high b t is_from is_high within =
    let on : high ≡ from +ℤ pos (t - b) = omega (arith, ints, is_from, is_high, within) in
    omega (arith, above from high (t - b) on, within)

-- an entry's last number lies as far above its low as it has iterations
pub last_is : (e : EntryView) → last e ≡ e.low +ℤ pos (before e (last e))
last_is e =
    let t = min (int_gap e.low e.high) e.turns in ap (λ (k : ℕ). e.low +ℤ pos k) (sym (above e.low (last e) t refl))

-- it has no more of them than a loop may take turns
pub few_iterations : (e : EntryView) → before e (last e) ≤ e.turns
few_iterations e = let t = min (int_gap e.low e.high) e.turns in omega (arith, above e.low (last e) t refl)

-- an interval with this limit ends within its entry
pub room_within : (e : EntryView) (from : ℤ) (limit : ℕ) → IsWithin e from → limit ≤ int_gap from (last e) → before e from + limit ≤ before e (last e)
room_within e from limit within room =
    omega (arith, room, gap_within e.low from (last e) (before e from) (before e (last e)) within.0 (last_is e) within.1)

fits_between : (a b : ℤ) (k n : ℕ) → FitsSigned w64 a → FitsSigned w64 b → b ≡ a +ℤ pos n → k ≤ n → FitsSigned w64 (a +ℤ pos k)
fits_between (pos a) (pos b) k n fits_a fits_b is h = record { sfits = omega (arith, ints, fits_a.sfits, fits_b.sfits, is, h) }
fits_between (pos a) (negsuc b) k n fits_a fits_b is h = absurd (omega (arith, ints, is))
fits_between (negsuc a) (pos b) k n fits_a fits_b is h = omega (arith, ints, fits_a.sfits, fits_b.sfits, is, h)
fits_between (negsuc a) (negsuc b) k n fits_a fits_b is h = omega (arith, ints, fits_a.sfits, fits_b.sfits, is, h)

-- the indices up to the limit have 64 bits
pub indices_fit : (e : EntryView) (from : ℤ) (limit k : ℕ) → IsWithin e from → limit ≤ int_gap from (last e) → FitsSigned w64 from → FitsSigned w64 (last e) → k ≤ limit
    → FitsSigned w64 (from +ℤ pos k)
indices_fit e from limit k within room fits_from fits_last h =
    let n = before e (last e) - before e from in
    let on : last e ≡ from +ℤ pos n = omega (arith, ints, within.0, last_is e, within.1) in
    fits_between from (last e) k n fits_from fits_last on (omega (arith, h, room_within e from limit within room))

-- a cut where the last iteration is done
pub cut_by : (b : Bool) (e : EntryView) (c : Config) (a limit granted : ℕ) → nat_lt granted limit ≡ b → granted ≤ limit → (state_after e (a + granted)).end ≡ outcome.Done
    → CutSays e c a limit (a + granted) (if b then Paused else Limit)
cut_by true e c a limit granted is within finished = (grind arith, finished)
cut_by false e c a limit granted is within finished = (grind arith, finished)

cut_says : (o : Outcome) (e : EntryView) (c : Config) (a limit granted : ℕ) → c.scheme ≡ Seq → granted ≤ limit → (state_after e (a + granted)).end ≡ o
    → (o ≡ outcome.Done) ⊎ (1 ≤ granted) → CutSays e c a limit (a + granted) (cut_of o granted limit)
cut_says outcome.Done e c a limit granted seq within is some = cut_by (nat_lt granted limit) e c a limit granted refl within is
cut_says (outcome.Trap t) e c a limit granted seq within is (inl other) = cc
cut_says (outcome.Trap t) e c a limit granted seq within is (inr some) = (seq, omega (arith, some), is)
cut_says (outcome.OutOfTurns at) e c a limit granted seq within is (inl other) = cc
cut_says (outcome.OutOfTurns at) e c a limit granted seq within is (inr some) = (seq, omega (arith, some), is)

stands_finished : (p : Stand) (net : SeqNet) → is_finished p ≡ true → StandsAt p net → StandsAt Finished net
stands_finished Claims net over here = cc
stands_finished (Unit_of s rest) net over here = cc
stands_finished Finished net over here = here

stopped_moved : (moves granted units : ℕ) → 1 ≤ granted → StopsWithin moves granted units → 1 ≤ moves
stopped_moved moves granted units some (left, behind, is) =
    let one : granted ≡ suc (granted - 1) = omega (arith, some) in
    let split : granted * (units + 1) ≡ (granted - 1) * (units + 1) + (units + 1) = one_more granted units one in
    omega (arith, behind, is, split)

-- a task that has finished has moved
has_moved : (end : Outcome) (moves granted units : ℕ) → (end ≡ outcome.Done) ⊎ (1 ≤ granted) → HasEndedAfter end moves granted units → 1 ≤ moves
has_moved outcome.Done moves granted units some is = omega (arith, is)
has_moved (outcome.Trap t) moves granted units (inl other) is = cc
has_moved (outcome.Trap t) moves granted units (inr some) is = stopped_moved moves granted units some is
has_moved (outcome.OutOfTurns at) moves granted units (inl other) is = cc
has_moved (outcome.OutOfTurns at) moves granted units (inr some) is = stopped_moved moves granted units some is

-- the machine of an interval, once it has run out
pub sound_end : (e : EntryView) (from : ℤ) (limit : ℕ) (m : Memory) (commands : List Command) (end : SeqNet) → IsEntered e → state_after e (before e from) ≡ done m
    → RunsOut seq_machine (follow seq_machine commands (begun_net e (before e from) limit m)).net end → Sound (begun_net e (before e from) limit m) end
sound_end e from limit m commands end entered ready out =
    let first = begun_net e (before e from) limit m in
    let begun : Sound first first = (entered, sound_begun e (before e from) limit m ready, record { entry = refl; before = refl; limit = refl }) in
    kept_out seq_machine (Sound first) (sound_kept first).step _ end out (kept_follow seq_machine (Sound first) (sound_kept first) commands first begun)

-- the index behind the last iteration
to_is : (e : EntryView) (from : ℤ) (limit : ℕ) (m : Memory) (end : SeqNet) → SameInterval (begun_net e (before e from) limit m) end
    → (ran_of end).to ≡ e.low +ℤ pos (before e from + end.granted)
to_is e from limit m end same =
    ap (λ (x : EntryView). x.low +ℤ pos (end.before + end.granted)) same.entry ∙ ap (λ (b : ℕ). e.low +ℤ pos (b + end.granted)) same.before

-- how many iterations of the entry are done then
behind : (e : EntryView) (from : ℤ) (limit : ℕ) (m : Memory) (end : SeqNet) → SameInterval (begun_net e (before e from) limit m) end
    → before e (ran_of end).to ≡ before e from + end.granted
behind e from limit m end same = above e.low (ran_of end).to (before e from + end.granted) (to_is e from limit m end same)

-- and what one thread has then
state_is : (e : EntryView) (from : ℤ) (limit : ℕ) (m : Memory) (end : SeqNet) → SameInterval (begun_net e (before e from) limit m) end → StandsAt Finished end
    → state_after e (before e from + end.granted) ≡ record { store = end.store; end = end.end }
state_is e from limit m end same here =
    sym (ap (λ (x : EntryView). state_after x (end.before + end.granted)) same.entry ∙ ap (λ (b : ℕ). state_after e (b + end.granted)) same.before) ∙ here.0

-- what an interval did that ended in this net
pub is_done : (e : EntryView) (c : Config) (from : ℤ) (limit : ℕ) (m : Memory) (end : SeqNet) → c.scheme ≡ Seq → IsWithin e from → limit ≤ int_gap from (last e)
    → is_finished end.place ≡ true → Sound (begun_net e (before e from) limit m) end → IsDone e c from limit (ran_of end)
is_done e c from limit m end seq within room over (entered, s, same) =
    let a = before e from in
    let to = (ran_of end).to in
    let stands = stands_finished end.place end over s.stands in
    let here : before e to ≡ a + end.granted = behind e from limit m end same in
    let below : end.granted ≤ limit = omega (arith, s.within, same.limit) in
    let all : before e to ≤ before e (last e) = omega (arith, here, below, room_within e from limit within room) in
    let ended : (state_after e (a + end.granted)).end ≡ end.end = ap (λ (r : Run). r.end) (state_is e from limit m end same stands) in
    let back : end.before + end.granted - 1 ≡ before e to - 1 = omega (arith, here, same.before) in
    let quiet : (state_after e (before e to - 1)).end ≡ outcome.Done =
    subst (λ (x : EntryView). (state_after x (before e to - 1)).end ≡ outcome.Done) same.entry
    (subst (λ (k : ℕ). (state_after end.entry k).end ≡ outcome.Done) back s.quiet) in
    let cut : CutSays e c a limit (a + end.granted) (cut_of end.end end.granted limit) = cut_says end.end e c a limit end.granted seq below ended stands.1 in
    record {
      within = (to_is e from limit m end same ∙ ap (λ (k : ℕ). e.low +ℤ pos k) (sym here), all);
      begins = omega (arith, here);
      ends = omega (arith, here, below);
      quiet = λ k h. done_before e (k + 1) (before e to - 1) (omega (arith, h)) quiet;
      cut = subst₂ (λ (b l : ℕ). CutSays e c a limit b (cut_of end.end end.granted l)) (sym here) (sym same.limit) cut;
      ticks = has_moved end.end end.moves end.granted (length end.entry.looped.body) stands.1
          (finished_moves end.place end.end end.moves end.granted (length end.entry.looped.body) over s.counted);
    }

-- and the store that it hands on
pub handed_on : (e : EntryView) (from : ℤ) (limit : ℕ) (m : Memory) (end : SeqNet) → is_finished end.place ≡ true → Sound (begun_net e (before e from) limit m) end
    → end.store ≡ (state_after e (before e (ran_of end).to)).store
handed_on e from limit m end over (entered, s, same) =
    let stands = stands_finished end.place end over s.stands in
    sym (ap (λ (k : ℕ). (state_after e k).store) (behind e from limit m end same) ∙ ap (λ (r : Run). r.store) (state_is e from limit m end same stands))
