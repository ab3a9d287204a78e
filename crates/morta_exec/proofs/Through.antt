-- A run in one thread, from one region to the next.
use Rattle.std.proofs.Common.{◌≡◌, ◌≢◌, ℕ, suc, ◌+◌, ◌-◌, ◌<◌, ◌≤◌, ℤ, pos, ◌+ℤ◌, List, [], ◌∷◌, ◌++◌, length, refl, sym, ◌∙◌, ap, subst, subst₂, append_assoc, arith, Some, slice_get}
use Rattle.std.specs.Prelude.{All, Ok, Err, IfOk, IfErr, map}
use Rattle.std.specs.declared.result.Result.{Result}
use Rattle.std.specs.Io.KnownBytes.{Appends}
use Rattle.std.proofs.lemmas.List.{length-map}
use Rattle.std.proofs.lemmas.List.Elements.{All-tail}
use Rattle.std.proofs.lemmas.List.Concat.{flat_map-append}
use Rattle.std.specs.declared.option.Option.{Option}
use Rattle.fate_io.specs.Putting.{AppendsFront}
use Rattle.fate_io.specs.Sending.{Sent, Sends, BreaksOff, sent_since}
use Rattle.fate_io.specs.declared.sending.SendFault.{SendFault}
use Rattle.fate_io.specs.declared.sending.SendFault.TheVariants as sending
use Rattle.nona_tree.specs.declared.outcomes.Outcome.{Outcome}
use Rattle.nona_tree.specs.declared.outcomes.Outcome.TheVariants as outcome
use Rattle.nona_tree.specs.declared.trees.Loop.{Loop}
use Rattle.nona_tree.specs.declared.trees.Stmt.{Stmt, For}
use Rattle.nona_tree.specs.Memory.{Memory, Extends}
use Rattle.nona_tree.specs.Value.{value_of}
use Rattle.nona_tree.specs.Run.{Ran, run, run_all, turn, first_turns, done, Reaches}
use Rattle.nona_tree.specs.Scope.{IsScoped, AreScoped}
use Rattle.nona_tree.proofs.Equations.{scoped-For}
use Rattle.nona_tree.specs.Entries.{Opened, Entry, after, entries_all, regions_all, IsEntryOf}
use Rattle.nona_code.specs.Course.{Course, ended, course_of}
use Rattle.nona_code.specs.declared.main_statements.Stop.{Stop}
use Rattle.nona_code.specs.declared.main_statements.Stop.TheVariants as stops
use Rattle.nona_code.specs.MainStops.{IsAtRegion, Stops, CanLeave}
use Rattle.morta_task.specs.declared.opening.Opening.{Opening}
use Rattle.morta_task.specs.RegionView.{RegionView}
use Rattle.morta_task.specs.ImageView.{ImageView, is_region_of}
use Rattle.morta_task.specs.Entries.{EntryView, entered, IsEntered, last, before, loop_of, state_after, numbered_from}
use Rattle.morta_text.specs.Texts.{number_line, number_lines}
use Rattle.nona_store.specs.declared.ended.Ended.{Ended}
use Rattle.morta_exec.specs.declared.start.Beginning.{Beginning}
use Rattle.morta_exec.specs.Began.{Began, all_entries, whole_run, run_from}
use Rattle.morta_exec.specs.EntryRun.{whole_loop, LoopsOfEntries}
use Rattle.morta_exec.specs.MainRun.{IsOpened}
use Rattle.morta_exec.specs.Puts.{HasPut}
use Rattle.morta_exec.specs.Through.{IsThrough, IsBefore}
use Rattle.morta_exec.proofs.Growing.{some_same, extends_same, extends_chain}
use Rattle.morta_exec.proofs.Coming.{Grows, Prints}
use Rattle.morta_exec.proofs.Onward.{loop_run, region_there}

-- the state before the first iteration
pub first_state : (e : EntryView) (m : Memory) → m ≡ e.store → state_after e 0 ≡ done m
first_state e m is = ap done (sym is)

-- what the body names is there in each iteration
pub scoped_at : ((ss : List Stmt) (n : ℕ) (low : ℤ) (k : ℕ) (m : Memory) → length (first_turns (turn (run_all ss n)) low k m).store.scalars ≡ length m.scalars)
    → ((ss : List Stmt) (n : ℕ) (low : ℤ) (k : ℕ) (m : Memory) → map length (first_turns (turn (run_all ss n)) low k m).store.arrays ≡ map length m.arrays)
    → (e : EntryView) (k : ℕ) (m : Memory) → IsEntered e → state_after e k ≡ done m → AreScoped e.looped.body (length m.scalars + 1) (length m.arrays)
scoped_at scalars_law lengths_law e k m entered reached =
    let parts = subst (λ P. P) (scoped-For e.looped (length e.store.scalars) (length e.store.arrays)) entered.scoped in
    let scalars : length m.scalars ≡ length e.store.scalars =
    sym (ap (λ (r : Ran). length r.store.scalars) reached) ∙ scalars_law e.looped.body e.turns e.low k e.store in
    let arrays : length m.arrays ≡ length e.store.arrays =
    sym (length-map m.arrays length) ∙ sym (ap (λ (r : Ran). length (map length r.store.arrays)) reached) ∙ ap length (lengths_law e.looped.body e.turns e.low k e.store) ∙ length-map e.store.arrays length in
    subst₂ (λ d a. AreScoped e.looped.body (d + 1) a) (sym scalars) (sym arrays) parts.3

-- one iteration more, of this body with these turns
pub next_state : ((l : Entry) (k : ℕ) (m : Memory) → after l k ≡ done m → after l (k + 1) ≡ turn (run_all l.looped.body l.turns) (l.low +ℤ pos k) m)
    → (e : EntryView) (k n : ℕ) (index : ℤ) (body : List Stmt) (m : Memory) (r : Ran) → body ≡ e.looped.body → n ≡ e.turns → index ≡ e.low +ℤ pos k
    → state_after e k ≡ done m → turn (run_all body n) index m ≡ r → state_after e (k + 1) ≡ r
next_state law e k n index body m r same turns is reached ran =
    law (loop_of e) k m reached ∙ (λ i. turn (run_all (sym same i) (sym turns i)) (sym is i) m) ∙ ran

-- all iterations up to the last
pub last_state : (e : EntryView) (k last : ℕ) (m : Memory) → k ≡ last → state_after e k ≡ done m → state_after e last ≡ done m
last_state e k last m same reached = ap (state_after e) (sym same) ∙ reached

-- an iteration that ended otherwise than done ends the loop
pub ends_at : LoopsOfEntries → (e : EntryView) (k : ℕ) (m : Memory) (end : Outcome) → IsEntered e → k < before e (last e) → state_after e (k + 1) ≡ record { store = m; end = end }
    → end ≢ outcome.Done → Reaches (whole_loop e) m end
ends_at loops e k m end is below reached other =
    loops.over e (k + 1) is (omega (arith, below)) (λ h. other (sym (ap (λ (r : Ran). r.end) reached) ∙ h)) ∙ reached

-- the lines of more numbers have what is a front of fewer
pub broken_more : (sent : Sent) (xs ys : List ℤ) (fault : SendFault) → Extends xs ys → BreaksOff sent (number_lines xs) fault → BreaksOff sent (number_lines ys) fault
broken_more sent xs ys fault more broken = by fault broken where
  front : AppendsFront sent.before sent.after (number_lines xs) → AppendsFront sent.before sent.after (number_lines ys)
  front h = (
    h.0,
    h.1 ++ number_lines more.0,
    ap number_lines more.1 ∙ flat_map-append number_line xs more.0 ∙ ap (λ t. t ++ number_lines more.0) h.2 ∙ append_assoc h.0 h.1 (number_lines more.0),
    h.3,
  )

  by : (f : SendFault) → BreaksOff sent (number_lines xs) f → BreaksOff sent (number_lines ys) f
  by sending.WriteFailed b = (front b.0, b.1)
  by sending.NoMemory b = front b

-- where a run has come to the end of a region or of its main statements, what is printed is printed in the end
pub through_prints : {M : Type 0} (left : Ran → Course → Type 0) (b : Began M) (m : Memory) (count : ℕ) → Prints left → IsThrough left b m count → Extends m.printed (whole_run b).store.printed
through_prints left b m count prints w = subst (λ (x : Ran). Extends m.printed x.store.printed) w.ran (prints (done m) w.rest w.left_is)

pub stop_prints : {M : Type 0} (left later : Ran → Course → Type 0) (b : Began M) (m r : Memory) (count : ℕ) (stop : Stop)
    → Grows → Prints later → (w : IsThrough left b m count) → Stops later w.rest b.from.turns stop r → Extends r.printed (whole_run b).store.printed
stop_prints left later b m r count (stops.Region number low high) grows prints w at =
    let n = b.from.turns in
    let whole : at.rest.ran ≡ whole_run b = sym (ap (λ (c : Course). c.ran) at.whole) ∙ w.ran in
    extends_chain r.printed (run (For at.looped) n r).store.printed (whole_run b).store.printed
    (grows (For at.looped) n r)
    (subst (λ (x : Ran). Extends (run (For at.looped) n r).store.printed x.store.printed) whole (prints (run (For at.looped) n r) at.rest at.goes_on))
stop_prints left later b m r count (stops.Ended end) grows prints w at =
    let here : (whole_run b).store ≡ r = ap (λ (x : Ran). x.store) (sym w.ran ∙ ap (λ (c : Course). c.ran) at) in
    subst (λ (x : Memory). Extends x.printed (whole_run b).store.printed) here (extends_same (whole_run b).store.printed)

-- the main statements came to the end
pub through_ended : {M : Type 0} (left later : Ran → Course → Type 0) (b : Began M) (m r : Memory) (count : ℕ) (end : Outcome)
    → (w : IsThrough left b m count) → Stops later w.rest b.from.turns (stops.Ended end) r → Reaches (whole_run b) r end
through_ended left later b m r count end w at = sym w.ran ∙ ap (λ (c : Course). c.ran) at

-- they came to a region
pub through_region : {M : Type 0} (left later : Ran → Course → Type 0) (b : Began M) (m r : Memory) (count number : ℕ) (low high : ℤ) (o : Opening) (e : EntryView)
    → (w : IsThrough left b m count) → IsAtRegion later w.rest number low high r b.from.turns → o.region ≡ number → o.low ≡ low → o.high ≡ high
    → IsOpened b.image o b.from.turns r e → IsBefore later b e count
through_region left later b m r count number low high o e w at is_number is_low is_high opened =
    let n = b.from.turns in
    let code = opened.code in
    let is_loop : slice_get (regions_all (is_region_of b.image) b.image.main) (number - 1) ≡ Some code.looped =
    subst (λ k. slice_get (regions_all (is_region_of b.image) b.image.main) (k - 1) ≡ Some code.looped) is_number opened.looped in
    let there = region_there later b w.rest r number low high w.are_regions at in
    let same : at.looped ≡ code.looped = some_same at.looped code.looped (sym there.2 ∙ is_loop) in
    let here = entered o code.looped code.plan n r in
    let goes_on : later (whole_loop here) at.rest =
    subst (λ (x : Ran). later x at.rest) (loop_run o code n r)
    (subst (λ (l : Loop). later (run (For l) n r) at.rest) same at.goes_on) in
    subst (λ (x : EntryView). IsBefore later b x count) (sym opened.entry) (record {
      entered = record {
        low_is = subst (λ (l : Loop). value_of l.low r ≡ Ok o.low) same (at.low_is ∙ ap Ok (sym is_low));
        high_is = subst (λ (l : Loop). value_of l.high r ≡ Ok o.high) same (at.high_is ∙ ap Ok (sym is_high));
        scoped = subst (λ (l : Loop). IsScoped (For l) (length r.scalars) (length r.arrays)) same at.scoped;
        steady = opened.steady;
        small = opened.small;
        loop_numbers = opened.numbers;
        store_numbers = opened.store_numbers;
        low_number = opened.low_number;
        high_number = opened.high_number;
        any = refl;
        pipe = refl;
      };
      region = record { code = code; first = subst (λ k. 1 ≤ k) (sym is_number) there.0; there = opened.there; looped = refl; plan = refl };
      rest = at.rest;
      goes_on = goes_on;
      ran = sym (ap (λ (c : Course). c.ran) at.whole) ∙ w.ran;
      are_regions = All-tail (IsEntryOf (regions_all (is_region_of b.image) b.image.main)) _ at.rest.entries
          (subst (λ (os : List Opened). All (IsEntryOf (regions_all (is_region_of b.image) b.image.main)) os) (ap (λ (c : Course). c.entries) at.whole) w.are_regions);
      many = omega (arith, ap (λ (c : Course). length c.entries) at.whole, w.many);
    })

-- what is printed at the entry to a region is printed in the end
pub before_prints : {M : Type 0} (left : Ran → Course → Type 0) (b : Began M) (e : EntryView) (count : ℕ) → LoopsOfEntries → Prints left → IsBefore left b e count
    → Extends e.store.printed (whole_run b).store.printed
before_prints left b e count loops prints w =
    extends_chain e.store.printed (whole_loop e).store.printed (whole_run b).store.printed
    (loops.leads e 0 w.entered (omega arith))
    (subst (λ (x : Ran). Extends (whole_loop e).store.printed x.store.printed) w.ran (prints (whole_loop e) w.rest w.goes_on))

-- the loop of an entry only adds to what is printed
pub loop_prints : (e : EntryView) (store : Memory) (end : Outcome) → LoopsOfEntries → IsEntered e → Reaches (whole_loop e) store end → Extends e.store.printed store.printed
loop_prints e store end loops is h =
    subst (λ (x : Ran). Extends e.store.printed x.store.printed) h (loops.leads e 0 is (omega arith))

-- what it leaves is printed in the end
pub behind_prints : {M : Type 0} (left : Ran → Course → Type 0) (b : Began M) (e : EntryView) (count : ℕ) (store : Memory) (end : Outcome) → Prints left → IsBefore left b e count
    → Reaches (whole_loop e) store end → Extends store.printed (whole_run b).store.printed
behind_prints left b e count store end prints w h =
    subst (λ (x : Ran). Extends x.store.printed (whole_run b).store.printed) h
    (subst (λ (x : Ran). Extends (whole_loop e).store.printed x.store.printed) w.ran (prints (whole_loop e) w.rest w.goes_on))

-- the loop is done, and the run goes on
pub region_passed : {M : Type 0} (left : Ran → Course → Type 0) (b : Began M) (e : EntryView) (count : ℕ) (store : Memory) (end : Outcome) → IsBefore left b e count
    → Reaches (whole_loop e) store end → end ≡ outcome.Done → (1 ≤ count) × IsThrough left b store (count - 1)
region_passed left b e count store end w h is_done = (
  omega (arith, w.many),
  record {
    rest = w.rest;
    left_is = subst (λ (x : Ran). left x w.rest) (h ∙ ap (λ (o : Outcome). let r : Ran = record { store = store; end = o } in r) is_done) w.goes_on;
    ran = w.ran;
    are_regions = w.are_regions;
    many = omega (arith, w.many);
  },
)

-- it ended otherwise: the blocks around it can be left
pub region_leaves : {M : Type 0} (left : ℕ → Ran → Course → Type 0) (b : Began M) (n : ℕ) (e : EntryView) (count : ℕ) (store : Memory) (end : Outcome) → IsBefore (left n) b e count
    → Reaches (whole_loop e) store end → end ≢ outcome.Done → CanLeave left store
region_leaves left b n e count store end w h other = (n, end, w.rest, other, subst (λ (x : Ran). left n x w.rest) h w.goes_on)

-- and then the run is at its end
pub region_ended : {M : Type 0} (left : Ran → Course → Type 0) (b : Began M) (e : EntryView) (count : ℕ) (store final : Memory) (end : Outcome) → (w : IsBefore left b e count)
    → Reaches (whole_loop e) store end → (left (record { store = store; end = end }) w.rest → w.rest ≡ ended final end) → Reaches (whole_run b) final end
region_ended left b e count store final end w h leaves =
    sym w.ran ∙ ap (λ (c : Course). c.ran) (leaves (subst (λ (x : Ran). left x w.rest) h w.goes_on))

-- as many entries as regions that a run comes to
pub numbered_length : (regions : List RegionView) (n number : ℕ) (os : List Opened) → length (numbered_from regions n number os) ≡ length os
numbered_length regions n number [] = refl
numbered_length regions n number (o ∷ rest) = ap suc (numbered_length regions n (number + 1) rest)

-- before the first region
pub first_through : {M : Type 0} (left : Ran → Course → Type 0) (b : Began M) (count : ℕ)
    → left (done b.from.store) (course_of (is_region_of b.image) 1 b.image.main b.from.turns b.from.store)
    → All (IsEntryOf (regions_all (is_region_of b.image) b.image.main)) (entries_all (is_region_of b.image) 1 b.image.main b.from.turns b.from.store)
    → count ≡ length (all_entries b) → IsThrough left b b.from.store count
first_through left b count is_left regions many = record {
  rest = course_of (is_region_of b.image) 1 b.image.main b.from.turns b.from.store;
  left_is = is_left;
  ran = refl;
  are_regions = regions;
  many = sym (many ∙ numbered_length b.image.regions b.from.turns 1 (entries_all (is_region_of b.image) 1 b.image.main b.from.turns b.from.store));
}

-- all that is said of a run without a log
pub record SaysThrough (ran : Ran) (shown : Sent) (r : Result Ended SendFault) : Type 0 where
  pub ended : IfOk r (λ (ended : Ended). Reaches ran ended.store ended.outcome)
  pub sent : Sends shown (number_lines ran.store.printed) r
  pub later : shown.faults_before ≤ shown.faults

-- by how it ended
says_through : (ran : Ran) (sent : Sent) (r : Result Ended SendFault) → IfOk r (λ (ended : Ended). Reaches ran ended.store ended.outcome)
    → IfOk r (λ (ended : Ended). HasPut sent ended.store.printed) → sent.faults_before ≤ sent.faults
    → IfErr r (λ (fault : SendFault). BreaksOff sent (number_lines ran.store.printed) fault) → SaysThrough ran sent r
says_through ran sent (Ok e) run put later stopped = record {
  ended = run;
  sent = subst (λ (m : Memory). Appends sent.before sent.after (number_lines m.printed)) (sym (ap (λ (x : Ran). x.store) run)) put.put;
  later = later;
}
says_through ran sent (Err fault) run put later stopped = record { ended = tt; sent = stopped; later = later }

-- a run that began with copies of the store and of the sink
pub went_through : {K : Type 0} (written : K → Option (List ℕ)) (faults : K → ℕ) (image : ImageView) (from : Beginning) (out out' new : K) (store' : Memory) (r : Result Ended SendFault)
    → store' ≡ from.store → out' ≡ out
    → IfOk r (λ (ended : Ended). Reaches (run_from image (record { store = store'; turns = from.turns })) ended.store ended.outcome)
    → IfOk r (λ (ended : Ended). HasPut (sent_since written faults out' new) ended.store.printed)
    → faults out' ≤ faults new
    → IfErr r (λ (fault : SendFault). BreaksOff (sent_since written faults out' new) (number_lines (run_from image (record { store = store'; turns = from.turns })).store.printed) fault)
    → SaysThrough (run_from image from) (sent_since written faults out new) r
went_through written faults image from out out' new store' r same_store same_out run put later stopped =
    subst (λ z. SaysThrough (run_from image from) (sent_since written faults z new) r) same_out
    (subst (λ (m : Memory). SaysThrough (run_from image (record { store = m; turns = from.turns })) (sent_since written faults out' new) r) same_store
    (says_through (run_from image (record { store = store'; turns = from.turns })) (sent_since written faults out' new) r run put later stopped))
