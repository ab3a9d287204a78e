-- From an entry of a run to the next one, or to the end.
use Rattle.std.proofs.Common.{◌≡◌, ◌≢◌, ℕ, ◌+◌, ◌-◌, ◌<◌, ◌≤◌, ℤ, List, [], ◌∷◌, ◌++◌, length, take, refl, sym, ◌∙◌, ap, subst, append_assoc, arith, length-append, Some, slice_get}
use Rattle.std.specs.Prelude.{All, Ok}
use Rattle.std.proofs.lemmas.List.{take_at}
use Rattle.std.proofs.lemmas.List.Elements.{All-head, All-tail}
use Rattle.std.proofs.lemmas.Option.{slice_get_within}
use Rattle.nona_tree.specs.declared.outcomes.Outcome.{Outcome}
use Rattle.nona_tree.specs.declared.outcomes.Outcome.TheVariants as outcome
use Rattle.nona_tree.specs.declared.trees.Loop.{Loop}
use Rattle.nona_tree.specs.declared.trees.Stmt.{For}
use Rattle.nona_tree.specs.Memory.{Memory, Extends}
use Rattle.nona_tree.specs.Value.{value_of}
use Rattle.nona_tree.specs.Run.{Ran, run, done}
use Rattle.nona_tree.specs.Numbers.{IsI64}
use Rattle.nona_tree.specs.Scope.{IsScoped}
use Rattle.nona_tree.specs.Entries.{Opened, regions_all, count_all, IsEntryOf}
use Rattle.nona_code.specs.Course.{Course, ended}
use Rattle.nona_code.specs.declared.main_statements.Stop.{Stop}
use Rattle.nona_code.specs.declared.main_statements.Stop.TheVariants as stops
use Rattle.nona_code.specs.MainStops.{IsAtRegion, Stops, CanLeave}
use Rattle.morta_task.specs.declared.opening.Opening.{Opening}
use Rattle.morta_task.specs.RegionView.{RegionView}
use Rattle.morta_task.specs.ImageView.{is_region_of}
use Rattle.morta_task.specs.Entries.{EntryView, entered}
use Rattle.morta_task.specs.LogView.{LogView}
use Rattle.morta_task.specs.Promise.{Promise}
use Rattle.morta_task.specs.Legal.{begun, EndsAll}
use Rattle.morta_exec.specs.Began.{Began, all_entries, whole_run}
use Rattle.morta_exec.specs.Places.{most, ClosedBy, ComesBehind, after_interval}
use Rattle.morta_exec.specs.EntryRun.{whole_loop, HasEnded}
use Rattle.morta_exec.specs.MainRun.{Between, AtEntry, IsOver, CanEnter, IsOpened, to_come}
use Rattle.morta_exec.proofs.Growing.{some_same, front_is, extends_same}
use Rattle.morta_exec.proofs.Coming.{Prints, opening, numbered_is, next_at}

pub loop_run : (o : Opening) (code : RegionView) (n : ℕ) (m : Memory) → run (For code.looped) n m ≡ whole_loop (entered o code.looped code.plan n m)
unfolding whole_loop
loop_run o code n m = refl

-- the region that a run comes to is one of the program's
pub region_there : {M : Type 0} (later : Ran → Course → Type 0) (b : Began M) (rest : Course) (r : Memory) (number : ℕ) (low high : ℤ)
    → All (IsEntryOf (regions_all (is_region_of b.image) b.image.main)) rest.entries → (at : IsAtRegion later rest number low high r b.from.turns)
    → (1 ≤ number) × (number ≤ count_all (is_region_of b.image) b.image.main) × (slice_get (regions_all (is_region_of b.image) b.image.main) (number - 1) ≡ Some at.looped)
region_there later b rest r number low high are at =
    let there = All-head (IsEntryOf (regions_all (is_region_of b.image) b.image.main)) _ at.rest.entries
    (subst (λ (os : List Opened). All (IsEntryOf (regions_all (is_region_of b.image) b.image.main)) os) (ap (λ (c : Course). c.entries) at.whole) are) in
    let within : number - 1 < count_all (is_region_of b.image) b.image.main = slice_get_within (regions_all (is_region_of b.image) b.image.main) (number - 1) at.looped there.1 in
    (there.0, omega (arith, within), there.1)

-- and may be entered there
pub can_enter : {M : Type 0} (later : Ran → Course → Type 0) (b : Began M) (rest : Course) (r : Memory) (number : ℕ) (low high : ℤ)
    → All (IsEntryOf (regions_all (is_region_of b.image) b.image.main)) rest.entries → IsAtRegion later rest number low high r b.from.turns → CanEnter b.image number r
can_enter later b rest r number low high are at =
    let there = region_there later b rest r number low high are at in
    record { first = there.0; few = there.1; looped = at.looped; there = there.2; scoped = at.scoped }

-- a run that came to a region is at the entry to it
at_entry : {M : Type 0} (promise : Promise M) (left later : Ran → Course → Type 0) (b : Began M) (now : M) (m r : Memory) (log : LogView) (number : ℕ) (low high : ℤ)
    (o : Opening) (e : EntryView) → o ≡ opening (length log.entries + 1) number low high
    → Prints later → (w : Between promise left b now m log) → IsAtRegion later w.rest number low high r b.from.turns → IsOpened b.image o b.from.turns r e → AtEntry promise later b now log e
at_entry promise left later b now m r log number low high o e is prints w at opened =
    let n = b.from.turns in
    let code = opened.code in
    let found : slice_get b.image.regions (number - 1) ≡ Some code = subst (λ (x : Opening). slice_get b.image.regions (x.region - 1) ≡ Some code) is opened.there in
    let is_loop : slice_get (regions_all (is_region_of b.image) b.image.main) (number - 1) ≡ Some code.looped =
    subst (λ (x : Opening). slice_get (regions_all (is_region_of b.image) b.image.main) (x.region - 1) ≡ Some code.looped) is opened.looped in
    let is_entry : e ≡ entered (opening (length log.entries + 1) number low high) code.looped code.plan n r =
    opened.entry ∙ ap (λ x. entered x code.looped code.plan n r) is in
    let there = region_there later b w.rest r number low high w.are_regions at in
    let same : at.looped ≡ code.looped = some_same at.looped code.looped (sym there.2 ∙ is_loop) in
    let later_entries = to_come b (length log.entries + 1 + 1) at.rest in
    let here = entered (opening (length log.entries + 1) number low high) code.looped code.plan n r in
    let comes : all_entries b ≡ log.entries ++ (here ∷ later_entries) =
    w.comes ∙ ap (λ (c : Course). log.entries ++ to_come b (length log.entries + 1) c) at.whole
    ∙ ap (λ x. log.entries ++ (x ∷ later_entries)) (numbered_is b.image.regions n (length log.entries + 1) number at.looped low high r code found same) in
    let at_number : length log.entries ≡ length log.entries + 1 - 1 = omega arith in
    let goes_on : later (whole_loop here) at.rest =
    subst (λ (x : Ran). later x at.rest) (loop_run (opening (length log.entries + 1) number low high) code n r)
    (subst (λ (l : Loop). later (run (For l) n r) at.rest) same at.goes_on) in
    let ran : at.rest.ran ≡ whole_run b = sym (ap (λ (c : Course). c.ran) at.whole) ∙ w.ran in
    subst (AtEntry promise later b now log) (sym is_entry) (record {
      stands = w.stands;
      closed = w.closed;
      few = w.behind.few;
      rest = at.rest;
      goes_on = goes_on;
      ran = ran;
      comes = comes;
      are_regions = All-tail (IsEntryOf (regions_all (is_region_of b.image) b.image.main)) _ at.rest.entries
          (subst (λ (os : List Opened). All (IsEntryOf (regions_all (is_region_of b.image) b.image.main)) os) (ap (λ (c : Course). c.entries) at.whole) w.are_regions);
      number = refl;
      on = record {
        of_run = record {
          entered = record {
            low_is = subst (λ (l : Loop). value_of l.low r ≡ Ok low) same at.low_is;
            high_is = subst (λ (l : Loop). value_of l.high r ≡ Ok high) same at.high_is;
            scoped = subst (λ (l : Loop). IsScoped (For l) (length r.scalars) (length r.arrays)) same at.scoped;
            steady = opened.steady;
            small = opened.small;
            loop_numbers = opened.numbers;
            store_numbers = opened.store_numbers;
            low_number = subst (λ (x : Opening). IsI64 x.low) is opened.low_number;
            high_number = subst (λ (x : Opening). IsI64 x.high) is opened.high_number;
            any = refl;
            pipe = refl;
          };
          region = record { code = code; first = there.0; there = found; looped = refl; plan = refl };
          named = (λ i. slice_get (comes i) (sym at_number i)) ∙ next_at log.entries here later_entries;
          first = omega arith;
        };
        leads = subst (λ (x : Ran). Extends (whole_loop here).store.printed x.store.printed) ran (prints (whole_loop here) at.rest goes_on);
      };
    })

-- the same of what a frame stopped at
pub region_at : {M : Type 0} (promise : Promise M) (left later : Ran → Course → Type 0) (b : Began M) (now : M) (m r : Memory) (log : LogView) (stop : Stop) (number : ℕ) (low high : ℤ)
    → (w : Between promise left b now m log) → Stops later w.rest b.from.turns stop r → stop ≡ stops.Region number low high → CanEnter b.image number r
region_at promise left later b now m r log stop number low high w at is =
    can_enter later b w.rest r number low high w.are_regions (subst (λ s. Stops later w.rest b.from.turns s r) is at)

pub entry_at : {M : Type 0} (promise : Promise M) (left later : Ran → Course → Type 0) (b : Began M) (now : M) (m r : Memory) (log : LogView) (stop : Stop) (number : ℕ) (low high : ℤ)
    (o : Opening) (e : EntryView) → Prints later → (w : Between promise left b now m log) → Stops later w.rest b.from.turns stop r → stop ≡ stops.Region number low high
    → o.number ≡ length log.entries + 1 → o.region ≡ number → o.low ≡ low → o.high ≡ high
    → IsOpened b.image o b.from.turns r e → AtEntry promise later b now log e
entry_at promise left later b now m r log stop number low high o e prints w at is is_number is_region is_low is_high opened =
    at_entry promise left later b now m r log number low high o e (λ i. opening (is_number i) (is_region i) (is_low i) (is_high i)) prints w
    (subst (λ s. Stops later w.rest b.from.turns s r) is at) opened

-- the entries of the log with the entry are those before it, and it
listed_on : (es listed new more : List EntryView) (e : EntryView) (k : ℕ) → es ≡ listed ++ (e ∷ more) → new ≡ take k es → length new ≡ length listed + 1 → new ≡ listed ++ e ∷ []
listed_on es listed new more e k all is count =
    front_is es new k is
    ∙ ap (λ (xs : List EntryView). take (length new) xs) (all ∙ sym (append_assoc listed (e ∷ []) more))
    ∙ take_at (listed ++ e ∷ []) more (length new) (length-append listed (e ∷ []) ∙ sym count)

-- what the loop of an entry leaves
store_is : (e : EntryView) (store : Memory) (end : Outcome) → whole_loop e ≡ record { store = store; end = end } → (whole_loop e).store ≡ store
store_is e store end h = ap (λ (r : Ran). r.store) h

-- the blocks around a region whose loop ended otherwise than done can be left
pub leave_on : {M : Type 0} (promise : Promise M) (left : ℕ → Ran → Course → Type 0) (b : Began M) (old now : M) (log new : LogView) (n : ℕ) (e : EntryView) (store : Memory) (end : Outcome)
    → AtEntry promise (left n) b old log e → HasEnded promise b now e new store end → end ≢ outcome.Done → CanLeave left store
leave_on promise left b old now log new n e store end a h other =
    (n, end, a.rest, other, subst (λ (r : Ran). left n r a.rest) h.reaches a.goes_on)

-- the loop of the entry is done, and the run goes on
pub between_on : {M : Type 0} (promise : Promise M) (left : Ran → Course → Type 0) (b : Began M) (old now : M) (log new : LogView) (e : EntryView) (store : Memory) (end : Outcome)
    → AtEntry promise left b old log e → HasEnded promise b now e new store end → end ≡ outcome.Done → length new.intervals ≤ most
    → Between promise left b now store new
between_on promise left b old now log new e store end a h is_done few =
    let es = all_entries b in
    let last = (whole_run b).store in
    let whole : whole_loop e ≡ done store = h.reaches ∙ ap (λ (o : Outcome). let r : Ran = record { store = store; end = o } in r) is_done in
    let count : length new.entries ≡ length log.entries + 1 = h.counted ∙ a.number in
    let listed : new.entries ≡ log.entries ++ e ∷ [] = listed_on es log.entries new.entries _ e (begun new.intervals) a.comes h.stands.so_far.legal.entries count in
    let named : slice_get es (h.interval.entry - 1) ≡ Some e = ap (λ k. slice_get es (k - 1)) h.number ∙ a.on.of_run.named in
    record {
      stands = h.stands;
      closed = subst (ClosedBy es) (sym h.is_last) (h.closed (h.goes_on is_done));
      rest = a.rest;
      left_is = subst (λ (r : Ran). left r a.rest) whole a.goes_on;
      ran = a.ran;
      comes = a.comes ∙ sym (append_assoc log.entries (e ∷ []) (to_come b (length log.entries + 1 + 1) a.rest))
          ∙ (λ i. sym listed i ++ to_come b (sym count i + 1) a.rest);
      are_regions = a.are_regions;
      place = store;
      behind = record {
        few = few;
        comes = subst (λ (m : Memory). ComesBehind es last new.intervals m) (sym h.state) (after_interval h.interval e h.is_last named);
      };
      from_here = extends_same store.printed;
      printed = subst (λ (m : Memory). Extends m.printed last.printed) (store_is e store end h.reaches) a.on.leads;
    }

-- the loop of the entry ended otherwise, the blocks around it were left, and the run is at its end
pub run_over : {M : Type 0} (promise : Promise M) (left : Ran → Course → Type 0) (b : Began M) (old now : M) (log new : LogView) (e : EntryView) (store last : Memory) (end : Outcome)
    → (a : AtEntry promise left b old log e) → HasEnded promise b now e new store end
    → (left (record { store = store; end = end }) a.rest → a.rest ≡ ended last end) → length new.intervals ≤ most
    → IsOver promise b new last end
run_over promise left b old now log new e store last end a h leaves few =
    let es = all_entries b in
    let at_end : a.rest ≡ ended last end = leaves (subst (λ (r : Ran). left r a.rest) h.reaches a.goes_on) in
    let all : es ≡ log.entries ++ (e ∷ []) = a.comes ∙ ap (λ (c : Course). log.entries ++ (e ∷ to_come b (length log.entries + 1 + 1) c)) at_end in
    let count : length es ≡ length log.entries + 1 = ap length all ∙ length-append log.entries (e ∷ []) in
    record {
      reaches = sym a.ran ∙ ap (λ (c : Course). c.ran) at_end;
      log_stands = h.stands.so_far;
      whole = subst (EndsAll es) (sym h.is_last) (h.number ∙ a.number ∙ sym count, h.closed);
      few = few;
    }
