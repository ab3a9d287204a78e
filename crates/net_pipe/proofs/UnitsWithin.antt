-- A task's store within an iteration: at its beginning, behind an own unit, and at its end; and the packet that it sends then.
use Rattle.std.proofs.Common.{◌≡◌, ℕ, zero, suc, ◌+◌, ◌-◌, ◌<◌, ◌≤◌, Bool, true, ℤ, List, [], ◌∷◌, length, map, take, drop, get_or, refl, sym, ap, ◌∙◌, subst, subst₂, arith, length-append, ⊎_elim, ◌⊎◌, inl, inr}
use Rattle.std.specs.List.{Contains}
use Rattle.std.specs.List.Sorted.{IsStrictlyIncreasing}
use Rattle.std.proofs.Math.ListN.{get_or-eq_default}
use Rattle.std.proofs.Math.Seq.{drop-length}
use Rattle.std.proofs.lemmas.Bool.{cases_lt, cases_eq}
use Rattle.std.proofs.lemmas.List.{drop-drop, get_or_default}
use Rattle.std.proofs.lemmas.List.Elements.{All-get_or}
use Rattle.std.proofs.lemmas.List.Kept.{AllPairs-from_increasing}
use Rattle.nona_tree.specs.declared.outcomes.Outcome.TheVariants as outcome
use Rattle.nona_tree.specs.declared.plans.Plan.{Plan}
use Rattle.nona_tree.specs.declared.trees.Stmt.{Stmt}
use Rattle.nona_tree.specs.Entries.{Entry}
use Rattle.nona_tree.specs.Memory.{Memory, scalar_at, declare, cut_to}
use Rattle.nona_tree.specs.Numbers.{IsI64, AreI64, AreI64Stmts}
use Rattle.nona_tree.specs.Run.{Ran, done, run}
use Rattle.nona_tree.specs.Scope.{AreScoped}
use Rattle.nona_tree.proofs.Depth.{depth_where_done}
use Rattle.nona_tree.proofs.I64.{run_fits}
use Rattle.nona_tree.proofs.Keeps.{SameArrays, arrays_kept, run_kept}
use Rattle.nona_forms.specs.Affine.{among}
use Rattle.nona_plans.specs.Walks.{IsUnit}
use Rattle.nona_fission.specs.Sharing.{index_of}
use Rattle.nona_fission.proofs.Tasks.{declare_numbers}
use Rattle.nona_fission.proofs.Untied.{among_in}
use Rattle.nona_fission.specs.Fission.{skipped, portion, one_thread_local, own_over}
use Rattle.net_flow.specs.Dealing.{number}
use Rattle.net_flow.specs.Shapes.{IsWorker}
use Rattle.net_flow.specs.Tracing.{numbers}
use Rattle.net_share.specs.Entries.{begun_in}
use Rattle.net_share.specs.May.{MayRunFirst}
use Rattle.net_share.specs.Works.{run_first}
use Rattle.nona_fission.proofs.Handed.{handed_on}
use Rattle.nona_fission.proofs.Thread.{body_numbers, body_scoped}
use Rattle.nona_fission.proofs.Units.{skipped_depth, skipped_arrays, skipped_fits}
use Rattle.net_share.proofs.SharedOut.{same_count}
use Rattle.net_share.proofs.UnitRuns.{one_more}
use Rattle.net_share.proofs.UnitsLeft.{next_unit, numbers_left}
use Rattle.net_pipe.specs.Entries.{MayPipe, IsWithinStage, staging_in, sharing_at, carried_from, carried_into, part_at}
use Rattle.net_pipe.specs.Works.{Staging, Values, stage_at, unit_number, sent_from, received_in, value_for, skipped_all, unit_run}
use Rattle.net_pipe.proofs.Behind.{parallel_at, may_further, over_owned, numbers_behind, depth_behind, depth_between, arrays_behind, index_behind, iteration_follows, done_behind}
use Rattle.net_pipe.proofs.Crossing.{StandsTo, Crosser, crosser}
use Rattle.net_pipe.proofs.InStages.{Stands}
use Rattle.net_pipe.proofs.PartsApart.{in_order, given_number, came}
use Rattle.net_pipe.proofs.UnitsSkipped.{skip, unit_done, goes_past, none_before, none_between}

-- a store in which units are skipped

all_skipped_fit : (locals : ℕ → ℤ) (ss : List Stmt) (m : Memory) → ((x : ℕ) → IsI64 (locals x)) → AreI64 m → AreI64 (skipped_all locals ss m)
all_skipped_fit locals [] m fits h = h
all_skipped_fit locals (s ∷ rest) m fits h = all_skipped_fit locals rest (skipped locals s m) fits (skipped_fits locals s m fits h)

all_skipped_many : (locals : ℕ → ℤ) (k : ℕ) (ss : List Stmt) (m : Memory) → length (skipped_all locals (take k ss) m).scalars ≤ length m.scalars + k
all_skipped_many locals zero ss m = omega arith
all_skipped_many locals (suc k) [] m = omega arith
all_skipped_many locals (suc k) (s ∷ rest) m =
    let later = all_skipped_many locals k rest (skipped locals s m) in
    let depth = skipped_depth locals s m in
    let few = one_more s (length m.scalars) in omega (arith, later, depth, few)

all_skipped_scoped : (locals : ℕ → ℤ) (k : ℕ) (ss : List Stmt) (m : Memory) → AreScoped ss (length m.scalars) (length m.arrays)
    → AreScoped (drop k ss) (length (skipped_all locals (take k ss) m).scalars) (length (skipped_all locals (take k ss) m).arrays)
all_skipped_scoped locals zero ss m h = h
all_skipped_scoped locals (suc k) [] m h = tt
all_skipped_scoped locals (suc k) (s ∷ rest) m h =
    all_skipped_scoped locals k rest (skipped locals s m)
    (subst₂ (AreScoped rest) (sym (skipped_depth locals s m)) (sym (ap (λ (xs : List (List ℤ)). length xs) (skipped_arrays locals s m))) h.1)

map_same : (f g : ℕ → ℤ) (ids : List ℕ) → ((id : ℕ) → Contains ids id → f id ≡ g id) → map f ids ≡ map g ids
map_same f g [] same = refl
map_same f g (id ∷ ids) same =
    λ i. same id (0, omega arith, refl) i ∷ map_same f g ids (λ x inside. same x (let at = inside in let within = at.1 in (suc at.0, omega (arith, within), at.2))) i

module _ (e : Entry) (p : Plan) (W c first limit : ℕ) (h : MayPipe e p W c first limit) (s : ℕ) where
  abbrev g : Staging
  g = staging_in e p W c first

  abbrev count : ℕ
  count = length e.looped.body

  abbrev units : List ℕ
  units = (stage_at g s).units

  abbrev own : ℕ → Bool
  own unit = among unit (stage_at g s).units

  rising : IsStrictlyIncreasing units
  rising = (in_order e p W c first limit h s).0

  is_unit : (u : ℕ) → u < length units → IsUnit count (unit_number g s u)
  is_unit u inside = All-get_or (IsUnit count) units u (count + 1) inside (in_order e p W c first limit h s).1

  past_all : (u : ℕ) → length units ≤ u → unit_number g s u ≡ count + 1
  past_all u past = get_or-eq_default units (count + 1) past

  some_number : (u : ℕ) → 1 ≤ unit_number g s u
  some_number u =
      ⊎_elim (λ (inside : u < length units). (is_unit u inside).0) (λ (past : length units ≤ u). let all = past_all u past in omega (arith, all)) (cases_lt u (length units))

  goes_up : (u : ℕ) → u < length units → unit_number g s u < unit_number g s (u + 1)
  goes_up u inside =
      ⊎_elim (λ (next : u + 1 < length units). AllPairs-from_increasing units rising u (u + 1) (count + 1) (omega arith) next)
      (λ (past : length units ≤ u + 1). let all = past_all (u + 1) past in let most = (is_unit u inside).1 in omega (arith, all, most))
      (cases_lt (u + 1) (length units))

  is_own : (u : ℕ) → u < length units → own (unit_number g s u) ≡ true
  is_own u inside = among_in (unit_number g s u) units (u, inside, get_or_default units u (unit_number g s u) (count + 1) inside)

  module _ (w d : ℕ) (task : IsWorker (parallel_at g s) W w) (below : number (parallel_at g s) W w d < limit) where
    abbrev k : ℕ
    k = number (parallel_at g s) W w d

    abbrev before : List ℕ
    before = numbers (parallel_at g s) W w d

    abbrev locals : List ℤ → ℕ → ℤ
    locals held = value_for (received_in g s) held

    abbrev came_in : List ℤ
    came_in = carried_into e g first s k

    numbers_in : (held : List ℤ) → held ≡ came_in → (x : ℕ) → IsI64 (locals held x)
    numbers_in held is x = subst (λ (vs : List ℤ). IsI64 (locals vs x)) (sym is) (given_number e p W c first limit h s k x below)

    -- an iteration begins

    first_scoped : (begun : Memory) → own_over (part_at e g first 0 s) before (begun_in e first) ≡ done begun → (i : ℤ) → AreScoped e.looped.body (length (declare i begun).scalars) (length (declare i begun).arrays)
    first_scoped begun ready i =
        let depth = depth_behind e p W c first limit h s w d task below begun ready in
        let arrays = arrays_behind e p W c first limit h s w d task below begun ready in
        let index = h.entered.scoped.0 in
        let longer = length-append begun.scalars (i ∷ []) in
        subst₂ (AreScoped e.looped.body) (omega (arith, depth, index, longer)) (sym arrays)
        (body_scoped (part_at e g first (suc k) s) (may_further e p W c first limit h s w d task below begun ready))

    pub begins : (begun : Memory) (held : List ℤ) (i : ℤ) → own_over (part_at e g first 0 s) before (begun_in e first) ≡ done begun → held ≡ came_in → i ≡ index_of e first k
        → IsWithinStage e g first s before k 0 (record { store = skipped_all (locals held) (take (unit_number g s 0 - 1) e.looped.body) (declare i begun); held = held })
    begins begun held i ready is at =
        let begin = declare i begun in
        let some = some_number 0 in
        let count_is : 1 + (unit_number g s 0 - 1) ≡ unit_number g s 0 = omega (arith, some) in
        record {
          begun = begun;
          ready = ready;
          held = is;
          goes_on =
              ap (λ (x : ℤ). portion own (locals came_in) 1 e.looped.body e.turns (declare x begun)) (sym at)
              ∙ skip own (locals came_in) 1 (unit_number g s 0 - 1) e.looped.body e.turns begin (λ j less. none_before units rising (count + 1) (1 + j) (omega (arith, less)))
              ∙ ap (λ (N : ℕ). portion own (locals came_in) N (drop (unit_number g s 0 - 1) e.looped.body) e.turns (skipped_all (locals came_in) (take (unit_number g s 0 - 1) e.looped.body) begin)) count_is
              ∙ ap (λ (vs : List ℤ). portion own (locals came_in) (unit_number g s 0) (drop (unit_number g s 0 - 1) e.looped.body) e.turns (skipped_all (locals vs) (take (unit_number g s 0 - 1) e.looped.body) begin)) (sym is);
          fits = all_skipped_fit (locals held) (take (unit_number g s 0 - 1) e.looped.body) begin (numbers_in held is)
              (declare_numbers i begun (subst IsI64 (sym at) (index_behind e p W c first limit h s w d task below begun ready)) (numbers_behind e p W c first limit h s w d task below begun ready));
          scoped = all_skipped_scoped (locals held) (unit_number g s 0 - 1) e.looped.body begin (first_scoped begun ready i);
          many =
              let depth = depth_between e g first s before begun ready in
              let longer = length-append begun.scalars (i ∷ []) in
              let more = all_skipped_many (locals held) (unit_number g s 0 - 1) e.looped.body begin in omega (arith, depth, longer, more, some);
        }

    -- a unit is run

    module _ (u : ℕ) (v : Values) (within : IsWithinStage e g first s before k u v)
        (inside : u < length (stage_at g s).units) where
      abbrev N : ℕ
      N = unit_number g s u

      abbrev left_units : List Stmt
      left_units = drop (N - 1) e.looped.body

      here : (unit : Stmt) × (left_units ≡ unit ∷ drop N e.looped.body)
      here =
          let is = is_unit u inside in
          let at = next_unit e.looped.body (N - 1) (omega (arith, is)) in
          let up : suc (N - 1) ≡ N = omega (arith, is) in (at.0, at.1 ∙ ap (λ (j : ℕ). at.0 ∷ drop j e.looped.body) up)

      abbrev unit : Stmt
      unit = here.0

      ends : (portion own (locals came_in) N left_units e.turns v.store).end ≡ outcome.Done
      ends = sym (ap (λ (r : Ran). r.end) within.goes_on) ∙ done_behind e p W c first limit h s w d task below within.begun within.ready

      is_done : (run unit e.turns v.store).end ≡ outcome.Done
      is_done = unit_done own (locals came_in) N left_units unit (drop N e.looped.body) e.turns v.store here.1 (is_own u inside) ends

      scoped_here : AreScoped (unit ∷ drop N e.looped.body) (length v.store.scalars) (length v.store.arrays)
      scoped_here = subst (λ (ss : List Stmt). AreScoped ss (length v.store.scalars) (length v.store.arrays)) here.1 within.scoped

      pub may_run : MayRunFirst (drop (unit_number g s u - 1) e.looped.body) e.turns v.store
      may_run = subst (λ (ss : List Stmt). MayRunFirst ss e.turns v.store) (sym here.1) (record { fits = within.fits; scoped = scoped_here.0; ends = is_done })

      abbrev after_unit : Memory
      after_unit = (run_first left_units e.turns v.store).store

      is_run : (run unit e.turns v.store).store ≡ after_unit
      is_run = ap (λ (ss : List Stmt). (run_first ss e.turns v.store).store) (sym here.1)

      fits_after : AreI64 after_unit
      fits_after =
          let whole = body_numbers (part_at e g first (suc k) s) (may_further e p W c first limit h s w d task below within.begun within.ready) in
          subst AreI64 is_run (run_fits unit (subst AreI64Stmts here.1 (numbers_left e.looped.body (N - 1) whole)).0 e.turns v.store within.fits)

      scoped_after : AreScoped (drop N e.looped.body) (length after_unit.scalars) (length after_unit.arrays)
      scoped_after =
          subst (λ (m : Memory). AreScoped (drop N e.looped.body) (length m.scalars) (length m.arrays)) is_run
          (subst₂ (AreScoped (drop N e.looped.body)) (sym (depth_where_done unit e.turns v.store is_done))
          (sym (same_count v.store (run unit e.turns v.store).store (run_kept SameArrays arrays_kept unit e.turns v.store))) scoped_here.1)

      many_after : length after_unit.scalars ≤ length e.store.scalars + N + 1
      many_after =
          let many = within.many in
          let same = ap (λ (m : Memory). length m.scalars) is_run in
          let depth = depth_where_done unit e.turns v.store is_done in
          let few = one_more unit (length v.store.scalars) in omega (arith, many, same, depth, few)

      -- so many units are skipped behind it
      abbrev gap : ℕ
      gap = unit_number g s (u + 1) - suc N

      gap_is : suc N + gap ≡ unit_number g s (u + 1)
      gap_is = let up = goes_up u inside in omega (arith, up)

      left_is : drop gap (drop N e.looped.body) ≡ drop (unit_number g s (u + 1) - 1) e.looped.body
      left_is = drop-drop gap N e.looped.body ∙ ap (λ (j : ℕ). drop j e.looped.body) (let is = gap_is in let e : N + gap ≡ unit_number g s (u + 1) - 1 = omega (arith, is) in e)

      abbrev next_store : List ℤ → Memory
      next_store held = skipped_all (locals held) (take gap (drop N e.looped.body)) after_unit

      pub unit_within : IsWithinStage e g first s before k (u + 1)
          (record { store = unit_run g s u v.held v.store; held = v.held })
      unit_within = record {
        begun = within.begun;
        ready = within.ready;
        held = within.held;
        goes_on =
            within.goes_on
            ∙ goes_past own (locals came_in) N left_units unit (drop N e.looped.body) e.turns v.store here.1 (is_own u inside) ends
            ∙ skip own (locals came_in) (suc N) gap (drop N e.looped.body) e.turns after_unit
            (λ j less. let is = gap_is in none_between units rising (count + 1) u (suc N + j) inside (omega arith) (omega (arith, is, less)))
            ∙ ap (λ (M : ℕ). portion own (locals came_in) M (drop gap (drop N e.looped.body)) e.turns (next_store came_in)) gap_is
            ∙ ap (λ (ss : List Stmt). portion own (locals came_in) (unit_number g s (u + 1)) ss e.turns (next_store came_in)) left_is
            ∙ ap (λ (vs : List ℤ). portion own (locals came_in) (unit_number g s (u + 1)) (drop (unit_number g s (u + 1) - 1) e.looped.body) e.turns (next_store vs)) (sym within.held);
        fits = all_skipped_fit (locals v.held) (take gap (drop N e.looped.body)) after_unit (numbers_in v.held within.held) fits_after;
        scoped = subst (λ (ss : List Stmt). AreScoped ss (length (next_store v.held).scalars) (length (next_store v.held).arrays)) left_is
            (all_skipped_scoped (locals v.held) gap (drop N e.looped.body) after_unit scoped_after);
        many =
            let is = gap_is in
            let more = all_skipped_many (locals v.held) gap (drop N e.looped.body) after_unit in
            let before = many_after in omega (arith, is, more, before);
      }

    -- the units are done

    module _ (v : Values) (within : IsWithinStage e g first s before k (length (stage_at g s).units) v) where
      at_end : portion own (locals came_in) 1 e.looped.body e.turns (declare (index_of e first k) within.begun) ≡ done v.store
      at_end =
          let all = past_all (length units) (omega arith) in
          let none : unit_number g s (length units) - 1 ≡ count = omega (arith, all) in
          within.goes_on
          ∙ ap (λ (ss : List Stmt). portion own (locals came_in) (unit_number g s (length units)) ss e.turns v.store) (ap (λ (j : ℕ). drop j e.looped.body) none ∙ drop-length e.looped.body)

      pub iteration_left : own_over (part_at e g first 0 s) (numbers (parallel_at g s) W w (d + 1)) (begun_in e first) ≡ done (cut_to (length e.store.scalars) v.store)
      iteration_left =
          let one : d + 1 ≡ suc d = omega arith in
          ap (λ (j : ℕ). own_over (part_at e g first 0 s) (numbers (parallel_at g s) W w j) (begun_in e first)) one
          ∙ iteration_follows e p W c first limit h s w d task below within.begun within.ready
          ∙ ap (λ (r : Ran). let q : Ran = record { store = cut_to (length within.begun.scalars) r.store; end = r.end } in q) at_end
          ∙ ap (λ (n : ℕ). done (cut_to n v.store)) (depth_behind e p W c first limit h s w d task below within.begun within.ready)

      -- a local that crosses has its value of one thread
      sent_local : (id : ℕ) → Crosser e.looped [] p.pipe s id → scalar_at v.store id ≡ one_thread_local (sharing_at e g first 0 s) k id
      sent_local id x =
          let further = part_at e g first (suc k) s in
          let may = may_further e p W c first limit h s w d task below within.begun within.ready in
          let later = x.later in
          let has : (own x.local.unit ≡ true) ⊎ (locals came_in x.local.id ≡ one_thread_local (sharing_at e g first 0 s) k x.local.id) = by_stage x.declared in
          let at = handed_on further may k x.local within.begun (omega arith) (over_owned e p W c first limit h s w d task below within.begun within.ready) x.listed x.plain has in
          subst (λ (i : ℕ). scalar_at v.store i ≡ one_thread_local (sharing_at e g first 0 s) k i) x.is_id (sym (ap (λ (r : Ran). scalar_at r.store x.local.id) at_end) ∙ at)
        where
          by_stage : StandsTo [] p.pipe s x.local.unit → (own x.local.unit ≡ true) ⊎ (locals came_in x.local.id ≡ one_thread_local (sharing_at e g first 0 s) k x.local.id)
          by_stage (inl none) = cc
          by_stage (inr (j, within_s, at)) =
              ⊎_elim (λ (same : j ≡ s). inl (subst (λ (i : ℕ). Stands p.pipe i x.local.unit) same at))
              (λ (apart : j ≡ s → ⊥).
              (let later = x.later in let behind = later.1 in
              inr (came e p W c first limit h s k x.local x.user j later.0 x.listed x.plain x.used (omega (arith, within_s, apart)) at (omega (arith, behind)) later.2)))
              (cases_eq j s)

      pub packet_is : map (scalar_at v.store) (sent_from g s) ≡ carried_from e g first s k
      packet_is =
          map_same (scalar_at v.store) (one_thread_local (sharing_at e g first 0 s) k) (sent_from g s)
          (λ id inside. sent_local id (crosser e.looped [] p.pipe s id (subst (λ (links : List (List ℕ)). Contains (get_or links s []) id) h.lawful.links inside)))
