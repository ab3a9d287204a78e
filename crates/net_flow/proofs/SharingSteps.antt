-- Each step of each task keeps what stands of a net whose tasks share the claims.
use Rattle.std.proofs.Common.{◌≡◌, ◌≢◌, ◌⊎◌, ◌<◌, ◌≤◌, ◌+◌, ◌*◌, ℕ, zero, suc, Bool, true, false, not, ◌&&◌, nat_lt, refl, sym, ap, subst, ◌∙◌, arith, inl, inr, List, [], ◌∷◌, ◌++◌, length, get_or, set, length-set, if◌then◌else◌}
use Rattle.std.proofs.lemmas.List.{get_or-set_same, get_or-set_other}
use Rattle.std.proofs.lemmas.List.Sums.{sum_by-set}
use Rattle.std.proofs.lemmas.Bool.{cases_eq}
use Rattle.std.proofs.lemmas.Bool.Decides.{nat_tests}
use Rattle.net_flow.specs.Flow.{Position, Claims, Unit_at, Sends, Receives, SendsEnd, Finished, busy}
use Rattle.net_flow.specs.Net.{Work, Task, Net, no_task, task_at, leaves, arrives, enters, closes, with_task, is_granted, moved_at, is_finished}
use Rattle.net_flow.specs.Sharing.{claimed_by, SharedMeaning, LawfulSharing, HoldsShared, IsSharing, IsShared}
use Rattle.net_flow.proofs.Claimants.{claimed_here, claimed_other}
use Rattle.net_flow.proofs.NetChange.{counted}
use Rattle.net_flow.proofs.StepKept.{granted_below, refused_is}

module _ (V P : Type 0) (work : Work V P) (m : SharedMeaning V) (alone : work.shape.stages ≡ 1) (net : Net V P) (law : LawfulSharing work m net.limit) (claimants : List ℕ) (here : IsShared work m net claimants)
    (t : ℕ) (within : t < length net.tasks) where
  abbrev Refused : Net V P → Type 0
  Refused n = (n.paused ≡ true) ⊎ (n.granted ≡ n.limit)

  -- a task keeps what it holds where another one claims
  same_held : (claimants' : List ℕ) (u : ℕ) (p : Position) (x : Task V) → claimed_by claimants' u ≡ claimed_by claimants u → HoldsShared work m net.limit u claimants p x → HoldsShared work m net.limit u claimants' p x
  same_held claimants' u Claims x same h = subst (λ (ks : List ℕ). m.between u ks x.values) (sym same) h
  same_held claimants' u (Unit_at i) x same h = record { before = h.before; below = h.below; number = h.number; took = same ∙ h.took; values = h.values; inner = h.inner }
  same_held claimants' u Sends x same h = h
  same_held claimants' u (Receives e) x same h = h
  same_held claimants' u (SendsEnd i) x same h = h
  same_held claimants' u Finished x same h = subst (λ (ks : List ℕ). m.between u ks x.values) (sym same) h

  module _ (y : Task V) (c : ℕ) (claimants' : List ℕ) where
    abbrev after_shared : Net V P
    after_shared = with_task (record net { granted = c }) t y

    shared_stepped : length claimants' ≡ c → c ≤ net.limit → ((k : ℕ) → k < length claimants' → get_or claimants' k 0 < length net.tasks) → ((u : ℕ) → u ≢ t → claimed_by claimants' u ≡ claimed_by claimants u)
        → (Refused net → (net.paused ≡ true) ⊎ (c ≡ net.limit)) → IsSharing work m net.limit claimants' ((net.paused ≡ true) ⊎ (c ≡ net.limit)) t (counted y)
        → y.done + busy y.position + net.granted ≡ (task_at work net t).done + busy (task_at work net t).position + c
        → IsShared work m after_shared claimants'
    shared_stepped all few real others refused new count = record {
      all = all;
      few = few;
      real = λ k below. (let h = real k below in let n = length-set net.tasks t (counted y) in omega (arith, h, n));
      each = λ u below. each u below (cases_eq u t);
      begun =
          let h = sum_by-set (λ (x : Task V). x.done + busy x.position) net.tasks t (counted y) (no_task work) within in
          let old = here.begun in omega (arith, h, old, count);
    } where
      each : (u : ℕ) → u < length (set net.tasks t (counted y)) → (u ≡ t) ⊎ (u ≢ t) → IsSharing work m net.limit claimants' ((net.paused ≡ true) ⊎ (c ≡ net.limit)) u (task_at work after_shared u)
      each u below (inl same) =
          let at : task_at work after_shared t ≡ counted y = get_or-set_same net.tasks t (counted y) (no_task work) within in
          subst (λ (i : ℕ). IsSharing work m net.limit claimants' ((net.paused ≡ true) ⊎ (c ≡ net.limit)) i (task_at work after_shared i)) (sym same)
          (subst (IsSharing work m net.limit claimants' ((net.paused ≡ true) ⊎ (c ≡ net.limit)) t) (sym at) new)
      each u below (inr off) =
          let at : task_at work after_shared u ≡ task_at work net u = get_or-set_other net.tasks t u (counted y) (no_task work) off in
          let room : u < length net.tasks = subst (λ (n : ℕ). u < n) (length-set net.tasks t (counted y)) below in
          let old = here.each u room in
          let x = task_at work net u in
          let z : IsSharing work m net.limit claimants' ((net.paused ≡ true) ⊎ (c ≡ net.limit)) u x = record {
            stage = old.stage;
            held = same_held claimants' u x.position x (others u off) old.held;
            moves = old.moves;
            shut = λ e. refused (old.shut e);
          } in
          subst (IsSharing work m net.limit claimants' ((net.paused ≡ true) ⊎ (c ≡ net.limit)) u) (sym at) z

  -- the task that moves
  module _ (w d k n : ℕ) (v : V) where
    abbrev pub sharing_at : Position → V → ℕ → Task V
    sharing_at p val i = record { stage = 0; worker = w; position = p; done = d; iteration = i; values = val; moves = n }

    -- before a unit of an iteration, or behind its last one
    shared_arrives : (p : Position) (u i : ℕ) (val : V) (before claimants' : List ℕ) (refused : Type 0) → length before < net.limit → i ≡ length before → claimed_by claimants' t ≡ claimed_by before t ++ length before ∷ []
        → m.within t (claimed_by before t) (length before) u val → u ≤ work.shape.units 0 → n + 1 ≡ d * (1 + work.shape.units 0) + (1 + u)
        → let y = arrives work u (sharing_at p val i) in IsSharing work m net.limit claimants' refused t (counted y) × (y.done + busy y.position ≡ d + 1)
    shared_arrives p u i val before claimants' refused below number took values few count = by_test (nat_lt u (work.shape.units 0)) refl where
      by_next : (q : Bool) → nat_lt (0 + 1) work.shape.stages ≡ q → u ≡ work.shape.units 0
          → let y = if q then sharing_at Sends val i else leaves work (sharing_at p val i) in IsSharing work m net.limit claimants' refused t (counted y) × (y.done + busy y.position ≡ d + 1)
      by_next true is all = absurd (grind (arith, nat_tests))
      by_next false is all = (
        record {
          stage = refl;
          held = subst (λ (ks : List ℕ). m.between t ks (work.leave 0 val)) (sym took) (law.leave t before val below (subst (λ (j : ℕ). m.within t (claimed_by before t) (length before) j val) all values));
          moves = omega (arith, count, all);
          shut = λ e. (cc);
        },
        omega arith,
      )

      by_test : (q : Bool) → nat_lt u (work.shape.units 0) ≡ q
          → let y = if q then sharing_at (Unit_at u) val i else if nat_lt (0 + 1) work.shape.stages then sharing_at Sends val i else leaves work (sharing_at p val i) in
          IsSharing work m net.limit claimants' refused t (counted y) × (y.done + busy y.position ≡ d + 1)
      by_test true is = (
        record {
          stage = refl;
          held = record { before = before; below = below; number = number; took = took; values = values; inner = grind (arith, nat_tests) };
          moves = count;
          shut = λ e. (cc);
        },
        refl,
      )
      by_test false is = by_next (nat_lt (0 + 1) work.shape.stages) refl (grind (arith, nat_tests))

    abbrev pub Onward : Position → Type 0
    Onward p = (claimants' : List ℕ) × IsShared work m (moved_at work net t (sharing_at p v k) p) claimants'

    shared_claim : task_at work net t ≡ sharing_at Claims v k → Onward Claims
    shared_claim at = by_test (is_granted net) refl where
      old : IsSharing work m net.limit claimants (Refused net) t (sharing_at Claims v k)
      old = subst (IsSharing work m net.limit claimants (Refused net) t) at (here.each t within)

      was : (task_at work net t).done + busy (task_at work net t).position ≡ d + 0
      was = ap (λ (x : Task V). x.done + busy x.position) at

      by_test : (q : Bool) → is_granted net ≡ q
          → (claimants' : List ℕ) × IsShared work m (if q then with_task (record net { granted = net.granted + 1 }) t (enters work net.granted work.no_packet (sharing_at Claims v k)) else with_task net t (closes work (sharing_at Claims v k))) claimants'
      by_test true is =
          let below = granted_below V P net is in
          let all = here.all in
          let low : length claimants < net.limit = omega (arith, below, all) in
          let moves = old.moves in
          let values = subst (λ (i : ℕ). m.within t (claimed_by claimants t) (length claimants) 0 (work.enter 0 i work.no_packet v)) all (law.enter t claimants v low old.held) in
          let h = shared_arrives Claims 0 net.granted (work.enter 0 net.granted work.no_packet v) claimants (t ∷ claimants) ((net.paused ≡ true) ⊎ (net.granted + 1 ≡ net.limit)) low (sym all) (claimed_here claimants t) values (omega arith) (omega (arith, moves)) in (
            t ∷ claimants,
            shared_stepped (enters work net.granted work.no_packet (sharing_at Claims v k)) (net.granted + 1) (t ∷ claimants) (omega (arith, all)) (omega (arith, below)) more_real
                (λ u off. claimed_other claimants t u (λ e. off (sym e)))
                (λ r. absurd (not_refused r is)) h.0 (let c = h.1 in omega (arith, c, was)),
          )
        where
          more_real : (k' : ℕ) → k' < length (t ∷ claimants) → get_or (t ∷ claimants) k' 0 < length net.tasks
          more_real zero below' = within
          more_real (suc k') below' = here.real k' (omega (arith, below'))

          not_refused : Refused net → is_granted net ≡ true → ⊥
          not_refused (inl mark) g = let off : is_granted net ≡ false = ap (λ (q : Bool). not q && nat_lt net.granted net.limit) mark in cc
          not_refused (inr full) g = let b = granted_below V P net g in omega (arith, b, full)
      by_test false is = (claimants, by_next (nat_lt (0 + 1) work.shape.stages) refl) where
        moves : n ≡ d * (1 + work.shape.units 0) + 0
        moves = old.moves

        by_next : (q : Bool) → nat_lt (0 + 1) work.shape.stages ≡ q
            → IsShared work m (with_task net t (if q then record { stage = 0; worker = w; position = SendsEnd (Rattle.net_flow.specs.Shapes.first_link (work.shape.parallel 0) w); done = d; iteration = k; values = v; moves = n } else sharing_at Finished v k)) claimants
        by_next true no' = absurd (grind (arith, nat_tests))
        by_next false no' =
            shared_stepped (sharing_at Finished v k) net.granted claimants here.all here.few here.real (λ u off. refl) (λ r. r)
            (record { stage = refl; held = old.held; moves = omega (arith, moves); shut = λ e. refused_is V P net is here.few }) (omega (arith, was))

    shared_unit : (u : ℕ) → task_at work net t ≡ sharing_at (Unit_at u) v k → Onward (Unit_at u)
    shared_unit u at =
        let old : IsSharing work m net.limit claimants (Refused net) t (sharing_at (Unit_at u) v k) = subst (IsSharing work m net.limit claimants (Refused net) t) at (here.each t within) in
        let was : (task_at work net t).done + busy (task_at work net t).position ≡ d + 1 = ap (λ (x : Task V). x.done + busy x.position) at in
        let i = old.held in
        let moves : n ≡ d * (1 + work.shape.units 0) + (1 + u) = old.moves in
        let inner = i.inner in
        let values = law.unit t i.before u v i.below inner i.values in
        let h = shared_arrives (Unit_at u) (u + 1) k (work.unit 0 u v) i.before claimants (Refused net) i.below i.number i.took values (omega (arith, inner)) (omega (arith, moves)) in
        (claimants, shared_stepped (arrives work (u + 1) (sharing_at (Unit_at u) (work.unit 0 u v) k)) net.granted claimants here.all here.few here.real (λ j off. refl) (λ r. r) h.0 (let c = h.1 in omega (arith, c, was)))

    pub shared_moves : (p : Position) → task_at work net t ≡ sharing_at p v k → is_finished p ≡ false → Onward p
    shared_moves Claims at goes = shared_claim at
    shared_moves (Unit_at u) at goes = shared_unit u at
    shared_moves Sends at goes = absurd (subst (IsSharing work m net.limit claimants (Refused net) t) at (here.each t within)).held
    shared_moves (Receives e) at goes = absurd (subst (IsSharing work m net.limit claimants (Refused net) t) at (here.each t within)).held
    shared_moves (SendsEnd i) at goes = absurd (subst (IsSharing work m net.limit claimants (Refused net) t) at (here.each t within)).held
    shared_moves Finished at goes = cc
