-- The units of a stage may be run apart, where the iterations of an entry may go through the stages.
use Rattle.std.proofs.Common.{◌≡◌, ◌≢◌, ◌⊎◌, inl, inr, ⊎_elim, ℕ, zero, suc, ◌+◌, ◌<◌, ◌≤◌, ◌==◌, Bool, true, false, not, pos, ◌+ℤ◌, ◌≤ℤ◌, List, [], ◌∷◌, length, get_or, refl, sym, ap, subst, arith}
use Rattle.std.specs.Prelude.{nat_lt}
use Rattle.std.specs.List.{Contains}
use Rattle.std.proofs.lemmas.Int.{ints}
use Rattle.std.proofs.lemmas.List.Elements.{All-contains, All-nil, Contains-append_cases}
use Rattle.std.proofs.Math.Nat.{mod-lt}
use Rattle.nona_tree.specs.declared.plans.Plan.{Plan}
use Rattle.nona_tree.specs.declared.trees.Loop.{Loop}
use Rattle.nona_tree.specs.declared.trees.Stmt.{Stmt, Let, Set, Fold, Put, FoldPut, If', While', For', Print}
use Rattle.nona_tree.specs.Entries.{Entry, local_at, in_iteration}
use Rattle.nona_tree.specs.Numbers.{IsI64}
use Rattle.nona_forms.specs.Affine.{among}
use Rattle.nona_plans.specs.declared.graphs.Local.{Local}
use Rattle.nona_plans.specs.declared.graphs.Tie.{Tie}
use Rattle.nona_plans.specs.Lawful.{stage_of, IsInOrder, AreLawful}
use Rattle.nona_plans.specs.Units.{uses, ties_of, local_of, locals_from, locals_of, graph_of}
use Rattle.nona_plans.specs.Walks.{IsUnit}
use Rattle.nona_plans.proofs.Leading.{both, or_left, or_right}
use Rattle.nona_fission.proofs.Tasks.{zero_number, scalar_number}
use Rattle.nona_fission.proofs.Untied.{in_among, same_number, no_and_yes}
use Rattle.nona_fission.specs.Fission.{Fission, MayBeApart, one_thread_local}
use Rattle.nona_fission.proofs.Copies.{no_copies}
use Rattle.nona_fission.proofs.Thread.{body_fits}
use Rattle.nona_fission.proofs.Ties.{local_apart}
use Rattle.net_pipe.specs.Entries.{MayPipe, staging_in, tasks_of, owner_of, sharing_at, carried_into, part_at}
use Rattle.net_pipe.specs.Works.{Staging, no_stage, sent_from, received_in, value_for}
use Rattle.net_pipe.proofs.Crossing.{crosses_behind, value_is, value_has}
use Rattle.net_pipe.proofs.InStages.{stage_in, Stands, stands_in, stage_stands, in_each, tied_together, parallel_free, declared_before, declaring_unit}

-- the numbers of units that declare a local

declares_at : (u : ℕ) (s : Stmt) (rest : List Stmt) (v : Local) → Contains (local_of u s rest) v → u ≤ v.unit
declares_at u (Let x e) rest v (zero, within, is) = let same : u ≡ v.unit = ap (λ (w : Local). w.unit) is in omega (arith, same)
declares_at u (Let x e) rest v (suc k, within, is) = absurd (omega (arith, within))
declares_at u (Set x e) rest v (k, within, is) = absurd (omega (arith, within))
declares_at u (Fold x f e) rest v (k, within, is) = absurd (omega (arith, within))
declares_at u (Put c e) rest v (k, within, is) = absurd (omega (arith, within))
declares_at u (FoldPut c f e) rest v (k, within, is) = absurd (omega (arith, within))
declares_at u (If' test p then_part q else_part) rest v (k, within, is) = absurd (omega (arith, within))
declares_at u (While' test p body at) rest v (k, within, is) = absurd (omega (arith, within))
declares_at u (For' x low high p body seq at) rest v (k, within, is) = absurd (omega (arith, within))
declares_at u (Print e at) rest v (k, within, is) = absurd (omega (arith, within))

declares_from : (u : ℕ) (ss : List Stmt) (v : Local) → Contains (locals_from u ss) v → u ≤ v.unit
declares_from u [] v (k, within, is) = absurd (omega (arith, within))
declares_from u (s ∷ ss) v c =
    ⊎_elim (λ here. declares_at u s ss v here) (λ later. let more = declares_from (suc u) ss v later in omega (arith, more)) (Contains-append_cases (local_of u s ss) (locals_from (suc u) ss) v c)

is_less : (a b : ℕ) → nat_lt a b ≡ true → a < b
is_less a b e = grind (arith, e)

owner_within : (parallel : Bool) (W k : ℕ) → 1 ≤ W → owner_of parallel W k < tasks_of parallel W
owner_within true W k some = mod-lt k some
owner_within false W k some = omega arith

nothing_in_order : (l : Loop) → IsInOrder (graph_of l) no_stage
nothing_in_order l = ((λ k within. absurd (omega (arith, within))), All-nil (IsUnit (length l.body)))

module _ (e : Entry) (p : Plan) (W c first limit : ℕ) (h : MayPipe e p W c first limit) where
  abbrev pub its_staging : Staging
  its_staging = staging_in e p W c first

  pub lawful_stages : AreLawful (graph_of e.looped) p.pipe
  lawful_stages = h.lawful.stages h.staged

  pub in_order : (s : ℕ) → IsInOrder (graph_of e.looped) (stage_in p.pipe s)
  in_order s = in_each (IsInOrder (graph_of e.looped)) (nothing_in_order e.looped) p.pipe s lawful_stages.ordered

  pub stands_unit : (s u : ℕ) → Stands p.pipe s u → IsUnit (length e.looped.body) u
  stands_unit s u at =
      All-contains (IsUnit (length e.looped.body)) (stage_in p.pipe s).units u (in_order s).1 (in_among u (stage_in p.pipe s).units at)

  within_limit : (count : ℕ) → count ≤ limit → (e.low +ℤ pos (first + count)) ≤ℤ e.last
  within_limit count few = let within = h.within in omega (arith, ints, within, few)

  -- the part that runs no unit
  abbrev no_part : Fission
  no_part = record {
    sharing = record { entry = e; first = first; count = limit; tasks = 1; owner = λ k. 0 };
    own = λ unit. false;
    folded = [];
    locals = λ k position. pos 0;
  }

  pub no_part_may : MayBeApart no_part
  no_part_may = record {
    entered = h.entered;
    steady = h.steady;
    calm = h.calm;
    guarded = h.guarded;
    within = h.within;
    owned = λ k below. omega arith;
    folds = no_copies e.looped;
    closed = λ t listed. refl;
    free = inr refl;
    given = λ k v unit below listed other own used. cc;
    numbers = λ k position below. zero_number;
  }

  -- the values of locals in one thread

  pub local_number : (k x : ℕ) → k < limit → IsI64 (local_at e (first + k) x)
  local_number k x below = scalar_number (in_iteration e (first + k)).store x (body_fits no_part no_part_may k below)

  pub given_number : (s k x : ℕ) → k < limit → IsI64 (value_for (received_in its_staging s) (carried_into e its_staging first s k) x)
  given_number zero k x below = zero_number
  given_number (suc s) k x below =
      value_has IsI64 zero_number (sent_from its_staging s) (one_thread_local (sharing_at e its_staging first 0 s) k) (λ id. local_number k id below) x

  -- no tie of a stage's unit is loop-carried, or the stage has one task
  abbrev IsFreeStage : ℕ → ℕ → Type 0
  IsFreeStage count s =
      ((t : Tie) → Contains (ties_of e.looped) t → Stands p.pipe s t.first → t.carried ≡ false) ⊎ ((sharing_at e its_staging first count s).tasks ≡ 1)

  free_stage : (count s : ℕ) (b : Bool) → (stage_in p.pipe s).sequential ≡ b → IsFreeStage count s
  free_stage count s true is = inr (ap (λ (b : Bool). tasks_of (not b) W) is)
  free_stage count s false is = inl (parallel_free e.looped p.pipe lawful_stages s is)

  empty_may : (s : ℕ) → MayBeApart (part_at e its_staging first 0 s)
  empty_may s = record {
    entered = h.entered;
    steady = h.steady;
    calm = h.calm;
    guarded = h.guarded;
    within = within_limit 0 (omega arith);
    owned = λ k below. absurd (omega (arith, below));
    folds = no_copies e.looped;
    closed = tied_together e.looped p.pipe lawful_stages s;
    free = free_stage 0 s (stage_in p.pipe s).sequential refl;
    given = λ k v unit below. absurd (omega (arith, below));
    numbers = λ k position below. absurd (omega (arith, below));
  }

  -- a local of an earlier stage that a unit of this stage or of a later one uses has come over the link

  pub came : (s k : ℕ) (v : Local) (unit j i : ℕ) → Contains (locals_of e.looped) v → v.assigned ≡ false → uses e.looped v unit ≡ true → j < s → Stands p.pipe j v.unit → s ≤ i → Stands p.pipe i unit
      → value_for (received_in its_staging s) (carried_into e its_staging first s k) v.id ≡ local_at e (first + k) v.id
  came zero k v unit j i listed plain used before declared behind own = absurd (omega (arith, before))
  came (suc s) k v unit j i listed plain used before declared behind own =
      value_is (sent_from its_staging s) (one_thread_local (sharing_at e its_staging first 0 s) k) v.id
      (subst (λ (links : List (List ℕ)). Contains (get_or links s []) v.id) (sym h.lawful.links)
      (crosses_behind e.looped v unit listed plain used [] p.pipe s (inr (j, omega (arith, before), declared)) (i, omega (arith, behind), own)))

  given_local : (s k : ℕ) (v : Local) (unit : ℕ) → Contains (locals_of e.looped) v → among v.unit (stage_in p.pipe s).units ≡ false → Stands p.pipe s unit → uses e.looped v unit ≡ true
      → (b : Bool) → v.assigned ≡ b → value_for (received_in its_staging s) (carried_into e its_staging first s k) v.id ≡ local_at e (first + k) v.id
  given_local s k v unit listed other own used true assigned =
      let is = stands_unit s unit own in
      let before = is_less v.unit unit (both (nat_lt v.unit unit) _ used).0 in
      let from = declares_from 1 e.looped.body v listed in
      absurd (local_apart (part_at e its_staging first 0 s) (empty_may s) unit v.unit v is (from, omega (arith, before, is.1)) own other listed assigned
      (or_right (unit == v.unit) (uses e.looped v unit) used) (or_left (v.unit == v.unit) (uses e.looped v v.unit) (same_number v.unit)))
  given_local s k v unit listed other own used false plain =
      let is = stands_unit s unit own in
      let declares = declaring_unit e.looped p.pipe lawful_stages v unit listed plain is used in
      let before = declared_before e.looped p.pipe lawful_stages v unit listed plain is used in
      let here = stands_in p.pipe s unit (lawful_stages.once unit is) own in
      let once = lawful_stages.once v.unit declares in
      let at = stage_stands p.pipe v.unit (omega (arith, once)) in
      let apart : stage_of v.unit p.pipe ≢ s = (λ same. no_and_yes (among v.unit (stage_in p.pipe s).units) (subst (λ (i : ℕ). Stands p.pipe i v.unit) same at.1) other) in
      came s k v unit (stage_of v.unit p.pipe) s listed plain used (omega (arith, before, here, apart)) at.1 (omega arith) own

  -- the units of a stage may be run apart, in so many of the iterations
  pub may_be_apart : (count s : ℕ) → count ≤ limit → MayBeApart (part_at e its_staging first count s)
  may_be_apart count s few = record {
    entered = h.entered;
    steady = h.steady;
    calm = h.calm;
    guarded = h.guarded;
    within = within_limit count few;
    owned = λ k below. owner_within (not (stage_in p.pipe s).sequential) W k h.some_worker;
    folds = no_copies e.looped;
    closed = tied_together e.looped p.pipe lawful_stages s;
    free = free_stage count s (stage_in p.pipe s).sequential refl;
    given = λ k v unit below listed other own used. given_local s k v unit listed other own used v.assigned refl;
    numbers = λ k position below. given_number s k position (omega (arith, below, few));
  }
