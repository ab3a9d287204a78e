-- A store that is settled from what the tasks saw is settled from what they leave: it is the one that one thread leaves.
use Rattle.std.proofs.Common.{◌≡◌, ℕ, zero, suc, ◌+◌, ◌<◌, Bool, true, false, ℤ, pos, List, [], ◌∷◌, length, map, get_or, refl, sym, ap, ◌∙◌, subst, arith, if◌then◌else◌}
use Rattle.std.specs.Prelude.{Some, None}
use Rattle.std.specs.Ordering.{int_eq}
use Rattle.std.proofs.lemmas.Bool.Decides.{Decides-int_eq}
use Rattle.std.proofs.lemmas.List.{get_or-map, length-map}
use Rattle.nona_num.specs.declared.folds.Fold.{Fold}
use Rattle.nona_num.specs.Folds.{join_of}
use Rattle.nona_tree.specs.declared.outcomes.Outcome.{Outcome}
use Rattle.nona_tree.specs.declared.outcomes.Outcome.TheVariants as outcome
use Rattle.nona_tree.specs.Entries.{Entry, after}
use Rattle.nona_tree.specs.Memory.{Memory, scalar_at, cell_at}
use Rattle.nona_tree.specs.Run.{Ran, done}
use Rattle.nona_plans.specs.Units.{reductions_of}
use Rattle.nona_fission.specs.Sharing.{Sharing, MayBeShared, IsSettled, store_before, turns_over, task_run, writes_cell, partial_of, joined_with}
use Rattle.nona_fission.specs.Fission.{whole_of}
use Rattle.nona_fission.proofs.Left.{thread_ends}
use Rattle.nona_fission.proofs.Whole.{whole_may, written_once, cells_keep, settled_is_behind}
use Rattle.net_flow.specs.Machines.{is_over}
use Rattle.net_flow.specs.Net.{Task, Net, net_machine, no_task, task_at}
use Rattle.net_flow.proofs.SharingMachine.{sharing_values}
use Rattle.net_share.specs.Entries.{MayShare, IsEntryNet, begun_in, meaning_in, work_in}
use Rattle.net_share.specs.Settled.{IsSettledFrom, settled_cell, joined_all}
use Rattle.net_share.proofs.Claimed.{claimed_is, owner_real}
use Rattle.net_share.proofs.EntryNets.{granted_few, lawful}
use Rattle.net_share.proofs.Listed.{listed, is_listed}
use Rattle.net_share.proofs.SharedOut.{shared_out, may_be_shared}

-- numbers that are joined in order

joined_first : (f : Fold) (now : ℤ) (part : ℕ → ℤ) (n : ℕ) → joined_with f (join_of f now (part 0)) (λ t. part (suc t)) n ≡ joined_with f now part (suc n)
joined_first f now part zero = refl
joined_first f now part (suc n) = ap (λ (v : ℤ). join_of f v (part (suc n))) (joined_first f now part n)

pub joined_list : (f : Fold) (now : ℤ) (vs : List ℤ) (part : ℕ → ℤ) → ((t : ℕ) → t < length vs → get_or vs t (pos 0) ≡ part t) → joined_all f now vs ≡ joined_with f now part (length vs)
joined_list f now [] part h = refl
joined_list f now (v ∷ vs) part h =
    let first : v ≡ part 0 = h 0 (omega arith) in
    ap (λ (u : ℤ). joined_all f (join_of f now u) vs) first
    ∙ joined_list f (join_of f now (part 0)) vs (λ t. part (suc t)) (λ t below. h (suc t) (omega (arith, below)))
    ∙ joined_first f now part (length vs)

-- a cell that is settled

by_test : (was v : ℤ) (b : Bool) → (b ≡ true → v ≡ was) → (if b then was else v) ≡ v
by_test was v true h = sym (h refl)
by_test was v false h = refl

-- values that are what the cell was change nothing
unchanged : (was now : ℤ) (vs : List ℤ) → ((t : ℕ) → t < length vs → get_or vs t (pos 0) ≡ was) → settled_cell was now vs ≡ now
unchanged was now [] h = refl
unchanged was now (v ∷ vs) h =
    ap (λ (b : Bool). settled_cell was (if b then now else v) vs) ((Decides-int_eq v was).1 (h 0 (omega arith)))
    ∙ unchanged was now vs (λ t below. h (suc t) (omega (arith, below)))

-- where only one of the values may differ from what the cell was, this is the cell's
one_changed : (was : ℤ) (vs : List ℤ) (t : ℕ) → t < length vs → ((u : ℕ) → u < length vs → (u ≡ t → ⊥) → get_or vs u (pos 0) ≡ was) → settled_cell was was vs ≡ get_or vs t (pos 0)
one_changed was [] t below h = absurd (omega (arith, below))
one_changed was (v ∷ vs) zero below h =
    unchanged was (if int_eq v was then was else v) vs (λ u within. h (suc u) (omega (arith, within)) (λ e. omega (arith, e)))
    ∙ by_test was v (int_eq v was) (Decides-int_eq v was).0
one_changed was (v ∷ vs) (suc t) below h =
    let first : v ≡ was = h 0 (omega arith) (λ e. omega (arith, e)) in
    ap (λ (x : ℤ). settled_cell was x vs) (by_test was v (int_eq v was) (Decides-int_eq v was).0 ∙ first)
    ∙ one_changed was vs t (omega (arith, below)) (λ u within apart. h (suc u) (omega (arith, within)) (λ e. apart (omega (arith, e))))

never : (b : Bool) → (b ≡ true → ⊥) → b ≡ false
never true h = absurd (h refl)
never false h = refl

none_and_some : (f : Fold) → Some f ≡ None → ⊥
none_and_some f e = cc

as_done : (r : Ran) → r.end ≡ outcome.Done → r ≡ done r.store
as_done r e = ap (λ (x : Outcome). let q : Ran = record { store = r.store; end = x } in q) e

module _ (e : Entry) (first limit W : ℕ) (net : Net Memory (Unit {0})) (m : Memory) (h : MayShare e first limit) (here : IsEntryNet e first limit W net) (over : is_over (net_machine (work_in e first W)) net ≡ true)
    (settled : IsSettledFrom (after e first).store (reductions_of e.looped) (map (λ (x : Task Memory). x.values) net.tasks) m) where
  -- the iterations that were granted, as the tasks claimed them
  abbrev granted : Sharing
  granted = shared_out e first 0 here.claimants (length here.claimants) W

  may : MayBeShared granted
  may =
      let few = granted_few e first limit W net here in
      let all = here.sound.all in
      may_be_shared e first limit 0 here.claimants (length here.claimants) W h (omega (arith, few, all))
      (owner_real 0 here.claimants W (λ k below. subst (λ (n : ℕ). get_or here.claimants k 0 < n) here.tasks (here.sound.real k below)))

  -- what the tasks saw
  abbrev views : List Memory
  views = map (λ (x : Task Memory). x.values) net.tasks

  run_is : (t : ℕ) → t < W → task_run granted t ≡ done (task_at (work_in e first W) net t).values
  run_is t below =
      ap (λ (ks : List ℕ). turns_over e first ks (begun_in e first)) (claimed_is 0 here.claimants t)
      ∙ sharing_values Memory (Unit {0}) (work_in e first W) (meaning_in e first) refl limit W (lawful e first limit W h) net here over t (subst (λ (n : ℕ). t < n) (sym here.tasks) below)

  count_seen : (see : Memory → ℤ) → length (map see views) ≡ W
  count_seen see = length-map views see ∙ length-map net.tasks (λ (x : Task Memory). x.values) ∙ here.tasks

  -- each of them is what a task leaves
  seen : (see : Memory → ℤ) (t : ℕ) → t < length (map see views) → get_or (map see views) t (pos 0) ≡ see (task_run granted t).store
  seen see t within =
      let below : t < W = subst (λ (n : ℕ). t < n) (count_seen see) within in
      let none = no_task (work_in e first W) in
      get_or-map see views t none.values (pos 0) (subst (λ (n : ℕ). t < n) (sym (length-map net.tasks (λ (x : Task Memory). x.values) ∙ here.tasks)) below)
      ∙ ap see (get_or-map (λ (x : Task Memory). x.values) net.tasks t none none.values (subst (λ (n : ℕ). t < n) (sym here.tasks) below))
      ∙ ap (λ (r : Ran). see r.store) (sym (run_is t below))

  is_settled : IsSettled granted m
  is_settled = record {
    depth = settled.depth;
    scalars = λ id below plain. (let depth = settled.depth in settled.scalars id (omega (arith, below, depth)) (λ f c. none_and_some f (sym (listed e.looped f id c) ∙ plain)));
    reductions = λ id f is.
        settled.reduced id f (is_listed e.looped f id is)
        ∙ joined_list f (scalar_at (store_before granted) id) (map (λ (v : Memory). scalar_at v id) views) (partial_of granted id) (seen (λ (v : Memory). scalar_at v id))
        ∙ ap (joined_with f (scalar_at (store_before granted) id) (partial_of granted id)) (count_seen (λ (v : Memory). scalar_at v id));
    arrays = settled.arrays;
    sizes = settled.sizes;
    written = λ t a p below writes. (
        let see = λ (v : Memory). cell_at v a p in
        let within : t < length (map see views) = subst (λ (n : ℕ). t < n) (sym (count_seen see)) below in
        settled.cells a p
        ∙ one_changed (cell_at (store_before granted) a p) (map see views) t within
        (λ u inside apart. seen see u inside ∙ cells_keep granted may u a p (never (writes_cell granted u a p) (λ is. apart (written_once granted may u t a p is writes))))
        ∙ seen see t within);
    left = λ a p none. (
        let see = λ (v : Memory). cell_at v a p in
        settled.cells a p
        ∙ unchanged (cell_at (store_before granted) a p) (cell_at (store_before granted) a p) (map see views)
        (λ u inside. seen see u inside ∙ cells_keep granted may u a p (none u (subst (λ (n : ℕ). u < n) (count_seen see) inside))));
    printed = settled.printed;
  }

  pub settled_is_done : after e (first + net.granted) ≡ done m
  settled_is_done =
      ap (λ (k : ℕ). after e (first + k)) (sym here.sound.all)
      ∙ as_done (after e (first + length here.claimants)) (thread_ends (whole_of granted) (whole_may granted may))
      ∙ ap done (sym (settled_is_behind granted m may is_settled))
