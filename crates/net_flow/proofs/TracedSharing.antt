-- The laws of tasks that share the claims and note their numbers.
use Rattle.std.proofs.Common.{◌≡◌, ◌<◌, ◌≤◌, ℕ, true, false, refl, ap, List, [], ◌∷◌, ◌++◌, length, get_or, arith, subst, Contains, ◌∙◌, sym}
use Rattle.net_flow.specs.Flow.{Position, Claims, Unit_at, Sends, Receives, SendsEnd, Finished}
use Rattle.net_flow.specs.Machines.{is_over, HasMover, RunsOut}
use Rattle.net_flow.specs.MoveCounts.{sharing_moves}
use Rattle.net_flow.specs.Net.{Net, task_at, step, paused_net, is_finished, moves_of, Task}
use Rattle.net_flow.specs.Sharing.{claimed_by, LawfulSharing, sharing_shape, HoldsShared}
use Rattle.net_flow.specs.Tracing.{tracing, noting_claims, traced_net, traced_machine, IsTracedSharing, IsClaimedOnce, notes_of, AreClaimants}
use Rattle.net_flow.proofs.BegunSharing.{begun_sharing}
use Rattle.net_flow.proofs.Claimants.{owner_of, one_owner}
use Rattle.net_flow.proofs.SharingMachine.{sharing_keeps, sharing_pauses, sharing_never_stuck, sharing_runs_out, sharing_kept_out, sharing_granted, sharing_moved}

module _ (W units limit : ℕ) where
  lawful : LawfulSharing (tracing (sharing_shape W units)) noting_claims limit
  lawful = record {
    enter = λ t claimants v below old. ap (λ (z : List ℕ). z ++ length claimants ∷ []) old;
    unit = λ t claimants u v below within old. old;
    leave = λ t claimants v below old. old;
  }

  pub shared_begins : IsTracedSharing W units limit (traced_net (sharing_shape W units) limit)
  shared_begins = begun_sharing (List ℕ) ℕ (tracing (sharing_shape W units)) noting_claims refl refl limit (λ s w. []) (λ t below. refl)

  module _ (net : Net (List ℕ) ℕ) (here : IsTracedSharing W units limit net) where
    pub shared_steps : (t : ℕ) → t < length net.tasks → is_finished (task_at (tracing (sharing_shape W units)) net t).position ≡ false
        → IsTracedSharing W units limit (step (tracing (sharing_shape W units)) net t)
    shared_steps t below goes = sharing_keeps (List ℕ) ℕ (tracing (sharing_shape W units)) noting_claims refl limit W lawful net t here below goes

    pub shared_pauses : IsTracedSharing W units limit (paused_net net)
    shared_pauses = sharing_pauses (List ℕ) ℕ (tracing (sharing_shape W units)) noting_claims refl limit W lawful net here

    pub shared_never_stuck : is_over (traced_machine (sharing_shape W units)) net ≡ false → HasMover (traced_machine (sharing_shape W units)) net
    shared_never_stuck going = sharing_never_stuck (List ℕ) ℕ (tracing (sharing_shape W units)) noting_claims refl limit W lawful net here going

    pub shared_runs_out : (end : Net (List ℕ) ℕ) × RunsOut (traced_machine (sharing_shape W units)) net end
    shared_runs_out = let h = sharing_runs_out (List ℕ) ℕ (tracing (sharing_shape W units)) noting_claims refl limit W lawful net here in (h.0, h.1)

    pub shared_ends : (end : Net (List ℕ) ℕ) → RunsOut (traced_machine (sharing_shape W units)) net end
        → IsTracedSharing W units limit end × (is_over (traced_machine (sharing_shape W units)) end ≡ true)
    shared_ends end out = sharing_kept_out (List ℕ) ℕ (tracing (sharing_shape W units)) noting_claims refl limit W lawful net end out here

    pub shared_moves : is_over (traced_machine (sharing_shape W units)) net ≡ true → moves_of net ≡ sharing_moves W units net.granted
    shared_moves over = sharing_moved (List ℕ) ℕ (tracing (sharing_shape W units)) noting_claims refl limit W lawful net here over

    pub shared_granted : 1 ≤ W → is_over (traced_machine (sharing_shape W units)) net ≡ true → (net.granted ≤ limit) × (net.paused ≡ false → net.granted ≡ limit)
    shared_granted some over = sharing_granted (List ℕ) ℕ (tracing (sharing_shape W units)) noting_claims refl limit W lawful net here over some

    -- the tasks have noted what they claimed
    noted_by : (t : ℕ) → t < length net.tasks → notes_of W units net t ≡ claimed_by here.claimants t
    noted_by t below = by_position x.position (here.sound.each t below).held where
      x : Task (List ℕ)
      x = task_at (tracing (sharing_shape W units)) net t

      by_position : (p : Position) → HoldsShared (tracing (sharing_shape W units)) noting_claims net.limit t here.claimants p x → notes_of W units net t ≡ claimed_by here.claimants t
      by_position Claims h = h
      by_position (Unit_at u) h = h.values ∙ sym h.took
      by_position Sends h = absurd h
      by_position (Receives e) h = absurd h
      by_position (SendsEnd i) h = absurd h
      by_position Finished h = h

    pub claimants_are : AreClaimants W units net here.claimants
    claimants_are = record {
      all = here.sound.all;
      real = λ k below. (let h = here.sound.real k below in let e = here.tasks in omega (arith, h, e));
      noted = λ t below. noted_by t (let e = here.tasks in omega (arith, below, e));
    }

    pub shared_claims : (claimants : List ℕ) × AreClaimants W units net claimants
    shared_claims = (here.claimants, claimants_are)

    -- each number was claimed by one of them
    pub shared_once : (k : ℕ) → k < net.granted → IsClaimedOnce W units net k
    shared_once k below =
        let c = claimants_are in
        let all = c.all in
        let h = owner_of here.claimants k (omega (arith, below, all)) in
        let t = get_or here.claimants h.0 0 in
        let there : t < W = c.real h.0 h.1 in (
          t,
          there,
          subst (λ (ks : List ℕ). Contains ks k) (sym (c.noted t there)) h.2,
          λ o low has. one_owner here.claimants k o t (subst (λ (ks : List ℕ). Contains ks k) (c.noted o low) has) h.2,
        )
