-- What a task that can step finds: itself, and the links that it has.
use Rattle.std.proofs.Common.{◌≡◌, ◌<◌, ◌≤◌, ◌+◌, ◌-◌, ℕ, zero, suc, nat_le, Bool, true, false, refl, sym, ap, subst, ◌∙◌, arith, ℤ, pos, ◌+ℤ◌, FitsSigned, w64, List, [], ◌∷◌, length, map, get_or, set}
use Rattle.std.proofs.Math.Nat.{mod-lt}
use Rattle.std.proofs.lemmas.Bool.Decides.{nat_tests}
use Rattle.std.proofs.lemmas.List.{length-map, get_or-map}
use Rattle.net_flow.specs.Dealing.{next_link}
use Rattle.net_flow.specs.Flow.{Position, Claims, Unit_at, Sends, Receives, SendsEnd, IsPositionOf}
use Rattle.net_flow.specs.Net.{Message, Packet, Net, Task, no_task, link_at, link_now, is_full}
use Rattle.net_flow.specs.Shapes.{HasLink, link_of}
use Rattle.net_flow.proofs.Numbering.{link_below}
use Rattle.nona_store.specs.Shares.{shared}
use Rattle.net_pipe.specs.Entries.{MayDo, MayStepAt}
use Rattle.net_pipe.specs.Steps.{CanStep}
use Rattle.net_pipe.specs.Works.{Values, shape_of}
use Rattle.net_pipe.specs.declared.pipeline.Pipeline.{Pipeline}
use Rattle.net_pipe.specs.Kept.{IsKept, MayMove, net_of, task_of, work_of}
use Rattle.net_pipe.specs.Links.{LinkView}
use Rattle.net_pipe.specs.Staged.{staging_of}
use Rattle.net_pipe.specs.Tasks.{TaskView, sent_of, task_over}

-- a list in which an element is put in its own place
same_place : {X : Type 0} (xs : List X) (i : ℕ) (x y : X) → get_or xs i x ≡ x → y ≡ x → set xs i y ≡ xs
same_place [] i x y is same = refl
same_place (z ∷ xs) zero x y is same = λ k. (same ∙ sym is) k ∷ xs
same_place (z ∷ xs) (suc i) x y is same = λ k. z ∷ same_place xs i x y is same k

-- a next link is one of a stage's
next_below : (p : Bool) (W w n : ℕ) → 1 ≤ W → w < W → next_link p W w n < W
next_below true W w n some low = low
next_below false W w n some low = mod-lt n (let h : 0 < W = omega (arith, some) in h)

has_low : (p : Bool) (W w l : ℕ) → w < W → HasLink p W w l → l < W
has_low true W w l low has = omega (arith, low, has)
has_low false W w l low has = has

is_most : (a b : ℕ) → a ≤ b → nat_le a b ≡ true
is_most a b h = grind (arith, h, nat_tests)

is_less : (a b : ℕ) → b < a → nat_le a b ≡ false
is_less a b h = grind (arith, h, nat_tests)

module _ (n : Pipeline) (t : ℕ) (there : t < length n.tasks.items) where
  -- the task, as it is read
  pub read : (x : TaskView) → get_or n.tasks.items t x ≡ x → task_of n t ≡ task_over n.store x
  read x is = get_or-map (task_over n.store) n.tasks.items t x (no_task (work_of n)) there ∙ ap (task_over n.store) is

  pub stage_read : (x : TaskView) (s : ℕ) → get_or n.tasks.items t x ≡ x → s ≡ x.stage → s ≡ (task_of n t).stage
  stage_read x s is e = e ∙ ap (λ (y : Task Values). y.stage) (sym (read x is))

  pub out_read : (x : TaskView) (k : ℕ) → get_or n.tasks.items t x ≡ x → k ≡ link_now (work_of n) (task_over n.store x) x.done
      → k ≡ link_now (work_of n) (task_of n t) (task_of n t).done
  out_read x k is e = e ∙ ap (λ (y : Task Values). link_now (work_of n) y y.done) (sym (read x is))

  pub in_read : (x : TaskView) (k e : ℕ) → get_or n.tasks.items t x ≡ x → k ≡ link_now (work_of n) (task_over n.store x) (x.done + e)
      → k ≡ link_now (work_of n) (task_of n t) ((task_of n t).done + e)
  in_read x k e is h = h ∙ ap (λ (y : Task Values). link_now (work_of n) y (y.done + e)) (sym (read x is))

  -- where its next step may be done it has the scalars around the loop alone before a claim or a receive, and may do the unit before one
  module _ (may : MayMove n t) (x : TaskView) (is : get_or n.tasks.items t x ≡ x) where
    may_read : (p : Position) → (task_of n t).position ≡ p → MayStepAt (staging_of n.stages) x.stage p (shared n.store x.share)
    may_read p at =
        subst (λ (y : Task Values). MayStepAt (staging_of n.stages) y.stage p y.values.store) (read x is)
        (subst (λ (q : Position). MayStepAt (staging_of n.stages) (task_of n t).stage q (task_of n t).values.store) at may.may)

    pub around_claim : (task_of n t).position ≡ Claims → length x.share.scalars ≡ n.stages.depth
    around_claim at = may_read Claims at

    pub around_receive : (e : ℕ) → (task_of n t).position ≡ Receives e → length x.share.scalars ≡ n.stages.depth
    around_receive e at = may_read (Receives e) at

    pub may_do : (u : ℕ) → (task_of n t).position ≡ Unit_at u → MayDo (staging_of n.stages) x.stage u (shared n.store x.share)
    may_do u at = may_read (Unit_at u) at

  -- the same of the task as it is read again
  pub stage_back : (f : ℕ → ℕ) (y : TaskView) (r : ℕ) → get_or n.tasks.items t y ≡ y → r ≡ f (task_of n t).stage → r ≡ f y.stage
  stage_back f y r is e = e ∙ ap (λ (z : Task Values). f z.stage) (read y is)

  pub out_back : (y : TaskView) (k : ℕ) → get_or n.tasks.items t y ≡ y → k ≡ link_now (work_of n) (task_of n t) (task_of n t).done
      → k ≡ link_now (work_of n) (task_over n.store y) y.done
  out_back y k is e = e ∙ ap (λ (z : Task Values). link_now (work_of n) z z.done) (read y is)

  pub in_back : (y : TaskView) (k e : ℕ) → get_or n.tasks.items t y ≡ y → k ≡ link_now (work_of n) (task_of n t) ((task_of n t).done + e)
      → k ≡ link_now (work_of n) (task_over n.store y) (y.done + e)
  in_back y k e is h = h ∙ ap (λ (z : Task Values). link_now (work_of n) z (z.done + e)) (read y is)

  pub sent_back : (x y : TaskView) (m : Message (List ℤ)) → get_or n.tasks.items t x ≡ x → get_or n.tasks.items t y ≡ y
      → m ≡ sent_of (work_of n) (task_over n.store x) → m ≡ sent_of (work_of n) (task_over n.store y)
  sent_back x y m here is e = e ∙ ap (sent_of (work_of n)) (sym (read x here) ∙ read y is)

  module _ (kept : IsKept n) (can : CanStep (staging_of n.stages) (net_of n) t) where
    link_there : (r k : ℕ) → r + 1 < (shape_of (staging_of n.stages)).stages → k < n.stages.workers → link_of (shape_of (staging_of n.stages)) r k < length n.links.items
    link_there r k within low =
        let below = link_below (shape_of (staging_of n.stages)) r k within low in
        let all = can.links in
        let many = length-map n.links.items (λ (l : LinkView). l.messages) in
        omega (arith, below, all, many)

    position_is : (p : Position) → (task_of n t).position ≡ p → IsPositionOf (shape_of (staging_of n.stages)) (task_of n t).stage (task_of n t).worker p
    position_is p at = subst (IsPositionOf (shape_of (staging_of n.stages)) (task_of n t).stage (task_of n t).worker) at can.position

    -- the link to which it sends
    sends_place : (r k : ℕ) → (task_of n t).position ≡ Sends → r ≡ (task_of n t).stage → k ≡ link_now (work_of n) (task_of n t) (task_of n t).done
        → (r + 1 < (shape_of (staging_of n.stages)).stages) × (k < n.stages.workers)
    sends_place r k at stage link =
        let inner : (task_of n t).stage + 1 < (shape_of (staging_of n.stages)).stages = position_is Sends at in
        let low = next_below ((shape_of (staging_of n.stages)).parallel (task_of n t).stage) n.stages.workers (task_of n t).worker (task_of n t).done kept.staged.some_worker can.worker in
        (omega (arith, inner, stage), omega (arith, low, link))

    pub sends_inside : (r k i : ℕ) → (task_of n t).position ≡ Sends → r ≡ (task_of n t).stage → k ≡ link_now (work_of n) (task_of n t) (task_of n t).done
        → i ≡ link_of (shape_of (staging_of n.stages)) r k → i < length n.links.items
    sends_inside r k i at stage link is = let p = sends_place r k at stage link in let h = link_there r k p.0 p.1 in omega (arith, h, is)

    -- the link from which it receives
    pub receives_place : (r k e : ℕ) → (task_of n t).position ≡ Receives e → r ≡ (task_of n t).stage - 1 → k ≡ link_now (work_of n) (task_of n t) ((task_of n t).done + e)
        → (r + 1 < (shape_of (staging_of n.stages)).stages) × (k < n.stages.workers)
    receives_place r k e at stage link =
        let inner = position_is (Receives e) at in
        let later : 0 < (task_of n t).stage = inner.0 in
        let few = can.stage in
        let low = next_below ((shape_of (staging_of n.stages)).parallel (task_of n t).stage) n.stages.workers (task_of n t).worker ((task_of n t).done + e) kept.staged.some_worker can.worker in
        (omega (arith, later, few, stage), omega (arith, low, link))

    pub receives_inside : (r k e i : ℕ) → (task_of n t).position ≡ Receives e → r ≡ (task_of n t).stage - 1
        → k ≡ link_now (work_of n) (task_of n t) ((task_of n t).done + e) → i ≡ link_of (shape_of (staging_of n.stages)) r k → i < length n.links.items
    receives_inside r k e i at stage link is = let p = receives_place r k e at stage link in let h = link_there r k p.0 p.1 in omega (arith, h, is)

    -- the link over which it sends an End
    pub ends_inside : (r k i : ℕ) → (task_of n t).position ≡ SendsEnd k → r ≡ (task_of n t).stage → i ≡ link_of (shape_of (staging_of n.stages)) r k → i < length n.links.items
    ends_inside r k i at stage is =
        let inner = position_is (SendsEnd k) at in
        let next : (task_of n t).stage + 1 < (shape_of (staging_of n.stages)).stages = inner.0 in
        let low = has_low ((shape_of (staging_of n.stages)).parallel (task_of n t).stage) n.stages.workers (task_of n t).worker k can.worker inner.1 in
        let h = link_there r k (omega (arith, next, stage)) low in omega (arith, h, is)

    -- a link, as it is read
    module _ (i : ℕ) (link : LinkView) (inside : i < length n.links.items) (here : get_or n.links.items i link ≡ link) where
      capacity_is : link.capacity ≡ n.stages.capacity
      capacity_is = sym (ap (λ (l : LinkView). l.capacity) here) ∙ kept.capacity i link inside

      linked_at : (r k : ℕ) → i ≡ link_of (shape_of (staging_of n.stages)) r k → link_at (work_of n) (net_of n) r k ≡ link.messages
      linked_at r k numbered =
          ap (λ (j : ℕ). get_or (map (λ (l : LinkView). l.messages) n.links.items) j []) (sym numbered)
          ∙ get_or-map (λ (l : LinkView). l.messages) n.links.items i link [] inside ∙ ap (λ (l : LinkView). l.messages) here

      -- whether it is full
      pub is_full_at : (r k : ℕ) → i ≡ link_of (shape_of (staging_of n.stages)) r k → link.capacity ≤ length link.messages → is_full (work_of n) (link_at (work_of n) (net_of n) r k) ≡ true
      is_full_at r k numbered full =
          ap (is_full (work_of n)) (linked_at r k numbered)
          ∙ is_most n.stages.capacity (length link.messages) (let e = capacity_is in omega (arith, e, full))

      pub has_room_at : (r k : ℕ) → i ≡ link_of (shape_of (staging_of n.stages)) r k → length link.messages < link.capacity → is_full (work_of n) (link_at (work_of n) (net_of n) r k) ≡ false
      has_room_at r k numbered room =
          ap (is_full (work_of n)) (linked_at r k numbered)
          ∙ is_less n.stages.capacity (length link.messages) (let e = capacity_is in omega (arith, e, room))

      -- the net with the link put in its own place
      pub links_same : (after : LinkView) → after ≡ link → map (λ (l : LinkView). l.messages) (set n.links.items i after) ≡ map (λ (l : LinkView). l.messages) n.links.items
      links_same after same = ap (map (λ (l : LinkView). l.messages)) (same_place n.links.items i link after here same)

      -- the index of a packet's iteration has 64 bits
      pub packet_fits : (r k number : ℕ) (values : List ℤ) (rest : List (Message (List ℤ))) → i ≡ link_of (shape_of (staging_of n.stages)) r k
          → r + 1 < (shape_of (staging_of n.stages)).stages → k < n.stages.workers → link.messages ≡ Packet number values ∷ rest
          → FitsSigned w64 (n.stages.from +ℤ pos number)
      packet_fits r k number values rest numbered within low is =
          kept.fits number (can.below r k number values rest within low (linked_at r k numbered ∙ is))

-- a net whose links are these
abbrev pub with_links : Net Values (List ℤ) → List (List (Message (List ℤ))) → Net Values (List ℤ)
with_links net ls = record net { links = ls }
