-- What a move of one task makes of the net.
use Rattle.std.proofs.Common.{◌≡◌, ◌<◌, ◌+◌, ◌-◌, nat_le, ℕ, Bool, true, false, sym, ap, ◌∙◌, refl, ℤ, List, [], ◌∷◌, ◌++◌, length, map, get_or, set, if◌then◌else◌}
use Rattle.std.proofs.lemmas.List.{get_or-map, map-set}
use Rattle.nona_tree.specs.Memory.{Memory}
use Rattle.net_flow.specs.Flow.{Position, Claims, Unit_at, Sends, Receives, SendsEnd}
use Rattle.net_flow.specs.Net.{Work, Task, Net, Message, Packet, End, no_task, task_at, link_at, link_now, enters, closes, leaves, takes_end, passes_end, with_task, with_link, is_granted, is_full, is_empty, waits_at, moved_at, after_receive, after_send}
use Rattle.net_flow.specs.Shapes.{link_of}
use Rattle.net_pipe.specs.Works.{Values}
use Rattle.net_pipe.specs.Links.{LinkView}
use Rattle.net_pipe.specs.Tasks.{TaskView, task_over, counted, unit_done, sent_of}

-- a net of these tasks over a store, and these links
abbrev pub net_with : ℕ → ℕ → Bool → Memory → List TaskView → List LinkView → ℕ → Net Values (List ℤ)
net_with granted limit paused m xs ls waits = record {
  granted = granted;
  limit = limit;
  paused = paused;
  tasks = map (task_over m) xs;
  links = map (λ (l : LinkView). l.messages) ls;
  waits = waits;
}

-- the same of tasks and links as a net has them
abbrev net_of_these : ℕ → ℕ → Bool → List (Task Values) → List (List (Message (List ℤ))) → ℕ → Net Values (List ℤ)
net_of_these granted limit paused ts ls waits = record { granted = granted; limit = limit; paused = paused; tasks = ts; links = ls; waits = waits }

-- where one reads a task's move at the position that it has
pub at_position : (work : Work Values (List ℤ)) (net new : Net Values (List ℤ)) (t : ℕ) (p : Position) → (task_at work net t).position ≡ p
    → waits_at work net (task_at work net t) p ≡ false → new ≡ moved_at work net t (task_at work net t) p
    → let x = task_at work net t in (waits_at work net x x.position ≡ false) × (new ≡ moved_at work net t x x.position)
at_position work net new t p is goes moved =
    let x = task_at work net t in
    (ap (waits_at work net x) is ∙ goes, moved ∙ ap (moved_at work net t x) (sym is))

pub waits_here : (work : Work Values (List ℤ)) (net new : Net Values (List ℤ)) (t : ℕ) (p : Position) → (task_at work net t).position ≡ p
    → waits_at work net (task_at work net t) p ≡ true → new ≡ net
    → let x = task_at work net t in (waits_at work net x x.position ≡ true) × (new ≡ net)
waits_here work net new t p is stops same = let x = task_at work net t in (ap (waits_at work net x) is ∙ stops, same)

module _ (work : Work Values (List ℤ)) (g l : ℕ) (p : Bool) (m : Memory) (xs : List TaskView) (ls : List LinkView) (w t : ℕ) (old : TaskView) (below : t < length xs) (is : get_or xs t old ≡ old) where
  abbrev net : Net Values (List ℤ)
  net = net_with g l p m xs ls w

  -- the task as the net has it
  pub at : task_at work net t ≡ task_over m old
  at = get_or-map (task_over m) xs t old (no_task work) below ∙ ap (task_over m) is

  -- the tasks, where one of them is another one
  changed : (k : ℕ) (ks : List LinkView) (new : TaskView) (y : Task Values) → task_over m new ≡ counted y
      → net_with k l p m (set xs t new) ks w ≡ with_task (net_with k l p m xs ks w) t y
  changed k ks new y eq =
      ap (λ (ts : List (Task Values)). net_of_these k l p ts (map (λ (z : LinkView). z.messages) ks) w)
      (map-set (task_over m) xs t new ∙ ap (set (map (task_over m) xs) t) eq)

  -- the links, where one of them is another one
  relinked : (k i : ℕ) (link : LinkView) (ms : List (Message (List ℤ))) → link.messages ≡ ms
      → net_with k l p m xs (set ls i link) w ≡ record (net_with k l p m xs ls w) { links = set (map (λ (z : LinkView). z.messages) ls) i ms }
  relinked k i link ms eq =
      ap (λ (ks : List (List (Message (List ℤ)))). net_of_these k l p (map (task_over m) xs) ks w)
      (map-set (λ (z : LinkView). z.messages) ls i link ∙ ap (set (map (λ (z : LinkView). z.messages) ls) i) eq)

  -- a claim that is granted
  pub granted_is : (new : TaskView) → is_granted net ≡ true → task_over m new ≡ counted (enters work g work.no_packet (task_over m old))
      → net_with (g + 1) l p m (set xs t new) ls w ≡ moved_at work net t (task_at work net t) Claims
  granted_is new may eq =
      changed (g + 1) ls new (enters work g work.no_packet (task_over m old)) eq
      ∙ ap (λ (x : Task Values). with_task (record net { granted = g + 1 }) t (enters work g work.no_packet x)) (sym at)
      ∙ ap (λ (q : Bool). if q then with_task (record net { granted = net.granted + 1 }) t (enters work net.granted work.no_packet (task_at work net t)) else with_task net t (closes work (task_at work net t))) (sym may)

  -- a claim that is refused
  pub refused_is : (new : TaskView) → is_granted net ≡ false → task_over m new ≡ counted (closes work (task_over m old))
      → net_with g l p m (set xs t new) ls w ≡ moved_at work net t (task_at work net t) Claims
  refused_is new may eq =
      changed g ls new (closes work (task_over m old)) eq
      ∙ ap (λ (x : Task Values). with_task net t (closes work x)) (sym at)
      ∙ ap (λ (q : Bool). if q then with_task (record net { granted = net.granted + 1 }) t (enters work net.granted work.no_packet (task_at work net t)) else with_task net t (closes work (task_at work net t))) (sym may)

  -- a unit
  pub unit_is : (u : ℕ) (new : TaskView) → task_over m new ≡ counted (unit_done work u (task_over m old))
      → net_with g l p m (set xs t new) ls w ≡ moved_at work net t (task_at work net t) (Unit_at u)
  unit_is u new eq =
      changed g ls new (unit_done work u (task_over m old)) eq
      ∙ ap (λ (x : Task Values). with_task net t (unit_done work u x)) (sym at)

  -- a link, as the net has it
  module _ (r k i : ℕ) (link : LinkView) (inside : i < length ls) (here : get_or ls i link ≡ link) (numbered : i ≡ link_of work.shape r k) where
    pub linked : link_at work net r k ≡ link.messages
    linked =
        ap (λ (j : ℕ). get_or (map (λ (z : LinkView). z.messages) ls) j []) (sym numbered)
        ∙ get_or-map (λ (z : LinkView). z.messages) ls i link [] inside ∙ ap (λ (z : LinkView). z.messages) here

    -- a message more at its end, and the sender is another one
    sent : (new : TaskView) (after : LinkView) (message : Message (List ℤ)) (y : Task Values) → after.messages ≡ link.messages ++ message ∷ [] → task_over m new ≡ counted y
        → net_with g l p m (set xs t new) (set ls i after) w ≡ with_task (after_send work net r k message) t y
    sent new after message y eq eqt =
        changed g (set ls i after) new y eqt
        ∙ ap (λ (n : Net Values (List ℤ)). with_task n t y)
        (relinked g i after (link_at work net r k ++ message ∷ []) (eq ∙ ap (λ (zs : List (Message (List ℤ))). zs ++ message ∷ []) (sym linked))
        ∙ ap (λ (j : ℕ). net_of_these g l p (map (task_over m) xs) (set (map (λ (z : LinkView). z.messages) ls) j (link_at work net r k ++ message ∷ [])) w) numbered)

    -- the first one is gone, and the receiver is another one
    received : (new : TaskView) (after : LinkView) (rest : List (Message (List ℤ))) (y : Task Values) → after.messages ≡ rest → task_over m new ≡ counted y
        → net_with g l p m (set xs t new) (set ls i after) w ≡ with_task (with_link work net r k rest) t y
    received new after rest y eq eqt =
        changed g (set ls i after) new y eqt
        ∙ ap (λ (n : Net Values (List ℤ)). with_task n t y)
        (relinked g i after rest eq
        ∙ ap (λ (j : ℕ). net_of_these g l p (map (task_over m) xs) (set (map (λ (z : LinkView). z.messages) ls) j rest) w) numbered)

    -- whether it is full
    pub full_is : (b : Bool) → nat_le work.shape.capacity (length link.messages) ≡ b → is_full work (link_at work net r k) ≡ b
    full_is b e = ap (is_full work) linked ∙ e

    -- a packet is sent
    pub packet_sent : (new : TaskView) (after : LinkView) → r ≡ old.stage → k ≡ link_now work (task_over m old) old.done
        → after.messages ≡ link.messages ++ sent_of work (task_over m old) ∷ [] → task_over m new ≡ counted (leaves work (task_over m old))
        → net_with g l p m (set xs t new) (set ls i after) w ≡ moved_at work net t (task_at work net t) Sends
    packet_sent new after stage link eq eqt =
        sent new after (sent_of work (task_over m old)) (leaves work (task_over m old)) eq eqt
        ∙ (λ j. with_task (after_send work net (stage j) (link j) (sent_of work (task_over m old))) t (leaves work (task_over m old)))
        ∙ ap (λ (x : Task Values). moved_at work net t x Sends) (sym at)

    -- an End is sent
    pub end_sent : (new : TaskView) (after : LinkView) → r ≡ old.stage
        → after.messages ≡ link.messages ++ End ∷ [] → task_over m new ≡ counted (passes_end work k (task_over m old))
        → net_with g l p m (set xs t new) (set ls i after) w ≡ moved_at work net t (task_at work net t) (SendsEnd k)
    end_sent new after stage eq eqt =
        sent new after End (passes_end work k (task_over m old)) eq eqt
        ∙ ap (λ (s : ℕ). with_task (after_send work net s k End) t (passes_end work k (task_over m old))) stage
        ∙ ap (λ (x : Task Values). moved_at work net t x (SendsEnd k)) (sym at)

    -- what a receive makes of it, where these are the messages of its link
    receives : (e : ℕ) (ms : List (Message (List ℤ))) → r ≡ old.stage - 1 → k ≡ link_now work (task_over m old) (old.done + e) → link.messages ≡ ms
        → after_receive work net t (task_over m old) e k ms ≡ moved_at work net t (task_at work net t) (Receives e)
    receives e ms stage lane eq =
        ap (after_receive work net t (task_over m old) e k) (sym (linked ∙ eq))
        ∙ (λ j. after_receive work net t (task_over m old) e (lane j) (link_at work net (stage j) (lane j)))
        ∙ ap (λ (x : Task Values). moved_at work net t x (Receives e)) (sym at)

    -- a packet is received
    pub packet_received : (e number : ℕ) (values : List ℤ) (new : TaskView) (after : LinkView) → r ≡ old.stage - 1 → k ≡ link_now work (task_over m old) (old.done + e)
        → link.messages ≡ Packet number values ∷ after.messages → task_over m new ≡ counted (enters work number values (task_over m old))
        → net_with g l p m (set xs t new) (set ls i after) w ≡ moved_at work net t (task_at work net t) (Receives e)
    packet_received e number values new after stage lane eq eqt =
        received new after after.messages (enters work number values (task_over m old)) refl eqt
        ∙ ap (λ (s : ℕ). with_task (with_link work net s k after.messages) t (enters work number values (task_over m old))) stage
        ∙ receives e (Packet number values ∷ after.messages) stage lane eq

    -- an End is received
    pub end_received : (e : ℕ) (new : TaskView) (after : LinkView) → r ≡ old.stage - 1 → k ≡ link_now work (task_over m old) (old.done + e)
        → link.messages ≡ End ∷ after.messages → task_over m new ≡ counted (takes_end work e (task_over m old))
        → net_with g l p m (set xs t new) (set ls i after) w ≡ moved_at work net t (task_at work net t) (Receives e)
    end_received e new after stage lane eq eqt =
        received new after after.messages (takes_end work e (task_over m old)) refl eqt
        ∙ ap (λ (s : ℕ). with_task (with_link work net s k after.messages) t (takes_end work e (task_over m old))) stage
        ∙ receives e (End ∷ after.messages) stage lane eq

    -- whether it is empty
    pub empty_is : (e : ℕ) (ms : List (Message (List ℤ))) → r ≡ old.stage - 1 → k ≡ link_now work (task_over m old) (old.done + e) → link.messages ≡ ms
        → is_empty ms ≡ waits_at work net (task_at work net t) (Receives e)
    empty_is e ms stage lane eq =
        ap is_empty (sym (linked ∙ eq))
        ∙ (λ j. is_empty (link_at work net (stage j) (lane j)))
        ∙ ap (λ (x : Task Values). waits_at work net x (Receives e)) (sym at)
