-- What steps do to a net, whatever stands of it.
use Rattle.std.proofs.Common.{◌≡◌, ◌<◌, ◌+◌, ◌-◌, ℕ, suc, Bool, true, false, not, ◌&&◌, nat_lt, refl, sym, ap, subst, ◌∙◌, arith, List, [], ◌∷◌, length, length-set, if◌then◌else◌}
use Rattle.std.proofs.lemmas.List.Sums.{sum_by-set}
use Rattle.net_flow.specs.Flow.{Position, Claims, Unit_at, Sends, Receives, SendsEnd, Finished}
use Rattle.net_flow.specs.Net.{Message, Packet, End, Work, Task, Net, no_task, task_at, link_at, link_now, is_empty, waits_at, leaves, arrives, enters, closes, takes_end, passes_end, with_task, with_link, is_granted, after_receive, moved_at, step, is_finished, net_machine, moves_of, after_send, waited}
use Rattle.net_flow.specs.Shapes.{links_of, first_link}
use Rattle.net_flow.proofs.MachineProgress.{Alike}

module _ (V P : Type 0) (work : Work V P) where
  -- the net after a step that moves: one task is changed, and counts one move more
  record Formed (net : Net V P) (t : ℕ) (x : Task V) (next : Net V P) : Type 0 where
    granted : ℕ
    links : List (List (Message P))
    task : Task V
    is_it : next ≡ with_task (record net { granted = granted; links = links }) t task
    same_moves : task.moves ≡ x.moves

  arrives_moves : (u : ℕ) (x : Task V) → (arrives work u x).moves ≡ x.moves
  arrives_moves u x = by_test (nat_lt u (work.shape.units x.stage)) where
    by_next : (q : Bool) → (let y : Task V = if q then record x { position = Sends } else leaves work x in y.moves) ≡ x.moves
    by_next true = refl
    by_next false = refl

    by_test : (q : Bool) → (let y : Task V = if q then record x { position = Unit_at u } else if nat_lt (x.stage + 1) work.shape.stages then record x { position = Sends } else leaves work x in y.moves) ≡ x.moves
    by_test true = refl
    by_test false = by_next (nat_lt (x.stage + 1) work.shape.stages)

  closes_moves : (x : Task V) → (closes work x).moves ≡ x.moves
  closes_moves x = by_test (nat_lt (x.stage + 1) work.shape.stages) where
    by_test : (q : Bool) → (let y : Task V = if q then record x { position = SendsEnd (first_link (work.shape.parallel x.stage) x.worker) } else record x { position = Finished } in y.moves) ≡ x.moves
    by_test true = refl
    by_test false = refl

  took_moves : (e : ℕ) (x : Task V) → (takes_end work e x).moves ≡ x.moves
  took_moves e x = by_test (nat_lt (e + 1) (links_of (work.shape.parallel x.stage) work.shape.workers)) where
    by_test : (q : Bool) → (let y : Task V = if q then record x { position = Receives (suc e) } else closes work x in y.moves) ≡ x.moves
    by_test true = refl
    by_test false = closes_moves x

  sent_moves : (i : ℕ) (x : Task V) → (passes_end work i x).moves ≡ x.moves
  sent_moves i x = by_test (nat_lt (i + 1) (first_link (work.shape.parallel x.stage) x.worker + links_of (work.shape.parallel x.stage) work.shape.workers)) where
    by_test : (q : Bool) → (let y : Task V = if q then record x { position = SendsEnd (i + 1) } else record x { position = Finished } in y.moves) ≡ x.moves
    by_test true = refl
    by_test false = refl

  formed : (net : Net V P) (t : ℕ) (x : Task V) (p : Position) → is_finished p ≡ false → waits_at work net x p ≡ false → Formed net t x (moved_at work net t x p)
  formed net t x Claims goes free = by_test (is_granted net) where
    by_test : (q : Bool) → Formed net t x (if q then with_task (record net { granted = net.granted + 1 }) t (enters work net.granted work.no_packet x) else with_task net t (closes work x))
    by_test true = record { granted = net.granted + 1; links = net.links; task = enters work net.granted work.no_packet x; is_it = refl; same_moves = arrives_moves 0 (record x { iteration = net.granted; values = work.enter x.stage net.granted work.no_packet x.values }) }
    by_test false = record { granted = net.granted; links = net.links; task = closes work x; is_it = refl; same_moves = closes_moves x }
  formed net t x (Unit_at u) goes free = record {
    granted = net.granted;
    links = net.links;
    task = arrives work (u + 1) (record x { values = work.unit x.stage u x.values });
    is_it = refl;
    same_moves = arrives_moves (u + 1) (record x { values = work.unit x.stage u x.values });
  }
  formed net t x Sends goes free = record {
    granted = net.granted;
    links = (after_send work net x.stage (link_now work x x.done) (Packet x.iteration (work.packet x.stage x.values))).links;
    task = leaves work x;
    is_it = refl;
    same_moves = refl;
  }
  formed net t x (Receives e) goes free = by_link (link_at work net (x.stage - 1) (link_now work x (x.done + e))) free where
    by_link : (link : List (Message P)) → is_empty link ≡ false → Formed net t x (after_receive work net t x e (link_now work x (x.done + e)) link)
    by_link [] some = cc
    by_link (Packet k p ∷ rest) some = record {
      granted = net.granted;
      links = (with_link work net (x.stage - 1) (link_now work x (x.done + e)) rest).links;
      task = enters work k p x;
      is_it = refl;
      same_moves = arrives_moves 0 (record x { iteration = k; values = work.enter x.stage k p x.values });
    }
    by_link (End ∷ rest) some = record {
      granted = net.granted;
      links = (with_link work net (x.stage - 1) (link_now work x (x.done + e)) rest).links;
      task = takes_end work e x;
      is_it = refl;
      same_moves = took_moves e x;
    }
  formed net t x (SendsEnd i) goes free = record {
    granted = net.granted;
    links = (after_send work net x.stage i End).links;
    task = passes_end work i x;
    is_it = refl;
    same_moves = sent_moves i x;
  }
  formed net t x Finished goes free = cc

  -- so there is one move more, and as many tasks
  formed_rises : (net : Net V P) (t : ℕ) (next : Net V P) → t < length net.tasks → Formed net t (task_at work net t) next → (moves_of next ≡ moves_of net + 1) × (length next.tasks ≡ length net.tasks)
  formed_rises net t next below f =
      let new = with_task (record net { granted = f.granted; links = f.links }) t f.task in
      let y : Task V = record f.task { moves = f.task.moves + 1 } in
      let h = sum_by-set (λ (x : Task V). x.moves) net.tasks t y (no_task work) below in
      let same = f.same_moves in
      let a : moves_of new ≡ moves_of net + 1 = omega (arith, h, same) in
      let e = f.is_it in
      (ap (λ (n : Net V P). moves_of n) e ∙ a, ap (λ (n : Net V P). length n.tasks) e ∙ length-set net.tasks t y)

  pub rises : (net : Net V P) (t : ℕ) → t < length net.tasks → is_finished (task_at work net t).position ≡ false → waits_at work net (task_at work net t) (task_at work net t).position ≡ false
      → (moves_of (step work net t) ≡ moves_of net + 1) × (length (step work net t).tasks ≡ length net.tasks)
  rises net t below goes free =
      let x = task_at work net t in
      let h = formed_rises net t (moved_at work net t x x.position) below (formed net t x x.position goes free) in
      let e : step work net t ≡ moved_at work net t x x.position = ap (λ (q : Bool). if q then waited net else moved_at work net t x x.position) free in
      (ap (λ (n : Net V P). moves_of n) e ∙ h.0, ap (λ (n : Net V P). length n.tasks) e ∙ h.1)

  pub limit_kept : (net : Net V P) (t : ℕ) → is_finished (task_at work net t).position ≡ false → (step work net t).limit ≡ net.limit
  limit_kept net t goes = by_waits (waits_at work net (task_at work net t) (task_at work net t).position) refl where
    by_waits : (q : Bool) → waits_at work net (task_at work net t) (task_at work net t).position ≡ q
        → (let n : Net V P = if q then waited net else moved_at work net t (task_at work net t) (task_at work net t).position in n.limit) ≡ net.limit
    by_waits true w = refl
    by_waits false w = let f = formed net t (task_at work net t) (task_at work net t).position goes w in ap (λ (n : Net V P). n.limit) f.is_it

  pub rest : (n : Net V P) (t : ℕ) → waits_at work n (task_at work n t) (task_at work n t).position ≡ true → Alike (Net V P) (net_machine work) moves_of n (step work n t)
  rest n t wait =
      let e : step work n t ≡ waited n = ap (λ (q : Bool). if q then waited n else moved_at work n t (task_at work n t) (task_at work n t).position) wait in
      subst (Alike (Net V P) (net_machine work) moves_of n) (sym e) (record { tasks = refl; moved = refl; finished = λ u. refl; waits = λ u. refl })

  -- a pause mark stays, and no claim is granted after it
  pub pause_holds : (net : Net V P) (t : ℕ) → net.paused ≡ true → ((step work net t).paused ≡ true) × ((step work net t).granted ≡ net.granted)
  pause_holds net t mark = by_waits (waits_at work net (task_at work net t) (task_at work net t).position) where
    by_position : (x : Task V) (p : Position) → ((moved_at work net t x p).paused ≡ true) × ((moved_at work net t x p).granted ≡ net.granted)
    by_position x Claims =
        let off : is_granted net ≡ false = ap (λ (q : Bool). not q && nat_lt net.granted net.limit) mark in
        let e : moved_at work net t x Claims ≡ with_task net t (closes work x) =
        ap (λ (q : Bool). if q then with_task (record net { granted = net.granted + 1 }) t (enters work net.granted work.no_packet x) else with_task net t (closes work x)) off in
        (ap (λ (n : Net V P). n.paused) e ∙ mark, ap (λ (n : Net V P). n.granted) e)
    by_position x (Unit_at u) = (mark, refl)
    by_position x Sends = (mark, refl)
    by_position x (Receives e) = by_link (link_at work net (x.stage - 1) (link_now work x (x.done + e))) where
      by_link : (link : List (Message P)) → let n = after_receive work net t x e (link_now work x (x.done + e)) link in (n.paused ≡ true) × (n.granted ≡ net.granted)
      by_link [] = (mark, refl)
      by_link (Packet k p ∷ rest) = (mark, refl)
      by_link (End ∷ rest) = (mark, refl)
    by_position x (SendsEnd i) = (mark, refl)
    by_position x Finished = (mark, refl)

    by_waits : (q : Bool) → let n : Net V P = if q then waited net else moved_at work net t (task_at work net t) (task_at work net t).position in (n.paused ≡ true) × (n.granted ≡ net.granted)
    by_waits true = (mark, refl)
    by_waits false = by_position (task_at work net t) (task_at work net t).position
