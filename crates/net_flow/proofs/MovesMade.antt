-- How often the tasks of a pipeline move.
use Rattle.std.proofs.Common.{◌≡◌, ◌≢◌, ◌⊎◌, ◌<◌, ◌≤◌, ◌+◌, ◌-◌, ◌*◌, ◌%◌, ℕ, zero, suc, Bool, true, false, nat_lt, refl, sym, ap, subst, subst₂, ◌∙◌, arith, inl, inr, if◌then◌else◌}
use Rattle.std.proofs.lemmas.Bool.{cases_eq}
use Rattle.std.proofs.lemmas.Bool.Decides.{nat_tests}
use Rattle.std.proofs.Math.Nat.{mod-lt}
use Rattle.net_flow.specs.Dealing.{dealt, due}
use Rattle.net_flow.specs.Flow.{Position, Unit_at, Sends, Receives, SendsEnd, Finished, Progress, Flow, one_if, is_closed, IsPositionOf, IsFlow, idle}
use Rattle.net_flow.specs.MoveCounts.{to_close, to_end, beside, made, per_iteration}
use Rattle.net_flow.specs.Shapes.{Shape, IsPipeline, IsTask, HasLink, IsWorker, links_of, first_link, sum_to, tasks_in}
use Rattle.net_flow.proofs.MessageCounts.{at_idle}
use Rattle.net_flow.proofs.Dealing.{dealt_none, dealt_here, dealt_other}
use Rattle.net_flow.proofs.FlowSteps.{behind, arrived, closing, took_end, sent_end, Advances, claims_one, claims_none, runs_unit, sends_packet, receives_packet, receives_end, sends_end}
use Rattle.net_flow.proofs.TaskKept.{at_head, packet_is_due, end_is_last}

-- how often the tasks of a stage have moved
abbrev pub made_in : Shape → Flow → ℕ → ℕ
made_in shape f s = sum_to (tasks_in (shape.parallel s) shape.workers) (λ w. made shape s w (f s w))

-- how often all tasks have moved
abbrev pub made_by_all : Shape → Flow → ℕ
made_by_all shape f = sum_to shape.stages (made_in shape f)

-- sums
pub sum_same : (n : ℕ) (f g : ℕ → ℕ) → ((w : ℕ) → w < n → f w ≡ g w) → sum_to n f ≡ sum_to n g
sum_same zero f g same = refl
sum_same (suc n) f g same = let h = sum_same n f g (λ w below. same w (omega (arith, below))) in omega (arith, h, same n (omega arith))

pub sum_raise : (n k : ℕ) (f g : ℕ → ℕ) → k < n → f k ≡ g k + 1 → ((w : ℕ) → w < n → w ≢ k → f w ≡ g w) → sum_to n f ≡ sum_to n g + 1
sum_raise zero k f g below one others = absurd (omega (arith, below))
sum_raise (suc n) k f g below one others = by_case (cases_eq n k) (λ less. sum_raise n k f g less one (λ w low. others w (omega (arith, low)))) where
  by_case : (n ≡ k) ⊎ (n ≢ k) → (k < n → sum_to n f ≡ sum_to n g + 1) → sum_to n f + f n ≡ sum_to n g + g n + 1
  by_case (inl here) up =
      let h = sum_same n f g (λ w low. others w (omega (arith, low)) (omega (arith, low, here))) in
      let at : f n ≡ g n + 1 = subst (λ (j : ℕ). f j ≡ g j + 1) (sym here) one in
      omega (arith, h, at)
  by_case (inr off) up =
      let h = up (omega (arith, below, off)) in
      let same = others n (omega arith) off in
      omega (arith, h, same)

-- each of b iterations is dealt to one link
pub dealt_sum : (W b : ℕ) → 0 < W → sum_to W (λ l. dealt W l b) ≡ b
dealt_sum W zero some = sum_same W (λ l. dealt W l 0) (λ l. 0) (λ l below. dealt_none W l below) ∙ zeros W where
  zeros : (n : ℕ) → sum_to n (λ l. 0) ≡ 0
  zeros zero = refl
  zeros (suc n) = omega (arith, zeros n)
dealt_sum W (suc b) some =
    let next : b + 1 ≡ suc b = omega arith in
    let h = dealt_sum W b some in
    let up : sum_to W (λ l. dealt W l (b + 1)) ≡ sum_to W (λ l. dealt W l b) + 1 =
    sum_raise W (b % W) (λ l. dealt W l (b + 1)) (λ l. dealt W l b) (mod-lt b some) (dealt_here W (b % W) b some refl) (λ l below off. dealt_other W l b below off) in
    let at : sum_to W (λ l. dealt W l (suc b)) ≡ sum_to W (λ l. dealt W l (b + 1)) = ap (λ (n : ℕ). sum_to W (λ l. dealt W l n)) (sym next) in
    omega (arith, at, up, h)

-- how often a task has moved that is in an iteration, knows that none follows, received an End or sent one
each_last : (shape : Shape) (s : ℕ) → nat_lt (s + 1) shape.stages ≡ false → per_iteration shape s ≡ 1 + shape.units s
each_last shape s last = let h : one_if (nat_lt (s + 1) shape.stages) ≡ 0 = ap one_if last in omega (arith, h)

idle_beside : (shape : Shape) (s w : ℕ) → beside shape s w (idle s) ≡ 0
idle_beside shape zero w = refl
idle_beside shape (suc s) w = refl

made_arrived : (shape : Shape) (s w u d : ℕ) → u ≤ shape.units s → made shape s w (arrived shape s u d) ≡ d * per_iteration shape s + (1 + u)
made_arrived shape s w u d within = by_test (nat_lt u (shape.units s)) refl where
  by_next : (q : Bool) → nat_lt (s + 1) shape.stages ≡ q → u ≡ shape.units s → made shape s w (if q then record { position = Sends; done = d } else at_idle s d) ≡ d * per_iteration shape s + (1 + u)
  by_next true at all = omega (arith, all)
  by_next false at all =
      let e = each_last shape s at in
      let none = idle_beside shape s w in
      omega (arith, all, none, e)

  by_test : (q : Bool) → nat_lt u (shape.units s) ≡ q → made shape s w (if q then record { position = Unit_at u; done = d } else behind shape s d) ≡ d * per_iteration shape s + (1 + u)
  by_test true at = refl
  by_test false at = by_next (nat_lt (s + 1) shape.stages) refl (grind (arith, nat_tests))

made_closing : (shape : Shape) (s w d : ℕ) → made shape s w (closing shape s w d) ≡ d * per_iteration shape s + to_close shape s
made_closing shape s w d = by_next (nat_lt (s + 1) shape.stages) refl where
  by_next : (q : Bool) → nat_lt (s + 1) shape.stages ≡ q
      → made shape s w (if q then record { position = SendsEnd (first_link (shape.parallel s) w); done = d } else record { position = Finished; done = d }) ≡ d * per_iteration shape s + to_close shape s
  by_next true at = omega arith
  by_next false at =
      let none : to_end shape s ≡ 0 = ap (λ (q : Bool). if q then links_of (shape.parallel s) shape.workers else 0) at in omega (arith, none)

made_took : (shape : Shape) (s w e d : ℕ) → 0 < s → e < links_of (shape.parallel s) shape.workers → made shape s w (took_end shape s w e d) ≡ d * per_iteration shape s + (e + 1)
made_took shape zero w e d later below = absurd (omega (arith, later))
made_took shape (suc s) w e d later below = by_test (nat_lt (e + 1) (links_of (shape.parallel (suc s)) shape.workers)) refl where
  by_test : (q : Bool) → nat_lt (e + 1) (links_of (shape.parallel (suc s)) shape.workers) ≡ q
      → made shape (suc s) w (if q then record { position = Receives (suc e); done = d } else closing shape (suc s) w d) ≡ d * per_iteration shape (suc s) + (e + 1)
  by_test true at = omega arith
  by_test false at =
      let h = made_closing shape (suc s) w d in
      let same : links_of (shape.parallel (suc s)) shape.workers ≡ e + 1 = grind (arith, nat_tests) in omega (arith, h, same)

made_sent_end : (shape : Shape) (s w m d : ℕ) → s + 1 < shape.stages → HasLink (shape.parallel s) shape.workers w m
    → made shape s w (sent_end shape s w m d) ≡ d * per_iteration shape s + to_close shape s + (m - first_link (shape.parallel s) w) + 1
made_sent_end shape s w m d more has = by_test (nat_lt (m + 1) (first_link (shape.parallel s) w + links_of (shape.parallel s) shape.workers)) refl where
  first : (p : Bool) → HasLink p shape.workers w m → first_link p w ≤ m
  first true h = omega (arith, h)
  first false h = omega arith

  last : (p : Bool) → HasLink p shape.workers w m → first_link p w + links_of p shape.workers ≤ m + 1 → links_of p shape.workers ≡ (m - first_link p w) + 1
  last true h over = omega (arith, h)
  last false h over = omega (arith, h, over)

  by_test : (q : Bool) → nat_lt (m + 1) (first_link (shape.parallel s) w + links_of (shape.parallel s) shape.workers) ≡ q
      → made shape s w (if q then record { position = SendsEnd (m + 1); done = d } else record { position = Finished; done = d }) ≡ d * per_iteration shape s + to_close shape s + (m - first_link (shape.parallel s) w) + 1
  by_test true at = let h = first (shape.parallel s) has in omega (arith, h)
  by_test false at =
      let over : first_link (shape.parallel s) w + links_of (shape.parallel s) shape.workers ≤ m + 1 = grind (arith, nat_tests) in
      let all = last (shape.parallel s) has over in
      let next : nat_lt (s + 1) shape.stages ≡ true = grind (arith, nat_tests) in
      let tell : to_end shape s ≡ links_of (shape.parallel s) shape.workers = ap (λ (q : Bool). if q then links_of (shape.parallel s) shape.workers else 0) next in
      omega (arith, all, tell)

module _ (shape : Shape) (is : IsPipeline shape) (b : ℕ) (f : Flow) (here : IsFlow shape b f) (s w c : ℕ) (y : Progress) (is_task : IsTask shape s w) where
  -- each step that moves is one move more
  pub made_one : Advances shape f s w b c y → made shape s w y ≡ made shape s w (f s w) + 1
  made_one (claims_one at m e) =
      let old : made shape s w (f s w) ≡ (f s w).done * per_iteration shape s + 0 = ap (λ (p : Position). (f s w).done * per_iteration shape s + beside shape s w p) at in
      let new = made_arrived shape s w 0 (f s w).done (omega arith) in omega (arith, old, new, ap (made shape s w) e)
  made_one (claims_none at m e) =
      let h = at_head shape is b f here s w is_task at in
      let one : to_close shape s ≡ 1 = ap (to_close shape) h.0 in
      let old : made shape s w (f s w) ≡ (f s w).done * per_iteration shape s + 0 = ap (λ (p : Position). (f s w).done * per_iteration shape s + beside shape s w p) at in
      let new = made_closing shape s w (f s w).done in omega (arith, old, new, one, ap (made shape s w) e)
  made_one (runs_unit u at m e) =
      let fit : IsPositionOf shape s w (Unit_at u) = subst (IsPositionOf shape s w) at (here.tasks s w is_task).position in
      let old : made shape s w (f s w) ≡ (f s w).done * per_iteration shape s + (1 + u) = ap (λ (p : Position). (f s w).done * per_iteration shape s + beside shape s w p) at in
      let new = made_arrived shape s w (u + 1) (f s w).done (omega (arith, fit)) in omega (arith, old, new, ap (made shape s w) e)
  made_one (sends_packet at m e) =
      let fit : IsPositionOf shape s w Sends = subst (IsPositionOf shape s w) at (here.tasks s w is_task).position in
      let next : nat_lt (s + 1) shape.stages ≡ true = grind (arith, nat_tests) in
      let full : per_iteration shape s ≡ 1 + shape.units s + 1 = ap (λ (q : Bool). 1 + shape.units s + one_if q) next in
      let old : made shape s w (f s w) ≡ (f s w).done * per_iteration shape s + (1 + shape.units s) = ap (λ (p : Position). (f s w).done * per_iteration shape s + beside shape s w p) at in
      let new : made shape s w y ≡ ((f s w).done + 1) * per_iteration shape s + beside shape s w (idle s) = ap (made shape s w) e in
      omega (arith, old, new, full, idle_beside shape s w)
  made_one (receives_packet n q k at m next on less e) =
      let few = packet_is_due shape is b f here s w n q k is_task next on at less in
      let old : made shape s w (f s w) ≡ (f s w).done * per_iteration shape s + n = ap (λ (p : Position). (f s w).done * per_iteration shape s + beside shape s w p) at in
      let new = made_arrived shape s w 0 (f s w).done (omega arith) in omega (arith, old, new, few.0, ap (made shape s w) e)
  made_one (receives_end n q k at m next on most less e) =
      let all = end_is_last shape is b f here s w n q k is_task next on at most less in
      let old : made shape s w (f s w) ≡ (f s w).done * per_iteration shape s + n = ap (λ (p : Position). (f s w).done * per_iteration shape s + beside shape s w p) at in
      let new = made_took shape s w n (f s w).done (omega (arith, next)) all.2 in omega (arith, old, new, ap (made shape s w) e)
  made_one (sends_end m at same e) =
      let fit : (s + 1 < shape.stages) × HasLink (shape.parallel s) shape.workers w m = subst (IsPositionOf shape s w) at (here.tasks s w is_task).position in
      let old : made shape s w (f s w) ≡ (f s w).done * per_iteration shape s + (to_close shape s + (m - first_link (shape.parallel s) w)) = ap (λ (p : Position). (f s w).done * per_iteration shape s + beside shape s w p) at in
      let new = made_sent_end shape s w m (f s w).done fit.0 fit.1 in omega (arith, old, new, ap (made shape s w) e)

-- a stage has as many tasks as it has workers
pub worker_below : (p : Bool) (W w : ℕ) → IsWorker p W w → w < tasks_in p W
worker_below true W w is = is
worker_below false W w is = omega (arith, is)

pub below_worker : (p : Bool) (W w : ℕ) → w < tasks_in p W → IsWorker p W w
below_worker true W w below = below
below_worker false W w below = omega (arith, below)

-- sums of products, of sums and of constants
pub sum_times : (n a : ℕ) (f : ℕ → ℕ) → sum_to n (λ w. f w * a) ≡ sum_to n f * a
sum_times zero a f = omega arith
sum_times (suc n) a f = let h = sum_times n a f in omega (arith, h)

pub sum_add : (n : ℕ) (f g : ℕ → ℕ) → sum_to n (λ w. f w + g w) ≡ sum_to n f + sum_to n g
sum_add zero f g = refl
sum_add (suc n) f g = let h = sum_add n f g in omega (arith, h)

pub sum_all : (n a : ℕ) → sum_to n (λ w. a) ≡ n * a
sum_all zero a = omega arith
sum_all (suc n) a = let h = sum_all n a in omega (arith, h)

-- the moves by which all tasks of a stage come to know that no iteration follows, and those by which they say so
pub closing_in : ℕ → ℕ → ℕ
closing_in W zero = 1
closing_in W (suc s) = W

pub ending_in : Shape → ℕ → ℕ
ending_in shape s = if nat_lt (s + 1) shape.stages then shape.workers else 0

finished_at : (shape : Shape) (s w n : ℕ) (x : Progress) → x.position ≡ Finished → x.done ≡ n → made shape s w x ≡ n * per_iteration shape s + (to_close shape s + to_end shape s)
finished_at shape s w n x over all =
    let a : made shape s w x ≡ x.done * per_iteration shape s + (to_close shape s + to_end shape s) = ap (λ (p : Position). x.done * per_iteration shape s + beside shape s w p) over in
    let e : x.done * per_iteration shape s ≡ n * per_iteration shape s = ap (λ (k : ℕ). k * per_iteration shape s) all in omega (arith, a, e)

module _ (shape : Shape) (is : IsPipeline shape) (b : ℕ) (f : Flow) (here : IsFlow shape b f) (over : (s w : ℕ) → IsTask shape s w → (f s w).position ≡ Finished) where
  stage_made : (s : ℕ) → s < shape.stages → made_in shape f s ≡ b * per_iteration shape s + (closing_in shape.workers s + ending_in shape s)
  unfolding closing_in ending_in
  stage_made s within = by_kind (shape.parallel s) refl where
    at : (w : ℕ) → IsWorker (shape.parallel s) shape.workers w → made shape s w (f s w) ≡ due (shape.parallel s) shape.workers w b * per_iteration shape s + (to_close shape s + to_end shape s)
    at w worker =
        let o = over s w (within, worker) in
        finished_at shape s w (due (shape.parallel s) shape.workers w b) (f s w) o ((here.tasks s w (within, worker)).all (ap is_closed o)).0

    closing_one : (s : ℕ) (p : Bool) → shape.parallel s ≡ p → p ≡ false → to_close shape s + (if nat_lt (s + 1) shape.stages then links_of (shape.parallel s) shape.workers else 0) ≡ closing_in shape.workers s + ending_in shape s
    closing_one zero p is_p straight = ap (λ (q : Bool). 1 + (if nat_lt (0 + 1) shape.stages then links_of q shape.workers else 0)) (is_p ∙ straight)
    closing_one (suc t) p is_p straight = ap (λ (q : Bool). links_of q shape.workers + (if nat_lt (suc t + 1) shape.stages then links_of q shape.workers else 0)) (is_p ∙ straight)

    by_kind : (p : Bool) → shape.parallel s ≡ p → made_in shape f s ≡ b * per_iteration shape s + (closing_in shape.workers s + ending_in shape s)
    by_kind false is_p =
        let one : tasks_in (shape.parallel s) shape.workers ≡ 1 = ap (λ (q : Bool). tasks_in q shape.workers) is_p in
        let alone : made_in shape f s ≡ 0 + made shape s 0 (f s 0) = ap (λ (n : ℕ). sum_to n (λ w. made shape s w (f s w))) one in
        let h = at 0 (subst (λ (q : Bool). IsWorker q shape.workers 0) (sym is_p) refl) in
        let all : due (shape.parallel s) shape.workers 0 b * per_iteration shape s ≡ b * per_iteration shape s = ap (λ (q : Bool). due q shape.workers 0 b * per_iteration shape s) is_p in
        omega (arith, alone, h, all, closing_one s false is_p refl)
    by_kind true is_p =
        let many : tasks_in (shape.parallel s) shape.workers ≡ shape.workers = ap (λ (q : Bool). tasks_in q shape.workers) is_p in
        let one : made_in shape f s ≡ sum_to shape.workers (λ w. made shape s w (f s w)) = ap (λ (n : ℕ). sum_to n (λ w. made shape s w (f s w))) many in
        let two : sum_to shape.workers (λ w. made shape s w (f s w)) ≡ sum_to shape.workers (λ w. dealt shape.workers w b * per_iteration shape s + (to_close shape s + to_end shape s)) =
        sum_same shape.workers (λ w. made shape s w (f s w)) (λ w. dealt shape.workers w b * per_iteration shape s + (to_close shape s + to_end shape s))
        (λ w below. at w (subst (λ (q : Bool). IsWorker q shape.workers w) (sym is_p) below) ∙ ap (λ (q : Bool). due q shape.workers w b * per_iteration shape s + (to_close shape s + to_end shape s)) is_p) in
        let three = sum_add shape.workers (λ w. dealt shape.workers w b * per_iteration shape s) (λ w. to_close shape s + to_end shape s) in
        let four = sum_times shape.workers (per_iteration shape s) (λ w. dealt shape.workers w b) in
        let five : sum_to shape.workers (λ w. dealt shape.workers w b) * per_iteration shape s ≡ b * per_iteration shape s = ap (λ (n : ℕ). n * per_iteration shape s) (dealt_sum shape.workers b is.some_worker) in
        let six = sum_all shape.workers (to_close shape s + to_end shape s) in
        let seven : shape.workers * (to_close shape s + to_end shape s) ≡ closing_in shape.workers s + ending_in shape s = by_stage s is_p in
        omega (arith, one, two, three, four, five, six, seven)
      where
        by_stage : (s : ℕ) → shape.parallel s ≡ true → shape.workers * (to_close shape s + to_end shape s) ≡ closing_in shape.workers s + ending_in shape s
        by_stage zero is_p = let no : shape.parallel 0 ≡ false = is.sequential_head in cc
        by_stage (suc t) is_p = by_next (nat_lt (suc t + 1) shape.stages) where
          by_next : (q : Bool) → shape.workers * (links_of (shape.parallel (suc t)) shape.workers + (if q then links_of (shape.parallel (suc t)) shape.workers else 0)) ≡ shape.workers + (if q then shape.workers else 0)
          by_next true = let one : links_of (shape.parallel (suc t)) shape.workers ≡ 1 = ap (λ (q : Bool). links_of q shape.workers) is_p in
              let two : shape.workers * (links_of (shape.parallel (suc t)) shape.workers + links_of (shape.parallel (suc t)) shape.workers) ≡ shape.workers * (1 + 1) = ap (λ (k : ℕ). shape.workers * (k + k)) one in omega (arith, two)
          by_next false = let one : links_of (shape.parallel (suc t)) shape.workers ≡ 1 = ap (λ (q : Bool). links_of q shape.workers) is_p in
              let two : shape.workers * (links_of (shape.parallel (suc t)) shape.workers + 0) ≡ shape.workers * (1 + 0) = ap (λ (k : ℕ). shape.workers * (k + 0)) one in omega (arith, two)

  closing_sum : (n : ℕ) → sum_to (suc n) (closing_in shape.workers) ≡ 1 + n * shape.workers
  unfolding closing_in
  closing_sum zero = omega arith
  closing_sum (suc n) = let h = closing_sum n in omega (arith, h)

  -- the stages before the last
  before_last : (n : ℕ) → n + 1 ≤ shape.stages → sum_to n (made_in shape f) ≡ b * (sum_to n shape.units + 2 * n) + sum_to n (closing_in shape.workers) + n * shape.workers
  unfolding ending_in
  before_last zero within = omega arith
  before_last (suc n) within =
      let h = before_last n (omega (arith, within)) in
      let one = stage_made n (omega (arith, within)) in
      let next : nat_lt (n + 1) shape.stages ≡ true = grind (arith, nat_tests) in
      let full : per_iteration shape n ≡ 1 + shape.units n + 1 = ap (λ (q : Bool). 1 + shape.units n + one_if q) next in
      let last : ending_in shape n ≡ shape.workers = ap (λ (q : Bool). if q then shape.workers else 0) next in
      let times : b * per_iteration shape n ≡ b * (1 + shape.units n + 1) = ap (λ (k : ℕ). b * k) full in
      omega (arith, h, one, last, times)

  -- a pipeline that has finished has moved so often: S stages, W workers, u units in all, b claims that were granted
  pub moved_in_all : made_by_all shape f ≡ b * (sum_to shape.stages shape.units + 1 + 2 * (shape.stages - 1)) + 1 + 2 * shape.workers * (shape.stages - 1)
  unfolding ending_in
  moved_in_all = by_stages shape.stages refl where
    by_stages : (n : ℕ) → shape.stages ≡ n → made_by_all shape f ≡ b * (sum_to shape.stages shape.units + 1 + 2 * (shape.stages - 1)) + 1 + 2 * shape.workers * (shape.stages - 1)
    by_stages zero none = absurd (let h = is.some_stage in omega (arith, h, none))
    by_stages (suc n) all =
        let h = before_last n (omega (arith, all)) in
        let one = stage_made n (omega (arith, all)) in
        let last : nat_lt (n + 1) shape.stages ≡ false = grind (arith, nat_tests) in
        let full : per_iteration shape n ≡ 1 + shape.units n + 0 = ap (λ (q : Bool). 1 + shape.units n + one_if q) last in
        let none : ending_in shape n ≡ 0 = ap (λ (q : Bool). if q then shape.workers else 0) last in
        let times : b * per_iteration shape n ≡ b * (1 + shape.units n + 0) = ap (λ (k : ℕ). b * k) full in
        let made : made_by_all shape f ≡ sum_to n (made_in shape f) + made_in shape f n = ap (λ (k : ℕ). sum_to k (made_in shape f)) all in
        let units : sum_to shape.stages shape.units ≡ sum_to n shape.units + shape.units n = ap (λ (k : ℕ). sum_to k shape.units) all in
        let all_closing = closing_sum n in
        let fewer : shape.stages - 1 ≡ n = omega (arith, all) in
        let right : b * (sum_to shape.stages shape.units + 1 + 2 * (shape.stages - 1)) + 1 + 2 * shape.workers * (shape.stages - 1) ≡ b * (sum_to n shape.units + shape.units n + 1 + 2 * n) + 1 + 2 * shape.workers * n =
        subst₂ (λ (i j : ℕ). b * (i + 1 + 2 * j) + 1 + 2 * shape.workers * j ≡ b * (sum_to n shape.units + shape.units n + 1 + 2 * n) + 1 + 2 * shape.workers * n) (sym units) (sym fewer) refl in
        omega (arith, h, one, none, times, made, all_closing, right)
