-- The numbers of tasks and links.
use Rattle.std.proofs.Common.{◌≡◌, ◌≢◌, ◌⊎◌, ◌<◌, ◌≤◌, ◌+◌, ◌-◌, ◌*◌, ℕ, zero, suc, sym, ap, subst, arith, inl, inr}
use Rattle.std.proofs.lemmas.Bool.{cases_lt, cases_eq}
use Rattle.std.proofs.lemmas.Nat.{same_from_place}
use Rattle.net_flow.specs.Shapes.{Shape, IsTask, first_task, task_of, link_of}
use Rattle.net_flow.proofs.MovesMade.{worker_below, below_worker}

pub first_mono : (shape : Shape) (m n : ℕ) → m ≤ n → first_task shape m ≤ first_task shape n
first_mono shape m zero within = let z : m ≡ 0 = omega (arith, within) in subst (λ (k : ℕ). first_task shape k ≤ first_task shape 0) (sym z) (omega arith)
first_mono shape m (suc n) within = by_case (cases_eq m (suc n)) (λ less. first_mono shape m n less) where
  by_case : (m ≡ suc n) ⊎ (m ≢ suc n) → (m ≤ n → first_task shape m ≤ first_task shape n) → first_task shape m ≤ first_task shape (suc n)
  by_case (inl same) up = subst (λ (k : ℕ). first_task shape m ≤ first_task shape k) same (omega arith)
  by_case (inr off) up = let h = up (omega (arith, within, off)) in omega (arith, h)

-- the numbers of a stage's tasks lie before those of the next
pub task_within : (shape : Shape) (s w : ℕ) → IsTask shape s w → task_of shape s w < first_task shape (suc s)
task_within shape s w is_task = let h = worker_below (shape.parallel s) shape.workers w is_task.1 in omega (arith, h)

pub task_below : (shape : Shape) (s w : ℕ) → IsTask shape s w → task_of shape s w < first_task shape shape.stages
task_below shape s w is_task =
    let h = task_within shape s w is_task in
    let up = first_mono shape (suc s) shape.stages (omega (arith, is_task.0)) in omega (arith, h, up)

-- two tasks have two numbers
pub task_apart : (shape : Shape) (s w r v : ℕ) → IsTask shape s w → IsTask shape r v → task_of shape r v ≡ task_of shape s w → (r ≡ s) × (v ≡ w)
task_apart shape s w r v is_task other same = by_order (cases_lt r s) where
  by_same : (r ≡ s) → (r ≡ s) × (v ≡ w)
  by_same at = let e : first_task shape r ≡ first_task shape s = ap (first_task shape) at in (at, omega (arith, e, same))

  by_order' : (s < r) ⊎ (r ≤ s) → s ≤ r → (r ≡ s) × (v ≡ w)
  by_order' (inl more) h =
      let a = task_within shape s w is_task in
      let b = first_mono shape (suc s) r (omega (arith, more)) in absurd (omega (arith, a, b, same))
  by_order' (inr most) h = by_same (omega (arith, most, h))

  by_order : (r < s) ⊎ (s ≤ r) → (r ≡ s) × (v ≡ w)
  by_order (inl less) =
      let a = task_within shape r v other in
      let b = first_mono shape (suc r) s (omega (arith, less)) in absurd (omega (arith, a, b, same))
  by_order (inr h) = by_order' (cases_lt s r) h

-- each number is that of a task
pub task_with : (shape : Shape) (n t : ℕ) → n ≤ shape.stages → t < first_task shape n → (s : ℕ) × (w : ℕ) × IsTask shape s w × (task_of shape s w ≡ t)
task_with shape zero t within below = absurd (omega (arith, below))
task_with shape (suc n) t within below = by_case (cases_lt t (first_task shape n)) (λ less. task_with shape n t (omega (arith, within)) less) where
  by_case : (t < first_task shape n) ⊎ (first_task shape n ≤ t) → (t < first_task shape n → (s : ℕ) × (w : ℕ) × IsTask shape s w × (task_of shape s w ≡ t))
      → (s : ℕ) × (w : ℕ) × IsTask shape s w × (task_of shape s w ≡ t)
  by_case (inl less) before = before less
  by_case (inr most) before =
      (n, t - first_task shape n, (omega (arith, within), below_worker (shape.parallel n) shape.workers (t - first_task shape n) (omega (arith, below, most))), omega (arith, most))

-- the numbers of links are apart, and below the number of all
pub link_below : (shape : Shape) (r l : ℕ) → r + 1 < shape.stages → l < shape.workers → link_of shape r l < (shape.stages - 1) * shape.workers
link_below shape r l within below =
    let h : (r + 1) * shape.workers ≤ (shape.stages - 1) * shape.workers = Rattle.std.proofs.Math.Nat.mul-le-mul_right shape.workers (let z : r + 1 ≤ shape.stages - 1 = omega (arith, within) in z) in
    omega (arith, h, below)

pub link_apart : (shape : Shape) (r l q k : ℕ) → l < shape.workers → k < shape.workers → link_of shape r l ≡ link_of shape q k → (r ≡ q) × (l ≡ k)
link_apart shape r l q k low below same = same_from_place r l q k shape.workers low below same
