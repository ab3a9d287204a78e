use Rattle.std.proofs.Common.{◌≡◌, ◌<◌, ℕ, List, [], ◌∷◌, length, drop, refl, sym, arith, length-drop}
use Rattle.nona_tree.specs.declared.trees.Stmt.{Stmt}
use Rattle.nona_tree.specs.Memory.{Memory}
use Rattle.weave.specs.OneTask.{store_before}
use Rattle.weave.proofs.one_task.arrive.Goals as goal

stays : (depth : ℕ) (units : List Stmt) (m : Memory) → 0 < length units → store_before depth units m ≡ m
stays depth [] m h = absurd (omega (arith, h))
stays depth (s ∷ rest) m h = refl

pub returns-then-at-count-clause-store : goal.returns-then-at-count-clause-store
returns-then-at-count-clause-store c =
    sym (stays c.args.depth (drop c.args.at c.args.units.now.body) c.args.store.now (omega (arith, length-drop c.args.at c.args.units.now.body)))
