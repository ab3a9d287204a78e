-- The moves of an interval are few enough to be counted.
use Rattle.std.proofs.Common.{◌≡◌, ◌<◌, ◌≤◌, ◌+◌, ◌*◌, ◌^◌, ℕ, false, List, [], ◌∷◌, length, arith}
use Rattle.std.proofs.lemmas.Nat.{mul-le}
use Rattle.nona_tree.specs.declared.trees.Loop.{Loop}
use Rattle.nona_tree.specs.declared.trees.Stmt.{Stmt, Let, Set, Fold, Put, FoldPut, If', While', For', Print}
use Rattle.nona_tree.specs.Smallness.{stmt_size, all_size, IsSmallLoop}
use Rattle.nona_tree.proofs.CheckEquations.{size-For}
use Rattle.nona_tree.specs.declared.outcomes.Outcome.{Outcome}
use Rattle.weave.specs.SeqNet.{SeqNet, Stand, Claims, Unit_of, Finished, is_finished}
use Rattle.weave.specs.SeqState.{HasMovedAt, IsSound}

some_size : (s : Stmt) → 1 ≤ stmt_size s
some_size (Let x e) = omega arith
some_size (Set x e) = omega arith
some_size (Fold x f e) = omega arith
some_size (Put c e) = omega arith
some_size (FoldPut c f e) = omega arith
some_size (If' test p then_part q else_part) = omega arith
some_size (While' test p body at) = omega arith
some_size (For' x low high p body seq at) = omega arith
some_size (Print e at) = omega arith

length_size : (ss : List Stmt) → length ss ≤ all_size ss
length_size [] = omega arith
length_size (s ∷ rest) = omega (arith, some_size s, length_size rest)

-- a small loop has few units
pub few_units : (l : Loop) → IsSmallLoop l → length l.body < 2 ^ 20
few_units l small = omega (arith, small.0, size-For l, length_size l.body)

few_moves : (p : Stand) (end : Outcome) (moves granted units : ℕ) → is_finished p ≡ false → HasMovedAt p end moves granted units → moves ≤ granted * (units + 1)
few_moves Claims end moves granted units going is = omega (arith, is)
few_moves (Unit_of s rest) end moves granted units going is = omega (arith, is.1)
few_moves Finished end moves granted units going is = cc

-- one more move fits
pub move_fits : (net : SeqNet) → is_finished net.place ≡ false → IsSound net → net.limit ≤ 10 ^ 12 → IsSmallLoop net.entry.looped → net.moves + 1 < 2 ^ 64
move_fits net going s few small =
    let units = length net.entry.looped.body in
    let granted : net.granted ≤ 10 ^ 12 = omega (arith, s.within, few) in
    let product : net.granted * (units + 1) ≤ 10 ^ 12 * 2 ^ 20 =
    mul-le net.granted (units + 1) (10 ^ 12) (2 ^ 20) granted (omega (arith, few_units net.entry.looped small)) in
    omega (arith, few_moves net.place net.end net.moves net.granted units going s.counted, product)
