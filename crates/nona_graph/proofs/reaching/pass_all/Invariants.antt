use Rattle.std.proofs.Common.{◌≡◌, ℕ, List, length}
use Rattle.nona_graph.specs.Sets.{ShowWalks}
use Rattle.nona_graph.proofs.reaching.pass_all.Given as goal

-- the rows show the walks through the units so far
abbrev pub invariant-loop-k : goal.invariant-loop-k
invariant-loop-k l = (length l.rows ≡ length l.fn.rows) × ((edges : List (ℕ × ℕ)) → ShowWalks edges 0 l.fn.rows → ShowWalks edges l.k l.rows)
