use Rattle.std.proofs.Common.{◌≡◌, ◌≤◌, ◌+◌, ◌∙◌, ap, arith, length}
use Rattle.std.specs.Option.{unwrap_or}
use Rattle.nona_sparse.specs.Sparse.{at, cell}
use Rattle.nona_sparse.proofs.Placing.{all_pages, each_under}
use Rattle.nona_sparse.proofs.sparse.SparseArray.write_to.Goals as goal

pub returns-clause-cells : goal.returns-clause-cells
returns-clause-cells c =
    let pages = c.args.self.now in
    let old = c.args.cells.now in
    let i = c.loop-index.invariant in
    let few : length pages ≤ c.loop-index.index = omega (arith, ap length c.self.view_is) in
    each_under (at pages) 0 c.loop-index.cells old i.long
    (λ p within.
    let first : p ≡ 0 + p = omega arith in
    i.cells p within ∙ ap (λ o. unwrap_or o (cell old p)) (all_pages pages c.loop-index.index p few) ∙ ap (λ n. unwrap_or (at pages n) (cell old p)) first)
