use Rattle.std.proofs.Common.{◌≡◌, ◌∙◌, [], ap, arith, length, slice_index_or}
use Rattle.std.proofs.lemmas.List.{get_or_read}
use Rattle.nona_sparse.specs.Sparse.{at, cells_under, on_page}
use Rattle.nona_sparse.proofs.Paging.{page_written, none_written}
use Rattle.nona_sparse.proofs.sparse.SparseArray.move_page.Goals as goal

pub returns-then-index-len-clause-cells : goal.returns-then-index-len-clause-cells
returns-then-index-len-clause-cells c =
    let pages = c.self.inside.pages.items in
    let index = c.args.index in
    let cells = c.args.cells.now in
    let own : c.index.result.now ≡ slice_index_or pages index [] = get_or_read pages index c.index.result.now (omega (arith, c.if-index-len.true, c.len.ensures)) c.index.ensures [] in
    page_written pages index c.index.result.now c.write_to.new.cells cells c.write_to.ensures.long own c.write_to.ensures.cells
    ∙ ap (λ it. cells_under (on_page index (at it)) 0 cells) c.self.view_is

pub returns-else-index-len-clause-cells : goal.returns-else-index-len-clause-cells
returns-else-index-len-clause-cells c =
    none_written c.args.self.now c.args.index c.args.cells.now (omega (arith, c.if-index-len.false, c.len.ensures, ap length c.self.view_is))
