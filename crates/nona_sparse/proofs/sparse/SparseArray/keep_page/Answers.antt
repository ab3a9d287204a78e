use Rattle.std.proofs.Common.{◌≡◌, ◌∙◌, ◌+◌, ◌*◌, [], ap, arith, length, slice_index_or}
use Rattle.std.proofs.lemmas.List.{get_or_read}
use Rattle.nona_sparse.specs.declared.page.TheConstants.{PAGE}
use Rattle.nona_sparse.specs.Sparse.{at, at_page, change_at, changes_on}
use Rattle.nona_sparse.proofs.Paging.{page_kept, none_kept}
use Rattle.nona_sparse.proofs.sparse.SparseArray.keep_page.Goals as goal

pub returns-then-index-len : goal.returns-then-index-len
returns-then-index-len c =
    let pages = c.self.inside.pages.items in
    let index = c.args.index in
    let cells = c.args.cells.now in
    let own : c.index_mut.result.now ≡ slice_index_or pages index [] = get_or_read pages index c.index_mut.result.now (omega (arith, c.if-index-len.true, c.len.ensures)) c.index_mut.ensures.value [] in
    page_kept pages index c.keep_changes.new.self cells (omega (arith, c.if-index-len.true, c.len.ensures))
    (λ p. c.keep_changes.ensures p ∙ ap (λ page. change_at cells (index * PAGE + p) (at_page page p)) own)
    ∙ ap (λ it. changes_on index cells (at it)) c.self.view_is

pub returns-else-index-len : goal.returns-else-index-len
returns-else-index-len c =
    none_kept c.args.self.now c.args.index c.args.cells.now (omega (arith, c.if-index-len.false, c.len.ensures, ap length c.self.view_is))
