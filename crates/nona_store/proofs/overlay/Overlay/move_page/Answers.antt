use Rattle.std.proofs.Common.{◌≡◌, ◌∙◌, ◌<◌, [], ap, arith, length, slice_index_or}
use Rattle.std.proofs.lemmas.List.{get_or_read}
use Rattle.nona_sparse.specs.Sparse.{at, cells_under, off_page, on_page}
use Rattle.nona_store.specs.Overlays.{over_of, written_off}
use Rattle.nona_store.proofs.Paging.{array_changed}
use Rattle.nona_store.proofs.overlay.Overlay.move_page.Goals as goal

pub returns-clause-cells : goal.returns-clause-cells
returns-clause-cells c =
    let written = c.self.inside.arrays.items in
    let id = c.args.array in
    let within : id < length written = omega (arith, c.requires, ap length c.self.view_is) in
    let own : c.index_mut-written.result.now ≡ slice_index_or written id [] = get_or_read written id c.index_mut-written.result.now within c.index_mut-written.ensures.value [] in
    c.move_page.ensures.cells ∙ ap (λ pages. cells_under (on_page c.args.index (at pages)) 0 c.args.cells.now) own
    ∙ ap (λ it. cells_under (on_page c.args.index (over_of it id)) 0 c.args.cells.now) c.self.view_is

pub returns-clause-left : goal.returns-clause-left
returns-clause-left c =
    let written = c.self.inside.arrays.items in
    let id = c.args.array in
    let within : id < length written = omega (arith, c.requires, ap length c.self.view_is) in
    let own : c.index_mut-written.result.now ≡ slice_index_or written id [] = get_or_read written id c.index_mut-written.result.now within c.index_mut-written.ensures.value [] in
    array_changed (λ a. off_page c.args.index) written id c.move_page.new.written within
    (c.move_page.ensures.left ∙ ap (λ pages. off_page c.args.index (at pages)) own)
    ∙ ap (λ it. written_off id c.args.index (over_of it)) c.self.view_is
