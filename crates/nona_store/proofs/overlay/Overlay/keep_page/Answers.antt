use Rattle.std.proofs.Common.{◌≡◌, ◌<◌, ◌∙◌, [], ap, arith, length, slice_index_or}
use Rattle.std.proofs.lemmas.List.{get_or_read}
use Rattle.nona_sparse.specs.Sparse.{at, changes_on}
use Rattle.nona_tree.specs.Memory.{cells_of}
use Rattle.nona_store.specs.Overlays.{over_of, changes_on_page}
use Rattle.nona_store.proofs.Paging.{array_changed, none_changed_on, none_kept}
use Rattle.nona_store.proofs.overlay.Overlay.keep_page.Goals as goal

pub returns-then-array-len : goal.returns-then-array-len
returns-then-array-len c =
    let written = c.self.inside.arrays.items in
    let id = c.args.array in
    let index = c.args.index in
    let m = c.args.store.now in
    let within : id < length written = omega (arith, c.if-array-len.true, c.len.ensures) in
    let own : c.index_mut-written.result.now ≡ slice_index_or written id [] = get_or_read written id c.index_mut-written.result.now within c.index_mut-written.ensures.value [] in
    let beside : c.as_slice.result.now ≡ cells_of m id =
    c.as_slice.ensures ∙ get_or_read m.arrays id c.index-arrays-array.result c.requires (c.index-arrays-array.is ∙ ap (λ arrays. slice_index_or arrays id c.index-arrays-array.result) c.arrays.ensures) []
    in
    array_changed (λ a. changes_on index (cells_of m a)) written id c.keep_page.new.self within
    (c.keep_page.ensures ∙ (λ i. changes_on index (beside i) (at (own i))))
    ∙ ap (λ it. changes_on_page id index m (over_of it)) c.self.view_is

pub returns-else-array-len : goal.returns-else-array-len
returns-else-array-len c =
    let id = c.args.array in
    let index = c.args.index in
    let m = c.args.store.now in
    none_changed_on (λ a. changes_on index (cells_of m a)) c.args.self.now id (omega (arith, c.if-array-len.false, c.len.ensures, ap length c.self.view_is))
    (none_kept index (cells_of m id))
