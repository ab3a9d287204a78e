use Rattle.std.proofs.Common.{◌≡◌, ◌<◌, [], ◌/◌, ◌%◌, ◌∙◌, ap, arith, length, slice_index_or, w64}
use Rattle.std.proofs.lemmas.Int.{to_z-of_z}
use Rattle.std.proofs.lemmas.List.{get_or_read}
use Rattle.nona_sparse.specs.declared.page.TheConstants.{PAGE}
use Rattle.nona_sparse.specs.Sparse.{at_page, with_at}
use Rattle.nona_sparse.proofs.Placing.{page_put, page_same}
use Rattle.nona_sparse.proofs.sparse.put_behind.Goals as goal

pub returns-clause-put : goal.returns-clause-put
returns-clause-put c done =
    let pages = c.args.pages.now.items in
    let place = c.args.place in
    let v = c.args.value in
    let within : place / PAGE < length pages = omega (arith, c.if-index-len.false, c.len.ensures) in
    let own : c.index_mut-page.result.now ≡ slice_index_or pages (place / PAGE) [] = get_or_read pages (place / PAGE) c.index_mut-page.result.now within c.index_mut-page.ensures.value [] in
    page_put pages place v c.put_behind.new.self within
    (c.put_behind.ensures.put done ∙ (λ i. with_at (place % PAGE) (to_z-of_z w64 v c.ranges.value i) (at_page (own i))))

pub returns-clause-left : goal.returns-clause-left
returns-clause-left c kept =
    let pages = c.args.pages.now.items in
    let place = c.args.place in
    let within : place / PAGE < length pages = omega (arith, c.if-index-len.false, c.len.ensures) in
    let own : c.index_mut-page.result.now ≡ slice_index_or pages (place / PAGE) [] = get_or_read pages (place / PAGE) c.index_mut-page.result.now within c.index_mut-page.ensures.value [] in
    page_same pages (place / PAGE) c.put_behind.new.self within (c.put_behind.ensures.left kept ∙ ap at_page own)
