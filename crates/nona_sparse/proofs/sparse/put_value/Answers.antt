use Rattle.std.proofs.Common.{◌≡◌, [], ◌/◌, ◌%◌, ◌∙◌, ap, slice_index_or, w64, to_z, of_z}
use Rattle.std.proofs.lemmas.Int.{to_z-of_z}
use Rattle.std.proofs.lemmas.List.{get_or_read}
use Rattle.std.proofs.lemmas.Result.{on_ok_weaker, on_err_weaker}
use Rattle.nona_sparse.specs.declared.page.TheConstants.{PAGE}
use Rattle.nona_sparse.specs.Sparse.{at_page, with_at}
use Rattle.nona_sparse.proofs.Placing.{page_put, page_same}
use Rattle.nona_sparse.proofs.sparse.put_value.Goals as goal

pub returns-clause-ok : goal.returns-clause-ok
returns-clause-ok c =
    let pages = c.add_pages.new.pages.items in
    let place = c.args.place in
    let v = c.args.value in
    let within = c.in_ok-add_pages.ensures.there in
    let own : c.index_mut-page.result.now ≡ slice_index_or pages (place / PAGE) [] = get_or_read pages (place / PAGE) c.index_mut-page.result.now within c.index_mut-page.ensures.value [] in
    on_ok_weaker c.put.result
    (λ (put : at_page c.put.new.self ≡ with_at (place % PAGE) (to_z w64 (of_z w64 v)) (at_page c.index_mut-page.result.now)).
    page_put pages place v c.put.new.self within
    (put ∙ (λ i. with_at (place % PAGE) (to_z-of_z w64 v c.ranges.value i) (at_page (own i))))
    ∙ ap (with_at place v) c.add_pages.ensures.same)
    c.put.ensures.ok

pub returns-clause-err : goal.returns-clause-err
returns-clause-err c =
    let pages = c.add_pages.new.pages.items in
    let place = c.args.place in
    let within = c.in_ok-add_pages.ensures.there in
    let own : c.index_mut-page.result.now ≡ slice_index_or pages (place / PAGE) [] = get_or_read pages (place / PAGE) c.index_mut-page.result.now within c.index_mut-page.ensures.value [] in
    on_err_weaker c.put.result
    (λ (same : at_page c.put.new.self ≡ at_page c.index_mut-page.result.now).
    page_same pages (place / PAGE) c.put.new.self within (same ∙ ap at_page own) ∙ c.add_pages.ensures.same)
    c.put.ensures.err
