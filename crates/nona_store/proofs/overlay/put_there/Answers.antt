use Rattle.std.proofs.Common.{◌≡◌, [], ◌∙◌, ap, slice_index_or, w64, to_z, of_z}
use Rattle.std.proofs.lemmas.Int.{to_z-of_z}
use Rattle.std.proofs.lemmas.List.{get_or_read}
use Rattle.std.proofs.lemmas.Result.{on_ok_weaker, on_err_weaker}
use Rattle.nona_sparse.specs.Sparse.{at, with_at}
use Rattle.nona_store.proofs.Overlaying.{array_put, array_same}
use Rattle.nona_store.proofs.overlay.put_there.Goals as goal

pub returns-clause-ok : goal.returns-clause-ok
returns-clause-ok c =
    let arrays = c.args.arrays.now.items in
    let id = c.args.array in
    let place = c.args.index in
    let v = c.args.value in
    let own : c.index_mut.result.now ≡ slice_index_or arrays id [] = get_or_read arrays id c.index_mut.result.now c.requires.there c.index_mut.ensures.value [] in
    on_ok_weaker c.put.result
    (λ (put : at c.put.new.self ≡ with_at place (to_z w64 (of_z w64 v)) (at c.index_mut.result.now)).
    array_put arrays id place v c.put.new.self c.requires.there (put ∙ (λ i. with_at place (to_z-of_z w64 v c.ranges.value i) (at (own i)))))
    c.put.ensures.ok

pub returns-clause-err : goal.returns-clause-err
returns-clause-err c =
    let arrays = c.args.arrays.now.items in
    let id = c.args.array in
    let own : c.index_mut.result.now ≡ slice_index_or arrays id [] = get_or_read arrays id c.index_mut.result.now c.requires.there c.index_mut.ensures.value [] in
    on_err_weaker c.put.result
    (λ (same : at c.put.new.self ≡ at c.index_mut.result.now).
    array_same arrays id c.put.new.self c.requires.there (same ∙ ap at own))
    c.put.ensures.err
