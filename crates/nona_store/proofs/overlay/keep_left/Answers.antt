use Rattle.std.proofs.Common.{◌≡◌, ◌<◌, ◌∙◌, [], length, slice_index_or, arith}
use Rattle.std.proofs.lemmas.List.{get_or_read, length-set}
use Rattle.nona_sparse.specs.Sparse.{at, changes}
use Rattle.nona_store.proofs.Overlaying.{next_array, all_left, reached}
use Rattle.nona_store.proofs.overlay.keep_left.Goals as goal

pub arrays-preserved : goal.arrays-preserved
arrays-preserved c =
    let written = c.arrays.written.items in
    let id = c.arrays.id in
    let cells = c.args.arrays.now in
    let i = c.arrays.invariant in
    let within : id < length written = omega (arith, c.arrays-test.true, c.min-many.ensures, c.len.ensures, i.long) in
    let own : c.index_mut.result.now ≡ slice_index_or written id [] = get_or_read written id c.index_mut.result.now within c.index_mut.ensures.value [] in
    let beside : c.as_slice.result.now ≡ slice_index_or cells id [] =
    c.as_slice.ensures ∙ get_or_read cells id c.index-arrays-id.result (omega (arith, c.arrays-test.true, c.min-many.ensures, c.len.ensures)) c.index-arrays-id.is []
    in
    record {
      long = length-set written id c.keep_changes.new.self ∙ i.long;
      left = next_array (λ a. changes (slice_index_or cells a [])) c.args.written.now.items written id c.keep_changes.new.self within i.left
          (c.keep_changes.ensures ∙ (λ j. changes (beside j) (at (own j))));
    }

pub returns : goal.returns
returns c =
    all_left c.args.arrays.now c.args.written.now.items c.arrays.written.items c.arrays.id
    (reached (length c.args.written.now.items) (length c.args.arrays.now) c.arrays.id (omega (arith, c.arrays-test.false, c.min-many.ensures, c.len.ensures)))
    c.arrays.invariant.left
