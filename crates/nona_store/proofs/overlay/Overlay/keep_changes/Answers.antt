use Rattle.std.proofs.Common.{◌∙◌, slice_index_or, []}
use Rattle.nona_sparse.specs.Sparse.{changes}
use Rattle.nona_store.specs.Overlays.{over_of}
use Rattle.nona_store.proofs.overlay.Overlay.keep_changes.Goals as goal

pub returns : goal.returns
returns c =
    (λ i id. c.keep_left.ensures id i) ∙ (λ i id. changes (slice_index_or (c.arrays.ensures i) id []) (over_of (c.self.view_is i) id))
