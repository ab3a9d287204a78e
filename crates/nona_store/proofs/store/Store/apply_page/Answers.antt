use Rattle.std.proofs.Common.{◌∙◌, arith}
use Rattle.nona_store.specs.Overlays.{over_of}
use Rattle.nona_store.proofs.Paging.{none_applied, page_applied}
use Rattle.nona_store.proofs.store.Store.apply_page.Goals as goal

pub returns-then-array-count_arrays-clause-store : goal.returns-then-array-count_arrays-clause-store
returns-then-array-count_arrays-clause-store c =
    c.move_page.ensures.store ∙ page_applied (over_of c.args.overlay.now) c.args.self.now c.args.array c.args.index c.requires

pub returns-else-array-count_arrays-clause-store : goal.returns-else-array-count_arrays-clause-store
returns-else-array-count_arrays-clause-store c =
    none_applied c.args.overlay.now c.args.self.now c.args.array c.args.index (omega (arith, c.if-array-count_arrays.false, c.count_arrays.ensures))
