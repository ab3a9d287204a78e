use Rattle.std.proofs.Common.{◌≡◌, sym, ap, ◌∙◌, w64, to_z, of_z, ℤ, Option, rules}
use Rattle.std.specs.Option.{unwrap_or}
use Rattle.std.proofs.lemmas.Int.{to_z-of_z}
use Rattle.nona_tree.specs.Memory.{cell_at}
use Rattle.nona_store.specs.Overlays.{over_of}
use Rattle.nona_store.proofs.Overlaying.{within_own, has_array, covered}
use Rattle.nona_store.proofs.share.ShareBankBank.load.Goals as goal

pub cell-requires-clause-array : goal.cell-requires-clause-array
cell-requires-clause-array c =
    let m = c.args.self.now.store.now in
    has_array m.arrays c.args.array c.args.index
    (within_own m (over_of c.args.self.now.share.now.written) c.args.array c.args.index c.requires.cell)

pub cell-requires-clause-cell : goal.cell-requires-clause-cell
cell-requires-clause-cell c =
    within_own c.args.self.now.store.now (over_of c.args.self.now.share.now.written) c.args.array c.args.index c.requires.cell

pub returns-in-Some-clause-value : goal.returns-in-Some-clause-value
returns-in-Some-clause-value c =
    let m = c.args.self.now.store.now in
    let over = over_of c.args.self.now.share.now.written in
    let a = c.args.array in
    let at = c.args.index in
    let kept : to_z w64 (of_z w64 c.in-Some.written) ≡ c.in-Some.written = search rules in
    kept ∙ ap (λ (o : Option ℤ). unwrap_or o (cell_at m a at)) (sym c.in-Some.is ∙ c.get.ensures)
    ∙ sym (covered m over a at (within_own m over a at c.requires.cell))

pub returns-in-None-clause-value : goal.returns-in-None-clause-value
returns-in-None-clause-value c =
    let m = c.args.self.now.store.now in
    let over = over_of c.args.self.now.share.now.written in
    let a = c.args.array in
    let at = c.args.index in
    to_z-of_z w64 c.cell.result (record { sfits = c.cell.type_inv }) ∙ c.cell.ensures
    ∙ ap (λ (o : Option ℤ). unwrap_or o (cell_at m a at)) (sym c.in-None.is ∙ c.get.ensures)
    ∙ sym (covered m over a at (within_own m over a at c.requires.cell))
