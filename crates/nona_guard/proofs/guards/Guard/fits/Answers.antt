use Rattle.std.proofs.Common.{◌∙◌, FitsSigned, w64}
use Rattle.std.proofs.lemmas.Int.{to_z-of_z}
use Rattle.nona_guard.proofs.GuardLaws.{guard_held}
use Rattle.nona_guard.proofs.guards.Guard.fits.Goals as goal

pub returns-else-has_none : goal.returns-else-has_none
returns-else-has_none c =
    let low : FitsSigned w64 c.args.low = c.ranges.low in
    let last : FitsSigned w64 c.args.last = c.ranges.last in
    λ l is. (simp to_z-of_z at c.holds.ensures) ∙ guard_held l c.args.self.now c.args.store.now c.args.low c.args.last c.args.turns c.has_none.result (simp to_z-of_z at c.has_none.ensures) c.if-has_none.false c.requires is
