use Rattle.std.proofs.Common.{◌≡◌, List, ap, subst, ◌∙◌, length, Some, slice_get}
use Rattle.nona_code.specs.SoundView.{SoundView}
use Rattle.nona_units.specs.Units.{IsUnitAt}
use Rattle.nona_units.specs.UnitsView.{UnitsView}
use Rattle.nona_units.proofs.Codes.{as_many_codes, unit_at}
use Rattle.nona_units.proofs.compiled.Units.codes.Goals as goal

pub returns-clause-count : goal.returns-clause-count
returns-clause-count c =
    ap length c.as_slice.ensures.value ∙ as_many_codes _ _ c.self.invariant.codes ∙ ap (λ (u : UnitsView). length u.body) c.self.view_is

pub returns-clause-units : goal.returns-clause-units
returns-clause-units c = λ at code found.
    let here = subst (λ (codes : List SoundView). slice_get codes at ≡ Some code) c.as_slice.ensures.value found in
    subst (λ (u : UnitsView). IsUnitAt code u at) c.self.view_is
    (unit_at c.self.inside.compiled.items _ at code c.self.invariant.codes c.self.invariant.room here)
