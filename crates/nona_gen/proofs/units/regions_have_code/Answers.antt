use Rattle.std.proofs.Common.{◌+◌, ◌≤◌, length, arith}
use Rattle.nona_tree.specs.Smallness.{all_size, all_nesting}
use Rattle.nona_gen.proofs.RegionsCode.{regions_code}
use Rattle.nona_gen.proofs.units.regions_have_code.Goals as goal

pub returns : goal.returns
returns c = λ p chosen h.
    let few : length p.vars + all_size p.body ≤ 2147483648 = omega (arith, h.0.0) in
    let nested : all_nesting p.body ≤ 256 = omega (arith, h.0.1) in
    regions_code chosen p.body (length p.vars) (length p.arrays + 1) (c.checked_is_scoped.ensures.declared p h) few nested (c.checked_is_scoped.ensures.steady p h) h.3.body
