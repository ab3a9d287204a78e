use Rattle.std.proofs.Common.{arith}
use Rattle.std.proofs.lemmas.Int.{to_z-of_z}
use Rattle.std.specs.Prelude.{int_div}
use Rattle.std.specs.Int.{w64}
use Rattle.nona_num.proofs.Wrapping.{written_is_wrapped, quotient_below}
use Rattle.nona_num.proofs.arithmetic.div.Goals as goal

pub returns-else-b-eq0-clause-quotient : goal.returns-else-b-eq0-clause-quotient
returns-else-b-eq0-clause-quotient c =
    let read_a = to_z-of_z w64 c.args.a c.ranges.a in
    let read_b = to_z-of_z w64 c.args.b c.ranges.b in
    let value = written_is_wrapped (int_div c.args.a c.args.b) (quotient_below c.args.a c.args.b c.ranges.a) in
    grind (arith, to_z-of_z, c.wrapping_div.ensures, read_a, read_b, value)
