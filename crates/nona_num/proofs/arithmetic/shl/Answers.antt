use Rattle.std.proofs.Common.{arith}
use Rattle.std.proofs.lemmas.Int.{to_z-of_z}
use Rattle.std.specs.Int.{w64}
use Rattle.nona_num.proofs.Wrapping.{shifted_is}
use Rattle.nona_num.proofs.arithmetic.shl.Goals as goal

pub returns : goal.returns
returns c =
    let read_a = to_z-of_z w64 c.args.a c.ranges.a in
    let read_b = to_z-of_z w64 c.args.b c.ranges.b in
    let read_result = to_z-of_z w64 c.wrapping_shl.result (record { sfits = c.wrapping_shl.type_inv }) in
    let value = shifted_is c.args.a c.args.b c.shift_count.result c.ranges.a in
    grind (arith, read_a, read_b, read_result, value, c.wrapping_shl.ensures, c.shift_count.ensures)
