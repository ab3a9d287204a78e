use Rattle.std.proofs.Common.{◌≡◌, ◌*ℤ◌, rules}
use Rattle.std.specs.Int.{w128, cast_signed, cast_unsigned, int_min, int_max}
use Rattle.nona_num.proofs.Products.{product_between}
use Rattle.nona_num.proofs.range.Range.times.Goals as goal

pub returns-clause-products : goal.returns-clause-products
returns-clause-products c = λ x held.
    let least : cast_signed w128 (cast_unsigned w128 c.min.result) ≡ int_min (c.args.self.low *ℤ c.args.c) (c.args.self.high *ℤ c.args.c) = search rules in
    let greatest : cast_signed w128 (cast_unsigned w128 c.max.result) ≡ int_max (c.args.self.low *ℤ c.args.c) (c.args.self.high *ℤ c.args.c) = search rules in
    rw (least, greatest) (product_between c.args.self.low c.args.self.high x c.args.c held.0 held.1)
