use Rattle.std.proofs.Common.{length, ap, ◌∙◌, arith}
use Rattle.nona_store.specs.Overlays.{over_of, under}
use Rattle.nona_store.proofs.Overlaying.{each_array, reached}
use Rattle.nona_store.proofs.store.Store.apply.Goals as goal

pub returns : goal.returns
returns c =
    let old = c.args.self.now in
    let i = c.arrays.invariant in
    let written = c.arrays-written.result.now in
    let all = reached (length written) (length old.arrays) c.arrays.array (omega (arith, c.arrays-test.false, c.min-many.ensures, c.len.ensures, ap length (ap (λ m. m.arrays) c.self.view_is))) in
    (λ j. record { scalars = i.scalars j; arrays = each_array written c.arrays.self.arrays old.arrays c.arrays.array i.many all i.each j; printed = i.printed j })
    ∙ ap (λ w. under (over_of w) old) c.arrays-written.ensures
