use Rattle.std.proofs.Common.{arith}
use Rattle.nona_store.proofs.Sized.{are_sized, start_few}
use Rattle.nona_store.proofs.store.Store.start.Goals as goal

pub first_arrays-requires : goal.first_arrays-requires
first_arrays-requires c =
    let p = c.args.program.now in
    let clear = c.program-program.ensures.checked.1 in
    rw (c.as_slice-2.ensures, c.program-program.ensures.program) (are_sized p.arrays (c.cells_are_bounded.ensures.least p clear) (c.cells_are_bounded.ensures.most p clear))

pub invariant_of-result : goal.invariant_of-result
invariant_of-result c =
    let p = c.args.program.now in
    let input = c.args.input.items in
    let checked = c.program-program.ensures.checked in
    rw (c.in_ok-scalars.ensures, c.as_slice.ensures, c.in_ok-arrays.ensures, c.as_slice-2.ensures, c.of.ensures, c.new.ensures.items, c.program-program.ensures.program)
    (record {
      numbers = c.numbers_stay.ensures.start p input checked.3 (omega (arith, c.requires.few), c.requires.numbers);
      few = start_few p input (omega (arith, c.requires.few)) (c.cells_are_bounded.ensures.most p checked.1);
    })
