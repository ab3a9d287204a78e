use Rattle.std.proofs.Common.{◌≡◌, ◌+◌, ◌-◌, ℕ, Option, ℤ, arith, refl}
use Rattle.nona_sparse.specs.declared.page.TheConstants.{PAGE}
use Rattle.nona_sparse.specs.Marks.{block_of, mark_in}
use Rattle.nona_sparse.specs.Sparse.{at_page, change_at}
use Rattle.nona_sparse.proofs.Leaving.{next_done, next_same, none_done}
use Rattle.nona_sparse.proofs.block.forget_all_same.Goals as goal

pub places-init : goal.places-init
places-init c =
    record {
      kept = c.requires.kept;
      fewer = λ q within clear. clear;
      same = λ q below. refl;
      left = λ q behind. none_done (mark_in c.args.marks.now) c.args.values.now c.args.cells.now c.args.first q (omega (arith, behind));
    }

pub places-preserved : goal.places-preserved
places-preserved c =
    let i = c.places.invariant in
    let done = c.places.done in
    let place = PAGE - 1 - done in
    let left = λ (q : ℕ) (value : Option ℤ). change_at c.args.cells.now (c.args.first + q) value in
    let was = at_page (block_of c.args.marks.now c.args.values.now) in
    let now = at_page (block_of c.places.marks c.places.values) in
    let next = at_page (block_of c.forget_same.new.marks c.forget_same.new.values) in
    let last : place + (done + 1) ≡ PAGE = omega (arith, c.places-test.true) in
    record {
      kept = c.forget_same.ensures.kept;
      fewer = λ q within clear. c.forget_same.ensures.fewer q within (i.fewer q within clear);
      same = next_same left was now next place done last c.forget_same.ensures.left i.same;
      left = next_done left was now next place done last c.forget_same.ensures.left i.same i.left;
    }
