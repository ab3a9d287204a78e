use Rattle.std.proofs.Common.{◌∙◌, ap, length, refl, sym}
use Rattle.nona_sparse.specs.declared.page.TheConstants.{PAGE}
use Rattle.nona_sparse.specs.Marks.{mark_in}
use Rattle.nona_sparse.proofs.Grouping.{no_marks, none_set}
use Rattle.nona_sparse.proofs.Marking.{none_marked, none_ranked}
use Rattle.nona_sparse.proofs.block.Block.begin.Goals as goal

pub invariant_of-result : goal.invariant_of-result
invariant_of-result c =
    ((refl, ap length c.begin.ensures ∙ sym (none_ranked (mark_in no_marks) PAGE none_set)), λ q behind within. none_set q)

pub returns : goal.returns
returns c = none_marked (mark_in no_marks) c.begin.result none_set
