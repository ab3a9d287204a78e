use Rattle.std.proofs.Common.{◌∙◌, ◌+◌, [], length, refl, ap, sym}
use Rattle.nona_sparse.specs.declared.page.TheConstants.{PAGE}
use Rattle.nona_sparse.specs.Marks.{block_of, mark_in, value_at}
use Rattle.nona_sparse.specs.Sparse.{at_page, change_at}
use Rattle.nona_sparse.proofs.Grouping.{no_marks, none_set}
use Rattle.nona_sparse.proofs.Leaving.{all_same, none_same}
use Rattle.nona_sparse.proofs.Marking.{none_marked, none_ranked}
use Rattle.nona_sparse.proofs.block.keep_left.Goals as goal

pub returns-then-each_is-clause-left : goal.returns-then-each_is-clause-left
returns-then-each_is-clause-left c =
    let marks = mark_in c.args.marks.now in
    let values = c.args.values.now in
    let cells = c.args.cells.now in
    let differ = c.each_is.ensures c.if-each_is.true in
    all_same marks values cells c.args.first (λ q within. ap (λ l. change_at cells (c.args.first + q) (value_at marks l q)) (sym c.as_slice.ensures)
    ∙ differ q within ∙ ap (λ l. value_at marks l q) c.as_slice.ensures)

pub returns-then-each_is-2-clause-kept : goal.returns-then-each_is-2-clause-kept
returns-then-each_is-2-clause-kept c = (refl, ap length c.clear.ensures ∙ sym (none_ranked (mark_in no_marks) PAGE none_set))

pub returns-then-each_is-2-clause-left : goal.returns-then-each_is-2-clause-left
returns-then-each_is-2-clause-left c =
    let marks = mark_in c.args.marks.now in
    let values = c.args.values.now in
    let cells = c.args.cells.now in
    let same = c.each_is-2.ensures c.if-each_is-2.true in
    λ place. ap (λ l. at_page (block_of no_marks l) place) c.clear.ensures ∙ none_marked (mark_in no_marks) [] none_set place
    ∙ none_same marks values cells c.args.first (λ q within. ap (λ l. change_at cells (c.args.first + q) (value_at marks l q)) (sym c.as_slice-2.ensures) ∙ same q within) place
