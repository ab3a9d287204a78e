use Rattle.std.proofs.Common.{◌∙◌, ap, sym}
use Rattle.nona_sparse.specs.Marks.{mark_in, value_at}
use Rattle.nona_sparse.specs.Sparse.{at_page}
use Rattle.nona_sparse.proofs.Marking.{at_within}
use Rattle.nona_sparse.proofs.block.Block.get.Goals as goal

pub returns : goal.returns
returns c =
    let marks = mark_in c.self.inside.marks in
    let place = c.args.place in
    c.value_of.ensures ∙ ap (λ l. value_at marks l place) c.as_slice.ensures
    ∙ sym (at_within marks c.self.inside.values place c.requires) ∙ ap (λ page. at_page page place) c.self.view_is
