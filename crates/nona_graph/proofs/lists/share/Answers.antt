use Rattle.std.proofs.Common.{ap, ◌∙◌, ◌&&◌}
use Rattle.std.specs.List.{list_any}
use Rattle.nona_forms.specs.Affine.{among}
use Rattle.nona_graph.proofs.Sharing.{shared}
use Rattle.nona_graph.proofs.lists.share.Goals as goal

pub returns : goal.returns
returns c = λ ids same.
    c.has_one.ensures ∙ ap (list_any (λ id. among id c.args.kept.now && among id c.args.other.now)) c.as_slice.ensures
    ∙ shared c.args.kept.now ids c.args.one.now c.args.other.now same
