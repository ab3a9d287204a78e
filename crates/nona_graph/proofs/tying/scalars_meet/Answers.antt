use Rattle.std.proofs.Common.{◌∙◌, ◌&&◌}
use Rattle.std.specs.List.{list_any}
use Rattle.nona_forms.specs.Affine.{among}
use Rattle.nona_graph.proofs.tying.scalars_meet.Goals as goal

pub returns : goal.returns
returns c = λ ids same. c.share.ensures ids same ∙ (λ i. list_any (λ id. among id (c.scalars_of.ensures i) && among id (c.scalars_of-2.ensures i)) ids)
