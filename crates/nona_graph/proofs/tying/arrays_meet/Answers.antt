use Rattle.std.proofs.Common.{◌∙◌, ◌&&◌}
use Rattle.std.specs.List.{list_any}
use Rattle.nona_forms.specs.Affine.{among}
use Rattle.nona_graph.proofs.tying.arrays_meet.Goals as goal

pub returns : goal.returns
returns c = λ ids same. c.share.ensures ids same ∙ (λ i. list_any (λ id. among id (c.arrays_of.ensures i) && among id (c.arrays_of-2.ensures i)) ids)
