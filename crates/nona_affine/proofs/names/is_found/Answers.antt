use Rattle.std.proofs.Common.{◌∙◌}
use Rattle.nona_affine.proofs.Members.{found}
use Rattle.nona_affine.proofs.names.is_found.Goals as goal

pub returns : goal.returns
returns c =
    c.is_ok.ensures.value ∙ found c.args.id c.args.ids.now c.binary_search.result c.requires c.binary_search.ensures.position
