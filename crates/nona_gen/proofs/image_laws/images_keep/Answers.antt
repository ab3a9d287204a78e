use Rattle.nona_tree.specs.Entries.{is_among}
use Rattle.nona_stages.specs.Seen.{seen_places}
use Rattle.nona_gen.proofs.OfRegions.{image_kept}
use Rattle.nona_gen.proofs.image_laws.images_keep.Goals as goal

pub returns : goal.returns
returns c = λ p all code checked stands.
    let chosen = is_among (seen_places all) in
    image_kept p all code stands (c.regions_have_places.ensures (seen_places all) p.body)
    (c.regions_keep.ensures.few chosen p checked.0)
    (c.regions_keep.ensures.steady chosen p.body (c.checked_is_scoped.ensures.steady p checked))
    (c.regions_keep.ensures.small chosen p checked.0)
    (c.regions_keep.ensures.numbers chosen p.body checked.3.body)
