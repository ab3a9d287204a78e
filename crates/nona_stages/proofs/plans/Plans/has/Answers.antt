use Rattle.std.proofs.Common.{List, ap, ◌∙◌}
use Rattle.nona_tree.specs.Entries.{is_among}
use Rattle.nona_stages.specs.declared.seen.Seen.{Seen}
use Rattle.nona_stages.specs.Seen.{regions_of, seen_places}
use Rattle.nona_stages.proofs.Places.{has_index, has_region}
use Rattle.nona_stages.proofs.plans.Plans.has.Goals as goal

pub returns : goal.returns
returns c =
    let at = c.args.looped.now.at in
    c.contains_key.ensures ∙ has_index _ _ _ (c.self.invariant at) ∙ has_region (regions_of c.self.inside.seen.now) at
    ∙ ap (λ (all : List Seen). is_among (seen_places all) c.args.looped.now) c.self.view_is
