use Rattle.std.proofs.Common.{subst}
use Rattle.std.specs.Prelude.{◌+◌, ◌<◌, ◌^◌, length}
use Rattle.nona_stages.specs.Seen.{regions_of}
use Rattle.nona_stages.specs.Walking.{seen_marked}
use Rattle.nona_stages.proofs.Gathered.{number_fits}
use Rattle.nona_stages.proofs.outer.seen_by.Goals as goal

pub numbered-one-requires : goal.numbered-one-requires
numbered-one-requires c =
    let at = c.loop-mark in
    number_fits at.number c.in-Some.mark.at c.in-Some.mark.found _
    (subst (λ marks. length (regions_of (seen_marked at.number marks)) + at.number < 2 ^ 32) c.in-Some.ensures.steps.0 at.invariant.few)
