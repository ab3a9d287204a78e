use Rattle.std.proofs.Common.{sym, subst, ap, ◌∙◌, List}
use Rattle.std.specs.Prelude.{map}
use Rattle.nona_tree.specs.Entries.{regions_all}
use Rattle.nona_code.specs.Main.{StandsForMain}
use Rattle.nona_stages.specs.declared.seen.Seen.{Seen}
use Rattle.morta_task.specs.ImageKept.{CanRun}
use Rattle.morta_task.specs.ImageView.{ImageView}
use Rattle.nona_gen.specs.OfSeen.{planned}
use Rattle.nona_gen.specs.Gathered.{is_seen}
use Rattle.nona_gen.proofs.image.generate.Goals as goal

pub assemble-requires : goal.assemble-requires
assemble-requires c =
    let p = c.args.program.now in
    let seen = c.args.seen.now in
    let code = c.in_ok-code.code.instrs in
    let same = c.in_ok-plans.ensures in
    let stands : StandsForMain code (is_seen seen) p.body = subst (λ (s : List Seen). StandsForMain code (is_seen s) p.body) same c.in_ok-code.ensures in
    let regions = c.in_ok-regions.ensures ∙ ap (λ (s : List Seen). map (planned s) (regions_all (is_seen s) p.body)) same in
    subst (λ (image : ImageView). CanRun code image)
    (λ i. let image : ImageView = record { main = (sym c.program.ensures.program i).body; regions = sym regions i } in image)
    (c.images_keep.ensures p seen code c.program.ensures.checked stands)
