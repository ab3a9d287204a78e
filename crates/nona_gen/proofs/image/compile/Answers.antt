use Rattle.std.proofs.Common.{List, ap, subst, sym, ◌∙◌}
use Rattle.std.specs.Prelude.{◌≡◌, IfOk}
use Rattle.nona_tree.specs.Entries.{is_among, regions_all}
use Rattle.nona_stages.specs.declared.seen.Seen.{Seen}
use Rattle.nona_stages.specs.Seen.{seen_places}
use Rattle.morta_task.specs.ImageView.{ImageView}
use Rattle.nona_gen.specs.OfSeen.{image_by, AreCalm}
use Rattle.nona_gen.proofs.image.compile.Goals as goal

pub generate-requires : goal.generate-requires
generate-requires c =
    let p = c.args.program.now in
    let seen = c.deref.ensures.value ∙ c.in_ok-seen.ensures in
    record {
      calm = subst (λ (all : List Seen). AreCalm (regions_all (is_among (seen_places all)) p.body)) (sym seen) (c.seen_is_planned.ensures.calm p c.program.ensures.checked);
    }

pub returns : goal.returns
returns c =
    let p = c.args.program.now in
    subst (λ (wanted : ImageView). IfOk c.generate.result (λ image. image ≡ wanted))
    (ap (image_by p) (c.deref.ensures.value ∙ c.in_ok-seen.ensures) ∙ c.seen_is_planned.ensures.image p c.program.ensures.checked)
    c.generate.ensures
