use Rattle.morta_task.specs.ImageView.{is_region_of}
use Rattle.morta_exec.proofs.Starting.{begun_as}
use Rattle.morta_exec.proofs.driving.frame_of.Goals as goal

pub returns : goal.returns
returns c =
    begun_as c.begin.result _ _ (λ frame begins. begins (is_region_of c.args.image.now) c.args.image.now.main c.code.ensures) c.begin.ensures
