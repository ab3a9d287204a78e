use Rattle.std.proofs.Common.{refl, sym, ap, ◌∙◌}
use Rattle.net_share.specs.declared.task.Position.TheVariants as place
use Rattle.net_share.specs.Tasks.{stand_of}
use Rattle.net_share.proofs.Keeping.{sound_step}
use Rattle.net_share.proofs.sharing.Sharing.step.Goals as goal

pub returns-in-Claims-clause-sound : goal.returns-in-Claims-clause-sound
returns-in-Claims-clause-sound c =
    let e = c.claim.ensures in
    sound_step c.args.self.now c.claim.new.self c.requires.sound e.stays c.args.task c.requires.there place.Claims
    (ap stand_of (sym c.in-Claims.is) ∙ c.position.ensures) refl e.net

pub returns-in_ok-do_unit-in-Unit-clause-sound : goal.returns-in_ok-do_unit-in-Unit-clause-sound
returns-in_ok-do_unit-in-Unit-clause-sound c =
    let e = c.in_ok-do_unit-in-Unit.ensures in
    sound_step c.args.self.now c.do_unit.new.self c.requires.sound e.stays c.args.task c.requires.there (place.Unit c.in-Unit.unit)
    (ap stand_of (sym c.in-Unit.is) ∙ c.position.ensures) refl e.net
