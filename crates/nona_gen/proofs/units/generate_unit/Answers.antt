use Rattle.std.proofs.Common.{None, Some, sym, subst, ◌∙◌}
use Rattle.nona_code.specs.Rule.{IsSound}
use Rattle.nona_code.specs.SoundView.{IsVerdict}
use Rattle.nona_code.specs.Stands.{StandsFor}
use Rattle.nona_gen.proofs.Standing.{unit_stands}
use Rattle.nona_gen.proofs.Keeping.{unit_sound}
use Rattle.nona_gen.proofs.units.generate_unit.Goals as goal

pub unreachable-requires : goal.unreachable-requires
unreachable-requires c =
    let broken : IsVerdict c.in_ok-code.code.items None = subst (IsVerdict c.in_ok-code.code.items) c.in-None.is c.in_ok-sound.ensures in
    broken (subst IsSound (sym c.in_ok-code.ensures) (unit_sound c.args.statement.now c.requires))

pub returns-clause-stands : goal.returns-clause-stands
returns-clause-stands c =
    let s = c.args.statement.now in
    let kept : IsVerdict c.in_ok-code.code.items (Some c.in-Some.sound) = subst (IsVerdict c.in_ok-code.code.items) c.in-Some.is c.in_ok-sound.ensures in
    subst (λ xs. StandsFor xs s) (sym (kept.0 ∙ c.in_ok-code.ensures)) (unit_stands s c.requires)
