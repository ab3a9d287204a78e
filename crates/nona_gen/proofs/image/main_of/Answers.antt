use Rattle.std.proofs.Common.{◌≡◌, None, sym, subst, ap, ◌∙◌}
use Rattle.nona_tree.specs.declared.trees.Program.{Program}
use Rattle.nona_code.specs.Rule.{IsSound}
use Rattle.nona_code.specs.SoundView.{IsVerdict}
use Rattle.nona_gen.specs.Gathered.{is_seen}
use Rattle.nona_gen.specs.MainCode.{program_code}
use Rattle.nona_gen.proofs.image.main_of.Goals as goal

pub unreachable-requires : goal.unreachable-requires
unreachable-requires c =
    let p = c.args.program.now in
    let chosen = is_seen c.args.plans.now in
    let code = c.in_ok-code.code.items in
    let broken : IsVerdict code None = subst (IsVerdict code) c.in-None.is c.in_ok-sound.ensures in
    let is : code ≡ program_code chosen p.body =
    c.in_ok-code.ensures ∙ ap (program_code chosen) (c.as_slice.ensures ∙ ap (λ (q : Program). q.body) c.program.ensures.program) in
    broken (subst IsSound (sym is) (c.main_code_stands.ensures.sound chosen p.body (c.checked_has_code.ensures p c.program.ensures.checked)))
