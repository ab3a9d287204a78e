use Rattle.std.proofs.Common.{◌∙◌}
use Rattle.clap.proofs.WalkLemmas.{both}
use Rattle.parcae.specs.Words.{found_in}
use Rattle.parcae.proofs.Found.{taken, not_taken}
use Rattle.parcae.proofs.words.found_in.Goals as goal

pub returns-in-Ok : goal.returns-in-Ok
unfolding found_in
returns-in-Ok c =
    let simple = both _ _ c.requires in
    taken _ _ _ (c.in-Ok.ensures.kinds c.requires) (c.in-Ok.ensures.matches simple.0).0

pub returns : goal.returns
unfolding found_in
returns c = not_taken _ _ _ (λ memory. c.in_default.not-OutOfMemory (c.kind.ensures ∙ memory)) (c.in-Err.ensures.kinds c.requires)
