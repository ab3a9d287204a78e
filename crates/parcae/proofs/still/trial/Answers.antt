use Rattle.std.proofs.Common.{refl, Some}
use Rattle.parcae.specs.Words.{trial}
use Rattle.parcae.specs.Files.{seen}
use Rattle.parcae.specs.Due.{DueOfCommand}
use Rattle.parcae.specs.Trials.{DueOfTrial}
use Rattle.parcae.proofs.Answering.{whole_answer}
use Rattle.parcae.proofs.still.trial.Goals as goal

pub returns-clause-answers : goal.returns-clause-answers
returns-clause-answers g c =
    whole_answer (DueOfCommand (seen g.S.Shelf.held c.args.shelf.now) (Some (trial c.args.number))) (DueOfTrial c.args.number) _ _ _ _ refl
    (λ way d. (refl, d)) c.try_number.ensures
