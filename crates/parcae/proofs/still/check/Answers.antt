use Rattle.std.proofs.Common.{refl, Some}
use Rattle.parcae.specs.declared.refusal.Source.TheVariants as source
use Rattle.parcae.specs.Words.{check}
use Rattle.fate_io.specs.Reading.{looked_since}
use Rattle.parcae.specs.Files.{seen, IsBad, stops, starves, follows}
use Rattle.parcae.specs.Due.{DueOfCommand}
use Rattle.parcae.proofs.Answering.{stopped_answer, whole_answer}
use Rattle.parcae.proofs.still.check.Goals as goal

-- the program was reported on
pub returns-in-Ok-clause-answers : goal.returns-in-Ok-clause-answers
returns-in-Ok-clause-answers g c =
    let outside = seen g.S.Shelf.held c.args.shelf.now in
    whole_answer (DueOfCommand outside (Some (check c.args.file.now))) _ _ _ _ _ c.in-Ok.ensures.read
    (λ way d. follows c.in-Ok.program c.in-Ok.ensures.gives (refl, d)) c.report_loops.ensures

-- the file gave no program
pub returns-in-Err-clause-answers : goal.returns-in-Err-clause-answers
returns-in-Err-clause-answers g c =
    let outside = seen g.S.Shelf.held c.args.shelf.now in
    stopped_answer (DueOfCommand outside (Some (check c.args.file.now))) (IsBad source.Program outside c.args.file.now) _
    (looked_since g.S.Shelf.held g.S.Shelf.failed c.args.shelf.now c.program_in.new.shelf) c.in-Err.stop _ _ refl
    (λ added x h. stops x h refl) (starves refl refl) c.in-Err.ensures.none c.give_up.ensures
