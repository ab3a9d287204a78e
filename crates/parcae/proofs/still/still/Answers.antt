use Rattle.std.proofs.Common.{[], append-nil, sym, refl, None}
use Rattle.parcae.specs.declared.refusal.Refusal.TheVariants.{Usage}
use Rattle.parcae.specs.Due.{DueOfCommand}
use Rattle.parcae.specs.Files.{seen}
use Rattle.parcae.proofs.Ending.{ends_refused}
use Rattle.parcae.proofs.Answering.{starved_answer}
use Rattle.parcae.proofs.still.still.Goals as goal

pub returns-in-Ok-Some-Seq-clause-answers : goal.returns-in-Ok-Some-Seq-clause-answers
returns-in-Ok-Some-Seq-clause-answers g c =
    let told = rw (c.in-Ok-Some-Seq.field-0-is, c.in-Ok-Some-Seq.field-0-0-is) at c.in-Ok-Some-Seq.ensures in
    rw told.meant c.seq.ensures.answers

pub returns-in-Ok-Some-Check-clause-answers : goal.returns-in-Ok-Some-Check-clause-answers
returns-in-Ok-Some-Check-clause-answers g c =
    let told = rw (c.in-Ok-Some-Check.field-0-is, c.in-Ok-Some-Check.field-0-0-is) at c.in-Ok-Some-Check.ensures in
    let answers = rw c.as_str.ensures.value at c.check.ensures.answers in
    rw told.meant answers

pub returns-in-Ok-Some-Replay-clause-answers : goal.returns-in-Ok-Some-Replay-clause-answers
returns-in-Ok-Some-Replay-clause-answers g c =
    let told = rw (c.in-Ok-Some-Replay.field-0-is, c.in-Ok-Some-Replay.field-0-0-is) at c.in-Ok-Some-Replay.ensures in
    rw told.meant c.replay.ensures.answers

pub returns-in-Ok-Some-Trial-clause-answers : goal.returns-in-Ok-Some-Trial-clause-answers
returns-in-Ok-Some-Trial-clause-answers g c =
    let told = rw (c.in-Ok-Some-Trial.field-0-is, c.in-Ok-Some-Trial.field-0-0-is) at c.in-Ok-Some-Trial.ensures in
    rw told.meant c.trial.ensures.answers

-- the words are no command, and that line went out
pub returns-in-Ok-None-clause-answers : goal.returns-in-Ok-None-clause-answers
returns-in-Ok-None-clause-answers g c =
    let told = rw c.in-Ok-None.field-0-is at c.in-Ok-None.ensures in
    rw told.meant (
      [],
      sym (append-nil (g.S.Shelf.failed c.args.shelf.now)),
      ends_refused (DueOfCommand (seen g.S.Shelf.held c.args.shelf.now) None []) Usage _ _ (refl, refl) c.give_up.ensures,
    )

-- memory ran out, and nothing was written
pub returns-in-Err-clause-answers : goal.returns-in-Err-clause-answers
returns-in-Err-clause-answers g c =
    ([], sym (append-nil (g.S.Shelf.failed c.args.shelf.now)), starved_answer _ (seen g.S.Shelf.held c.args.shelf.now) _ _ c.give_up-in-Err.ensures)
