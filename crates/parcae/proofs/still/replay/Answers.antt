use Rattle.std.proofs.Common.{refl, subst, ◌∙◌, Some, List, ℕ}
use Rattle.std.specs.declared.option.Option.{Option}
use Rattle.std.specs.Option.{option_copied}
use Rattle.parcae.specs.declared.refusal.Source.TheVariants as source
use Rattle.fate_io.specs.Sending.{sent_since}
use Rattle.parcae.specs.Told.{told_of}
use Rattle.parcae.specs.Meant.{replay_task_of}
use Rattle.parcae.specs.Words.{replay}
use Rattle.fate_io.specs.Reading.{Held, looked_since}
use Rattle.parcae.specs.Files.{seen, IsBad, GivesProgram, GivesInput, NoInput, Stopped, stops, starves, follows}
use Rattle.parcae.specs.Answers.{EndsIn}
use Rattle.parcae.specs.Due.{DueOfCommand, DueOfLed}
use Rattle.parcae.proofs.Answering.{stopped_answer, further_answer}
use Rattle.parcae.proofs.still.replay.Goals as goal

-- the program was replayed, or what leads was not there
pub returns-in-Ok-input_in-clause-answers : goal.returns-in-Ok-input_in-clause-answers
returns-in-Ok-input_in-clause-answers g c =
    let task = replay_task_of c.args.task.now in
    let outside = seen g.S.Shelf.held c.args.shelf.now in
    let tree = c.in-Ok.program in
    let items = c.in-Ok-input_in.input.items in
    let program = subst (λ (file : List ℕ). GivesProgram outside file tree) c.as_str.ensures.value c.in-Ok.ensures.gives in
    let told = subst (λ (h : List ℕ → Held). GivesInput (record { held = h }) (option_copied c.as_deref.result) items) c.in-Ok.ensures.same c.in-Ok-input_in.ensures.gives in
    let numbers = subst (λ (file : Option (List ℕ)). GivesInput outside file items) c.as_deref.ensures.value told in
    let looked = looked_since g.S.Shelf.held g.S.Shelf.failed c.input_in.new.shelf c.replay_over.new.shelf in
    let sent = sent_since g.K.Sink.written g.K.Sink.faults c.args.out.now c.replay_over.new.out in
    let led = subst (λ (h : List ℕ → Held). EndsIn (DueOfLed (record { held = h }) task tree items) looked sent (told_of c.replay_over.result)) (c.in-Ok-input_in.ensures.same ∙ c.in-Ok.ensures.same) c.replay_over.ensures.answers in
    further_answer (DueOfCommand outside (Some (replay task))) (DueOfLed outside task tree items) _ looked _ _
    (c.in-Ok-input_in.ensures.read ∙ c.in-Ok.ensures.read)
    (λ added way d. follows tree program (follows items numbers d)) led

-- the input gave no numbers
pub returns-in-Ok-clause-answers : goal.returns-in-Ok-clause-answers
returns-in-Ok-clause-answers g c =
    let task = replay_task_of c.args.task.now in
    let outside = seen g.S.Shelf.held c.args.shelf.now in
    let looked = looked_since g.S.Shelf.held g.S.Shelf.failed c.program_in.new.shelf c.input_in.new.shelf in
    let program = subst (λ (file : List ℕ). GivesProgram outside file c.in-Ok.program) c.as_str.ensures.value c.in-Ok.ensures.gives in
    let told = subst (λ (h : List ℕ → Held). Stopped (NoInput (record { held = h }) (option_copied c.as_deref.result)) looked c.in-Err-input_in.stop) c.in-Ok.ensures.same c.in-Err-input_in.ensures.none in
    let none = subst (λ (file : Option (List ℕ)). Stopped (NoInput outside file) looked c.in-Err-input_in.stop) c.as_deref.ensures.value told in
    stopped_answer (DueOfCommand outside (Some (replay task))) (NoInput outside task.run.input) _ looked c.in-Err-input_in.stop _ _ c.in-Ok.ensures.read
    (λ added x h. follows c.in-Ok.program program (stops x h refl)) (starves refl refl) none c.give_up.ensures

-- the file gave no program
pub returns-clause-answers : goal.returns-clause-answers
returns-clause-answers g c =
    let task = replay_task_of c.args.task.now in
    let outside = seen g.S.Shelf.held c.args.shelf.now in
    let looked = looked_since g.S.Shelf.held g.S.Shelf.failed c.args.shelf.now c.program_in.new.shelf in
    let none = subst (λ (file : List ℕ). Stopped (IsBad source.Program outside file) looked c.in-Err.stop) c.as_str.ensures.value c.in-Err.ensures.none in
    stopped_answer (DueOfCommand outside (Some (replay task))) (IsBad source.Program outside task.run.file) _ looked c.in-Err.stop _ _ refl
    (λ added x h. stops x h refl) (starves refl refl) none c.give_up-in-Err.ensures
