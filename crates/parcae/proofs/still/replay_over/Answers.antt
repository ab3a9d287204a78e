use Rattle.std.proofs.Common.{refl, sym, subst, string_bytes, List, ℕ}
use Rattle.parcae.specs.declared.refusal.Source.TheVariants as source
use Rattle.parcae.specs.declared.words.Leader.{Leader as ReadLeader}
use Rattle.fate_io.specs.Reading.{looked_since}
use Rattle.parcae.specs.Meant.{leader_of, replay_task_of}
use Rattle.parcae.specs.Files.{seen, IsBad, GivesScript, GivesLead, NoLead, Stopped, stops, starves, follows}
use Rattle.parcae.specs.Leads.{script_leads, control_leads}
use Rattle.parcae.specs.Due.{DueOfLed}
use Rattle.parcae.proofs.Answering.{stopped_answer, whole_answer}
use Rattle.parcae.proofs.still.replay_over.Goals as goal

-- the script was replayed
pub returns-in-Ok-clause-answers : goal.returns-in-Ok-clause-answers
returns-in-Ok-clause-answers g c =
    let task = replay_task_of c.args.task.now in
    let outside = seen g.S.Shelf.held c.args.shelf.now in
    let commands = c.in-Ok.script.commands.items in
    let lead = script_leads task.links commands in
    let script = subst (λ (file : List ℕ). GivesScript outside file commands) c.as_str.ensures.value c.in-Ok.ensures.gives in
    let gives = subst (λ (l : ReadLeader). GivesLead outside task.links (leader_of l) lead) (sym c.in-Script.is) (commands, script, refl) in
    whole_answer (DueOfLed outside task c.args.program.now c.args.input.items) _ _ _ _ _ c.in-Ok.ensures.read
    (λ way d. follows lead gives (refl, d)) c.replay_script.ensures

-- the file gave no script
pub returns-in-Err-clause-answers : goal.returns-in-Err-clause-answers
returns-in-Err-clause-answers g c =
    let task = replay_task_of c.args.task.now in
    let outside = seen g.S.Shelf.held c.args.shelf.now in
    let looked = looked_since g.S.Shelf.held g.S.Shelf.failed c.args.shelf.now c.script_in.new.shelf in
    let none = subst (λ (file : List ℕ). Stopped (IsBad source.Script outside file) looked c.in-Err.stop) c.as_str.ensures.value c.in-Err.ensures.none in
    stopped_answer (DueOfLed outside task c.args.program.now c.args.input.items) (IsBad source.Script outside (string_bytes c.in-Script.file)) _ looked c.in-Err.stop _ _ refl
    (λ added x h. stops x (subst (λ (l : ReadLeader). NoLead outside (leader_of l) added x) (sym c.in-Script.is) h) refl) (starves refl refl) none c.give_up.ensures

-- the program was replayed under a controller
pub returns-in-Control-clause-answers : goal.returns-in-Control-clause-answers
returns-in-Control-clause-answers g c =
    let task = replay_task_of c.args.task.now in
    let outside = seen g.S.Shelf.held c.args.shelf.now in
    let lead = control_leads c.in-Control.workers in
    let gives = subst (λ (l : ReadLeader). GivesLead outside task.links (leader_of l) lead) (sym c.in-Control.is) refl in
    whole_answer (DueOfLed outside task c.args.program.now c.args.input.items) _ _ _ _ _ refl
    (λ way d. follows lead gives (refl, d)) c.replay_controlled.ensures
