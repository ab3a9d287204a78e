-- A command whose files are held ends with what is due of its run where nothing outside fails.
use Rattle.std.proofs.Common.{◌≡◌, ◌≢◌, ℕ, ◌<◌, ◌≤◌, ℤ, List, [], ◌∷◌, ◌++◌, length, length-append, ap, sym, refl, ◌∙◌, subst, None, Some, Ok, Err, arith}
use Rattle.std.specs.declared.option.Option.{Option}
use Rattle.fate_io.specs.Causes.{Rose}
use Rattle.fate_io.specs.Sending.{Sent}
use Rattle.nona_tree.specs.declared.trees.Program.{Program}
use Rattle.nona_store.specs.declared.input.InputFault.TheVariants as input
use Rattle.nona_tree.specs.Run.{meaning_of}
use Rattle.nona_store.specs.Input.{numbers_of}
use Rattle.morta_script.specs.declared.script.Command.{Command as Order}
use Rattle.morta_script.specs.Lines.{commands_of}
use Rattle.nona_parse.specs.Reading.{IsReading}
use Rattle.morta_task.specs.LogView.{LogView, empty_log}
use Rattle.parcae.specs.declared.refusal.Refusal.{Refusal}
use Rattle.parcae.specs.declared.refusal.Source.{Source}
use Rattle.parcae.specs.declared.refusal.Source.TheVariants as source
use Rattle.parcae.specs.declared.status.Status.TheVariants.{NoMemory}
use Rattle.parcae.specs.Words.{Task, Leader, by_script, by_control, ReplayTask, Command, seq, check, replay, trial}
use Rattle.parcae.specs.Leads.{Lead, script_leads}
use Rattle.parcae.specs.Told.{Told}
use Rattle.parcae.specs.Accepted.{IsAccepted}
use Rattle.fate_io.specs.Reading.{Held, Looked}
use Rattle.fate_io.specs.Outside.{Outside, outside_of}
use Rattle.parcae.specs.Ends.{Way, Whole, Unbegun, Ends, whole, write_failed, no_memory, unbegun}
use Rattle.parcae.specs.Files.{limit_of, IsContent, IsLong, Refuses, IsBad, failed, long, text, RefusesInput, input_token, input_count, RefusesScript, script_line, GivesProgram, GivesInput, NoInput, GivesScript, GivesLead, NoLead, DueOf, stops, starves, follows}
use Rattle.parcae.specs.Due.{DueOfSeq, DueOfCheck, DueOfTask, DueOfCommand}
use Rattle.parcae.specs.Answers.{Answers, HoldsProgram, HoldsInput, HoldsScript, HoldsLead, EndsWhole, IsComplete}
use Rattle.parcae.proofs.Accepting.{one_accepted, not_refused}

-- where nothing failed, a call ends whole
ends_whole : (due : Way → Type 0) (sent : Sent) (told : Told) → ¬ (Rose sent.faults_before sent.faults) → told.status ≢ NoMemory
    → Ends due sent told → EndsWhole due sent told
ends_whole due sent told kept room (whole p l d h) = (p, l, d, h)
ends_whole due sent told kept room (write_failed e b rose) = absurd (kept rose)
ends_whole due sent told kept room (no_memory e b) = absurd (room e)
ends_whole due sent told kept room (unbegun e d h b) = absurd (room e)

-- no read failed, so no name was added
pub none_added : (names added : List (List ℕ)) → names ≡ names ++ added → added ≡ []
none_added names [] e = refl
none_added names (x ∷ xs) e = absurd (omega (arith, ap length e, length-append names (x ∷ xs)))

-- the content of a file is what is held
content_is : (src : Source) (held : Held) (bytes c : List ℕ) → held ≡ Some (Some bytes) → IsContent src held c → c ≡ bytes
content_is src None bytes c is h = cc
content_is src (Some None) bytes c is h = cc
content_is src (Some (Some b)) bytes c is h = let told : Some b ≡ Some c = h.1 in cc

-- a file that is held within its limit, and whose text is not refused, is not bad
not_bad : (src : Source) (outside : Outside) (name bytes : List ℕ) (added : List (List ℕ)) (r : Refusal)
    → outside.held name ≡ Some (Some bytes) → length bytes ≤ limit_of src → added ≡ [] → ((r : Refusal) → Refuses src bytes r → ⊥)
    → IsBad src outside name added r → ⊥
not_bad src outside name bytes added r is le none calm (failed e) =
    let no_name : name ∷ [] ≡ [] = sym e ∙ none in
    cc
not_bad src outside name bytes added r is le none calm (long e l) =
    let told : limit_of src < length bytes = subst (λ (h : Held). IsLong src h) is l in
    absurd (omega (arith, told, le))
not_bad src outside name bytes added r is le none calm (text c x e content h) =
    let same : c ≡ bytes = content_is src (outside.held name) bytes c is content in
    calm x (subst (λ (l : List ℕ). Refuses src l x) same h)

-- where a file gives just one thing, what is due of a call that wrote something follows from it
due_follows : {A : Type 0} (none : List (List ℕ) → Refusal → Type 0) (gives : A → Type 0) (next : A → List (List ℕ) → Way → Type 0)
    (added : List (List ℕ)) (way : Way) (x : A) → ((r : Refusal) → none added r → ⊥) → ((y : A) → gives y → y ≡ x)
    → way ≢ Unbegun empty_log → DueOf none gives next added way → next x added way
due_follows none gives next added way x never only apart (stops r h e) = absurd (never r h)
due_follows none gives next added way x never only apart (starves e w) = absurd (apart w)
due_follows none gives next added way x never only apart (follows y g d) = subst (λ z. next z added way) (only y g) d

-- two readings of a text are one
abbrev pub One : List ℕ → Type 0
One bytes = (p q : Program) → IsReading bytes p → IsReading bytes q → p ≡ q

never_program : (looked : Looked) (file : List ℕ) (tree : Program) (added : List (List ℕ)) → ((bytes : List ℕ) → One bytes) → added ≡ []
    → HoldsProgram looked file tree → (r : Refusal) → IsBad source.Program (outside_of looked) file added r → ⊥
never_program looked file tree added one none h r bad =
    not_bad source.Program (outside_of looked) file h.0 added r h.1.0 h.1.1 none (not_refused h.0 tree (one h.0) h.2) bad

only_program : (looked : Looked) (file : List ℕ) (tree : Program) → ((bytes : List ℕ) → One bytes)
    → HoldsProgram looked file tree → (y : Program) → GivesProgram (outside_of looked) file y → y ≡ tree
only_program looked file tree one h y g =
    let same : g.0 ≡ h.0 = content_is source.Program (looked.held file) h.0 g.0 h.1.0 g.1 in
    one_accepted one h.0 y tree (subst (λ (l : List ℕ). IsAccepted l y) same g.2) h.2

numbers_stand : (bytes : List ℕ) (numbers : List ℤ) → numbers_of bytes ≡ Ok numbers → (r : Refusal) → RefusesInput bytes r → ⊥
numbers_stand bytes numbers e r (input_token at h) = let is : Ok numbers ≡ Err (input.Token at) = sym e ∙ h in cc
numbers_stand bytes numbers e r (input_count h) = let is : Ok numbers ≡ Err input.Count = sym e ∙ h in cc

never_input : (looked : Looked) (file : Option (List ℕ)) (numbers : List ℤ) (added : List (List ℕ)) → added ≡ []
    → HoldsInput looked file numbers → (r : Refusal) → NoInput (outside_of looked) file added r → ⊥
never_input looked None numbers added none h r bad = bad
never_input looked (Some file) numbers added none h r bad =
    not_bad source.Input (outside_of looked) file h.0 added r h.1.0 h.1.1 none (numbers_stand h.0 numbers h.2) bad

only_input : (looked : Looked) (file : Option (List ℕ)) (numbers : List ℤ) → HoldsInput looked file numbers
    → (y : List ℤ) → GivesInput (outside_of looked) file y → y ≡ numbers
only_input looked None numbers h y g = g ∙ sym h
only_input looked (Some file) numbers h y g =
    let same : g.0 ≡ h.0 = content_is source.Input (looked.held file) h.0 g.0 h.1.0 g.1 in
    let is : Ok y ≡ Ok numbers = sym g.2 ∙ ap numbers_of same ∙ h.2 in
    cc

commands_stand : (bytes : List ℕ) (commands : List Order) → commands_of bytes ≡ Ok commands → (r : Refusal) → RefusesScript bytes r → ⊥
commands_stand bytes commands e r (script_line n h) = let is : Ok commands ≡ Err n = sym e ∙ h in cc

never_script : (looked : Looked) (file : List ℕ) (commands : List Order) (added : List (List ℕ)) → added ≡ []
    → HoldsScript looked file commands → (r : Refusal) → IsBad source.Script (outside_of looked) file added r → ⊥
never_script looked file commands added none h r bad =
    not_bad source.Script (outside_of looked) file h.0 added r h.1.0 h.1.1 none (commands_stand h.0 commands h.2) bad

only_script : (looked : Looked) (file : List ℕ) (commands : List Order) → HoldsScript looked file commands
    → (y : List Order) → GivesScript (outside_of looked) file y → y ≡ commands
only_script looked file commands h y g =
    let same : g.0 ≡ h.0 = content_is source.Script (looked.held file) h.0 g.0 h.1.0 g.1 in
    let is : Ok y ≡ Ok commands = sym g.2 ∙ ap commands_of same ∙ h.2 in
    cc

never_lead : (looked : Looked) (links : ℕ) (leader : Leader) (lead : Lead) (added : List (List ℕ)) → added ≡ []
    → HoldsLead looked links leader lead → (r : Refusal) → NoLead (outside_of looked) leader added r → ⊥
never_lead looked links (by_script file) lead added none h r bad = never_script looked file h.0 added none h.1 r bad
never_lead looked links (by_control workers) lead added none h r bad = bad

only_lead : (looked : Looked) (links : ℕ) (leader : Leader) (lead : Lead) → HoldsLead looked links leader lead
    → (y : Lead) → GivesLead (outside_of looked) links leader y → y ≡ lead
only_lead looked links (by_script file) lead h y g =
    g.2 ∙ ap (script_leads links) (only_script looked file h.0 h.1 g.0 g.1) ∙ sym h.2
only_lead looked links (by_control workers) lead h y g = g ∙ sym h

-- what is due of a run of held files, where no read failed
pub seq_due : ((bytes : List ℕ) → One bytes) → (task : Task) (looked : Looked) (tree : Program) (numbers : List ℤ) (added : List (List ℕ)) (way : Way)
    → added ≡ [] → HoldsProgram looked task.file tree → HoldsInput looked task.input numbers → way ≢ Unbegun empty_log
    → DueOfCommand (outside_of looked) (Some (seq task)) added way → (added ≡ []) × DueOfSeq tree (meaning_of tree numbers task.turns) task.memory way
seq_due one task looked tree numbers added way none program inputs apart due =
    due_follows _ _ _ added way numbers (never_input looked task.input numbers added none inputs) (only_input looked task.input numbers inputs) apart
    (due_follows _ _ _ added way tree (never_program looked task.file tree added one none program) (only_program looked task.file tree one program) apart due)

-- what is due of the report on the loops of a held program, where no read failed
pub check_due : ((bytes : List ℕ) → One bytes) → (file : List ℕ) (looked : Looked) (tree : Program) (added : List (List ℕ)) (way : Way)
    → added ≡ [] → HoldsProgram looked file tree → way ≢ Unbegun empty_log
    → DueOfCommand (outside_of looked) (Some (check file)) added way → (added ≡ []) × DueOfCheck tree way
check_due one file looked tree added way none program apart due =
    due_follows _ _ _ added way tree (never_program looked file tree added one none program) (only_program looked file tree one program) apart due

-- what is due of a replay of held files, where no read failed
pub replay_due : ((bytes : List ℕ) → One bytes) → (task : ReplayTask) (looked : Looked) (tree : Program) (numbers : List ℤ) (lead : Lead) (added : List (List ℕ)) (way : Way)
    → added ≡ [] → HoldsProgram looked task.run.file tree → HoldsInput looked task.run.input numbers → HoldsLead looked task.links task.leader lead
    → way ≢ Unbegun empty_log → DueOfCommand (outside_of looked) (Some (replay task)) added way
    → (added ≡ []) × DueOfTask tree numbers lead task way
replay_due one task looked tree numbers lead added way none program inputs leads apart due =
    let file = task.run.file in
    let input = task.run.input in
    due_follows _ _ _ added way lead (never_lead looked task.links task.leader lead added none leads) (only_lead looked task.links task.leader lead leads) apart
    (due_follows _ _ _ added way numbers (never_input looked input numbers added none inputs) (only_input looked input numbers inputs) apart
    (due_follows _ _ _ added way tree (never_program looked file tree added one none program) (only_program looked file tree one program) apart due))

-- a whole text is not nothing
pub whole_apart : (told : Told) (printed later : List ℕ) (log : LogView) → Whole told printed later ≢ Unbegun log
whole_apart told printed later log e = cc

-- a call that answers is complete
pub completes : ((bytes : List ℕ) → One bytes) → (command : Option Command) (looked : Looked) (sent : Sent) (told : Told)
    → Answers command looked sent told → IsComplete command looked sent told
completes one None looked sent told (added, grown, e) = tt
completes one (Some (seq task)) looked sent told (added, grown, e) = λ tree numbers program inputs calm.
    let none : added ≡ [] = none_added looked.failed_before added (sym calm.reads ∙ grown) in
    let w = ends_whole _ sent told calm.puts calm.memory e in
    let ran = seq_due one task looked tree numbers added _ none program inputs (whole_apart told w.0 w.1 empty_log) w.2 in
    (w.0, w.1, ran.1, w.3)
completes one (Some (check file)) looked sent told (added, grown, e) = λ tree program calm.
    let none : added ≡ [] = none_added looked.failed_before added (sym calm.reads ∙ grown) in
    let w = ends_whole _ sent told calm.puts calm.memory e in
    let ran = check_due one file looked tree added _ none program (whole_apart told w.0 w.1 empty_log) w.2 in
    (w.0, w.1, ran.1, w.3)
completes one (Some (replay task)) looked sent told (added, grown, e) = λ tree numbers lead program inputs leads calm.
    let none : added ≡ [] = none_added looked.failed_before added (sym calm.reads ∙ grown) in
    let w = ends_whole _ sent told calm.puts calm.memory e in
    let ran = replay_due one task looked tree numbers lead added _ none program inputs leads (whole_apart told w.0 w.1 empty_log) w.2 in
    (w.0, w.1, ran.1, w.3)
completes one (Some (trial number)) looked sent told (added, grown, e) = λ calm.
    let w = ends_whole _ sent told calm.puts calm.memory e in
    (w.0, w.1, w.2.1, w.3)
