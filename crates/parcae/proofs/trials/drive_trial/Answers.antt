use Rattle.std.proofs.Common.{◌≡◌, ◌∙◌, ap, subst, List, ℤ}
use Rattle.std.specs.Prelude.{IfOk, OnOk}
use Rattle.nona_tree.specs.declared.trees.Program.{Program}
use Rattle.nona_gen.specs.OfSeen.{planned_image}
use Rattle.morta_task.specs.Entries.{EntryView}
use Rattle.morta_task.specs.Legal.{EndsAll, last_in}
use Rattle.trial.specs.Tree.{trial_tree}
use Rattle.parcae.specs.declared.words.TheConstants.{DEFAULT_TURNS}
use Rattle.parcae.specs.Entered.{entries_in}
use Rattle.parcae.specs.Leads.{control_promise}
use Rattle.parcae.specs.Trials.{trial_entries}
use Rattle.parcae.proofs.Trying.{whole_ends}
use Rattle.parcae.proofs.trials.drive_trial.Goals as goal

-- where the replay ran to its end, its last interval ends all
pub returns-clause-whole : goal.returns-clause-whole
returns-clause-whole c =
    let p = c.in_ok-program.program in
    let numbers = c.args.numbers.items in
    let es = entries_in (planned_image p) p numbers DEFAULT_TURNS in
    let same : es ≡ trial_entries c.args.number =
    ap (λ (q : Program). entries_in (planned_image q) q numbers DEFAULT_TURNS) c.in_ok-program.ensures
    ∙ ap (λ (input : List ℤ). entries_in (planned_image trial_tree) trial_tree input DEFAULT_TURNS) c.requires.numbers in
    subst (λ (l : List EntryView). IfOk c.drive_program.result (λ d. OnOk d.run (EndsAll l (last_in d.log.intervals)))) same
    (whole_ends c.drive_program.result (control_promise.may_ask c.controlled-morta.result) es c.drive_program.ensures.whole)
