use Rattle.std.proofs.Common.{◌∙◌, ap, sym, subst, w64}
use Rattle.std.proofs.lemmas.Int.{to_z-of_z}
use Rattle.nona_store.specs.Shares.{shared}
use Rattle.nona_tree.specs.Memory.{declare}
use Rattle.net_pipe.specs.Staged.{staging_of}
use Rattle.net_pipe.specs.Tasks.{TaskView, HasSkipped, skipped_first}
use Rattle.net_pipe.proofs.Skipping.{let_skipped, other_skipped}
use Rattle.net_pipe.proofs.task.Task.skip_one.Goals as goal

pub returns-then-declares : goal.returns-then-declares
returns-then-declares c =
    let g = staging_of c.args.stages.now in
    let x = c.args.self.now in
    let share = c.declare_on.new.share in
    let value = to_z-of_z w64 c.local-value.result (record { sfits = c.local-value.type_inv }) in
    subst (HasSkipped (skipped_first g c.args.at x) x)
    (sym (ap (λ (y : TaskView). let z : TaskView = record y { share = share } in z) c.self.view_is))
    (let_skipped g c.args.at x share c.local-value.result c.requires.unit (sym c.declares.ensures ∙ c.if-declares.true) c.local-value.ensures
    (λ m. c.declare_on.ensures.store m ∙ ap (λ v. declare v (shared m c.self.inside.share)) value ∙ ap (λ (y : TaskView). declare c.local-value.result (shared m y.share)) c.self.view_is)
    (c.declare_on.ensures.reserved ∙ ap (λ (y : TaskView). y.share.room) c.self.view_is))

pub returns-else-declares : goal.returns-else-declares
returns-else-declares c =
    other_skipped (staging_of c.args.stages.now) c.args.at c.args.self.now c.requires.unit (sym c.declares.ensures ∙ c.if-declares.false)
