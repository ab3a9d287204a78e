use Rattle.std.proofs.Common.{◌<◌, ◌+◌, ◌∙◌, ap, arith, drop, length}
use Rattle.std.proofs.lemmas.List.{length-drop}
use Rattle.std.specs.List.{remove}
use Rattle.nona_sparse.proofs.Shifting.{remove_behind}
use Rattle.nona_sparse.proofs.values.Values.remove.Goals as goal

pub returns : goal.returns
returns c =
    let slots = c.self.inside.slots.items in
    let start = c.self.inside.start in
    let at = c.args.at in
    let fits : start + at < length slots = omega (arith, c.requires, ap length c.self.view_is, length-drop start slots, c.self.invariant) in
    ap (drop start) c.remove.ensures.items ∙ remove_behind start slots at fits ∙ ap (λ l. remove l at) c.self.view_is
