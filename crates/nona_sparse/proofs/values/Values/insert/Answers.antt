use Rattle.std.proofs.Common.{◌≡◌, ◌≤◌, ◌+◌, ◌∙◌, ap, arith, drop, length, w64, to_z, of_z}
use Rattle.std.proofs.lemmas.Int.{to_z-of_z}
use Rattle.std.proofs.lemmas.List.{length-drop}
use Rattle.std.proofs.lemmas.Result.{on_ok_weaker, on_err_weaker}
use Rattle.std.specs.List.{insert}
use Rattle.nona_sparse.proofs.Shifting.{insert_behind}
use Rattle.nona_sparse.proofs.values.Values.insert.Goals as goal

pub insert_value-requires : goal.insert_value-requires
insert_value-requires c = omega (arith, c.requires, ap length c.self.view_is, length-drop c.self.inside.start c.self.inside.slots.items, c.self.invariant)

pub returns-clause-ok : goal.returns-clause-ok
returns-clause-ok c =
    let slots = c.self.inside.slots.items in
    let start = c.self.inside.start in
    let at = c.args.at in
    let v = c.args.value in
    let fits : start + at ≤ length slots = omega (arith, c.requires, ap length c.self.view_is, length-drop start slots, c.self.invariant) in
    on_ok_weaker c.insert_value.result
    (λ (put : c.insert_value.new.slots.items ≡ insert slots (start + at) (to_z w64 (of_z w64 v))).
    ap (drop start) put ∙ insert_behind start slots at (to_z w64 (of_z w64 v)) fits ∙ (λ i. insert (c.self.view_is i) at (to_z-of_z w64 v c.ranges.value i)))
    c.insert_value.ensures.ok

pub returns-clause-err : goal.returns-clause-err
returns-clause-err c =
    on_err_weaker c.insert_value.result
    (λ (same : c.insert_value.new.slots.items ≡ c.self.inside.slots.items). ap (drop c.self.inside.start) same ∙ c.self.view_is)
    c.insert_value.ensures.err
