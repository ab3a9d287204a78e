use Rattle.std.proofs.Common.{◌≡◌, Bool, [], cond, ap, ◌∙◌, of_z, to_z, w64}
use Rattle.std.proofs.lemmas.Int.{to_z-of_z}
use Rattle.morta_text.specs.Texts.{cell_line, cell_text}
use Rattle.morta_text.proofs.memory_lines.send_cell.Goals as goal

-- the cell isn't 0, and its line was sent
pub returns-in-Ok-clause-sent : goal.returns-in-Ok-clause-sent
returns-in-Ok-clause-sent g c =
    let name = c.args.name.now in
    let place = c.args.place in
    let v = c.args.value in
    let text : c.deref.result.now ≡ cell_text name place v =
    c.deref.ensures.value ∙ c.in-Ok.ensures
    ∙ ap (λ (blank : Bool). cond blank [] (cell_line name place (to_z w64 (of_z w64 v)))) c.if-is_blank.ensures
    ∙ ap (cell_text name place) (to_z-of_z w64 v c.ranges.value) in
    rw text at c.send.ensures.sent
