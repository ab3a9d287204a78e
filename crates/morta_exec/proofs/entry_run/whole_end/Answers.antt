use Rattle.std.proofs.Common.{ap, sym, ◌∙◌}
use Rattle.nona_tree.specs.Run.{starved}
use Rattle.morta_exec.proofs.Ending.{enough, too_few, place_of}
use Rattle.morta_exec.proofs.entry_run.whole_end.Goals as goal

pub returns-then-span-turns : goal.returns-then-span-turns
returns-then-span-turns c = λ m all.
    c.loops_of_entries.ensures.whole c.args.entry.now m c.requires.entered all (enough _ _ _ _ c.span.ensures c.turns.ensures.turns c.if-span-turns.true)

pub returns-else-span-turns : goal.returns-else-span-turns
returns-else-span-turns c = λ m all.
    c.loops_of_entries.ensures.starves c.args.entry.now m c.requires.entered all (too_few _ _ _ _ c.span.ensures c.turns.ensures.turns c.if-span-turns.false)
    ∙ ap (λ at. starved at m) (place_of c.args.image.now c.args.entry.now c.region.result c.region-else-span-turns.result.now c.requires.region c.region.ensures c.region-else-span-turns.ensures ∙ sym c.place.ensures)
