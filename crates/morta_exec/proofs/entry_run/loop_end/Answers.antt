use Rattle.std.proofs.Common.{◌≡◌, ◌∙◌, rules}
use Rattle.morta_exec.proofs.Ending.{cut_goes_on, ends_trap, ends_want, ends_whole}
use Rattle.morta_exec.proofs.entry_run.loop_end.Goals as goal

pub returns-in-Trap : goal.returns-in-Trap
returns-in-Trap c = ends_trap c.loops_of_entries.ensures c.args.entry.now c.args.interval.now _ c.in-Trap.trap c.requires.entered c.requires.done c.in-Trap.is

pub returns-in-Turns : goal.returns-in-Turns
returns-in-Turns c = ends_want c.loops_of_entries.ensures c.args.entry.now c.args.interval.now _ c.in-Turns.at c.requires.entered c.requires.done c.in-Turns.is

pub returns-then-interval-last : goal.returns-then-interval-last
returns-then-interval-last c =
    let same : c.args.interval.now.done.to ≡ c.last.result = search rules in
    ends_whole c.args.entry.now c.args.interval.now _ c.whole_end.result c.requires.done
    (cut_goes_on c.args.interval.now.done.cut c.in_default.not-Trap c.in_default.not-Turns)
    (same ∙ c.last.ensures)
    c.whole_end.ensures
