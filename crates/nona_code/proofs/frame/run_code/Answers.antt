use Rattle.std.proofs.Common.{◌<◌, ◌^◌, length, sym, subst}
use Rattle.nona_code.specs.Rule.{IsSound}
use Rattle.nona_code.specs.Stands.{StandsFor}
use Rattle.nona_code.proofs.UnitRuns.{kept_after, unit_trace, unit_over, unit_allowed, unit_starts, same_run, ended_as, no_region}
use Rattle.nona_code.proofs.frame.run_code.Goals as goal

pub run_from-requires-clause-small : goal.run_from-requires-clause-small
run_from-requires-clause-small g c = subst (λ xs. length xs < 2 ^ 31) (sym c.instrs.ensures.value) c.instrs.ensures.sound.short

pub run_from-requires-clause-sound : goal.run_from-requires-clause-sound
run_from-requires-clause-sound g c = subst IsSound (sym c.instrs.ensures.value) c.instrs.ensures.sound.sound

pub run_from-requires-clause-over : goal.run_from-requires-clause-over
run_from-requires-clause-over g c =
    let u = c.requires.unit in
    let stands : StandsFor c.instrs.result.now u.statement = subst (λ xs. StandsFor xs u.statement) (sym c.instrs.ensures.value) u.stands in
    unit_over _ _ _ (unit_trace c.instrs.result.now u.statement c.args.turns c.args.registers.now (g.B.Bank.state c.args.bank.now) stands u.scoped u.fits c.requires.rested.empty c.requires.rested.hidden c.requires.rested.counters)

pub run_from-requires-clause-allowed : goal.run_from-requires-clause-allowed
run_from-requires-clause-allowed g c =
    let u = c.requires.unit in
    let stands : StandsFor c.instrs.result.now u.statement = subst (λ xs. StandsFor xs u.statement) (sym c.instrs.ensures.value) u.stands in
    unit_allowed _ _ _ _ (unit_trace c.instrs.result.now u.statement c.args.turns c.args.registers.now (g.B.Bank.state c.args.bank.now) stands u.scoped u.fits c.requires.rested.empty c.requires.rested.hidden c.requires.rested.counters) u.allowed

pub run_from-requires-clause-follows : goal.run_from-requires-clause-follows
run_from-requires-clause-follows g c =
    unit_starts c.args.code.now c.instrs.result.now c.args.registers.now _ _ c.instrs.ensures.sound c.instrs.ensures.value c.requires.rested.empty c.requires.room c.requires.unit.room

pub unreachable-requires : goal.unreachable-requires
unreachable-requires g c =
    let u = c.requires.unit in
    let stands : StandsFor c.instrs.result.now u.statement = subst (λ xs. StandsFor xs u.statement) (sym c.instrs.ensures.value) u.stands in
    let r = c.in-Region.ensures.stops in
    no_region _ _ _ _ _ _ _ (unit_trace c.instrs.result.now u.statement c.args.turns c.args.registers.now (g.B.Bank.state c.args.bank.now) stands u.scoped u.fits c.requires.rested.empty c.requires.rested.hidden c.requires.rested.counters) r

pub returns-in-Ended-Done-clause-runs : goal.returns-in-Ended-Done-clause-runs
returns-in-Ended-Done-clause-runs g c = λ s st sc.
    let stands : StandsFor c.instrs.result.now s = subst (λ xs. StandsFor xs s) (sym c.instrs.ensures.value) st in
    same_run _ _ _ _ (unit_trace c.instrs.result.now s c.args.turns c.args.registers.now (g.B.Bank.state c.args.bank.now) stands sc c.requires.unit.fits c.requires.rested.empty c.requires.rested.hidden c.requires.rested.counters)
    (ended_as _ _ _ _ c.in-Ended-Done.ensures.stops c.in-Ended-Done.field-0-is)

pub returns-in-Ended-Trap-clause-runs : goal.returns-in-Ended-Trap-clause-runs
returns-in-Ended-Trap-clause-runs g c = λ s st sc.
    let stands : StandsFor c.instrs.result.now s = subst (λ xs. StandsFor xs s) (sym c.instrs.ensures.value) st in
    same_run _ _ _ _ (unit_trace c.instrs.result.now s c.args.turns c.args.registers.now (g.B.Bank.state c.args.bank.now) stands sc c.requires.unit.fits c.requires.rested.empty c.requires.rested.hidden c.requires.rested.counters)
    (ended_as _ _ _ _ c.in-Ended-Trap.ensures.stops c.in-Ended-Trap.field-0-is)

pub returns-in-Ended-OutOfTurns-clause-runs : goal.returns-in-Ended-OutOfTurns-clause-runs
returns-in-Ended-OutOfTurns-clause-runs g c = λ s st sc.
    let stands : StandsFor c.instrs.result.now s = subst (λ xs. StandsFor xs s) (sym c.instrs.ensures.value) st in
    same_run _ _ _ _ (unit_trace c.instrs.result.now s c.args.turns c.args.registers.now (g.B.Bank.state c.args.bank.now) stands sc c.requires.unit.fits c.requires.rested.empty c.requires.rested.hidden c.requires.rested.counters)
    (ended_as _ _ _ _ c.in-Ended-OutOfTurns.ensures.stops c.in-Ended-OutOfTurns.field-0-is)

pub returns-in-Ended-Done-clause-kept : goal.returns-in-Ended-Done-clause-kept
returns-in-Ended-Done-clause-kept g c =
    kept_after c.args.code.now c.instrs.result.now c.args.registers.now c.run_from.new.registers c.instrs.ensures.sound c.instrs.ensures.value c.requires.rested c.run_from.ensures.keeps

pub returns-in-Ended-Trap-clause-kept : goal.returns-in-Ended-Trap-clause-kept
returns-in-Ended-Trap-clause-kept g c =
    kept_after c.args.code.now c.instrs.result.now c.args.registers.now c.run_from.new.registers c.instrs.ensures.sound c.instrs.ensures.value c.requires.rested c.run_from.ensures.keeps

pub returns-in-Ended-OutOfTurns-clause-kept : goal.returns-in-Ended-OutOfTurns-clause-kept
returns-in-Ended-OutOfTurns-clause-kept g c =
    kept_after c.args.code.now c.instrs.result.now c.args.registers.now c.run_from.new.registers c.instrs.ensures.sound c.instrs.ensures.value c.requires.rested c.run_from.ensures.keeps

pub returns-in-NoMemory-clause-kept : goal.returns-in-NoMemory-clause-kept
returns-in-NoMemory-clause-kept g c =
    kept_after c.args.code.now c.instrs.result.now c.args.registers.now c.run_from.new.registers c.instrs.ensures.sound c.instrs.ensures.value c.requires.rested c.run_from.ensures.keeps
