use Rattle.std.proofs.Common.{sym, subst, length, ◌≤◌, ◌+◌}
use Rattle.fate_io.specs.Sending.{sent_since}
use Rattle.nona_tree.specs.Run.{Ran, meaning_of}
use Rattle.nona_gen.specs.OfSeen.{planned_image}
use Rattle.morta_text.specs.Texts.{number_lines, log_text}
use Rattle.parcae.specs.Told.{told_of, ran_of, finished}
use Rattle.parcae.specs.Ends.{Ends}
use Rattle.parcae.specs.Entered.{entries_in}
use Rattle.parcae.specs.Leads.{IsLedReplay}
use Rattle.parcae.specs.Due.{where_asked, behind_numbers, DueOfDrive, drive_ran, drive_unbegun}
use Rattle.parcae.proofs.Ending.{ends_unbegun, ends_behind}
use Rattle.parcae.proofs.Replaying.{ends_stopped}
use Rattle.parcae.proofs.replays.replay_led.Goals as goal

-- memory ran out before the run
pub returns-in_default : goal.returns-in_default
returns-in_default g c = λ lead links led.
    rw (c.bare.ensures, c.in_default.ensures.unbegun) (ends_unbegun _ (g.K.Sink.written c.args.out.now) (g.K.Sink.faults c.args.out.now) drive_unbegun)

-- the replay ran to its end, and what stands behind the numbers went out with its result
pub returns-in-Ok-run : goal.returns-in-Ok-run
returns-in-Ok-run g c = λ lead links led.
    let written = g.K.Sink.written in
    let faults = g.K.Sink.faults in
    let p = c.args.program.now in
    let input = c.args.input.items in
    let n = c.args.asked.turns in
    let log = c.in-Ok.driven.log in
    let es = entries_in (planned_image p) p input n in
    let told = rw c.in-Ok-run.is at c.in-Ok.ensures in
    let ran = ran_of c.in-Ok-run.run' in
    subst (λ (r : Ran). Ends (DueOfDrive p es r (IsLedReplay lead links es) c.args.asked.memory c.args.asked.log) (sent_since written faults c.args.out.now c.finish.new.out) (told_of c.finish.result)) (sym told.ended)
    (ends_behind (DueOfDrive p es ran (IsLedReplay lead links es) c.args.asked.memory c.args.asked.log)
    (written c.args.out.now) (written c.drive_program.new.out) (written c.finish.new.out)
    (faults c.args.out.now) (faults c.drive_program.new.out) (faults c.finish.new.out)
    (finished ran log) (told_of c.finish.result) (number_lines ran.store.printed) (behind_numbers p ran c.args.asked.memory (where_asked c.args.asked.log (log_text log)))
    (drive_ran log (led es log told.log) told.whole.ended told.few)
    told.put told.later (rw (← c.program-tree.ensures.program) c.finish.ensures.sends))

-- the run stopped short
pub returns-in-Err : goal.returns-in-Err
returns-in-Err g c = λ lead links led.
    let written = g.K.Sink.written in
    let faults = g.K.Sink.faults in
    let p = c.args.program.now in
    let input = c.args.input.items in
    let n = c.args.asked.turns in
    let log = c.in-Ok.driven.log in
    let es = entries_in (planned_image p) p input n in
    let told = rw c.in-Err.is at c.in-Ok.ensures in
    ends_stopped p es (meaning_of p input n) (IsLedReplay lead links es) c.args.asked.memory c.args.asked.log log
    (written c.args.out.now) (written c.drive_program.new.out) (written c.stop_short.new.out) (faults c.args.out.now) (faults c.drive_program.new.out) (faults c.stop_short.new.out)
    c.in-Err.fault (told_of c.stop_short.result) (led es log told.log) told.few told.stops told.later c.stop_short.ensures

pub finish-requires-clause-vars : goal.finish-requires-clause-vars
finish-requires-clause-vars g c =
    let told = rw c.in-Ok-run.is at c.in-Ok.ensures in
    rw c.program-tree.ensures.program (subst (λ (r : Ran). length c.args.program.now.vars ≤ length r.store.scalars) told.ended
    (c.declared_stays.ensures.vars c.args.program.now c.args.input.items c.args.asked.turns))

pub finish-requires-clause-arrays : goal.finish-requires-clause-arrays
finish-requires-clause-arrays g c =
    let told = rw c.in-Ok-run.is at c.in-Ok.ensures in
    rw c.program-tree.ensures.program (subst (λ (r : Ran). length c.args.program.now.arrays + 1 ≤ length r.store.arrays) told.ended
    (c.declared_stays.ensures.arrays c.args.program.now c.args.input.items c.args.asked.turns))
