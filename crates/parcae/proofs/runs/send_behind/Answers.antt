use Rattle.std.proofs.Common.{Err, ◌++◌}
use Rattle.fate_io.proofs.Texts.{sends_both, sends_first}
use Rattle.morta_text.specs.Texts.{outcome_text, memory_text, log_text}
use Rattle.parcae.specs.Due.{where_asked}
use Rattle.parcae.proofs.runs.send_behind.Goals as goal

-- the outcome and the memory went out, and the log with its result
pub returns-in-Ok-send_asked_memory-clause-sent : goal.returns-in-Ok-send_asked_memory-clause-sent
returns-in-Ok-send_asked_memory-clause-sent g c =
    let written = g.K.Sink.written in
    let faults = g.K.Sink.faults in
    sends_both (written c.args.out.now) (written c.send_outcome.new.out) (written c.send_asked_log.new.out)
    (faults c.args.out.now) (faults c.send_outcome.new.out) (faults c.send_asked_log.new.out)
    (outcome_text c.args.run.now.outcome) (where_asked c.args.asked.memory (memory_text c.args.program.now c.args.run.now.store) ++ where_asked c.args.asked.log (log_text c.args.log.now))
    c.send_asked_log.result c.in-Ok.ensures.sent c.in-Ok.ensures.later
    (sends_both (written c.send_outcome.new.out) (written c.send_asked_memory.new.out) (written c.send_asked_log.new.out)
    (faults c.send_outcome.new.out) (faults c.send_asked_memory.new.out) (faults c.send_asked_log.new.out)
    (where_asked c.args.asked.memory (memory_text c.args.program.now c.args.run.now.store)) (where_asked c.args.asked.log (log_text c.args.log.now))
    c.send_asked_log.result c.in-Ok-send_asked_memory.ensures.sent c.in-Ok-send_asked_memory.ensures.later c.send_asked_log.ensures.sent)

-- the outcome went out, and the memory was broken off
pub returns-in-Err-send_asked_memory-clause-sent : goal.returns-in-Err-send_asked_memory-clause-sent
returns-in-Err-send_asked_memory-clause-sent g c =
    let written = g.K.Sink.written in
    let faults = g.K.Sink.faults in
    let rest = where_asked c.args.asked.log (log_text c.args.log.now) in
    sends_both {T = Unit {0}} (written c.args.out.now) (written c.send_outcome.new.out) (written c.send_asked_memory.new.out)
    (faults c.args.out.now) (faults c.send_outcome.new.out) (faults c.send_asked_memory.new.out)
    (outcome_text c.args.run.now.outcome) (where_asked c.args.asked.memory (memory_text c.args.program.now c.args.run.now.store) ++ rest)
    (Err c.in-Err-send_asked_memory.fault) c.in-Ok.ensures.sent c.in-Ok.ensures.later
    (sends_first _ (where_asked c.args.asked.memory (memory_text c.args.program.now c.args.run.now.store)) rest c.in-Err-send_asked_memory.fault c.in-Err-send_asked_memory.ensures.sent)

-- the outcome was broken off
pub returns-in-Err-clause-sent : goal.returns-in-Err-clause-sent
returns-in-Err-clause-sent g c =
    sends_first _ (outcome_text c.args.run.now.outcome)
    (where_asked c.args.asked.memory (memory_text c.args.program.now c.args.run.now.store) ++ where_asked c.args.asked.log (log_text c.args.log.now))
    c.in-Err.fault c.in-Err.ensures.sent
