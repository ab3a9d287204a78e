use Rattle.fate_io.proofs.Texts.{sends_both, sends_first}
use Rattle.fate_io.specs.Numbered.{texts_from}
use Rattle.morta_text.specs.Texts.{var_text, declared_text}
use Rattle.morta_text.proofs.memory_lines.send_memory.Goals as goal

-- the lines of the variables went out, and then those of the arrays as far as they did
pub returns-in-Ok-clause-sent : goal.returns-in-Ok-clause-sent
returns-in-Ok-clause-sent g c =
    let store = c.args.store.now in
    sends_both _ _ _ _ _ _ (texts_from (var_text store) 0 c.args.program.now.vars) (texts_from (declared_text store) 1 c.args.program.now.arrays)
    c.send_arrays.result (rw c.as_slice.ensures at c.in-Ok.ensures.sent) c.in-Ok.ensures.later (rw c.as_slice-in-Ok.ensures at c.send_arrays.ensures.sent)

-- the sink broke off within the lines of the variables
pub returns-in-Err-clause-sent : goal.returns-in-Err-clause-sent
returns-in-Err-clause-sent g c =
    let store = c.args.store.now in
    sends_first _ (texts_from (var_text store) 0 c.args.program.now.vars) (texts_from (declared_text store) 1 c.args.program.now.arrays)
    c.in-Err.fault (rw c.as_slice.ensures at c.in-Err.ensures.sent)
