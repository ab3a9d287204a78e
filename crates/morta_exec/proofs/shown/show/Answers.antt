use Rattle.morta_exec.proofs.Putting.{sends_behind, puts_behind}
use Rattle.morta_exec.proofs.shown.show.Goals as goal

pub returns-clause-put : goal.returns-clause-put
returns-clause-put g c = puts_behind _ _ _ _ _ _ c.args.shown _ _ c.put_numbers.result c.printed-printed.ensures c.requires.put c.put_numbers.ensures.sent c.put_numbers.ensures.kept

pub returns-clause-sent : goal.returns-clause-sent
returns-clause-sent g c = sends_behind _ _ _ _ _ _ c.args.shown _ _ c.put_numbers.result c.printed-printed.ensures c.requires.put c.put_numbers.ensures.sent
