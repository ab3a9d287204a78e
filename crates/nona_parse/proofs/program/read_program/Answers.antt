use Rattle.nona_parse.proofs.Refusals.{read_sound, stuck_exact}
use Rattle.nona_parse.proofs.program.read_program.Goals as goal

pub returns-in-Ok : goal.returns-in-Ok
returns-in-Ok c = read_sound c.grammar_is_read.ensures.sound c.args.spots.now c.in-Ok.program c.in-Ok.ensures

pub returns-in-Err : goal.returns-in-Err
returns-in-Err c = stuck_exact c.fault_is_exact.ensures c.in-Err.fault c.args.spots.now c.in-Err.ensures
