use Rattle.nona_parse.proofs.OneReason.{one_reason, program_kept, read_or_refused}
use Rattle.nona_parse.proofs.program.refuses_for_one_reason.Goals as goal

pub returns : goal.returns
returns c = record {
  some = read_or_refused c.grammar_is_read.ensures.sound c.fault_is_exact.ensures;
  other = program_kept;
  one = one_reason;
}
