use Rattle.std.proofs.Common.{arith}
use Rattle.parcae.specs.declared.words.TheConstants.{DEFAULT_TURNS}
use Rattle.parcae.proofs.Clauses.{tells_meaning, tells_usage, tells_refused, tells_input, tells_script, tells_failed, tells_unwritten, tells_long, tells_full}
use Rattle.parcae.proofs.Fronting.{tells_front}
use Rattle.parcae.proofs.laws.statuses_tell.Goals as goal

pub returns-clause-ended : goal.returns-clause-ended
returns-clause-ended c = tells_meaning (λ n. c.trial_runs_to_its_end.ensures.each n DEFAULT_TURNS (omega arith))

pub returns-clause-usage : goal.returns-clause-usage
returns-clause-usage c = tells_usage

pub returns-clause-refused : goal.returns-clause-refused
returns-clause-refused c = tells_refused

pub returns-clause-input : goal.returns-clause-input
returns-clause-input c = tells_input

pub returns-clause-script : goal.returns-clause-script
returns-clause-script c = tells_script

pub returns-clause-failed : goal.returns-clause-failed
returns-clause-failed c = tells_failed

pub returns-clause-unwritten : goal.returns-clause-unwritten
returns-clause-unwritten c = tells_unwritten

pub returns-clause-front : goal.returns-clause-front
returns-clause-front c = tells_front c.reads_one_tree.ensures

pub returns-clause-long : goal.returns-clause-long
returns-clause-long c = tells_long

pub returns-clause-full : goal.returns-clause-full
returns-clause-full c = tells_full
