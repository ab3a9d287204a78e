use Rattle.nona_fission.proofs.Whole.{whole_may, run_whole, writes_whole}
use Rattle.nona_fission.proofs.iterations.whole_iterations_are_apart.Goals as goal

pub returns-clause-may : goal.returns-clause-may
returns-clause-may c = whole_may

pub returns-clause-runs : goal.returns-clause-runs
returns-clause-runs c = run_whole

pub returns-clause-writes : goal.returns-clause-writes
returns-clause-writes c = writes_whole
