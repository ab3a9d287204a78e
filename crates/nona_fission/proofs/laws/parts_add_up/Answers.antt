use Rattle.nona_fission.proofs.Added.{both_may, parts_add, copies_add}
use Rattle.nona_fission.proofs.Same.{given_may, partial_same, copy_same}
use Rattle.nona_fission.proofs.laws.parts_add_up.Goals as goal

pub returns-clause-both : goal.returns-clause-both
returns-clause-both c = both_may

pub returns-clause-sums : goal.returns-clause-sums
returns-clause-sums c = parts_add

pub returns-clause-cells : goal.returns-clause-cells
returns-clause-cells c = copies_add

pub returns-clause-given : goal.returns-clause-given
returns-clause-given c = given_may

pub returns-clause-same : goal.returns-clause-same
returns-clause-same c = partial_same

pub returns-clause-copies : goal.returns-clause-copies
returns-clause-copies c = copy_same
