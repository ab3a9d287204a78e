use Rattle.nona_sparse.proofs.Lowest.{lowest_gone, others_stay}
use Rattle.nona_sparse.proofs.group.without_lowest.Goals as goal

pub returns-clause-unmarked : goal.returns-clause-unmarked
returns-clause-unmarked c = λ place low. lowest_gone c.args.marks place low

pub returns-clause-others : goal.returns-clause-others
returns-clause-others c = λ place low q within differs. others_stay c.args.marks place q low differs
