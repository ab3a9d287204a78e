use Rattle.net_share.specs.Gathered.{AreGatheredAlike}
use Rattle.net_share.specs.Tasks.{share_of}
use Rattle.net_share.proofs.settling.settle_array.Given as goal

-- what is gathered in the end is the same
abbrev pub invariant-pages : goal.invariant-pages
invariant-pages l = AreGatheredAlike share_of l.initial.store l.initial.tasks.items l.store l.tasks.items
