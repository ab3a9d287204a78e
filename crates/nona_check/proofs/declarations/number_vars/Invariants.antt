use Rattle.std.proofs.Common.{◌≡◌, ◌++◌, drop}
use Rattle.nona_tree.specs.Ids.{vars_ids}
use Rattle.nona_check.proofs.declarations.number_vars.Given as goal

-- the variables so far with their ids, and the rest with theirs, are all with theirs
abbrev pub invariant-loop-index : goal.invariant-loop-index
invariant-loop-index l = vars_ids l.vars 0 ≡ l.numbered ++ vars_ids (drop l.index l.vars) l.index
