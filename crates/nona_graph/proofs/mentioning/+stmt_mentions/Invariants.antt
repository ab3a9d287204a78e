use Rattle.std.proofs.Common.{◌≡◌, ◌++◌, take}
use Rattle.nona_plans.specs.Mentions.{mentions_all}
use Rattle.nona_graph.proofs.mentioning.+stmt_mentions.Given as goal

-- the scalars that the statements so far name are there
abbrev pub invariant-push_all_mentions-loop-s : goal.invariant-push_all_mentions-loop-s
invariant-push_all_mentions-loop-s l = l.found.items ≡ l.initial.found.items ++ mentions_all (take l.s-index l.stmts)
