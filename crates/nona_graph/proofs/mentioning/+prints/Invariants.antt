use Rattle.std.proofs.Common.{◌≡◌, ◌||◌, drop}
use Rattle.nona_graph.specs.Printing.{prints_all}
use Rattle.nona_graph.proofs.mentioning.+prints.Given as goal

-- one prints where one so far does, or one of the others
abbrev pub invariant-has_print_in-loop-s : goal.invariant-has_print_in-loop-s
invariant-has_print_in-loop-s l = prints_all l.stmts ≡ (l.found || prints_all (drop l.s-index l.stmts))
