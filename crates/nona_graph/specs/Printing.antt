-- Statements that print.
use Rattle.std.specs.Prelude.{Bool, List}
use Rattle.std.specs.List.{list_any}
use Rattle.nona_tree.specs.declared.trees.Stmt.{Stmt}
use Rattle.nona_plans.specs.Mentions.{prints}

-- whether one of some statements has a print
abbrev pub prints_all : List Stmt → Bool
prints_all ss = list_any prints ss
