-- What is visible after statements, and after a block.
use Rattle.std.specs.Prelude.{ℕ, List, [], ◌∷◌, take}
use Rattle.nona_tree.specs.declared.trees.Stmt.{Stmt}
use Rattle.nona_tree.specs.Seen.{Seen, seen_after}

-- what is visible after one statement after another
abbrev pub seen_after_all : List Stmt → Seen → Seen
seen_after_all [] seen = seen
seen_after_all (s ∷ rest) seen = seen_after_all rest (seen_after s seen)

-- only the first scalars stay visible, so many
abbrev pub narrowed_to : ℕ → Seen → Seen
narrowed_to count seen = record seen { scalars = take count seen.scalars }
