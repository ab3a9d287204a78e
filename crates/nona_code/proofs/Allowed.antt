-- A whole store allows every deed.
use Rattle.std.proofs.Common.{List, [], ◌∷◌, refl}
use Rattle.std.specs.List.{AllByRecursion}
use Rattle.nona_tree.specs.Deeds.{Deed, reads, sets, folds, loads, stores, joins, prints}
use Rattle.nona_store.specs.Banks.{Allows, all_allowed}

pub all_deeds : (ds : List Deed) → AllByRecursion (Allows all_allowed) ds
all_deeds [] = tt
all_deeds (reads id ∷ ds) = (tt, all_deeds ds)
all_deeds (sets id ∷ ds) = (tt, all_deeds ds)
all_deeds (folds f id ∷ ds) = (tt, all_deeds ds)
all_deeds (loads a p ∷ ds) = (refl, all_deeds ds)
all_deeds (stores a p ∷ ds) = (refl, all_deeds ds)
all_deeds (joins f a p ∷ ds) = ((refl, refl), all_deeds ds)
all_deeds (prints ∷ ds) = (refl, all_deeds ds)
