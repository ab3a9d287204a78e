-- The first of several faults: the one at the least place, and of several at one place the one of the least rank.
use Rattle.std.specs.Prelude.{Bool, ◌&&◌, ◌||◌, if◌then◌else◌, nat_lt, nat_eq, List, [], ◌∷◌, None, Some}
use Rattle.std.specs.declared.option.Option.{Option}
use Rattle.nona_tree.specs.declared.faults.ProgramFault.{ProgramFault}
use Rattle.nona_tree.specs.Faults.{place_of_fault, rank_of}

-- whether a fault comes before another one
abbrev pub is_before : ProgramFault → ProgramFault → Bool
is_before f g =
    nat_lt (place_of_fault f) (place_of_fault g) || (nat_eq (place_of_fault f) (place_of_fault g) && nat_lt (rank_of f) (rank_of g))

-- the first of the faults so far, where there is one, and of one more
abbrev pub earlier : Option ProgramFault → ProgramFault → ProgramFault
earlier None fault = fault
earlier (Some kept) fault = if is_before fault kept then fault else kept

-- the first of the faults so far, where there is one, and of some more
abbrev pub first_from : Option ProgramFault → List ProgramFault → Option ProgramFault
first_from kept [] = kept
first_from kept (fault ∷ rest) = first_from (Some (earlier kept fault)) rest
