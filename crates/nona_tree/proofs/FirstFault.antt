-- A program has one first fault at most.
use Rattle.std.proofs.Common.{◌≡◌, if◌then◌else◌, eqb, ℕ, refl, sym, ap, ◌∙◌, arith}
use Rattle.nona_tree.specs.declared.faults.ProgramFault.{ProgramFault}
use Rattle.nona_tree.specs.declared.faults.ProgramFault.TheVariants.{Unknown, Twice, KindWrong, IndexAssigned, InputWritten, Cells, Units}
use Rattle.nona_tree.specs.declared.trees.Program.{Program}
use Rattle.nona_tree.specs.Faults.{place_of_fault, rank_of, IsNoLater, IsFirstFault}

-- the fault of this kind at this place
fault_of : ℕ → ℕ → ProgramFault
fault_of rank at = if eqb rank 1 then Unknown at else if eqb rank 2 then Twice at else if eqb rank 3 then KindWrong at else if eqb rank 4 then IndexAssigned at else if eqb rank 5 then InputWritten at else if eqb rank 6 then Cells at else Units at

fault_is : (f : ProgramFault) → f ≡ fault_of (rank_of f) (place_of_fault f)
unfolding fault_of
fault_is (Unknown at) = refl
fault_is (Twice at) = refl
fault_is (KindWrong at) = refl
fault_is (IndexAssigned at) = refl
fault_is (InputWritten at) = refl
fault_is (Cells at) = refl
fault_is (Units at) = refl

same_fault : (f g : ProgramFault) → IsNoLater f g → IsNoLater g f → f ≡ g
same_fault f g h e =
    fault_is f
    ∙ ap (λ n. fault_of n (place_of_fault f)) (omega (arith, h, e))
    ∙ ap (λ n. fault_of (rank_of g) n) (omega (arith, h, e))
    ∙ sym (fault_is g)

pub one_first : (f g : ProgramFault) (p : Program) → IsFirstFault f p → IsFirstFault g p → f ≡ g
one_first f g p h e = same_fault f g (h.1 g e.0) (e.1 f h.0)
