-- The codes of statements and the regions of loops, one after another.
use Rattle.std.proofs.Common.{◌≡◌, ◌<◌, ℕ, zero, suc, ◌++◌, List, [], ◌∷◌, length, sym, subst, append_assoc, arith}
use Rattle.std.proofs.lemmas.List.{append-nil}
use Rattle.std.specs.Prelude.{All, slice_index_or}
use Rattle.std.proofs.lemmas.List.Elements.{All-head, All-tail}
use Rattle.std.specs.Borrow.{Bor}
use Rattle.nona_tree.specs.declared.trees.Loop.{Loop}
use Rattle.nona_tree.specs.declared.trees.Stmt.{Stmt}
use Rattle.nona_code.specs.SoundView.{SoundView}
use Rattle.nona_code.specs.Stands.{StandsFor}
use Rattle.nona_units.specs.Units.{AreUnits}
use Rattle.nona_gen.specs.Gathered.{loops_of}

-- these codes stand for the first statements of a list, of which the others are left
abbrev pub AreFirst : List SoundView → List Stmt → List Stmt → Type 0
AreFirst codes rest all = (more : List SoundView) → AreUnits more rest → AreUnits (codes ++ more) all

pub one_code : (codes : List SoundView) (code : SoundView) (s : Stmt) (left rest all : List Stmt) → left ≡ s ∷ rest → StandsFor code.instrs s → AreFirst codes left all → AreFirst (codes ++ code ∷ []) rest all
one_code codes code s left rest all is stands h more units =
    subst (λ cs. AreUnits cs all) (sym (append_assoc codes (code ∷ []) more)) (h (code ∷ more) (subst (AreUnits (code ∷ more)) (sym is) (stands, units)))

pub all_codes : (codes : List SoundView) (rest all : List Stmt) → rest ≡ [] → AreFirst codes rest all → AreUnits codes all
all_codes codes rest all is h = subst (λ cs. AreUnits cs all) (append-nil codes) (h [] (subst (AreUnits []) (sym is) tt))

-- what is so of all loops is so of each that is lent
pub all_lent : (P : Loop → Type 0) (lent : List (Bor Loop)) (k : ℕ) (other : Bor Loop) → k < length lent → All P (loops_of lent) → P (slice_index_or lent k other).now
all_lent P [] k other below all = absurd (omega (arith, below))
all_lent P (l ∷ rest) zero other below all = All-head P l.now (loops_of rest) all
all_lent P (l ∷ rest) (suc k) other below all = all_lent P rest k other (omega (arith, below)) (All-tail P l.now (loops_of rest) all)
