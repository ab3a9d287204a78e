-- A task's share has what a unit that may run needs.
use Rattle.std.proofs.Common.{◌≡◌, ◌≤◌, ◌+◌, ℕ, Bool, true, false, if◌then◌else◌, ap, subst, refl, arith, List, [], ◌∷◌, drop, length, Some}
use Rattle.std.specs.List.{AllByRecursion}
use Rattle.nona_code.specs.SoundView.{SoundView}
use Rattle.nona_code.specs.Stands.{on_cells}
use Rattle.nona_code.specs.Units.{IsUnit}
use Rattle.nona_store.specs.Banks.{Allows, Limits}
use Rattle.nona_store.specs.Shares.{all_beside}
use Rattle.nona_tree.specs.declared.trees.Stmt.{Stmt}
use Rattle.nona_tree.specs.Deeds.{Deed, reads, sets, folds, loads, stores, joins, prints, deeds}
use Rattle.nona_tree.specs.Memory.{Memory}
use Rattle.nona_tree.specs.Scope.{is_let, depth_after}
use Rattle.nona_tree.proofs.Depth.{depth_where_done}
use Rattle.nona_units.specs.Units.{IsUnitAt}
use Rattle.nona_units.specs.UnitsView.{UnitsView}
use Rattle.net_share.specs.May.{MayRun, MayRunFirst}
use Rattle.net_share.specs.Works.{run_first}

-- a share allows each deed
deeds_allowed : (base : Memory) (reserved loan : ℕ) (ds : List Deed) → AllByRecursion (Allows (all_beside base reserved loan)) (on_cells ds)
deeds_allowed base reserved loan [] = tt
deeds_allowed base reserved loan (reads id ∷ ds) = deeds_allowed base reserved loan ds
deeds_allowed base reserved loan (sets id ∷ ds) = deeds_allowed base reserved loan ds
deeds_allowed base reserved loan (folds f id ∷ ds) = deeds_allowed base reserved loan ds
deeds_allowed base reserved loan (loads a p ∷ ds) = (refl, deeds_allowed base reserved loan ds)
deeds_allowed base reserved loan (stores a p ∷ ds) = (refl, deeds_allowed base reserved loan ds)
deeds_allowed base reserved loan (joins f a p ∷ ds) = ((refl, refl), deeds_allowed base reserved loan ds)
deeds_allowed base reserved loan (prints ∷ ds) = (refl, deeds_allowed base reserved loan ds)

-- where the limits are the same, so is the store beside which a share stands, its room, and its loan
pub same_base : (a b : Memory) (r q l k : ℕ) → all_beside a r l ≡ all_beside b q k → a ≡ b
same_base a b r q l k same = let e : Some a ≡ Some b = ap (λ (l : Limits). l.base) same in cc

pub same_reserved : (a b : Memory) (r q l k : ℕ) → all_beside a r l ≡ all_beside b q k → r ≡ q
same_reserved a b r q l k same = ap (λ (l : Limits). l.reserved) same

pub same_loan : (a b : Memory) (r q l k : ℕ) → all_beside a r l ≡ all_beside b q k → l ≡ k
same_loan a b r q l k same = let e : Some l ≡ Some k = ap (λ (l : Limits). l.loan) same in cc

-- a unit that may run declares one scalar at most
if_more : (b : Bool) (depth : ℕ) → (if b then depth + 1 else depth) ≤ depth + 1
if_more true depth = omega arith
if_more false depth = omega arith

pub one_more : (s : Stmt) (depth : ℕ) → depth_after s depth ≤ depth + 1
one_more s depth = if_more (is_let s) depth

first_grows : (ss : List Stmt) (n : ℕ) (m : Memory) → MayRunFirst ss n m → length (run_first ss n m).store.scalars ≤ length m.scalars + 1
first_grows [] n m may = omega arith
first_grows (s ∷ rest) n m may = let after = depth_where_done s n m may.ends in let few = one_more s (length m.scalars) in omega (arith, after, few)

pub grows_once : (ss : List Stmt) (n : ℕ) (m new : Memory) → MayRunFirst ss n m → new ≡ (run_first ss n m).store → length new.scalars ≤ length m.scalars + 1
grows_once ss n m new may is = let few = first_grows ss n m may in let same = ap (λ (r : Memory). length r.scalars) is in omega (arith, few, same)

module _ (code : SoundView) (units : UnitsView) (at n : ℕ) (base m : Memory) (reserved loan : ℕ) (is : IsUnitAt code units at) (may : MayRunFirst (drop at units.body) n m) where
  may_here : MayRun is.statement n m
  may_here = subst (λ (ss : List Stmt). MayRunFirst ss n m) is.here may

  -- the share has what the unit's code needs
  pub may_unit : IsUnit code m (all_beside base reserved loan) n
  may_unit = record {
    statement = is.statement;
    stands = is.stands;
    scoped = may_here.scoped;
    fits = may_here.fits;
    allowed = deeds_allowed base reserved loan (deeds is.statement n m);
    room = tt;
  }
