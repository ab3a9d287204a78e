-- In a program without a fault each loop that isn't written `seq for` has few units.
use Rattle.std.proofs.Common.{◌≡◌, ◌≤◌, ℕ, suc, Bool, true, false, List, [], ◌∷◌, ◌++◌, refl, ap, subst, length, if◌then◌else◌}
use Rattle.std.specs.Prelude.{IsTrue, not, nat_le}
use Rattle.std.proofs.lemmas.Bool.{leb-true}
use Rattle.nona_tree.specs.declared.faults.ProgramFault.{ProgramFault}
use Rattle.nona_tree.specs.declared.trees.Loop.{Loop}
use Rattle.nona_tree.specs.declared.trees.Program.{Program}
use Rattle.nona_tree.specs.declared.trees.Stmt.{Stmt, Let, Set, Fold, Put, FoldPut, If', While', For', Print, Row_of-Stmt, end_of-Stmt, more_of-Stmt, items-the_row-Stmt}
use Rattle.nona_tree.specs.Checking.{IsChecked}
use Rattle.nona_tree.specs.Entries.{loop_with}
use Rattle.nona_tree.specs.Faults.{new_faults, expr_faults, row_length, units_faults, stmt_faults, row_faults, all_faults, declarations_faults}
use Rattle.nona_tree.specs.Names.{unit_bound}
use Rattle.nona_tree.specs.Seen.{Seen, seen_first, with_scalar, seen_after, declarations, seen_by_body}
use Rattle.nona_tree.proofs.Regions.{each_of_two}
use Rattle.nona_tree.proofs.Unfaulted.{parts}
use Rattle.nona_stages.specs.Seen.{outer_in, outer_row, outer_all}
use Rattle.nona_stages.specs.Walking.{AreFew, IsFew}

length_at : {k : _} (row : Row_of-Stmt k) → row_length row ≡ length (items-the_row-Stmt _ row)
length_at end_of-Stmt = refl
length_at (more_of-Stmt s rest) = ap (λ n. suc n) (length_at rest)

within_bound : (b : Bool) (count at : ℕ) → nat_le count unit_bound ≡ b → units_faults false count at ≡ [] → count ≤ unit_bound
within_bound true count at is h = leb-true count unit_bound is
within_bound false count at is h = absurd (cc (h, is))

units_few : (seq : Bool) (count at : ℕ) → units_faults seq count at ≡ [] → IsTrue (not seq) → count ≤ unit_bound
units_few true count at h may = cc
units_few false count at h may = within_bound (nat_le count unit_bound) count at refl h

-- the units and the body of a for have no fault
loop_parts : (units new low high body : List ProgramFault) → units ++ new ++ low ++ high ++ body ≡ [] → (units ≡ []) × (body ≡ [])
loop_parts units new low high body h =
    let a = parts (units ++ new ++ low ++ high) body h in
    let b = parts (units ++ new ++ low) high a.0 in
    let c = parts (units ++ new) low b.0 in
    ((parts units new c.0).0, a.1)

inside_few : (b : Bool) (l : Loop) (outer : List Loop) → IsFew l → AreFew outer → AreFew (l ∷ (if b then [] else outer))
inside_few true l outer here inside = (here, tt)
inside_few false l outer here inside = (here, inside)

mutual
  few_in : (chosen : Loop → Bool) (s : Stmt) (seen : Seen) → stmt_faults s seen ≡ [] → AreFew (outer_in chosen s)
  few_in chosen (Let x e) seen h = tt
  few_in chosen (Set x e) seen h = tt
  few_in chosen (Fold x f e) seen h = tt
  few_in chosen (Put c e) seen h = tt
  few_in chosen (FoldPut c f e) seen h = tt
  few_in chosen (Print e at) seen h = tt
  few_in chosen (If' test p then_part q else_part) seen h =
      let n = parts (expr_faults test seen ++ row_faults then_part seen) (row_faults else_part seen) h in
      let m = parts (expr_faults test seen) (row_faults then_part seen) n.0 in
      each_of_two IsFew (outer_row chosen then_part) (outer_row chosen else_part) (few_row chosen then_part seen m.1) (few_row chosen else_part seen n.1)
  few_in chosen (While' test p body at) seen h = few_row chosen body seen (parts (expr_faults test seen) (row_faults body seen) h).1
  few_in chosen (For' x low high p body seq at) seen h =
      let l = loop_with x low high (items-the_row-Stmt _ body) seq at in
      let n = loop_parts (units_faults seq (row_length body) at) (new_faults x seen) (expr_faults low seen) (expr_faults high seen) (row_faults body (with_scalar x.text true seen)) h in
      inside_few (chosen l) l (outer_row chosen body)
      (λ may. subst (λ (n : ℕ). n ≤ unit_bound) (length_at body) (units_few seq (row_length body) at n.0 may))
      (few_row chosen body (with_scalar x.text true seen) n.1)

  few_row : {k : _} (chosen : Loop → Bool) (row : Row_of-Stmt k) (seen : Seen) → row_faults row seen ≡ [] → AreFew (outer_row chosen row)
  few_row chosen end_of-Stmt seen h = tt
  few_row chosen (more_of-Stmt s rest) seen h =
      let n = parts (stmt_faults s seen) (row_faults rest (seen_after s seen)) h in
      each_of_two IsFew (outer_in chosen s) (outer_row chosen rest) (few_in chosen s seen n.0) (few_row chosen rest (seen_after s seen) n.1)

few_all : (chosen : Loop → Bool) (ss : List Stmt) (seen : Seen) → all_faults ss seen ≡ [] → AreFew (outer_all chosen ss)
few_all chosen [] seen h = tt
few_all chosen (s ∷ rest) seen h =
    let n = parts (stmt_faults s seen) (all_faults rest (seen_after s seen)) h in
    each_of_two IsFew (outer_in chosen s) (outer_all chosen rest) (few_in chosen s seen n.0) (few_all chosen rest (seen_after s seen) n.1)

-- the loops outside regions of a checked program
pub few_checked : (chosen : Loop → Bool) (p : Program) → IsChecked p → AreFew (outer_all chosen p.body)
few_checked chosen p h =
    few_all chosen p.body (seen_by_body p) (parts (declarations_faults (declarations p.arrays p.vars) seen_first 0) (all_faults p.body (seen_by_body p)) h.1).1
