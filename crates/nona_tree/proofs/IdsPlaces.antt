-- A program with its ids has its loops at the same places, and is checked where it has no fault.
use Rattle.std.proofs.Common.{◌≡◌, ◌≤◌, ◌++◌, ℕ, true, List, [], ◌∷◌, refl, sym, ap, subst, ◌∙◌}
use Rattle.nona_tree.specs.declared.trees.Expr.{Expr}
use Rattle.nona_tree.specs.declared.trees.Loop.{Loop}
use Rattle.nona_tree.specs.declared.trees.Stmt.{Stmt, Let, Set, Fold, Put, FoldPut, If', If, While', While, For', For, Print, Row_of-Stmt, end_of-Stmt, more_of-Stmt, items-the_row-Stmt, items_hidden-the_row-Stmt-0}
use Rattle.nona_tree.specs.declared.trees.Stmt.TheBlock.{hidden-the_row-Stmt-0}
use Rattle.nona_tree.specs.declared.trees.Program.{Program}
use Rattle.nona_tree.specs.Seen.{Seen, with_scalar, seen_after, seen_by_body}
use Rattle.nona_tree.specs.Faults.{faults_of}
use Rattle.nona_tree.specs.Ids.{expr_ids, new_ids, stmt_ids, row_ids, all_ids, ids_of}
use Rattle.nona_tree.specs.Numbers.{IsI64Program}
use Rattle.nona_tree.specs.Places.{fors_in, fors_row, fors_all, AreRising, HasOwnPlaces}
use Rattle.nona_tree.specs.Smallness.{size_bound, nesting_bound, IsSmall}
use Rattle.nona_tree.specs.Checking.{IsChecked}
use Rattle.nona_tree.proofs.Overwritten.{same_faults, same_ids, same_size, same_nesting}
use Rattle.nona_tree.proofs.IdsNumbers.{same_numbers}

-- the places in a block are those of its row
pub block_fors : {k : _} (row : Row_of-Stmt k) → fors_row row ≡ fors_all (items-the_row-Stmt _ row)
block_fors end_of-Stmt = refl
block_fors (more_of-Stmt s rest) = ap (λ (places : List ℕ). fors_in s ++ places) (block_fors rest)

-- the places in statements that are built of their parts
pub fors-If : (test : Expr) (then_part else_part : List Stmt) → fors_in (If test then_part else_part) ≡ fors_all then_part ++ fors_all else_part
fors-If test then_part else_part =
    λ i. (block_fors (hidden-the_row-Stmt-0 then_part) ∙ ap fors_all (items_hidden-the_row-Stmt-0 then_part)) i
    ++ (block_fors (hidden-the_row-Stmt-0 else_part) ∙ ap fors_all (items_hidden-the_row-Stmt-0 else_part)) i

pub fors-While : (test : Expr) (body : List Stmt) (at : ℕ) → fors_in (While test body at) ≡ fors_all body
fors-While test body at = block_fors (hidden-the_row-Stmt-0 body) ∙ ap fors_all (items_hidden-the_row-Stmt-0 body)

pub fors-For : (l : Loop) → fors_in (For l) ≡ l.at ∷ fors_all l.body
fors-For l = ap (λ (places : List ℕ). l.at ∷ places) (block_fors (hidden-the_row-Stmt-0 l.body) ∙ ap fors_all (items_hidden-the_row-Stmt-0 l.body))

mutual
  same_fors : (s : Stmt) (seen : Seen) → fors_in (stmt_ids s seen) ≡ fors_in s
  same_fors (Let x e) seen = refl
  same_fors (Set x e) seen = refl
  same_fors (Fold x f e) seen = refl
  same_fors (Put c e) seen = refl
  same_fors (FoldPut c f e) seen = refl
  same_fors (If' test p then_part q else_part) seen =
      fors-If (expr_ids test seen) (row_ids then_part seen) (row_ids else_part seen)
      ∙ (λ i. same_fors_row then_part seen i ++ same_fors_row else_part seen i)
  same_fors (While' test p body at) seen = fors-While (expr_ids test seen) (row_ids body seen) at ∙ same_fors_row body seen
  same_fors (For' x low high p body seq at) seen =
      let inside = with_scalar x.text true seen in
      fors-For (record { index = new_ids x seen; low = expr_ids low seen; high = expr_ids high seen; body = row_ids body inside; seq = seq; at = at })
      ∙ ap (λ (places : List ℕ). at ∷ places) (same_fors_row body inside)
  same_fors (Print e at) seen = refl

  same_fors_row : {k : _} (row : Row_of-Stmt k) (seen : Seen) → fors_all (row_ids row seen) ≡ fors_row row
  same_fors_row end_of-Stmt seen = refl
  same_fors_row (more_of-Stmt s rest) seen = λ i. same_fors s seen i ++ same_fors_row rest (seen_after s seen) i

same_fors_all : (ss : List Stmt) (seen : Seen) → fors_all (all_ids ss seen) ≡ fors_all ss
same_fors_all [] seen = refl
same_fors_all (s ∷ rest) seen = λ i. same_fors s seen i ++ same_fors_all rest (seen_after s seen) i

pub same_places : (p : Program) → HasOwnPlaces p → HasOwnPlaces (ids_of p)
same_places p h = subst AreRising (sym (same_fors_all p.body (seen_by_body p))) h

pub ids_checked : (p : Program) → IsSmall p → faults_of p ≡ [] → IsI64Program p → HasOwnPlaces p → IsChecked (ids_of p)
ids_checked p h none numbers places = (
  (subst (λ n. n ≤ size_bound) (sym (same_size p)) h.0, subst (λ n. n ≤ nesting_bound) (sym (same_nesting p)) h.1),
  same_faults p ∙ none,
  same_ids p,
  same_numbers p numbers,
  same_places p places,
)
