-- The statements at the top of each region's body have code that stands alone.
use Rattle.std.proofs.Common.{ℕ, ◌+◌, ◌≤◌, Bool, true, false, List, [], ◌∷◌, if◌then◌else◌, arith}
use Rattle.std.specs.Prelude.{All}
use Rattle.std.proofs.Math.Nat.{le-max_left, le-max_right}
use Rattle.std.proofs.lemmas.List.Elements.{All-nil, All-cons, All-append}
use Rattle.nona_tree.specs.declared.trees.Loop.{Loop}
use Rattle.nona_tree.specs.declared.trees.Stmt.{Stmt, Let, Set, Fold, Put, FoldPut, If', While', For', Print, Row_of-Stmt, end_of-Stmt, more_of-Stmt, items-the_row-Stmt}
use Rattle.nona_tree.specs.Entries.{loop_with, regions_in, regions_row, regions_all}
use Rattle.nona_tree.specs.Numbers.{IsI64Stmt, IsI64Row, AreI64Stmts}
use Rattle.nona_tree.specs.Scope.{IsScoped, IsRowScoped, AreScoped, IsSteady, IsRowSteady, AreSteady, is_let, depth_after}
use Rattle.nona_tree.specs.Smallness.{stmt_size, row_size, all_size, stmt_nesting, row_nesting, all_nesting}
use Rattle.nona_gen.specs.Units.{HasCode, BodyHasCode}
use Rattle.nona_gen.proofs.Fewer.{row_fewer, none_among}
use Rattle.nona_gen.proofs.Fits.{one_more, some_size}

-- each statement of a row
row_code : {k : _} (row : Row_of-Stmt k) (d a : ℕ) → IsRowScoped row d a → d + row_size row ≤ 2147483648 → row_nesting row ≤ 256 → IsRowSteady row [] → IsI64Row row → All HasCode (items-the_row-Stmt _ row)
row_code end_of-Stmt d a scoped few nested steady numbers = All-nil HasCode
row_code (more_of-Stmt s rest) d a scoped few nested steady numbers =
    All-cons HasCode s (items-the_row-Stmt _ rest)
    (record {
      depth = d;
      arrays = a;
      scoped = scoped.0;
      few = omega (arith, few);
      nested = omega (arith, nested, le-max_left (stmt_nesting s) (row_nesting rest));
      steady = steady.0;
      numbers = numbers.0;
    })
    (row_code rest (depth_after s d) a scoped.1 (omega (arith, few, some_size s, one_more (is_let s) d)) (omega (arith, nested, le-max_right (stmt_nesting s) (row_nesting rest))) steady.1 numbers.1)

-- what is so of a loop and of the regions inside it is so of what the loop gives
of_loop : (P : Loop → Type 0) (region : Bool) (l : Loop) (inside : List Loop) → P l → All P inside → All P (if region then l ∷ [] else inside)
of_loop P true l inside one all = All-cons P l [] one (All-nil P)
of_loop P false l inside one all = all

mutual
  in_stmt : (chosen : Loop → Bool) (s : Stmt) (d a : ℕ) (xs : List ℕ) → IsScoped s d a → d + stmt_size s ≤ 2147483648 → stmt_nesting s ≤ 256 → IsSteady s xs → IsI64Stmt s
      → All BodyHasCode (regions_in chosen s)
  in_stmt chosen (Let x e) d a xs scoped few nested steady numbers = All-nil BodyHasCode
  in_stmt chosen (Set x e) d a xs scoped few nested steady numbers = All-nil BodyHasCode
  in_stmt chosen (Fold x f e) d a xs scoped few nested steady numbers = All-nil BodyHasCode
  in_stmt chosen (Put c e) d a xs scoped few nested steady numbers = All-nil BodyHasCode
  in_stmt chosen (FoldPut c f e) d a xs scoped few nested steady numbers = All-nil BodyHasCode
  in_stmt chosen (If' test p yes_part q no_part) d a xs scoped few nested steady numbers =
      All-append BodyHasCode (regions_row chosen yes_part) (regions_row chosen no_part)
      (in_row chosen yes_part d a xs scoped.1 (omega (arith, few)) (omega (arith, nested, le-max_left (row_nesting yes_part) (row_nesting no_part))) steady.0 numbers.1)
      (in_row chosen no_part d a xs scoped.2 (omega (arith, few)) (omega (arith, nested, le-max_right (row_nesting yes_part) (row_nesting no_part))) steady.1 numbers.2)
  in_stmt chosen (While' test p body at) d a xs scoped few nested steady numbers =
      in_row chosen body d a xs scoped.1 (omega (arith, few)) (omega (arith, nested)) steady numbers.1
  in_stmt chosen (For' x low high p body seq at) d a xs scoped few nested steady numbers =
      let l = loop_with x low high (items-the_row-Stmt _ body) seq at in
      of_loop BodyHasCode (chosen l) l (regions_row chosen body)
      (row_code body (d + 1) a scoped.3 (omega (arith, few)) (omega (arith, nested)) (row_fewer body [] (x.id ∷ xs) (none_among (x.id ∷ xs)) steady) numbers.2)
      (in_row chosen body (d + 1) a (x.id ∷ xs) scoped.3 (omega (arith, few)) (omega (arith, nested)) steady numbers.2)
  in_stmt chosen (Print e at) d a xs scoped few nested steady numbers = All-nil BodyHasCode

  in_row : {k : _} (chosen : Loop → Bool) (row : Row_of-Stmt k) (d a : ℕ) (xs : List ℕ) → IsRowScoped row d a → d + row_size row ≤ 2147483648 → row_nesting row ≤ 256 → IsRowSteady row xs → IsI64Row row
      → All BodyHasCode (regions_row chosen row)
  in_row chosen end_of-Stmt d a xs scoped few nested steady numbers = All-nil BodyHasCode
  in_row chosen (more_of-Stmt s rest) d a xs scoped few nested steady numbers =
      All-append BodyHasCode (regions_in chosen s) (regions_row chosen rest)
      (in_stmt chosen s d a xs scoped.0 (omega (arith, few)) (omega (arith, nested, le-max_left (stmt_nesting s) (row_nesting rest))) steady.0 numbers.0)
      (in_row chosen rest (depth_after s d) a xs scoped.1 (omega (arith, few, some_size s, one_more (is_let s) d)) (omega (arith, nested, le-max_right (stmt_nesting s) (row_nesting rest))) steady.1 numbers.1)

-- the same of one statement after another
pub regions_code : (chosen : Loop → Bool) (ss : List Stmt) (d a : ℕ) → AreScoped ss d a → d + all_size ss ≤ 2147483648 → all_nesting ss ≤ 256 → AreSteady ss [] → AreI64Stmts ss
    → All BodyHasCode (regions_all chosen ss)
regions_code chosen [] d a scoped few nested steady numbers = All-nil BodyHasCode
regions_code chosen (s ∷ rest) d a scoped few nested steady numbers =
    All-append BodyHasCode (regions_in chosen s) (regions_all chosen rest)
    (in_stmt chosen s d a [] scoped.0 (omega (arith, few)) (omega (arith, nested, le-max_left (stmt_nesting s) (all_nesting rest))) steady.0 numbers.0)
    (regions_code chosen rest (depth_after s d) a scoped.1 (omega (arith, few, some_size s, one_more (is_let s) d)) (omega (arith, nested, le-max_right (stmt_nesting s) (all_nesting rest))) steady.1 numbers.1)
