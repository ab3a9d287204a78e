-- The code of main statements behind other code, and how many regions stand in them.
use Rattle.std.proofs.Common.{◌≡◌, ℕ, ◌+◌, Bool, true, false, List, [], ◌∷◌, ◌++◌, length, if◌then◌else◌, sym, ap, ◌∙◌, arith, append_assoc, length-append}
use Rattle.nona_tree.specs.declared.trees.Expr.{Expr}
use Rattle.nona_tree.specs.declared.trees.Loop.{Loop}
use Rattle.nona_tree.specs.declared.trees.Stmt.{Stmt, If, While, For}
use Rattle.nona_tree.specs.Entries.{regions_in, regions_all, count_in, count_all}
use Rattle.nona_tree.proofs.BesideEquations.{regions-If, regions-While, regions-For}
use Rattle.nona_code.specs.declared.instr.Instr.{Instr}
use Rattle.nona_gen.specs.Code.{expr_code, if_code}
use Rattle.nona_gen.specs.MainCode.{region_code, main_code, main_all}
use Rattle.nona_gen.specs.MainParts.{main_block, main_loop, main_turns}
use Rattle.nona_gen.proofs.MainEquations.{main-If, main-While, main-For}

-- how many regions stand in a statement that holds others

pub count_if : (chosen : Loop → Bool) (s : Stmt) (test : Expr) (then_part else_part : List Stmt) → s ≡ If test then_part else_part
    → count_in chosen s ≡ count_all chosen then_part + count_all chosen else_part
count_if chosen s test then_part else_part is =
    ap (count_in chosen) is ∙ ap length (regions-If chosen test then_part else_part) ∙ length-append (regions_all chosen then_part) (regions_all chosen else_part)

pub count_while : (chosen : Loop → Bool) (s : Stmt) (test : Expr) (body : List Stmt) (at : ℕ) → s ≡ While test body at → count_in chosen s ≡ count_all chosen body
count_while chosen s test body at is = ap (count_in chosen) is ∙ ap length (regions-While chosen test body at)

pub count_for : (chosen : Loop → Bool) (s : Stmt) (l : Loop) → s ≡ For l → chosen l ≡ false → count_in chosen s ≡ count_all chosen l.body
count_for chosen s l is other =
    ap (count_in chosen) is ∙ ap length (regions-For chosen l) ∙ ap (λ b. length (if b then l ∷ [] else regions_all chosen l.body)) other

pub count_region : (chosen : Loop → Bool) (s : Stmt) (l : Loop) → s ≡ For l → chosen l ≡ true → count_in chosen s ≡ 1
count_region chosen s l is region =
    ap (count_in chosen) is ∙ ap length (regions-For chosen l) ∙ ap (λ b. length (if b then l ∷ [] else regions_all chosen l.body)) region

-- its main code

pub code_if : (chosen : Loop → Bool) (first : ℕ) (s : Stmt) (test : Expr) (then_part else_part : List Stmt) (depth p : ℕ) → s ≡ If test then_part else_part
    → main_code chosen first s depth p
    ≡ if_code p (expr_code test) (main_block chosen first then_part depth) (main_block chosen (first + count_all chosen then_part) else_part depth)
code_if chosen first s test then_part else_part depth p is = ap (λ x. main_code chosen first x depth p) is ∙ main-If chosen first test then_part else_part depth p

pub code_while : (chosen : Loop → Bool) (first : ℕ) (s : Stmt) (test : Expr) (body : List Stmt) (at depth p : ℕ) → s ≡ While test body at
    → main_code chosen first s depth p ≡ main_loop chosen first test body at depth p
code_while chosen first s test body at depth p is = ap (λ x. main_code chosen first x depth p) is ∙ main-While chosen first test body at depth p

pub code_for : (chosen : Loop → Bool) (first : ℕ) (s : Stmt) (l : Loop) (depth p : ℕ) → s ≡ For l → chosen l ≡ false
    → main_code chosen first s depth p ≡ main_turns chosen first l depth p
code_for chosen first s l depth p is other =
    ap (λ x. main_code chosen first x depth p) is ∙ main-For chosen first l depth p
    ∙ ap (λ b. if b then region_code first (expr_code l.low) (expr_code l.high) else main_turns chosen first l depth p) other

pub code_region : (chosen : Loop → Bool) (first : ℕ) (s : Stmt) (l : Loop) (depth p : ℕ) → s ≡ For l → chosen l ≡ true
    → main_code chosen first s depth p ≡ region_code first (expr_code l.low) (expr_code l.high)
code_region chosen first s l depth p is region =
    ap (λ x. main_code chosen first x depth p) is ∙ main-For chosen first l depth p
    ∙ ap (λ b. if b then region_code first (expr_code l.low) (expr_code l.high) else main_turns chosen first l depth p) region

-- one more main statement of a list
pub main_emitted : (chosen : Loop → Bool) (first next : ℕ) (s : Stmt) (rest all : List Stmt) (depth : ℕ) (old new : List Instr)
    → all ≡ s ∷ rest → next ≡ first + count_in chosen s → new ≡ old ++ main_code chosen first s depth (length old)
    → old ++ main_all chosen first all depth (length old) ≡ new ++ main_all chosen next rest depth (length new)
main_emitted chosen first next s rest all depth old new is n e =
    let c = main_code chosen first s depth (length old) in
    let long : length new ≡ length old + length c = ap length e ∙ length-append old c in
    ap (λ ss. old ++ main_all chosen first ss depth (length old)) is
    ∙ sym (append_assoc old c (main_all chosen (first + count_in chosen s) rest depth (length old + length c)))
    ∙ ap (λ xs. xs ++ main_all chosen (first + count_in chosen s) rest depth (length old + length c)) (sym e)
    ∙ ap (λ z. new ++ main_all chosen (first + count_in chosen s) rest depth z) (sym long)
    ∙ ap (λ z. new ++ main_all chosen z rest depth (length new)) (sym n)

-- the regions in it and behind it
pub count_next : (chosen : Loop → Bool) (first next : ℕ) (s : Stmt) (rest all : List Stmt) → all ≡ s ∷ rest → next ≡ first + count_in chosen s
    → next + count_all chosen rest ≡ first + count_all chosen all
count_next chosen first next s rest all is n =
    omega (arith, n, ap (count_all chosen) is, length-append (regions_in chosen s) (regions_all chosen rest))
