-- The declarations that are left, where the next one is known.
use Rattle.std.proofs.Common.{◌≡◌, ◌⊎◌, ℕ, ◌+◌, ◌<◌, Bool, true, false, not, if◌then◌else◌, nat_lt, List, [], ◌∷◌, ◌++◌, length, get_or, drop, refl, sym, ap, subst, ◌∙◌, arith}
use Rattle.std.specs.declared.option.Option.{Option}
use Rattle.std.proofs.lemmas.List.{append-nil, drop_more, length-drop}
use Rattle.nona_tree.specs.declared.faults.ProgramFault.{ProgramFault}
use Rattle.nona_tree.specs.declared.trees.ArrayDecl.{ArrayDecl}
use Rattle.nona_tree.specs.declared.trees.VarDecl.{VarDecl}
use Rattle.nona_tree.specs.Run.{count_of}
use Rattle.nona_tree.specs.Seen.{Seen, with_scalar, with_array, Declaration, array_decl, var_decl, declarations}
use Rattle.nona_tree.specs.Faults.{new_faults, cells_faults, declarations_faults}
use Rattle.nona_check.specs.First.{first_from}
use Rattle.nona_check.specs.Merged.{array_is_next}
use Rattle.nona_check.proofs.FirstLaws.{first_from-append}

array_if : (b : Bool) (ds es : List Declaration) → not b ≡ true → (if b then ds else es) ≡ es
array_if true ds es h = cc
array_if false ds es h = refl

var_if : (b : Bool) (ds es : List Declaration) → not b ≡ false → (if b then ds else es) ≡ ds
var_if true ds es h = refl
var_if false ds es h = cc

array_first : (a : ArrayDecl) (arrays : List ArrayDecl) (vars : List VarDecl) → array_is_next (a ∷ arrays) vars ≡ true
    → declarations (a ∷ arrays) vars ≡ array_decl a ∷ declarations arrays vars
array_first a arrays [] h = refl
array_first a arrays (v ∷ vars) h = array_if (nat_lt v.name.at a.name.at) _ _ h

var_first : (arrays : List ArrayDecl) (v : VarDecl) (vars : List VarDecl) → array_is_next arrays (v ∷ vars) ≡ false
    → declarations arrays (v ∷ vars) ≡ var_decl v ∷ declarations arrays vars
var_first [] v vars h = refl
var_first (a ∷ arrays) v vars h = var_if (nat_lt v.name.at a.name.at) _ _ h

some_array : (arrays : List ArrayDecl) (vars : List VarDecl) → array_is_next arrays vars ≡ true → 0 < length arrays
some_array [] vars h = cc
some_array (a ∷ arrays) vars h = omega arith

some_var : (arrays : List ArrayDecl) (vars : List VarDecl) → array_is_next arrays vars ≡ false → (0 < length arrays) ⊎ (0 < length vars) → 0 < length vars
some_var [] [] h e = grind arith
some_var (a ∷ arrays) [] h e = cc
some_var arrays (v ∷ vars) h e = omega arith

-- where an array is next there is one
pub array_there : (arrays : List ArrayDecl) (vars : List VarDecl) (i j : ℕ) → array_is_next (drop i arrays) (drop j vars) ≡ true → i < length arrays
array_there arrays vars i j h = omega (arith, some_array (drop i arrays) (drop j vars) h, length-drop i arrays)

-- where no array is next, but declarations are left, there is a variable
pub var_there : (arrays : List ArrayDecl) (vars : List VarDecl) (i j : ℕ) → array_is_next (drop i arrays) (drop j vars) ≡ false
    → (i < length arrays) ⊎ (j < length vars) → j < length vars
var_there arrays vars i j h e =
    omega (arith, some_var (drop i arrays) (drop j vars) h (let left : (0 < length (drop i arrays)) ⊎ (0 < length (drop j vars)) = grind (arith, length-drop i arrays, length-drop j vars) in left), length-drop j vars)

-- an array is declared before those that are left
pub array_left : (arrays : List ArrayDecl) (vars : List VarDecl) (i j : ℕ) (a : ArrayDecl) → i < length arrays → a ≡ get_or arrays i a
    → array_is_next (drop i arrays) (drop j vars) ≡ true → declarations (drop i arrays) (drop j vars) ≡ array_decl a ∷ declarations (drop (i + 1) arrays) (drop j vars)
array_left arrays vars i j a below is h =
    let e : drop i arrays ≡ a ∷ drop (i + 1) arrays = drop_more arrays i a below ∙ ap (λ (x : ArrayDecl). x ∷ drop (i + 1) arrays) (sym is) in
    ap (λ (ds : List ArrayDecl). declarations ds (drop j vars)) e
    ∙ array_first a (drop (i + 1) arrays) (drop j vars) (subst (λ (ds : List ArrayDecl). array_is_next ds (drop j vars) ≡ true) e h)

-- a variable is declared before those that are left
pub var_left : (arrays : List ArrayDecl) (vars : List VarDecl) (i j : ℕ) (v : VarDecl) → j < length vars → v ≡ get_or vars j v
    → array_is_next (drop i arrays) (drop j vars) ≡ false → declarations (drop i arrays) (drop j vars) ≡ var_decl v ∷ declarations (drop i arrays) (drop (j + 1) vars)
var_left arrays vars i j v below is h =
    let e : drop j vars ≡ v ∷ drop (j + 1) vars = drop_more vars j v below ∙ ap (λ (x : VarDecl). x ∷ drop (j + 1) vars) (sym is) in
    ap (λ (vs : List VarDecl). declarations (drop i arrays) vs) e
    ∙ var_first (drop i arrays) v (drop (j + 1) vars) (subst (λ (vs : List VarDecl). array_is_next (drop i arrays) vs ≡ false) e h)

-- what an array adds to the faults
pub array_step : (kept new : Option ProgramFault) (a : ArrayDecl) (rest ds : List Declaration) (seen after : Seen) (cells total : ℕ) → ds ≡ array_decl a ∷ rest
    → total ≡ cells + count_of a.cells → after ≡ with_array a.name.text seen → new ≡ first_from kept (new_faults a.name seen ++ cells_faults (array_decl a) (cells + count_of a.cells))
    → first_from kept (declarations_faults ds seen cells) ≡ first_from new (declarations_faults rest after total)
array_step kept new a rest ds seen after cells total e count is first =
    ap (λ (es : List Declaration). first_from kept (declarations_faults es seen cells)) e
    ∙ first_from-append kept (new_faults a.name seen ++ cells_faults (array_decl a) (cells + count_of a.cells)) _
    ∙ sym (λ i. first_from (first i) (declarations_faults rest (is i) (count i)))

-- what a variable adds to the faults
pub var_step : (kept new : Option ProgramFault) (v : VarDecl) (rest ds : List Declaration) (seen after : Seen) (cells : ℕ) → ds ≡ var_decl v ∷ rest
    → after ≡ with_scalar v.name.text false seen → new ≡ first_from kept (new_faults v.name seen)
    → first_from kept (declarations_faults ds seen cells) ≡ first_from new (declarations_faults rest after cells)
var_step kept new v rest ds seen after cells e is first =
    let none : new_faults v.name seen ++ [] ≡ new_faults v.name seen = append-nil (new_faults v.name seen) in
    let same : cells + 0 ≡ cells = omega arith in
    ap (λ (es : List Declaration). first_from kept (declarations_faults es seen cells)) e
    ∙ first_from-append kept (new_faults v.name seen ++ []) _
    ∙ (λ i. first_from (first_from kept (none i)) (declarations_faults rest (with_scalar v.name.text false seen) (same i)))
    ∙ sym (λ i. first_from (first i) (declarations_faults rest (is i) cells))
