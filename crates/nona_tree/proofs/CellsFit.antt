-- The arrays of a program without a fault have at least one cell each, and together no more than they may.
use Rattle.std.proofs.Common.{◌≡◌, ◌≤◌, ◌+◌, ◌++◌, ℕ, zero, suc, Bool, true, false, if◌then◌else◌, List, [], ◌∷◌, map, All, nat_lt, nat_le, refl, ap, subst, arith}
use Rattle.std.specs.Prelude.{sum_by}
use Rattle.std.proofs.lemmas.Bool.{leb-true}
use Rattle.std.proofs.lemmas.List.Sums.{sum_by-cons}
use Rattle.nona_tree.specs.declared.trees.ArrayDecl.{ArrayDecl}
use Rattle.nona_tree.specs.declared.trees.VarDecl.{VarDecl}
use Rattle.nona_tree.specs.declared.trees.Program.{Program}
use Rattle.nona_tree.specs.Run.{count_of}
use Rattle.nona_tree.specs.Seen.{Seen, seen_first, with_scalar, with_array, Declaration, array_decl, var_decl, from_array, declarations, seen_by_body}
use Rattle.nona_tree.specs.Faults.{new_faults, all_faults, cell_bound, are_wrong, cells_faults, declarations_faults, faults_of}
use Rattle.nona_tree.proofs.Unfaulted.{parts, no_fault, all_more}

-- the arrays among declarations
arrays_among : List Declaration → List ArrayDecl
arrays_among [] = []
arrays_among (array_decl a ∷ rest) = a ∷ arrays_among rest
arrays_among (var_decl v ∷ rest) = arrays_among rest

among_if : (b : Bool) (ds others : List Declaration) (arrays : List ArrayDecl) → arrays_among ds ≡ arrays → arrays_among others ≡ arrays
    → arrays_among (if b then ds else others) ≡ arrays
among_if true ds others arrays h g = h
among_if false ds others arrays h g = g

among_from : (a : ArrayDecl) (later : List VarDecl → List Declaration) (arrays : List ArrayDecl) → ((vars : List VarDecl) → arrays_among (later vars) ≡ arrays)
    → (vars : List VarDecl) → arrays_among (from_array a later vars) ≡ a ∷ arrays
unfolding arrays_among
among_from a later arrays h [] = ap (λ (more : List ArrayDecl). a ∷ more) (h [])
among_from a later arrays h (v ∷ rest) =
    among_if (nat_lt v.name.at a.name.at) (var_decl v ∷ from_array a later rest) (array_decl a ∷ later (v ∷ rest)) (a ∷ arrays) (among_from a later arrays h rest) (ap (λ (more : List ArrayDecl). a ∷ more) (h (v ∷ rest)))

among_vars : (vars : List VarDecl) → arrays_among (map (λ v. var_decl v) vars) ≡ []
unfolding arrays_among
among_vars [] = refl
among_vars (v ∷ rest) = among_vars rest

among_all : (arrays : List ArrayDecl) (vars : List VarDecl) → arrays_among (declarations arrays vars) ≡ arrays
among_all [] vars = among_vars vars
among_all (a ∷ arrays) vars = among_from a (declarations arrays) arrays (among_all arrays) vars

within : (b : Bool) (total : ℕ) → nat_le total cell_bound ≡ b → (if b then false else true) ≡ false → total ≤ cell_bound
within true total e h = leb-true total cell_bound e
within false total e h = cc

right : (count total : ℕ) → are_wrong count total ≡ false → (1 ≤ count) × (total ≤ cell_bound)
right zero total h = cc
right (suc k) total h = (omega arith, within (nat_le total cell_bound) total refl h)

-- each has at least one cell, and with those before they have no more than they may
abbrev Fit : List ArrayDecl → ℕ → Type 0
Fit arrays cells =
    All (λ (a : ArrayDecl). 1 ≤ count_of a.cells) arrays × (cells + sum_by (λ (a : ArrayDecl). count_of a.cells) arrays ≤ cell_bound)

fits : (ds : List Declaration) (seen : Seen) (cells : ℕ) → declarations_faults ds seen cells ≡ [] → cells ≤ cell_bound → Fit (arrays_among ds) cells
unfolding arrays_among
fits [] seen cells h few = (λ k d below. absurd (omega (arith, below)), omega (arith, few))
fits (array_decl a ∷ rest) seen cells h few =
    let n = parts (new_faults a.name seen ++ cells_faults (array_decl a) (cells + count_of a.cells)) (declarations_faults rest (with_array a.name.text seen) (cells + count_of a.cells)) h in
    let m = parts (new_faults a.name seen) (cells_faults (array_decl a) (cells + count_of a.cells)) n.0 in
    let r = right (count_of a.cells) (cells + count_of a.cells) (no_fault (are_wrong (count_of a.cells) (cells + count_of a.cells)) _ m.1) in
    let later = fits rest (with_array a.name.text seen) (cells + count_of a.cells) n.1 r.1 in
    (all_more (λ (d : ArrayDecl). 1 ≤ count_of d.cells) a (arrays_among rest) r.0 later.0, omega (arith, later.1, sum_by-cons (λ (d : ArrayDecl). count_of d.cells) a (arrays_among rest)))
fits (var_decl v ∷ rest) seen cells h few =
    let n = parts (new_faults v.name seen ++ cells_faults (var_decl v) (cells + 0)) (declarations_faults rest (with_scalar v.name.text false seen) (cells + 0)) h in
    let later = fits rest (with_scalar v.name.text false seen) (cells + 0) n.1 (omega (arith, few)) in
    (later.0, omega (arith, later.1))

cells_fit : (p : Program) → faults_of p ≡ [] → Fit p.arrays 0
cells_fit p h =
    let n = parts (declarations_faults (declarations p.arrays p.vars) seen_first 0) (all_faults p.body (seen_by_body p)) h in
    subst (λ (arrays : List ArrayDecl). Fit arrays 0) (among_all p.arrays p.vars) (fits (declarations p.arrays p.vars) seen_first 0 n.0 (omega arith))

pub some_cells : (p : Program) → faults_of p ≡ [] → All (λ (a : ArrayDecl). 1 ≤ count_of a.cells) p.arrays
some_cells p h = (cells_fit p h).0

pub few_cells : (p : Program) → faults_of p ≡ [] → sum_by (λ (a : ArrayDecl). count_of a.cells) p.arrays ≤ cell_bound
few_cells p h = omega (arith, (cells_fit p h).1)
