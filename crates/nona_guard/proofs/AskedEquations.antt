-- What is asked of expressions and statements that hold others.
use Rattle.std.proofs.Common.{◌≡◌, ℕ, ◌+◌, ◌<◌, length, take, append-nil, List, [], ◌∷◌, ◌++◌, refl, sym, ap, ◌∙◌, append_assoc}
use Rattle.std.proofs.lemmas.List.{take_more}
use denote.Hole.Carrier.{hidden}
use Rattle.std.specs.Prelude.{slice_index_or}
use Rattle.std.specs.declared.option.Option.{Option}
use Rattle.nona_tree.specs.declared.trees.Op.{Op}
use Rattle.nona_tree.specs.declared.trees.Access.{Access}
use Rattle.nona_tree.specs.declared.trees.Expr.{Expr, Cell, Neg, Not, Binary}
use Rattle.nona_tree.specs.declared.trees.Expr.TheBlock.{hidden-the_row-Expr-1, hidden-the_row-Access-0}
use Rattle.nona_tree.specs.declared.trees.Loop.{Loop}
use Rattle.nona_tree.specs.declared.trees.Stmt.{Stmt, If, For, Row_of-Stmt, end_of-Stmt, more_of-Stmt, items-the_row-Stmt, items_hidden-the_row-Stmt-0}
use Rattle.nona_tree.specs.declared.trees.Stmt.TheBlock.{hidden-the_row-Stmt-0}
use Rattle.nona_forms.specs.Affine.{Affine, form_of}
use Rattle.nona_guard.specs.declared.checks.Check.{Check}
use Rattle.nona_guard.specs.Asked.{asked_place, asked_expr, asked_loop, asked, asked_row, asked_all}

asked-Cell : (c : Access) (names : List ℕ) → asked_expr (Cell c) names ≡ asked_place c.array.id c.wrap c.index names ∷ asked_expr c.index names
unfolding hidden-the_row-Access-0 hidden
asked-Cell c names = refl

asked-Neg : (e : Expr) (names : List ℕ) → asked_expr (Neg e) names ≡ asked_expr e names
unfolding hidden-the_row-Expr-1 hidden
asked-Neg e names = refl

asked-Not : (e : Expr) (names : List ℕ) → asked_expr (Not e) names ≡ asked_expr e names
unfolding hidden-the_row-Expr-1 hidden
asked-Not e names = refl

asked-Binary : (o : Op) (at : ℕ) (left right : Expr) (names : List ℕ) → asked_expr (Binary o at left right) names ≡ asked_expr left names ++ asked_expr right names
unfolding hidden-the_row-Expr-1 hidden
asked-Binary o at left right names = refl

-- what is appended, one part after another
pub two_parts : (xs ys old mid new : List Check) → mid ≡ old ++ xs → new ≡ mid ++ ys → new ≡ old ++ (xs ++ ys)
two_parts xs ys old mid new h g = g ∙ ap (λ zs. zs ++ ys) h ∙ append_assoc old xs ys

pub checks-Cell : (e : Expr) (c d : Access) (names : List ℕ) (old mid new : List Check) → e ≡ Cell c → d ≡ c
    → mid ≡ old ++ asked_place d.array.id d.wrap d.index names ∷ [] → new ≡ mid ++ asked_expr d.index names → new ≡ old ++ asked_expr e names
checks-Cell e c d names old mid new is same h g =
    two_parts (asked_place d.array.id d.wrap d.index names ∷ []) (asked_expr d.index names) old mid new h g
    ∙ ap (λ (x : Access). old ++ asked_place x.array.id x.wrap x.index names ∷ asked_expr x.index names) same
    ∙ ap (λ xs. old ++ xs) (sym (ap (λ x. asked_expr x names) is ∙ asked-Cell c names))

pub checks-Neg : (e part other : Expr) (names : List ℕ) (old new : List Check) → e ≡ Neg part → other ≡ part → new ≡ old ++ asked_expr other names → new ≡ old ++ asked_expr e names
checks-Neg e part other names old new is same h =
    h ∙ ap (λ (x : Expr). old ++ asked_expr x names) same ∙ ap (λ xs. old ++ xs) (sym (ap (λ x. asked_expr x names) is ∙ asked-Neg part names))

pub checks-Not : (e part other : Expr) (names : List ℕ) (old new : List Check) → e ≡ Not part → other ≡ part → new ≡ old ++ asked_expr other names → new ≡ old ++ asked_expr e names
checks-Not e part other names old new is same h =
    h ∙ ap (λ (x : Expr). old ++ asked_expr x names) same ∙ ap (λ xs. old ++ xs) (sym (ap (λ x. asked_expr x names) is ∙ asked-Not part names))

pub checks-Binary : (e : Expr) (o : Op) (at : ℕ) (left right first second : Expr) (names : List ℕ) (old mid new : List Check) → e ≡ Binary o at left right → first ≡ left → second ≡ right
    → mid ≡ old ++ asked_expr first names → new ≡ mid ++ asked_expr second names → new ≡ old ++ asked_expr e names
checks-Binary e o at left right first second names old mid new is a b h g =
    two_parts (asked_expr first names) (asked_expr second names) old mid new h g
    ∙ (λ i. old ++ (asked_expr (a i) names ++ asked_expr (b i) names))
    ∙ ap (λ xs. old ++ xs) (sym (ap (λ x. asked_expr x names) is ∙ asked-Binary o at left right names))

-- statements
asked_row_at : (k : _) (row : Row_of-Stmt k) (names : List ℕ) → asked_row row names ≡ asked_all (items-the_row-Stmt k row) names
asked_row_at k end_of-Stmt names = refl
asked_row_at k (more_of-Stmt s rest) names = ap (λ xs. asked s names ++ xs) (asked_row_at _ rest names)

pub asked_body : (body : List Stmt) (names : List ℕ) → asked_row (hidden-the_row-Stmt-0 body) names ≡ asked_all body names
asked_body body names = asked_row_at _ (hidden-the_row-Stmt-0 body) names ∙ ap (λ (ss : List Stmt). asked_all ss names) (items_hidden-the_row-Stmt-0 body)

asked-If : (test : Expr) (then_part else_part : List Stmt) (names : List ℕ) → asked (If test then_part else_part) names ≡ asked_expr test names ++ (asked_all then_part names ++ asked_all else_part names)
asked-If test then_part else_part names = λ i. asked_expr test names ++ (asked_body then_part names i ++ asked_body else_part names i)

asked-For : (l : Loop) (names : List ℕ) → asked (For l) names ≡ asked_loop l.index.id (form_of l.low names) (form_of l.high names) (asked_all l.body (l.index.id ∷ names))
asked-For l names = ap (asked_loop l.index.id (form_of l.low names) (form_of l.high names)) (asked_body l.body (l.index.id ∷ names))

pub checks-If : (s : Stmt) (test : Expr) (then_part else_part first second : List Stmt) (names inner then_inner : List ℕ) (old tested mid new : List Check) → s ≡ If test then_part else_part → first ≡ then_part → second ≡ else_part
    → tested ≡ old ++ asked_expr test (inner ++ names) → mid ≡ tested ++ asked_all first (inner ++ names) → then_inner ≡ inner → new ≡ mid ++ asked_all second (then_inner ++ names) → new ≡ old ++ asked s (inner ++ names)
checks-If s test then_part else_part first second names inner then_inner old tested mid new is a b h g same k =
    let all = inner ++ names in
    let last : new ≡ mid ++ asked_all second all = k ∙ ap (λ ids. mid ++ asked_all second (ids ++ names)) same in
    two_parts (asked_expr test all) (asked_all first all ++ asked_all second all) old tested new h (two_parts (asked_all first all) (asked_all second all) tested mid new g last)
    ∙ (λ i. old ++ (asked_expr test all ++ (asked_all (a i) all ++ asked_all (b i) all)))
    ∙ ap (λ xs. old ++ xs) (sym (ap (λ x. asked x all) is ∙ asked-If test then_part else_part all))

pub checks-For : (l : Loop) (items : List Stmt) (low high : Option Affine) (names inner within : List ℕ) (begun body old new : List Check) → items ≡ l.body
    → low ≡ form_of l.low (inner ++ names) → high ≡ form_of l.high (inner ++ names) → within ≡ l.index.id ∷ inner → begun ≡ [] → body ≡ begun ++ asked_all items (within ++ names)
    → new ≡ old ++ asked_loop l.index.id low high body → new ≡ old ++ asked (For l) (inner ++ names)
checks-For l items low high names inner within begun body old new a of_low of_high indices empty h g =
    g ∙ (λ i. old ++ asked_loop l.index.id (of_low i) (of_high i) ((h ∙ ap (λ xs. xs ++ asked_all items (within ++ names)) empty) i))
    ∙ (λ i. old ++ asked_loop l.index.id (form_of l.low (inner ++ names)) (form_of l.high (inner ++ names)) (asked_all (a i) (indices i ++ names)))
    ∙ ap (λ xs. old ++ xs) (sym (asked-For l (inner ++ names)))

-- one more statement
asked_both : (ss more : List Stmt) (names : List ℕ) → asked_all (ss ++ more) names ≡ asked_all ss names ++ asked_all more names
asked_both [] more names = refl
asked_both (s ∷ ss) more names = ap (λ xs. asked s names ++ xs) (asked_both ss more names) ∙ sym (append_assoc (asked s names) (asked_all ss names) (asked_all more names))

asked_more : (ss : List Stmt) (i : ℕ) (s : Stmt) (names : List ℕ) → i < length ss → s ≡ slice_index_or ss i s → asked_all (take i ss) names ++ asked s names ≡ asked_all (take (i + 1) ss) names
asked_more ss i s names within is =
    ap (λ xs. asked_all (take i ss) names ++ xs) (sym (append-nil (asked s names))) ∙ sym (asked_both (take i ss) (s ∷ []) names)
    ∙ ap (λ (x : Stmt). asked_all (take i ss ++ x ∷ []) names) is ∙ ap (λ (xs : List Stmt). asked_all xs names) (sym (take_more ss i s within))

pub checks_more : (ss : List Stmt) (i : ℕ) (s : Stmt) (names inner now : List ℕ) (old mid new : List Check) → i < length ss → s ≡ slice_index_or ss i s → now ≡ inner
    → mid ≡ old ++ asked_all (take i ss) (inner ++ names) → new ≡ mid ++ asked s (now ++ names) → new ≡ old ++ asked_all (take (i + 1) ss) (inner ++ names)
checks_more ss i s names inner now old mid new within is same h g =
    two_parts (asked_all (take i ss) (inner ++ names)) (asked s (inner ++ names)) old mid new h (g ∙ ap (λ ids. mid ++ asked s (ids ++ names)) same)
    ∙ ap (λ xs. old ++ xs) (asked_more ss i s (inner ++ names) within is)
