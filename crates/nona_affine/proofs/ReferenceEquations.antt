-- The accesses of expressions and statements that hold others.
use Rattle.std.proofs.Common.{◌≡◌, ℕ, ◌+◌, ◌<◌, length, take, append-nil, false, List, [], ◌∷◌, ◌++◌, map, refl, sym, ap, ◌∙◌, append_assoc}
use Rattle.std.proofs.lemmas.List.{map-append, take_more}
use denote.Hole.Carrier.{hidden}
use Rattle.std.specs.Prelude.{slice_index_or}
use Rattle.nona_tree.specs.declared.trees.Op.{Op}
use Rattle.nona_tree.specs.declared.trees.Access.{Access}
use Rattle.nona_tree.specs.declared.trees.Expr.{Expr, Cell, Neg, Not, Binary}
use Rattle.nona_tree.specs.declared.trees.Expr.TheBlock.{hidden-the_row-Expr-1, hidden-the_row-Access-0}
use Rattle.nona_tree.specs.declared.trees.Loop.{Loop}
use Rattle.nona_tree.specs.declared.trees.Stmt.{Stmt, If, While, For, Row_of-Stmt, end_of-Stmt, more_of-Stmt, items-the_row-Stmt, items_hidden-the_row-Stmt-0}
use Rattle.nona_tree.specs.declared.trees.Stmt.TheBlock.{hidden-the_row-Stmt-0}
use Rattle.nona_forms.specs.declared.shapes.InnerLoop.{InnerLoop}
use Rattle.nona_forms.specs.declared.shapes.Spot.{Spot}
use Rattle.nona_forms.specs.Affine.{form_of}
use Rattle.nona_forms.specs.Verdicts.{inner_forms, names_inside, spot_of}
use Rattle.nona_forms.specs.References.{Inner, Reference, expr_references, inside, references, references_row, references_all}
use Rattle.nona_affine.specs.declared.around.Around.{Around}
use Rattle.nona_affine.specs.Lists.{spot_in, inner_of, loop_in}
use Rattle.nona_affine.specs.Spotted.{spots_in}

references-Cell : (c : Access) → expr_references (Cell c) ≡ record { access = c; write = false; inner = [] } ∷ expr_references c.index
unfolding hidden-the_row-Access-0 hidden
references-Cell c = refl

references-Neg : (e : Expr) → expr_references (Neg e) ≡ expr_references e
unfolding hidden-the_row-Expr-1 hidden
references-Neg e = refl

references-Not : (e : Expr) → expr_references (Not e) ≡ expr_references e
unfolding hidden-the_row-Expr-1 hidden
references-Not e = refl

references-Binary : (o : Op) (at : ℕ) (left right : Expr) → expr_references (Binary o at left right) ≡ expr_references left ++ expr_references right
unfolding hidden-the_row-Expr-1 hidden
references-Binary o at left right = refl

-- what is appended, one part after another
pub spots-Cell : (e : Expr) (c d : Access) (names : List ℕ) (around : List InnerLoop) (old mid new : List Spot) → e ≡ Cell c → d ≡ c
    → mid ≡ old ++ spot_in names around (record { access = d; write = false; inner = [] }) ∷ [] → new ≡ mid ++ map (spot_in names around) (expr_references d.index) → new ≡ old ++ map (spot_in names around) (expr_references e)
spots-Cell e c d names around old mid new is same h g =
    g ∙ ap (λ xs. xs ++ map (spot_in names around) (expr_references d.index)) h ∙ append_assoc old (spot_in names around (record { access = d; write = false; inner = [] }) ∷ []) _
    ∙ ap (λ (x : Access). old ++ map (spot_in names around) (record { access = x; write = false; inner = [] } ∷ expr_references x.index)) same
    ∙ ap (λ xs. old ++ map (spot_in names around) xs) (sym (ap expr_references is ∙ references-Cell c))

pub spots-Neg : (e part other : Expr) (names : List ℕ) (around : List InnerLoop) (old new : List Spot) → e ≡ Neg part → other ≡ part → new ≡ old ++ map (spot_in names around) (expr_references other) → new ≡ old ++ map (spot_in names around) (expr_references e)
spots-Neg e part other names around old new is same h = h ∙ ap (λ (x : Expr). old ++ map (spot_in names around) (expr_references x)) same ∙ ap (λ xs. old ++ map (spot_in names around) xs) (sym (ap expr_references is ∙ references-Neg part))

pub spots-Not : (e part other : Expr) (names : List ℕ) (around : List InnerLoop) (old new : List Spot) → e ≡ Not part → other ≡ part → new ≡ old ++ map (spot_in names around) (expr_references other) → new ≡ old ++ map (spot_in names around) (expr_references e)
spots-Not e part other names around old new is same h = h ∙ ap (λ (x : Expr). old ++ map (spot_in names around) (expr_references x)) same ∙ ap (λ xs. old ++ map (spot_in names around) xs) (sym (ap expr_references is ∙ references-Not part))

pub spots-Binary : (e : Expr) (o : Op) (at : ℕ) (left right first second : Expr) (names : List ℕ) (around : List InnerLoop) (old mid new : List Spot) → e ≡ Binary o at left right → first ≡ left → second ≡ right
    → mid ≡ old ++ map (spot_in names around) (expr_references first) → new ≡ mid ++ map (spot_in names around) (expr_references second) → new ≡ old ++ map (spot_in names around) (expr_references e)
spots-Binary e o at left right first second names around old mid new is a b h g =
    g ∙ ap (λ xs. xs ++ map (spot_in names around) (expr_references second)) h ∙ append_assoc old (map (spot_in names around) (expr_references first)) (map (spot_in names around) (expr_references second))
    ∙ ap (λ xs. old ++ xs) (sym (map-append (spot_in names around) (expr_references first) (expr_references second)))
    ∙ ap (λ (x : Expr). old ++ map (spot_in names around) (expr_references x ++ expr_references second)) a
    ∙ ap (λ (x : Expr). old ++ map (spot_in names around) (expr_references left ++ expr_references x)) b
    ∙ ap (λ xs. old ++ map (spot_in names around) xs) (sym (ap expr_references is ∙ references-Binary o at left right))

-- the accesses inside one more loop, and all accesses of a body
one_deeper : (names : List ℕ) (around : List InnerLoop) (l : Inner) (x : Reference)
    → spot_in names around (inside l x) ≡ spot_in (l.id ∷ names) (around ++ record { id = l.id; low = form_of l.low names; high = form_of l.high names } ∷ []) x
one_deeper names around l x =
    let here : InnerLoop = record { id = l.id; low = form_of l.low names; high = form_of l.high names } in
    λ i. record { array = x.access.array.id; at = x.access.array.at; wrap = x.access.wrap; write = x.write; form = form_of x.access.index (names_inside (l.id ∷ names) x.inner); inner = sym (append_assoc around (here ∷ []) (inner_forms (l.id ∷ names) x.inner)) i }

pub spots_deeper : (names : List ℕ) (around : List InnerLoop) (l : Inner) (xs : List Reference)
    → map (spot_in names around) (map (inside l) xs) ≡ map (spot_in (l.id ∷ names) (around ++ record { id = l.id; low = form_of l.low names; high = form_of l.high names } ∷ [])) xs
spots_deeper names around l [] = refl
spots_deeper names around l (x ∷ xs) = λ i. one_deeper names around l x i ∷ spots_deeper names around l xs i

pub spots_whole : (names : List ℕ) (xs : List Reference) → map (spot_in names []) xs ≡ map (spot_of names) xs
spots_whole names [] = refl
spots_whole names (x ∷ xs) = ap (λ ys. spot_of names x ∷ ys) (spots_whole names xs)

-- statements
references_row_at : (k : _) (row : Row_of-Stmt k) → references_row row ≡ references_all (items-the_row-Stmt k row)
references_row_at k end_of-Stmt = refl
references_row_at k (more_of-Stmt s rest) = ap (λ xs. references s ++ xs) (references_row_at _ rest)

references_body : (body : List Stmt) → references_row (hidden-the_row-Stmt-0 body) ≡ references_all body
references_body body = references_row_at _ (hidden-the_row-Stmt-0 body) ∙ ap references_all (items_hidden-the_row-Stmt-0 body)

references-If : (test : Expr) (then_part else_part : List Stmt) → references (If test then_part else_part) ≡ expr_references test ++ (references_all then_part ++ references_all else_part)
references-If test then_part else_part = λ i. expr_references test ++ (references_body then_part i ++ references_body else_part i)

references-While : (test : Expr) (body : List Stmt) (at : ℕ) → references (While test body at) ≡ expr_references test ++ references_all body
references-While test body at = ap (λ xs. expr_references test ++ xs) (references_body body)

references-For : (l : Loop) → references (For l) ≡ expr_references l.low ++ (expr_references l.high ++ map (inside (inner_of l)) (references_all l.body))
references-For l = ap (λ xs. expr_references l.low ++ (expr_references l.high ++ map (inside (inner_of l)) xs)) (references_body l.body)

-- two parts, one after another
pub two_parts : (names : List ℕ) (around : Around) (xs ys : List Reference) (old mid new : List Spot) → mid ≡ old ++ spots_in names around xs → new ≡ mid ++ spots_in names around ys
    → new ≡ old ++ spots_in names around (xs ++ ys)
two_parts names around xs ys old mid new h g =
    let one = spot_in (around.indices ++ names) around.loops in
    g ∙ ap (λ zs. zs ++ map one ys) h ∙ append_assoc old (map one xs) (map one ys) ∙ ap (λ zs. old ++ zs) (sym (map-append one xs ys))

pub spots-If : (s : Stmt) (test : Expr) (then_part else_part first second : List Stmt) (names : List ℕ) (around then_around : Around) (old tested mid new : List Spot) → s ≡ If test then_part else_part → first ≡ then_part → second ≡ else_part
    → tested ≡ old ++ spots_in names around (expr_references test) → mid ≡ tested ++ spots_in names around (references_all first) → then_around ≡ around → new ≡ mid ++ spots_in names then_around (references_all second)
    → new ≡ old ++ spots_in names around (references s)
spots-If s test then_part else_part first second names around then_around old tested mid new is a b h g same k =
    let last : new ≡ mid ++ spots_in names around (references_all second) = k ∙ ap (λ (z : Around). mid ++ spots_in names z (references_all second)) same in
    let arms = two_parts names around (references_all first) (references_all second) tested mid new g last in
    two_parts names around (expr_references test) (references_all first ++ references_all second) old tested new h arms
    ∙ (λ i. old ++ spots_in names around (expr_references test ++ (references_all (a i) ++ references_all (b i))))
    ∙ ap (λ xs. old ++ spots_in names around xs) (sym (ap references is ∙ references-If test then_part else_part))

pub spots-While : (s : Stmt) (test : Expr) (body items : List Stmt) (at : ℕ) (names : List ℕ) (around : Around) (old tested new : List Spot) → s ≡ While test body at → items ≡ body
    → tested ≡ old ++ spots_in names around (expr_references test) → new ≡ tested ++ spots_in names around (references_all items) → new ≡ old ++ spots_in names around (references s)
spots-While s test body items at names around old tested new is a h g =
    two_parts names around (expr_references test) (references_all items) old tested new h g
    ∙ ap (λ (ss : List Stmt). old ++ spots_in names around (expr_references test ++ references_all ss)) a
    ∙ ap (λ xs. old ++ spots_in names around xs) (sym (ap references is ∙ references-While test body at))

-- an inner loop
pub spots-For : (l : Loop) (items : List Stmt) (names : List ℕ) (around within : Around) (old first second new : List Spot) → items ≡ l.body
    → first ≡ old ++ spots_in names around (expr_references l.low) → second ≡ first ++ spots_in names around (expr_references l.high)
    → within.indices ≡ l.index.id ∷ around.indices → within.loops ≡ around.loops ++ loop_in (around.indices ++ names) (inner_of l) ∷ []
    → new ≡ second ++ spots_in names within (references_all items) → new ≡ old ++ spots_in names around (references (For l))
spots-For l items names around within old first second new a h g indices loops k =
    let refs = references_all l.body in
    let all = around.indices ++ names in
    let deeper : spots_in names around (map (inside (inner_of l)) refs) ≡ map (spot_in (l.index.id ∷ all) (around.loops ++ loop_in all (inner_of l) ∷ [])) refs = spots_deeper all around.loops (inner_of l) refs in
    let body : new ≡ second ++ spots_in names around (map (inside (inner_of l)) refs) =
    k ∙ (λ i. second ++ map (spot_in (indices i ++ names) (loops i)) (references_all (a i))) ∙ ap (λ xs. second ++ xs) (sym deeper) in
    two_parts names around (expr_references l.low) (expr_references l.high ++ map (inside (inner_of l)) refs) old first new h (two_parts names around (expr_references l.high) (map (inside (inner_of l)) refs) first second new g body)
    ∙ ap (λ xs. old ++ spots_in names around xs) (sym (references-For l))

pub same_around : (a b : Around) → a.indices ≡ b.indices → a.loops ≡ b.loops → a ≡ b
same_around a b h g = λ i. record { indices = h i; loops = g i }

-- one more statement
references_both : (ss more : List Stmt) → references_all (ss ++ more) ≡ references_all ss ++ references_all more
references_both [] more = refl
references_both (s ∷ ss) more = ap (λ xs. references s ++ xs) (references_both ss more) ∙ sym (append_assoc (references s) (references_all ss) (references_all more))

references_more : (ss : List Stmt) (i : ℕ) (s : Stmt) → i < length ss → s ≡ slice_index_or ss i s → references_all (take i ss) ++ references s ≡ references_all (take (i + 1) ss)
references_more ss i s within is =
    ap (λ xs. references_all (take i ss) ++ xs) (sym (append-nil (references s))) ∙ sym (references_both (take i ss) (s ∷ []))
    ∙ ap (λ (x : Stmt). references_all (take i ss ++ x ∷ [])) is ∙ ap references_all (sym (take_more ss i s within))

pub spots_more : (ss : List Stmt) (i : ℕ) (s : Stmt) (names : List ℕ) (around now : Around) (old mid new : List Spot) → i < length ss → s ≡ slice_index_or ss i s → now ≡ around
    → mid ≡ old ++ spots_in names around (references_all (take i ss)) → new ≡ mid ++ spots_in names now (references s) → new ≡ old ++ spots_in names around (references_all (take (i + 1) ss))
spots_more ss i s names around now old mid new within is same h g =
    two_parts names around (references_all (take i ss)) (references s) old mid new h (g ∙ ap (λ (z : Around). mid ++ spots_in names z (references s)) same)
    ∙ ap (λ xs. old ++ spots_in names around xs) (references_more ss i s within is)
