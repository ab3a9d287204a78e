-- The arrays of the accesses of expressions and statements that hold others.
use Rattle.std.proofs.Common.{◌≡◌, ℕ, ◌+◌, ◌<◌, length, take, append-nil, false, List, [], ◌∷◌, ◌++◌, map, refl, sym, ap, ◌∙◌, append_assoc}
use Rattle.std.proofs.lemmas.List.{map-append, take_more}
use denote.Hole.Carrier.{hidden}
use Rattle.std.specs.Prelude.{slice_index_or}
use Rattle.nona_tree.specs.declared.trees.Op.{Op}
use Rattle.nona_tree.specs.declared.trees.Access.{Access}
use Rattle.nona_tree.specs.declared.trees.Expr.{Expr, Cell, Neg, Not, Binary}
use Rattle.nona_tree.specs.declared.trees.Expr.TheBlock.{hidden-the_row-Expr-1, hidden-the_row-Access-0}
use Rattle.nona_tree.specs.declared.trees.Loop.{Loop}
use Rattle.nona_tree.specs.declared.trees.Stmt.{Stmt, If, While, For, Row_of-Stmt, end_of-Stmt, more_of-Stmt, items-the_row-Stmt, items_hidden-the_row-Stmt-0}
use Rattle.nona_tree.specs.declared.trees.Stmt.TheBlock.{hidden-the_row-Stmt-0}
use Rattle.nona_forms.specs.References.{Inner, Reference, expr_references, written_references, inside, references, references_row, references_all}
use Rattle.nona_graph.specs.Touched.{arrays_of}
use Rattle.nona_graph.proofs.Appended.{two_parts}

both : (xs ys : List Reference) → arrays_of (xs ++ ys) ≡ arrays_of xs ++ arrays_of ys
both xs ys = map-append (λ x. x.access.array.id) xs ys

arrays_cell : (c : Access) → arrays_of (expr_references (Cell c)) ≡ c.array.id ∷ arrays_of (expr_references c.index)
unfolding hidden-the_row-Access-0 hidden
arrays_cell c = refl

arrays_neg : (e : Expr) → arrays_of (expr_references (Neg e)) ≡ arrays_of (expr_references e)
unfolding hidden-the_row-Expr-1 hidden
arrays_neg e = refl

arrays_not : (e : Expr) → arrays_of (expr_references (Not e)) ≡ arrays_of (expr_references e)
unfolding hidden-the_row-Expr-1 hidden
arrays_not e = refl

references_binary : (o : Op) (at : ℕ) (left right : Expr) → expr_references (Binary o at left right) ≡ expr_references left ++ expr_references right
unfolding hidden-the_row-Expr-1 hidden
references_binary o at left right = refl

arrays_binary : (o : Op) (at : ℕ) (left right : Expr) → arrays_of (expr_references (Binary o at left right)) ≡ arrays_of (expr_references left) ++ arrays_of (expr_references right)
arrays_binary o at left right = ap arrays_of (references_binary o at left right) ∙ both (expr_references left) (expr_references right)

-- what is appended, one part after another
pub arrays-Cell : (e : Expr) (c d : Access) (old mid new : List ℕ) → e ≡ Cell c → d ≡ c → mid ≡ old ++ d.array.id ∷ [] → new ≡ mid ++ arrays_of (expr_references d.index)
    → new ≡ old ++ arrays_of (expr_references e)
arrays-Cell e c d old mid new is same h g =
    two_parts (d.array.id ∷ []) (arrays_of (expr_references d.index)) old mid new h g
    ∙ ap (λ (x : Access). old ++ x.array.id ∷ arrays_of (expr_references x.index)) same
    ∙ ap (λ xs. old ++ xs) (sym (ap (λ x. arrays_of (expr_references x)) is ∙ arrays_cell c))

pub arrays-Neg : (e part other : Expr) (old new : List ℕ) → e ≡ Neg part → other ≡ part → new ≡ old ++ arrays_of (expr_references other) → new ≡ old ++ arrays_of (expr_references e)
arrays-Neg e part other old new is same h =
    h ∙ ap (λ (x : Expr). old ++ arrays_of (expr_references x)) same ∙ ap (λ xs. old ++ xs) (sym (ap (λ x. arrays_of (expr_references x)) is ∙ arrays_neg part))

pub arrays-Not : (e part other : Expr) (old new : List ℕ) → e ≡ Not part → other ≡ part → new ≡ old ++ arrays_of (expr_references other) → new ≡ old ++ arrays_of (expr_references e)
arrays-Not e part other old new is same h =
    h ∙ ap (λ (x : Expr). old ++ arrays_of (expr_references x)) same ∙ ap (λ xs. old ++ xs) (sym (ap (λ x. arrays_of (expr_references x)) is ∙ arrays_not part))

pub arrays-Binary : (e : Expr) (o : Op) (at : ℕ) (left right first second : Expr) (old mid new : List ℕ) → e ≡ Binary o at left right → first ≡ left → second ≡ right
    → mid ≡ old ++ arrays_of (expr_references first) → new ≡ mid ++ arrays_of (expr_references second) → new ≡ old ++ arrays_of (expr_references e)
arrays-Binary e o at left right first second old mid new is a b h g =
    two_parts (arrays_of (expr_references first)) (arrays_of (expr_references second)) old mid new h g
    ∙ (λ i. old ++ (arrays_of (expr_references (a i)) ++ arrays_of (expr_references (b i))))
    ∙ ap (λ xs. old ++ xs) (sym (ap (λ x. arrays_of (expr_references x)) is ∙ arrays_binary o at left right))

pub arrays-put : (c : Access) (e : Expr) (old first second new : List ℕ) → first ≡ old ++ c.array.id ∷ [] → second ≡ first ++ arrays_of (expr_references c.index) → new ≡ second ++ arrays_of (expr_references e)
    → new ≡ old ++ arrays_of (written_references c ++ expr_references e)
arrays-put c e old first second new h g k =
    two_parts (arrays_of (written_references c)) (arrays_of (expr_references e)) old second new (two_parts (c.array.id ∷ []) (arrays_of (expr_references c.index)) old first second h g) k
    ∙ ap (λ xs. old ++ xs) (sym (both (written_references c) (expr_references e)))

-- statements
references_row_at : (k : _) (row : Row_of-Stmt k) → references_row row ≡ references_all (items-the_row-Stmt k row)
references_row_at k end_of-Stmt = refl
references_row_at k (more_of-Stmt s rest) = ap (λ xs. references s ++ xs) (references_row_at _ rest)

references_body : (body : List Stmt) → references_row (hidden-the_row-Stmt-0 body) ≡ references_all body
references_body body = references_row_at _ (hidden-the_row-Stmt-0 body) ∙ ap references_all (items_hidden-the_row-Stmt-0 body)

arrays_deeper : (l : Inner) (xs : List Reference) → arrays_of (map (inside l) xs) ≡ arrays_of xs
arrays_deeper l [] = refl
arrays_deeper l (x ∷ xs) = ap (λ ys. x.access.array.id ∷ ys) (arrays_deeper l xs)

arrays_if : (test : Expr) (then_part else_part : List Stmt)
    → arrays_of (references (If test then_part else_part)) ≡ arrays_of (expr_references test) ++ (arrays_of (references_all then_part) ++ arrays_of (references_all else_part))
arrays_if test then_part else_part =
    (λ i. arrays_of (expr_references test ++ (references_body then_part i ++ references_body else_part i)))
    ∙ both (expr_references test) (references_all then_part ++ references_all else_part)
    ∙ ap (λ xs. arrays_of (expr_references test) ++ xs) (both (references_all then_part) (references_all else_part))

arrays_while : (test : Expr) (body : List Stmt) (at : ℕ) → arrays_of (references (While test body at)) ≡ arrays_of (expr_references test) ++ arrays_of (references_all body)
arrays_while test body at = ap (λ xs. arrays_of (expr_references test ++ xs)) (references_body body) ∙ both (expr_references test) (references_all body)

arrays_for : (l : Loop) → arrays_of (references (For l)) ≡ arrays_of (expr_references l.low) ++ (arrays_of (expr_references l.high) ++ arrays_of (references_all l.body))
arrays_for l =
    let here : Inner = record { id = l.index.id; low = l.low; high = l.high } in
    ap (λ xs. arrays_of (expr_references l.low ++ (expr_references l.high ++ map (inside here) xs))) (references_body l.body)
    ∙ both (expr_references l.low) (expr_references l.high ++ map (inside here) (references_all l.body))
    ∙ ap (λ xs. arrays_of (expr_references l.low) ++ xs) (both (expr_references l.high) (map (inside here) (references_all l.body)) ∙ ap (λ xs. arrays_of (expr_references l.high) ++ xs) (arrays_deeper here (references_all l.body)))

pub arrays-If : (s : Stmt) (test : Expr) (then_part else_part first second : List Stmt) (old tested mid new : List ℕ) → s ≡ If test then_part else_part → first ≡ then_part → second ≡ else_part
    → tested ≡ old ++ arrays_of (expr_references test) → mid ≡ tested ++ arrays_of (references_all first) → new ≡ mid ++ arrays_of (references_all second) → new ≡ old ++ arrays_of (references s)
arrays-If s test then_part else_part first second old tested mid new is a b h g k =
    two_parts (arrays_of (expr_references test)) (arrays_of (references_all first) ++ arrays_of (references_all second)) old tested new h
    (two_parts (arrays_of (references_all first)) (arrays_of (references_all second)) tested mid new g k)
    ∙ (λ i. old ++ (arrays_of (expr_references test) ++ (arrays_of (references_all (a i)) ++ arrays_of (references_all (b i)))))
    ∙ ap (λ xs. old ++ xs) (sym (ap (λ x. arrays_of (references x)) is ∙ arrays_if test then_part else_part))

pub arrays-While : (s : Stmt) (test : Expr) (body items : List Stmt) (at : ℕ) (old tested new : List ℕ) → s ≡ While test body at → items ≡ body
    → tested ≡ old ++ arrays_of (expr_references test) → new ≡ tested ++ arrays_of (references_all items) → new ≡ old ++ arrays_of (references s)
arrays-While s test body items at old tested new is a h g =
    two_parts (arrays_of (expr_references test)) (arrays_of (references_all items)) old tested new h g
    ∙ ap (λ (ss : List Stmt). old ++ (arrays_of (expr_references test) ++ arrays_of (references_all ss))) a
    ∙ ap (λ xs. old ++ xs) (sym (ap (λ x. arrays_of (references x)) is ∙ arrays_while test body at))

pub arrays-For : (s : Stmt) (l : Loop) (items : List Stmt) (old first second new : List ℕ) → s ≡ For l → items ≡ l.body
    → first ≡ old ++ arrays_of (expr_references l.low) → second ≡ first ++ arrays_of (expr_references l.high) → new ≡ second ++ arrays_of (references_all items) → new ≡ old ++ arrays_of (references s)
arrays-For s l items old first second new is a h g k =
    two_parts (arrays_of (expr_references l.low)) (arrays_of (expr_references l.high) ++ arrays_of (references_all items)) old first new h
    (two_parts (arrays_of (expr_references l.high)) (arrays_of (references_all items)) first second new g k)
    ∙ ap (λ (ss : List Stmt). old ++ (arrays_of (expr_references l.low) ++ (arrays_of (expr_references l.high) ++ arrays_of (references_all ss)))) a
    ∙ ap (λ xs. old ++ xs) (sym (ap (λ x. arrays_of (references x)) is ∙ arrays_for l))

-- one more statement
references_both : (ss more : List Stmt) → references_all (ss ++ more) ≡ references_all ss ++ references_all more
references_both [] more = refl
references_both (s ∷ ss) more = ap (λ xs. references s ++ xs) (references_both ss more) ∙ sym (append_assoc (references s) (references_all ss) (references_all more))

references_more : (ss : List Stmt) (i : ℕ) (s : Stmt) → i < length ss → s ≡ slice_index_or ss i s → references_all (take i ss) ++ references s ≡ references_all (take (i + 1) ss)
references_more ss i s within is =
    ap (λ xs. references_all (take i ss) ++ xs) (sym (append-nil (references s))) ∙ sym (references_both (take i ss) (s ∷ []))
    ∙ ap (λ (x : Stmt). references_all (take i ss ++ x ∷ [])) is ∙ ap references_all (sym (take_more ss i s within))

pub arrays_more : (ss : List Stmt) (i : ℕ) (s : Stmt) (old mid new : List ℕ) → i < length ss → s ≡ slice_index_or ss i s
    → mid ≡ old ++ arrays_of (references_all (take i ss)) → new ≡ mid ++ arrays_of (references s) → new ≡ old ++ arrays_of (references_all (take (i + 1) ss))
arrays_more ss i s old mid new within is h g =
    two_parts (arrays_of (references_all (take i ss))) (arrays_of (references s)) old mid new h g
    ∙ ap (λ xs. old ++ xs) (sym (both (references_all (take i ss)) (references s)) ∙ ap arrays_of (references_more ss i s within is))
