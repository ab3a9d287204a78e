-- The scalars that statements which hold others assign.
use Rattle.std.proofs.Common.{◌≡◌, ℕ, ◌+◌, ◌<◌, List, [], ◌∷◌, ◌++◌, length, take, refl, sym, ap, ◌∙◌, append_assoc, append-nil}
use Rattle.std.proofs.lemmas.List.{take_more}
use Rattle.std.specs.Prelude.{slice_index_or}
use Rattle.nona_tree.specs.declared.trees.Expr.{Expr}
use Rattle.nona_tree.specs.declared.trees.Loop.{Loop}
use Rattle.nona_tree.specs.declared.trees.Stmt.{Stmt, If, While, For, Row_of-Stmt, end_of-Stmt, more_of-Stmt, items-the_row-Stmt, items_hidden-the_row-Stmt-0}
use Rattle.nona_tree.specs.declared.trees.Stmt.TheBlock.{hidden-the_row-Stmt-0}
use Rattle.nona_forms.specs.References.{assigned, assigned_row, assigned_all}

assigned_row_at : (k : _) (row : Row_of-Stmt k) → assigned_row row ≡ assigned_all (items-the_row-Stmt k row)
assigned_row_at k end_of-Stmt = refl
assigned_row_at k (more_of-Stmt s rest) = ap (λ xs. assigned s ++ xs) (assigned_row_at _ rest)

assigned_body : (body : List Stmt) → assigned_row (hidden-the_row-Stmt-0 body) ≡ assigned_all body
assigned_body body = assigned_row_at _ (hidden-the_row-Stmt-0 body) ∙ ap assigned_all (items_hidden-the_row-Stmt-0 body)

assigned-If : (test : Expr) (then_part else_part : List Stmt) → assigned (If test then_part else_part) ≡ assigned_all then_part ++ assigned_all else_part
assigned-If test then_part else_part = λ i. assigned_body then_part i ++ assigned_body else_part i

assigned-While : (test : Expr) (body : List Stmt) (at : ℕ) → assigned (While test body at) ≡ assigned_all body
assigned-While test body at = assigned_body body

assigned-For : (l : Loop) → assigned (For l) ≡ assigned_all l.body
assigned-For l = assigned_body l.body

-- what is appended, one part after another
pub assigned_if : (s : Stmt) (test : Expr) (then_part else_part first second : List Stmt) (old mid new : List ℕ) → s ≡ If test then_part else_part → first ≡ then_part → second ≡ else_part
    → mid ≡ old ++ assigned_all first → new ≡ mid ++ assigned_all second → new ≡ old ++ assigned s
assigned_if s test then_part else_part first second old mid new is a b h g =
    g ∙ ap (λ xs. xs ++ assigned_all second) h ∙ append_assoc old (assigned_all first) (assigned_all second)
    ∙ (λ i. old ++ (assigned_all (a i) ++ assigned_all (b i))) ∙ ap (λ xs. old ++ xs) (sym (ap assigned is ∙ assigned-If test then_part else_part))

pub assigned_while : (s : Stmt) (test : Expr) (body items : List Stmt) (at : ℕ) (old new : List ℕ) → s ≡ While test body at → items ≡ body → new ≡ old ++ assigned_all items → new ≡ old ++ assigned s
assigned_while s test body items at old new is a h =
    h ∙ ap (λ (ss : List Stmt). old ++ assigned_all ss) a ∙ ap (λ xs. old ++ xs) (sym (ap assigned is ∙ assigned-While test body at))

pub assigned_for : (s : Stmt) (l : Loop) (items : List Stmt) (old new : List ℕ) → s ≡ For l → items ≡ l.body → new ≡ old ++ assigned_all items → new ≡ old ++ assigned s
assigned_for s l items old new is a h =
    h ∙ ap (λ (ss : List Stmt). old ++ assigned_all ss) a ∙ ap (λ xs. old ++ xs) (sym (ap assigned is ∙ assigned-For l))

assigned_both : (ss more : List Stmt) → assigned_all (ss ++ more) ≡ assigned_all ss ++ assigned_all more
assigned_both [] more = refl
assigned_both (s ∷ ss) more = ap (λ xs. assigned s ++ xs) (assigned_both ss more) ∙ sym (append_assoc (assigned s) (assigned_all ss) (assigned_all more))

-- one more statement
pub assigned_more : (ss : List Stmt) (i : ℕ) (s : Stmt) (old now new : List ℕ) → i < length ss → s ≡ slice_index_or ss i s → now ≡ old ++ assigned_all (take i ss) → new ≡ now ++ assigned s → new ≡ old ++ assigned_all (take (i + 1) ss)
assigned_more ss i s old now new within is h g =
    g ∙ ap (λ xs. xs ++ assigned s) h ∙ append_assoc old (assigned_all (take i ss)) (assigned s)
    ∙ ap (λ xs. old ++ (assigned_all (take i ss) ++ xs)) (sym (append-nil (assigned s)))
    ∙ ap (λ xs. old ++ xs) (sym (assigned_both (take i ss) (s ∷ [])))
    ∙ ap (λ (x : Stmt). old ++ assigned_all (take i ss ++ x ∷ [])) is
    ∙ ap (λ (xs : List Stmt). old ++ assigned_all xs) (sym (take_more ss i s within))
