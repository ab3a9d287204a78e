-- The scalars that expressions and statements name which hold others, and whether they print.
use Rattle.std.proofs.Common.{◌≡◌, ℕ, ◌+◌, ◌<◌, ◌||◌, Bool, true, false, length, take, drop, append-nil, List, [], ◌∷◌, ◌++◌, refl, sym, ap, ◌∙◌, append_assoc}
use Rattle.std.proofs.lemmas.List.{take_more}
use denote.Hole.Carrier.{hidden}
use Rattle.std.specs.Prelude.{slice_index_or}
use Rattle.nona_tree.specs.declared.trees.Op.{Op}
use Rattle.nona_tree.specs.declared.trees.Access.{Access}
use Rattle.nona_tree.specs.declared.trees.Expr.{Expr, Cell, Neg, Not, Binary}
use Rattle.nona_tree.specs.declared.trees.Expr.TheBlock.{hidden-the_row-Expr-1, hidden-the_row-Access-0}
use Rattle.nona_tree.specs.declared.trees.Loop.{Loop}
use Rattle.nona_tree.specs.declared.trees.Stmt.{Stmt, If, While, For, Row_of-Stmt, end_of-Stmt, more_of-Stmt, items-the_row-Stmt, items_hidden-the_row-Stmt-0}
use Rattle.nona_tree.specs.declared.trees.Stmt.TheBlock.{hidden-the_row-Stmt-0}
use Rattle.nona_plans.specs.declared.graphs.Mention.{Mention}
use Rattle.nona_plans.specs.Mentions.{plainly, expr_mentions, mentions, mentions_row, mentions_all, prints, prints_row}
use Rattle.nona_graph.specs.Printing.{prints_all}
use Rattle.nona_graph.proofs.Appended.{two_parts, next_of}
use Rattle.nona_graph.proofs.Tests.{found_more}

mentions_cell : (c : Access) → expr_mentions (Cell c) ≡ expr_mentions c.index
unfolding hidden-the_row-Access-0 hidden
mentions_cell c = refl

mentions_neg : (e : Expr) → expr_mentions (Neg e) ≡ expr_mentions e
unfolding hidden-the_row-Expr-1 hidden
mentions_neg e = refl

mentions_not : (e : Expr) → expr_mentions (Not e) ≡ expr_mentions e
unfolding hidden-the_row-Expr-1 hidden
mentions_not e = refl

mentions_binary : (o : Op) (at : ℕ) (left right : Expr) → expr_mentions (Binary o at left right) ≡ expr_mentions left ++ expr_mentions right
unfolding hidden-the_row-Expr-1 hidden
mentions_binary o at left right = refl

-- what is appended, one part after another
pub mentions-Cell : (e : Expr) (c d : Access) (old new : List Mention) → e ≡ Cell c → d ≡ c → new ≡ old ++ expr_mentions d.index → new ≡ old ++ expr_mentions e
mentions-Cell e c d old new is same h =
    h ∙ ap (λ (x : Access). old ++ expr_mentions x.index) same ∙ ap (λ xs. old ++ xs) (sym (ap expr_mentions is ∙ mentions_cell c))

pub mentions-Neg : (e part other : Expr) (old new : List Mention) → e ≡ Neg part → other ≡ part → new ≡ old ++ expr_mentions other → new ≡ old ++ expr_mentions e
mentions-Neg e part other old new is same h =
    h ∙ ap (λ (x : Expr). old ++ expr_mentions x) same ∙ ap (λ xs. old ++ xs) (sym (ap expr_mentions is ∙ mentions_neg part))

pub mentions-Not : (e part other : Expr) (old new : List Mention) → e ≡ Not part → other ≡ part → new ≡ old ++ expr_mentions other → new ≡ old ++ expr_mentions e
mentions-Not e part other old new is same h =
    h ∙ ap (λ (x : Expr). old ++ expr_mentions x) same ∙ ap (λ xs. old ++ xs) (sym (ap expr_mentions is ∙ mentions_not part))

pub mentions-Binary : (e : Expr) (o : Op) (at : ℕ) (left right first second : Expr) (old mid new : List Mention) → e ≡ Binary o at left right → first ≡ left → second ≡ right
    → mid ≡ old ++ expr_mentions first → new ≡ mid ++ expr_mentions second → new ≡ old ++ expr_mentions e
mentions-Binary e o at left right first second old mid new is a b h g =
    two_parts (expr_mentions first) (expr_mentions second) old mid new h g
    ∙ (λ i. old ++ (expr_mentions (a i) ++ expr_mentions (b i)))
    ∙ ap (λ xs. old ++ xs) (sym (ap expr_mentions is ∙ mentions_binary o at left right))

-- statements
mentions_row_at : (k : _) (row : Row_of-Stmt k) → mentions_row row ≡ mentions_all (items-the_row-Stmt k row)
mentions_row_at k end_of-Stmt = refl
mentions_row_at k (more_of-Stmt s rest) = ap (λ xs. mentions s ++ xs) (mentions_row_at _ rest)

mentions_body : (body : List Stmt) → mentions_row (hidden-the_row-Stmt-0 body) ≡ mentions_all body
mentions_body body = mentions_row_at _ (hidden-the_row-Stmt-0 body) ∙ ap mentions_all (items_hidden-the_row-Stmt-0 body)

mentions_if : (test : Expr) (then_part else_part : List Stmt) → mentions (If test then_part else_part) ≡ expr_mentions test ++ (mentions_all then_part ++ mentions_all else_part)
mentions_if test then_part else_part = λ i. expr_mentions test ++ (mentions_body then_part i ++ mentions_body else_part i)

mentions_while : (test : Expr) (body : List Stmt) (at : ℕ) → mentions (While test body at) ≡ expr_mentions test ++ mentions_all body
mentions_while test body at = ap (λ xs. expr_mentions test ++ xs) (mentions_body body)

mentions_for : (l : Loop) → mentions (For l) ≡ plainly l.index.id ∷ (expr_mentions l.low ++ (expr_mentions l.high ++ mentions_all l.body))
mentions_for l = ap (λ xs. plainly l.index.id ∷ (expr_mentions l.low ++ (expr_mentions l.high ++ xs))) (mentions_body l.body)

pub mentions-If : (s : Stmt) (test : Expr) (then_part else_part first second : List Stmt) (old tested mid new : List Mention) → s ≡ If test then_part else_part → first ≡ then_part → second ≡ else_part
    → tested ≡ old ++ expr_mentions test → mid ≡ tested ++ mentions_all first → new ≡ mid ++ mentions_all second → new ≡ old ++ mentions s
mentions-If s test then_part else_part first second old tested mid new is a b h g k =
    two_parts (expr_mentions test) (mentions_all first ++ mentions_all second) old tested new h (two_parts (mentions_all first) (mentions_all second) tested mid new g k)
    ∙ (λ i. old ++ (expr_mentions test ++ (mentions_all (a i) ++ mentions_all (b i))))
    ∙ ap (λ xs. old ++ xs) (sym (ap mentions is ∙ mentions_if test then_part else_part))

pub mentions-While : (s : Stmt) (test : Expr) (body items : List Stmt) (at : ℕ) (old tested new : List Mention) → s ≡ While test body at → items ≡ body
    → tested ≡ old ++ expr_mentions test → new ≡ tested ++ mentions_all items → new ≡ old ++ mentions s
mentions-While s test body items at old tested new is a h g =
    two_parts (expr_mentions test) (mentions_all items) old tested new h g
    ∙ ap (λ (ss : List Stmt). old ++ (expr_mentions test ++ mentions_all ss)) a
    ∙ ap (λ xs. old ++ xs) (sym (ap mentions is ∙ mentions_while test body at))

pub mentions-For : (s : Stmt) (l : Loop) (items : List Stmt) (old declared first second new : List Mention) → s ≡ For l → items ≡ l.body
    → declared ≡ old ++ plainly l.index.id ∷ [] → first ≡ declared ++ expr_mentions l.low → second ≡ first ++ expr_mentions l.high → new ≡ second ++ mentions_all items → new ≡ old ++ mentions s
mentions-For s l items old declared first second new is a d h g k =
    two_parts (plainly l.index.id ∷ []) (expr_mentions l.low ++ (expr_mentions l.high ++ mentions_all items)) old declared new d
    (two_parts (expr_mentions l.low) (expr_mentions l.high ++ mentions_all items) declared first new h (two_parts (expr_mentions l.high) (mentions_all items) first second new g k))
    ∙ ap (λ (ss : List Stmt). old ++ plainly l.index.id ∷ (expr_mentions l.low ++ (expr_mentions l.high ++ mentions_all ss))) a
    ∙ ap (λ xs. old ++ xs) (sym (ap mentions is ∙ mentions_for l))

-- one more statement
mentions_both : (ss more : List Stmt) → mentions_all (ss ++ more) ≡ mentions_all ss ++ mentions_all more
mentions_both [] more = refl
mentions_both (s ∷ ss) more = ap (λ xs. mentions s ++ xs) (mentions_both ss more) ∙ sym (append_assoc (mentions s) (mentions_all ss) (mentions_all more))

pub mentions_more : (ss : List Stmt) (i : ℕ) (s : Stmt) (old mid new : List Mention) → i < length ss → s ≡ slice_index_or ss i s
    → mid ≡ old ++ mentions_all (take i ss) → new ≡ mid ++ mentions s → new ≡ old ++ mentions_all (take (i + 1) ss)
mentions_more ss i s old mid new within is h g =
    two_parts (mentions_all (take i ss)) (mentions s) old mid new h g
    ∙ ap (λ xs. old ++ (mentions_all (take i ss) ++ xs)) (sym (append-nil (mentions s))) ∙ ap (λ xs. old ++ xs) (sym (mentions_both (take i ss) (s ∷ [])))
    ∙ ap (λ (x : Stmt). old ++ mentions_all (take i ss ++ x ∷ [])) is ∙ ap (λ (xs : List Stmt). old ++ mentions_all xs) (sym (take_more ss i s within))

-- prints
prints_row_at : (k : _) (row : Row_of-Stmt k) → prints_row row ≡ prints_all (items-the_row-Stmt k row)
prints_row_at k end_of-Stmt = refl
prints_row_at k (more_of-Stmt s rest) = ap (λ b. prints s || b) (prints_row_at _ rest)

prints_body : (body : List Stmt) → prints_row (hidden-the_row-Stmt-0 body) ≡ prints_all body
prints_body body = prints_row_at _ (hidden-the_row-Stmt-0 body) ∙ ap prints_all (items_hidden-the_row-Stmt-0 body)

pub prints-If : (test : Expr) (then_part else_part : List Stmt) → prints (If test then_part else_part) ≡ (prints_all then_part || prints_all else_part)
prints-If test then_part else_part = λ i. prints_body then_part i || prints_body else_part i

pub prints-While : (test : Expr) (body : List Stmt) (at : ℕ) → prints (While test body at) ≡ prints_all body
prints-While test body at = prints_body body

pub prints-For : (l : Loop) → prints (For l) ≡ prints_all l.body
prints-For l = prints_body l.body

pub has-If : (s : Stmt) (test : Expr) (then_part else_part first second : List Stmt) (a b r : Bool) → s ≡ If test then_part else_part → first ≡ then_part → second ≡ else_part
    → a ≡ prints_all first → b ≡ prints_all second → r ≡ (a || b) → r ≡ prints s
has-If s test then_part else_part first second a b r is p q h g k =
    k ∙ (λ i. h i || g i) ∙ (λ i. prints_all (p i) || prints_all (q i)) ∙ sym (ap prints is ∙ prints-If test then_part else_part)

pub has-While : (s : Stmt) (test : Expr) (body items : List Stmt) (at : ℕ) (r : Bool) → s ≡ While test body at → items ≡ body → r ≡ prints_all items → r ≡ prints s
has-While s test body items at r is p h = h ∙ ap prints_all p ∙ sym (ap prints is ∙ prints-While test body at)

pub has-For : (s : Stmt) (l : Loop) (items : List Stmt) (r : Bool) → s ≡ For l → items ≡ l.body → r ≡ prints_all items → r ≡ prints s
has-For s l items r is p h = h ∙ ap prints_all p ∙ sym (ap prints is ∙ prints-For l)

pub prints_next : (f : Bool) (ss : List Stmt) (i : ℕ) (d : Stmt) → i < length ss → (f || prints_all (drop i ss)) ≡ ((f || prints (slice_index_or ss i d)) || prints_all (drop (i + 1) ss))
prints_next f ss i d within = ap (λ (xs : List Stmt). f || prints_all xs) (next_of ss i d within) ∙ found_more f (prints (slice_index_or ss i d)) (prints_all (drop (i + 1) ss))
