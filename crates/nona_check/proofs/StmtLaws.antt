-- What checking a statement that holds others asks for and adds up to, from its parts.
use Rattle.std.proofs.Common.{◌≡◌, ℕ, ◌+◌, ◌<◌, ◌^◌, Bool, List, ◌∷◌, ◌++◌, length, get_or, drop, sym, ap, ◌∙◌, arith}
use Rattle.std.specs.declared.option.Option.{Option}
use Rattle.std.proofs.lemmas.List.{drop_more}
use Rattle.nona_tree.specs.declared.faults.ProgramFault.{ProgramFault}
use Rattle.nona_tree.specs.declared.trees.Expr.{Expr}
use Rattle.nona_tree.specs.declared.trees.Loop.{Loop}
use Rattle.nona_tree.specs.declared.trees.Stmt.{Stmt, If, While, For}
use Rattle.nona_tree.specs.Faults.{expr_faults, stmt_faults, all_faults}
use Rattle.nona_tree.specs.Ids.{expr_ids, stmt_ids, all_ids}
use Rattle.nona_tree.specs.Seen.{Seen, with_scalar, seen_after}
use Rattle.nona_tree.specs.Smallness.{stmt_size, all_size}
use Rattle.nona_tree.proofs.CheckEquations.{faults-If, faults-While, ids_at-If, ids_at-While, size-If, size-While, size-For}
use Rattle.nona_check.specs.After.{seen_after_all}
use Rattle.nona_check.specs.First.{first_from}
use Rattle.nona_check.proofs.AfterLaws.{one_more, room_after}
use Rattle.nona_check.proofs.FirstLaws.{first_from-append}

-- ---- room for ids

pub room_in_if : (s : Stmt) (test : Expr) (then_part else_part : List Stmt) (k : ℕ) → s ≡ If test then_part else_part → k + stmt_size s < 2 ^ 32
    → (k + all_size then_part < 2 ^ 32) × (k + all_size else_part < 2 ^ 32)
room_in_if s test then_part else_part k is room =
    let size : stmt_size s ≡ _ = ap stmt_size is ∙ size-If test then_part else_part in (omega (arith, size, room), omega (arith, size, room))

pub room_in_while : (s : Stmt) (test : Expr) (body : List Stmt) (at k : ℕ) → s ≡ While test body at → k + stmt_size s < 2 ^ 32 → k + all_size body < 2 ^ 32
room_in_while s test body at k is room = let size : stmt_size s ≡ _ = ap stmt_size is ∙ size-While test body at in omega (arith, size, room)

pub room_in_for : (l : Loop) (index : Bool) (seen after : Seen) → length seen.scalars + stmt_size (For l) < 2 ^ 32 → after ≡ with_scalar l.index.text index seen
    → length after.scalars + all_size l.body < 2 ^ 32
room_in_for l index seen after room is =
    omega (arith, size-For l, room, one_more l.index.text index seen, ap (λ (r : Seen). length r.scalars) is)

-- ---- blocks

pub ids_in_if : (s : Stmt) (test t : Expr) (then_part else_part a b : List Stmt) (seen : Seen) → s ≡ If test then_part else_part
    → t ≡ expr_ids test seen → a ≡ all_ids then_part seen → b ≡ all_ids else_part seen → If t a b ≡ stmt_ids s seen
ids_in_if s test t then_part else_part a b seen is p q r =
    (λ i. If (p i) (q i) (r i)) ∙ sym (ap (λ (u : Stmt). stmt_ids u seen) is ∙ ids_at-If test then_part else_part seen)

pub faults_in_if : (s : Stmt) (test : Expr) (then_part else_part : List Stmt) (seen : Seen) (f g h k : Option ProgramFault) → s ≡ If test then_part else_part
    → g ≡ first_from f (expr_faults test seen) → h ≡ first_from g (all_faults then_part seen) → k ≡ first_from h (all_faults else_part seen)
    → k ≡ first_from f (stmt_faults s seen)
faults_in_if s test then_part else_part seen f g h k is p q r =
    r ∙ ap (λ o. first_from o (all_faults else_part seen)) (q ∙ ap (λ o. first_from o (all_faults then_part seen)) p ∙ sym (first_from-append f (expr_faults test seen) (all_faults then_part seen)))
    ∙ sym (ap (λ (u : Stmt). first_from f (stmt_faults u seen)) is ∙ ap (λ fs. first_from f fs) (faults-If test then_part else_part seen)
    ∙ first_from-append f (expr_faults test seen ++ all_faults then_part seen) (all_faults else_part seen))

pub ids_in_while : (s : Stmt) (test t : Expr) (body b : List Stmt) (at : ℕ) (seen : Seen) → s ≡ While test body at
    → t ≡ expr_ids test seen → b ≡ all_ids body seen → While t b at ≡ stmt_ids s seen
ids_in_while s test t body b at seen is p q = (λ i. While (p i) (q i) at) ∙ sym (ap (λ (u : Stmt). stmt_ids u seen) is ∙ ids_at-While test body at seen)

pub faults_in_while : (s : Stmt) (test : Expr) (body : List Stmt) (at : ℕ) (seen : Seen) (f g h : Option ProgramFault) → s ≡ While test body at
    → g ≡ first_from f (expr_faults test seen) → h ≡ first_from g (all_faults body seen) → h ≡ first_from f (stmt_faults s seen)
faults_in_while s test body at seen f g h is p q =
    q ∙ ap (λ o. first_from o (all_faults body seen)) p
    ∙ sym (ap (λ (u : Stmt). first_from f (stmt_faults u seen)) is ∙ ap (λ fs. first_from f fs) (faults-While test body at seen)
    ∙ first_from-append f (expr_faults test seen) (all_faults body seen))

-- ---- one statement after another

-- the statement that is next
pub next_is : (ss : List Stmt) (i : ℕ) (s : Stmt) → i < length ss → s ≡ get_or ss i s → drop i ss ≡ s ∷ drop (i + 1) ss
next_is ss i s below is = drop_more ss i s below ∙ ap (λ (x : Stmt). x ∷ drop (i + 1) ss) (sym is)

pub ids_next : (s u : Stmt) (ss rest : List Stmt) (seen after : Seen) → ss ≡ s ∷ rest → u ≡ stmt_ids s seen → after ≡ seen_after s seen
    → all_ids ss seen ≡ u ∷ all_ids rest after
ids_next s u ss rest seen after is p q = ap (λ (xs : List Stmt). all_ids xs seen) is ∙ sym (λ i. p i ∷ all_ids rest (q i))

pub faults_next : (s : Stmt) (ss rest : List Stmt) (seen after : Seen) (f g : Option ProgramFault) → ss ≡ s ∷ rest → g ≡ first_from f (stmt_faults s seen) → after ≡ seen_after s seen
    → first_from f (all_faults ss seen) ≡ first_from g (all_faults rest after)
faults_next s ss rest seen after f g is p q =
    ap (λ (xs : List Stmt). first_from f (all_faults xs seen)) is ∙ first_from-append f (stmt_faults s seen) (all_faults rest (seen_after s seen))
    ∙ sym (λ i. first_from (p i) (all_faults rest (q i)))

pub seen_next : (s : Stmt) (ss rest : List Stmt) (seen after : Seen) → ss ≡ s ∷ rest → after ≡ seen_after s seen → seen_after_all ss seen ≡ seen_after_all rest after
seen_next s ss rest seen after is q = ap (λ (xs : List Stmt). seen_after_all xs seen) is ∙ sym (ap (λ (r : Seen). seen_after_all rest r) q)

pub room_next : (s : Stmt) (ss rest : List Stmt) (seen after : Seen) → ss ≡ s ∷ rest → after ≡ seen_after s seen
    → length seen.scalars + all_size ss < 2 ^ 32 → length after.scalars + all_size rest < 2 ^ 32
room_next s ss rest seen after is q room =
    omega (arith, ap all_size is, room, room_after s seen, ap (λ (r : Seen). length r.scalars) q)

-- a statement's own
pub room_here : (s : Stmt) (ss rest : List Stmt) (k : ℕ) → ss ≡ s ∷ rest → k + all_size ss < 2 ^ 32 → k + stmt_size s < 2 ^ 32
room_here s ss rest k is room = omega (arith, ap all_size is, room)
