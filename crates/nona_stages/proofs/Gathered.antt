-- The loops outside regions, gathered one after another, and what is seen of them.
use Rattle.std.proofs.Common.{◌≡◌, ◌<◌, ◌+◌, ◌^◌, ℕ, Bool, true, false, List, [], ◌∷◌, ◌++◌, drop, length, get_or, arith, refl, sym, ap, subst, ◌∙◌, append_assoc, if◌then◌else◌}
use Rattle.std.specs.Prelude.{map, OnOk, Result, Ok, Err}
use Rattle.std.specs.List.{AllByRecursion}
use Rattle.std.proofs.lemmas.List.{map-append, drop_more}
use Rattle.nona_tree.specs.declared.trees.Expr.{Expr}
use Rattle.nona_tree.specs.declared.trees.Loop.{Loop}
use Rattle.nona_tree.specs.declared.trees.Stmt.{Stmt, If, While, For, Row_of-Stmt, end_of-Stmt, more_of-Stmt, items-the_row-Stmt, items_hidden-the_row-Stmt-0}
use Rattle.nona_tree.specs.declared.trees.Stmt.TheBlock.{hidden-the_row-Stmt-0}
use Rattle.nona_tree.specs.Entries.{loop_with}
use Rattle.nona_plans.specs.Plans.{plan_of}
use Rattle.nona_stages.specs.declared.outer.Found.{Found}
use Rattle.nona_stages.specs.declared.outer.Found.TheVariants as found
use Rattle.nona_stages.specs.declared.outer.Mark.{Mark}
use Rattle.nona_stages.specs.declared.seen.Seen.{Seen}
use Rattle.nona_stages.specs.declared.seen.Seen.TheVariants as seen
use Rattle.nona_stages.specs.Seen.{outer_in, outer_row, outer_all, is_parallel, plain_of, regions_of, seen_from}
use Rattle.nona_stages.specs.Walking.{AreFew, IsFew, mark_of, seen_at, number_after, seen_marked}

outer_row_at : (chosen : Loop → Bool) (k : _) (row : Row_of-Stmt k) → outer_row chosen row ≡ outer_all chosen (items-the_row-Stmt k row)
outer_row_at chosen k end_of-Stmt = refl
outer_row_at chosen k (more_of-Stmt s rest) = ap (λ ls. outer_in chosen s ++ ls) (outer_row_at chosen _ rest)

-- the loops of a block are those of the list of its statements
outer_body : (chosen : Loop → Bool) (body : List Stmt) → outer_row chosen (hidden-the_row-Stmt-0 body) ≡ outer_all chosen body
outer_body chosen body = outer_row_at chosen _ (hidden-the_row-Stmt-0 body) ∙ ap (outer_all chosen) (items_hidden-the_row-Stmt-0 body)

outer-If : (chosen : Loop → Bool) (test : Expr) (then_part else_part : List Stmt) → outer_in chosen (If test then_part else_part) ≡ outer_all chosen then_part ++ outer_all chosen else_part
outer-If chosen test then_part else_part = λ i. outer_body chosen then_part i ++ outer_body chosen else_part i

outer-While : (chosen : Loop → Bool) (test : Expr) (body : List Stmt) (at : ℕ) → outer_in chosen (While test body at) ≡ outer_all chosen body
outer-While chosen test body at = outer_body chosen body

outer-For : (chosen : Loop → Bool) (l : Loop) → outer_in chosen (For l) ≡ l ∷ (if chosen l then [] else outer_all chosen l.body)
outer-For chosen l =
    λ i. let k = loop_with l.index l.low l.high (items_hidden-the_row-Stmt-0 l.body i) l.seq l.at in k ∷ (if chosen k then [] else outer_body chosen l.body i)

-- the loops of an if, whose two parts are these
pub of_if : (chosen : Loop → Bool) (s : Stmt) (test : Expr) (then_part else_part one other : List Stmt)
    → s ≡ If test then_part else_part → one ≡ then_part → other ≡ else_part → outer_in chosen s ≡ outer_all chosen one ++ outer_all chosen other
of_if chosen s test then_part else_part one other is first second =
    ap (outer_in chosen) is ∙ outer-If chosen test then_part else_part
    ∙ (λ i. outer_all chosen (sym first i) ++ outer_all chosen (sym second i))

pub of_while : (chosen : Loop → Bool) (s : Stmt) (test : Expr) (part : List Stmt) (at : _) (body : List Stmt)
    → s ≡ While test part at → body ≡ part → outer_in chosen s ≡ outer_all chosen body
of_while chosen s test part at body is here = ap (outer_in chosen) is ∙ outer-While chosen test part at ∙ ap (outer_all chosen) (sym here)

-- those of a loop, where a test says whether it is a region
pub of_loop : (chosen : Loop → Bool) (s : Stmt) (l : Loop) → s ≡ For l → outer_in chosen s ≡ l ∷ (if chosen l then [] else outer_all chosen l.body)
of_loop chosen s l is = ap (outer_in chosen) is ∙ outer-For chosen l

-- those of a region
pub of_region : (chosen : Loop → Bool) (s : Stmt) (l : Loop) → s ≡ For l → chosen l ≡ true → outer_in chosen s ≡ l ∷ []
of_region chosen s l is region = of_loop chosen s l is ∙ ap (λ (b : Bool). l ∷ (if b then [] else outer_all chosen l.body)) region

-- those of a loop that is no region
pub of_for : (chosen : Loop → Bool) (s : Stmt) (l : Loop) (body : List Stmt)
    → s ≡ For l → chosen l ≡ false → body ≡ l.body → outer_in chosen s ≡ l ∷ outer_all chosen body
of_for chosen s l body is none here =
    of_loop chosen s l is ∙ ap (λ (b : Bool). l ∷ (if b then [] else outer_all chosen l.body)) none
    ∙ ap (λ ss. l ∷ outer_all chosen ss) (sym here)

-- what holds of each loop of two lists holds of each of the first, and of each of the second
pub left_of : (P : Loop → Type 0) (xs ys : List Loop) → AllByRecursion P (xs ++ ys) → AllByRecursion P xs
left_of P [] ys h = tt
left_of P (l ∷ xs) ys h = (h.0, left_of P xs ys h.1)

pub right_of : (P : Loop → Type 0) (xs ys : List Loop) → AllByRecursion P (xs ++ ys) → AllByRecursion P ys
right_of P [] ys h = h
right_of P (l ∷ xs) ys h = right_of P xs ys h.1

-- loops that have few units, and the first and the last of them
pub few_first : (xs ys zs : List Loop) → zs ≡ xs ++ ys → AreFew zs → AreFew xs
few_first xs ys zs is h = left_of IsFew xs ys (subst AreFew is h)

pub few_last : (xs ys zs : List Loop) → zs ≡ xs ++ ys → AreFew zs → AreFew ys
few_last xs ys zs is h = right_of IsFew xs ys (subst AreFew is h)

next_is : (ss : List Stmt) (i : ℕ) (s : Stmt) → i < length ss → s ≡ get_or ss i s → drop i ss ≡ s ∷ drop (i + 1) ss
next_is ss i s within read = drop_more ss i s within ∙ (λ j. sym read j ∷ drop (i + 1) ss)

-- of statements the one at an index and those behind it, where the loops of those from this index on have few units
pub few_next : (ss : List Stmt) (i : ℕ) (s : Stmt) → i < length ss → s ≡ get_or ss i s → AreFew (outer_all is_parallel (drop i ss))
    → AreFew (outer_in is_parallel s) × AreFew (outer_all is_parallel (drop (i + 1) ss))
few_next ss i s within read h =
    let parts = ap (outer_all is_parallel) (next_is ss i s within read) in
    (few_first (outer_in is_parallel s) (outer_all is_parallel (drop (i + 1) ss)) _ parts h, few_last (outer_in is_parallel s) (outer_all is_parallel (drop (i + 1) ss)) _ parts h)

-- the marks of the loops in it, and of those behind it
pub marks_next : (ss : List Stmt) (i : ℕ) (s : Stmt) (all more : List Mark) → i < length ss → s ≡ get_or ss i s → more ≡ all ++ map mark_of (outer_in is_parallel s)
    → more ++ map mark_of (outer_all is_parallel (drop (i + 1) ss)) ≡ all ++ map mark_of (outer_all is_parallel (drop i ss))
marks_next ss i s all more within read is =
    let here = outer_in is_parallel s in
    let behind = outer_all is_parallel (drop (i + 1) ss) in
    ap (λ (front : List Mark). front ++ map mark_of behind) is ∙ append_assoc all (map mark_of here) (map mark_of behind)
    ∙ ap (λ (back : List Mark). all ++ back) (sym (map-append mark_of here behind))
    ∙ ap (λ left. all ++ map mark_of (outer_all is_parallel left)) (sym (next_is ss i s within read))

-- what is made of some loops, behind others, and of more behind them
pub behind_both : {E X : Type 0} (f : Loop → X) (r : Result (Unit {0}) E) (all some more : List X) (xs ys zs : List Loop)
    → zs ≡ xs ++ ys → some ≡ all ++ map f xs → OnOk r (more ≡ some ++ map f ys) → OnOk r (more ≡ all ++ map f zs)
behind_both {E} {X} f (Ok u) all some more xs ys zs is first second =
    second ∙ ap (λ (codes : List X). codes ++ map f ys) first ∙ append_assoc all (map f xs) (map f ys)
    ∙ ap (λ (codes : List X). all ++ codes) (sym (map-append f xs ys))
    ∙ ap (λ ls. all ++ map f ls) (sym is)
behind_both f (Err e) all some more xs ys zs is first second = tt

seen_either : (b : Bool) (number : ℕ) (l : Loop) (rest : List Loop)
    → seen_marked (number + 1) (map mark_of rest) ≡ seen_from (number + 1) rest → seen_marked number (map mark_of rest) ≡ seen_from number rest
    → (let here : Found = if b then found.Parallel (plan_of l) else found.Plain (plain_of l) in
    seen_at number l.at here ∷ seen_marked (number_after number here) (map mark_of rest))
    ≡ (if b then seen.Region (record { number = number; at = l.at; plan = plan_of l }) ∷ seen_from (number + 1) rest else seen.Plain l.at (plain_of l) ∷ seen_from number rest)
seen_either true number l rest more same = ap (λ (all : List Seen). seen.Region (record { number = number; at = l.at; plan = plan_of l }) ∷ all) more
seen_either false number l rest more same = ap (λ (all : List Seen). seen.Plain l.at (plain_of l) ∷ all) same

-- what is seen of marked loops is what is seen of them
pub seen_of_marks : (number : ℕ) (ls : List Loop) → seen_marked number (map mark_of ls) ≡ seen_from number ls
seen_of_marks number [] = refl
seen_of_marks number (l ∷ rest) = seen_either (is_parallel l) number l rest (seen_of_marks (number + 1) rest) (seen_of_marks number rest)

-- the number of the next region fits, where those of a loop and of all behind it do
pub number_fits : (number at : ℕ) (here : Found) (rest : List Seen) → length (regions_of (seen_at number at here ∷ rest)) + number < 2 ^ 32 → number_after number here < 2 ^ 32
number_fits number at (found.Parallel plan) rest h = omega (arith, h)
number_fits number at (found.Plain reason) rest h = omega (arith, h)

-- what is seen of the marks that were gathered behind none
pub gathered : (first marks : List Mark) (here body : List Stmt) → first ≡ [] → marks ≡ first ++ map mark_of (outer_all is_parallel here)
    → here ≡ body → seen_marked 1 marks ≡ seen_from 1 (outer_all is_parallel body)
gathered first marks here body none is at =
    ap (seen_marked 1) (is ∙ ap (λ (front : List Mark). front ++ map mark_of (outer_all is_parallel here)) none
    ∙ ap (λ ss. map mark_of (outer_all is_parallel ss)) at)
    ∙ seen_of_marks 1 (outer_all is_parallel body)
