-- The loops of statements, gathered one after another.
use Rattle.std.proofs.Common.{◌≡◌, ◌++◌, Bool, false, List, [], ◌∷◌, ap, ◌∙◌, sym, append_assoc, if◌then◌else◌}
use Rattle.std.specs.Prelude.{OnOk, Result, Ok, Err}
use Rattle.nona_tree.specs.declared.trees.Expr.{Expr}
use Rattle.nona_tree.specs.declared.trees.Loop.{Loop}
use Rattle.nona_tree.specs.declared.trees.Stmt.{Stmt, If, While, For}
use Rattle.nona_tree.specs.Entries.{regions_in, regions_all}
use Rattle.nona_tree.proofs.BesideEquations.{regions-If, regions-While, regions-For}

-- the regions of an if, whose two parts are these
pub of_if : (chosen : Loop → Bool) (s : Stmt) (test : Expr) (then_part else_part one other : List Stmt)
    → s ≡ If test then_part else_part → one ≡ then_part → other ≡ else_part → regions_in chosen s ≡ regions_all chosen one ++ regions_all chosen other
of_if chosen s test then_part else_part one other is first second =
    ap (regions_in chosen) is ∙ regions-If chosen test then_part else_part
    ∙ (λ i. regions_all chosen (sym first i) ++ regions_all chosen (sym second i))

pub of_while : (chosen : Loop → Bool) (s : Stmt) (test : Expr) (part : List Stmt) (at : _) (body : List Stmt)
    → s ≡ While test part at → body ≡ part → regions_in chosen s ≡ regions_all chosen body
of_while chosen s test part at body is here = ap (regions_in chosen) is ∙ regions-While chosen test part at ∙ ap (regions_all chosen) (sym here)

-- those of a loop that is no region
pub of_for : (chosen : Loop → Bool) (s : Stmt) (l : Loop) (body : List Stmt)
    → s ≡ For l → chosen l ≡ false → body ≡ l.body → regions_in chosen s ≡ regions_all chosen body
of_for chosen s l body is none here =
    ap (regions_in chosen) is ∙ regions-For chosen l ∙ ap (λ (b : Bool). if b then l ∷ [] else regions_all chosen l.body) none
    ∙ ap (regions_all chosen) (sym here)

-- loops behind others, and more behind them
pub behind_both : {E : Type 0} (r : Result (Unit {0}) E) (all first more xs ys zs : List Loop)
    → zs ≡ xs ++ ys → first ≡ all ++ xs → OnOk r (more ≡ first ++ ys) → OnOk r (more ≡ all ++ zs)
behind_both (Ok u) all first more xs ys zs is one two =
    two ∙ ap (λ ls. ls ++ ys) one ∙ append_assoc all xs ys ∙ ap (λ ls. all ++ ls) (sym is)
behind_both (Err e) all first more xs ys zs is one two = tt
