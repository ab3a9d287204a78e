-- Small loops that may be shared out: no tie of theirs is carried, they print nothing, are calm, and their guard holds.
use Rattle.std.proofs.Common.{◌≡◌, ℕ, pos, [], ◌∷◌, true, false, refl}
use Rattle.std.specs.List.{list_any}
use Rattle.nona_num.specs.declared.folds.Fold.TheVariants.{Add, Min}
use Rattle.nona_tree.specs.declared.names.Use.{Use}
use Rattle.nona_tree.specs.declared.trees.Expr.{Number, Scalar}
use Rattle.nona_tree.specs.declared.trees.Loop.{Loop}
use Rattle.nona_tree.specs.declared.trees.Stmt.{Fold, Put}
use Rattle.nona_tree.specs.Memory.{Memory}
use Rattle.nona_forms.specs.Calm.{is_calm}
use Rattle.nona_forms.specs.Guards.{guard_of}
use Rattle.nona_plans.specs.Mentions.{prints}
use Rattle.nona_plans.specs.Units.{ties_of, reductions_of}

named : ℕ → Use
named id = record { text = []; at = 0; id = id }

-- for i in 0..5 { s += i; m min= i; h[i] = 5; }, where s has the id 0, m 1 and i 2
all_three : Loop
all_three = record {
  index = named 2;
  low = Number (pos 0);
  high = Number (pos 5);
  body = Fold (named 0) Add (Scalar (named 2)) ∷ Fold (named 1) Min (Scalar (named 2)) ∷ Put (record { array = named 1; wrap = false; index = Scalar (named 2) }) (Number (pos 5)) ∷ [];
  seq = false;
  at = 0;
}

store : Memory
store = record { scalars = pos 3 ∷ pos 9 ∷ []; arrays = [] ∷ (pos 0 ∷ pos 0 ∷ pos 0 ∷ pos 0 ∷ pos 0 ∷ []) ∷ []; printed = [] }

untied : list_any (λ t. t.carried) (ties_of all_three) ≡ false
unfolding all_three named
untied = refl

silent : list_any prints all_three.body ≡ false
unfolding all_three named
silent = refl

calm : is_calm all_three ≡ true
unfolding all_three named
calm = refl

guarded : guard_of all_three store (pos 0) (pos 5) 100 ≡ true
unfolding all_three named store
guarded = refl

two_reductions : reductions_of all_three ≡ (0, Add) ∷ (1, Min) ∷ []
unfolding all_three named
two_reductions = refl
