-- The ids of a loop's reductions are below that of its index, and all differ.
use Rattle.std.proofs.Common.{◌≢◌, ℕ, zero, suc, ◌<◌, ◌≤◌, ℤ, List, [], ◌++◌, length, sym, subst, arith, append-nil}
use Rattle.std.specs.Prelude.{Some, None, All, AllPairs}
use Rattle.std.specs.declared.option.Option.{Option}
use Rattle.std.proofs.lemmas.List.Elements.{All-append, All-cons, All-nil, All-get_or}
use Rattle.std.proofs.lemmas.List.Quantifiers.{all_pairs_push}
use Rattle.nona_num.specs.declared.folds.Fold.{Fold}
use Rattle.nona_tree.specs.declared.trees.Loop.{Loop}
use Rattle.nona_plans.specs.Mentions.{reduction_of}
use Rattle.nona_plans.specs.Units.{with_fold, reductions_below, reductions_of}
use Rattle.net_share.specs.Begins.{AreApart, AreThere}

-- a reduction's id is below this number
abbrev IsBelow : ℕ → ℕ × Fold → Type 0
IsBelow b r = r.0 < b

last_below : (n b : ℕ) (o : Option Fold) → n < b → All (IsBelow b) (with_fold n o)
last_below n b None below = All-nil (IsBelow b)
last_below n b (Some f) below = All-cons (IsBelow b) (n, f) [] below (All-nil (IsBelow b))

ids_below : (l : Loop) (n b : ℕ) → n ≤ b → All (IsBelow b) (reductions_below l n)
ids_below l zero b within = All-nil (IsBelow b)
ids_below l (suc n) b within =
    All-append (IsBelow b) (reductions_below l n) (with_fold n (reduction_of l n)) (ids_below l n b (omega (arith, within))) (last_below n b (reduction_of l n) (omega (arith, within)))

pub are_there : (l : Loop) (scalars : List ℤ) → l.index.id ≤ length scalars → AreThere (reductions_of l) scalars
are_there l scalars within = ids_below l l.index.id (length scalars) within

-- two reductions have different ids
abbrev Differ : ℕ × Fold → ℕ × Fold → Type 0
Differ r q = r.0 ≢ q.0

apart_with : (n : ℕ) (xs : List (ℕ × Fold)) (o : Option Fold) → All (IsBelow n) xs → AllPairs Differ xs → AllPairs Differ (xs ++ with_fold n o)
apart_with n xs None below h = subst (AllPairs Differ) (sym (append-nil xs)) h
apart_with n xs (Some f) below h =
    all_pairs_push Differ xs (n, f) h (λ k d within same. (let less = All-get_or (IsBelow n) xs k d within below in omega (arith, less, same)))

apart_below : (l : Loop) (n : ℕ) → AllPairs Differ (reductions_below l n)
apart_below l zero = λ i j d before within. absurd (omega (arith, within))
apart_below l (suc n) = apart_with n (reductions_below l n) (reduction_of l n) (ids_below l n n (omega arith)) (apart_below l n)

pub are_apart : (l : Loop) → AreApart (reductions_of l)
are_apart l = apart_below l l.index.id
