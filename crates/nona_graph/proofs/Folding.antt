-- How mentions name a scalar, one mention after another.
use Rattle.std.proofs.Common.{◌≡◌, ℕ, suc, ◌+◌, ◌<◌, ◌==◌, ◌&&◌, Bool, true, false, not, nat_lt, List, [], ◌∷◌, ◌++◌, length, take, filter, refl, sym, ap, ◌∙◌, if◌then◌else◌, append-nil, slice_index_or, arith, Some, None}
use Rattle.std.proofs.lemmas.List.{take_more}
use Rattle.std.proofs.lemmas.List.Elements.{filter-append}
use Rattle.std.specs.Prelude.{is_some}
use Rattle.std.specs.List.{list_all}
use Rattle.std.specs.declared.option.Option.{Option}
use Rattle.nona_num.specs.declared.folds.Fold.{Fold}
use Rattle.nona_tree.specs.declared.trees.Loop.{Loop}
use Rattle.nona_plans.specs.declared.graphs.Mention.{Mention}
use Rattle.nona_plans.specs.Mentions.{is_fold, is_by, fold_if, only_fold, reduction_of, mentions_all}
use Rattle.nona_plans.specs.Units.{with_fold, reductions_below}
use Rattle.nona_graph.specs.declared.reducing.Usage.{Usage}
use Rattle.nona_graph.specs.Uses.{is_named, use_by, use_of, joined_by, use_after, use_at, ShowUses}

-- one mention more of a scalar
alone : (by : Option Fold) → fold_if by [] ≡ by
alone None = refl
alone (Some f) = refl

all_more : (f : Fold) (xs : List Mention) (m : Mention) → list_all (is_by f) (xs ++ m ∷ []) ≡ (list_all (is_by f) xs && is_fold f m.by)
all_more f [] m = last (is_fold f m.by)
  where
    last : (b : Bool) → (b && true) ≡ b
    last true = refl
    last false = refl
all_more f (x ∷ xs) m = ap (λ b. is_by f x && b) (all_more f xs m) ∙ grouped (is_by f x) (list_all (is_by f) xs) (is_fold f m.by)
  where
    grouped : (a b c : Bool) → (a && (b && c)) ≡ ((a && b) && c)
    grouped true b c = refl
    grouped false b c = refl

joined_if : (f : Fold) (by : Option Fold) (b : Bool) → (if (b && is_fold f by) then Some f else None) ≡ joined_by (if b then Some f else None) by
joined_if f by true = refl
joined_if f by false = refl

joined_more : (first : Option Fold) (xs : List Mention) (m : Mention) → fold_if first (xs ++ m ∷ []) ≡ joined_by (fold_if first xs) m.by
joined_more None xs m = refl
joined_more (Some f) xs m = ap (λ b. if b then Some f else None) (all_more f xs m) ∙ joined_if f m.by (list_all (is_by f) xs)

by_more : (xs : List Mention) (m : Mention) → use_by (xs ++ m ∷ []) ≡ use_after (use_by xs) m.by
by_more [] m = λ i. record { named = true; by = alone m.by i }
by_more (x ∷ xs) m = λ i. record { named = true; by = joined_more x.by xs m i }

more_if : (xs : List Mention) (m : Mention) (same : Bool) → use_by (xs ++ (if same then m ∷ [] else [])) ≡ (if same then use_after (use_by xs) m.by else use_by xs)
more_if xs m true = by_more xs m
more_if xs m false = ap use_by (append-nil xs)

pub use_more : (id : ℕ) (ms : List Mention) (m : Mention) → use_of id (ms ++ m ∷ []) ≡ (if m.id == id then use_after (use_of id ms) m.by else use_of id ms)
use_more id ms m = ap use_by (filter-append (λ x. x.id == id) ms (m ∷ [])) ∙ more_if (filter (λ x. x.id == id) ms) m (m.id == id)

-- the first i mentions, and one more
pub noted_next : (ms : List Mention) (i : ℕ) (d : Mention) (uses new : List Usage) → i < length ms → length new ≡ length uses
    → ((id : ℕ) → id < length uses → use_at new id ≡ (if (slice_index_or ms i d).id == id then use_after (use_at uses id) (slice_index_or ms i d).by else use_at uses id))
    → ShowUses (take i ms) uses → ShowUses (take (i + 1) ms) new
noted_next ms i d uses new within long noted shown id below =
    let m = slice_index_or ms i d in
    let there : id < length uses = omega (arith, below, long) in
    noted id there ∙ ap (λ u. if m.id == id then use_after u m.by else u) (shown id there) ∙ sym (use_more id (take i ms) m)
    ∙ ap (λ (xs : List Mention). use_of id xs) (sym (take_more ms i d within))

-- the fold of a scalar that is declared before a loop
less_found : (a b : ℕ) → a < b → nat_lt a b ≡ true
less_found a b h = grind arith

pub reduction_at : (l : Loop) (uses : List Usage) (id : ℕ) → length uses ≡ l.index.id → ShowUses (mentions_all l.body) uses → id < l.index.id → (use_at uses id).by ≡ reduction_of l id
reduction_at l uses id long shown below =
    ap (λ u. u.by) (shown id (omega (arith, below, long)))
    ∙ sym (ap (λ b. if b then only_fold (filter (λ m. m.id == id) (mentions_all l.body)) else None) (less_found id l.index.id below))

pub reductions_more : (l : Loop) (uses : List Usage) (id : ℕ) (old new : List (ℕ × Fold)) → length uses ≡ l.index.id → ShowUses (mentions_all l.body) uses → id < l.index.id
    → old ≡ reductions_below l id → new ≡ old ++ with_fold id (use_at uses id).by → new ≡ reductions_below l (id + 1)
reductions_more l uses id old new long shown below h g =
    let next : id + 1 ≡ suc id = omega arith in
    g ∙ (λ i. h i ++ with_fold id (reduction_at l uses id long shown below i)) ∙ ap (reductions_below l) (sym next)
