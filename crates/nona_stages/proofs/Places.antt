-- Regions by the places of their words `for`.
use Rattle.std.proofs.Common.{◌≡◌, ◌<◌, ◌+◌, ◌-◌, ℕ, Bool, true, false, ◌||◌, ◌==◌, List, [], ◌∷◌, drop, length, refl, sym, ap, subst, ◌∙◌, arith, Option, Some, None, slice_get, get_or, if◌then◌else◌}
use Rattle.std.specs.Prelude.{map}
use Rattle.std.specs.List.{list_any}
use Rattle.std.specs.Option.{is_some}
use Rattle.std.specs.BTreeMap.{BTreeMap}
use Rattle.std.proofs.lemmas.List.{drop_more}
use Rattle.std.proofs.lemmas.Option.{slice_get-get_or}
use Rattle.nona_stages.specs.declared.seen.Region.{Region}
use Rattle.nona_stages.specs.declared.seen.Seen.{Seen}
use Rattle.nona_stages.specs.Seen.{region_at}
use Rattle.nona_stages.specs.PlansInside.{IsIndexOf, AreIndexed, HasAdded}

some_first : (b : Bool) (r : Region) (o : Option Region) (other : Bool) → is_some o ≡ other → is_some (if b then Some r else o) ≡ (b || other)
some_first true r o other h = refl
some_first false r o other h = h

-- a place has a region exactly where it is among those of regions
pub has_region : (rs : List Region) (at : ℕ) → is_some (region_at rs at) ≡ list_any (λ place. place == at) (map (λ (r : Region). r.at) rs)
has_region [] at = refl
has_region (r ∷ rs) at = some_first (r.at == at) r (region_at rs at) _ (has_region rs at)

pub has_index : (o : Option ℕ) (all : List Seen) (found : Option Region) → IsIndexOf o all found → is_some o ≡ is_some found
has_index None all found h = ap is_some (sym h)
has_index (Some k) all found h = ap is_some (sym h.2)

-- what is seen before others, with the index that it has among all
pub next_is : (all : List Seen) (passed : ℕ) (one : Seen) → passed < length all → one ≡ get_or all (length all - 1 - passed) one
    → drop (length all - (passed + 1)) all ≡ one ∷ drop (length all - passed) all
next_is all passed one within read =
    let at : length all - (passed + 1) ≡ length all - 1 - passed = omega arith in
    let next : length all - (passed + 1) + 1 ≡ length all - passed = omega (arith, within) in
    let below : length all - (passed + 1) < length all = omega (arith, within) in
    let read_there : get_or all (length all - (passed + 1)) one ≡ one = ap (λ k. get_or all k one) at ∙ sym read in
    drop_more all (length all - (passed + 1)) one below ∙ (λ i. read_there i ∷ drop (next i) all)

-- one more of all
pub next_added : (old new : BTreeMap ℕ ℕ) (all : List Seen) (passed k : ℕ) (one : Seen) → k ≡ length all - 1 - passed → passed < length all → one ≡ get_or all k one
    → HasAdded old new one k → AreIndexed old all (drop (length all - passed) all) → AreIndexed new all (drop (length all - (passed + 1)) all)
next_added old new all passed k one at within read added h =
    let below : k < length all = omega (arith, within, at) in
    let found : slice_get all k ≡ Some one = slice_get-get_or all k one below ∙ ap Some (sym read) in
    subst (AreIndexed new all) (sym (next_is all passed one within (read ∙ ap (λ j. get_or all j one) at)))
    (added all (drop (length all - passed) all) found h)
