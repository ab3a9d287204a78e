-- Sums of terms as they are kept while a form is worked out: coefficients by id, and a sign that is put off.
use Rattle.std.specs.Prelude.{◌≡◌, ◌≤◌, ℕ, ◌==◌, Bool, true, false, if◌then◌else◌, ℤ, pos, negsuc, ◌+ℤ◌, ◌*ℤ◌, List, [], ◌∷◌, map, All, IsTrue}
use Rattle.std.specs.Option.{unwrap_or}
use Rattle.std.specs.Ordering.{nat_cmp}
use Rattle.std.specs.Map.{lookup}
use Rattle.std.specs.BTreeMap.{BTreeMap, values, btree_map_len, is_at, IsOrdered}
use Rattle.nona_tree.specs.Value.{is_zero}
use Rattle.nona_forms.specs.declared.limits.TheConstants.{TERMS}
use Rattle.nona_forms.specs.declared.terms.Term.{Term}
use Rattle.nona_forms.specs.Affine.{is_coefficient, is_constant}

-- a number, or its opposite
abbrev pub signed : Bool → ℤ → ℤ
signed turned c = if turned then negsuc 0 *ℤ c else c

-- the terms that the entries of a map stand for, each with its coefficient or with its opposite
abbrev pub terms_in : Bool → List (ℕ × ℤ) → List Term
terms_in turned [] = []
terms_in turned (e ∷ es) = record { id = e.0; coefficient = signed turned e.1 } ∷ terms_in turned es

-- what entries add up to, where the scalars have these values
abbrev pub sum_at : (ℕ → ℤ) → List (ℕ × ℤ) → ℤ
sum_at scalar [] = pos 0
sum_at scalar (e ∷ es) = (e.1 *ℤ scalar e.0) +ℤ sum_at scalar es

-- the coefficient of a scalar among entries, 0 where it has none
abbrev pub value_at : ℕ → List (ℕ × ℤ) → ℤ
value_at id es = unwrap_or (lookup (is_at (nat_cmp id)) es) (pos 0)

-- the values of the scalars where one of them is 1 and the others are 0
abbrev pub one_alone : ℕ → ℕ → ℤ
one_alone id x = if x == id then pos 1 else pos 0

-- a coefficient within bounds, and not 0
pub record IsUsed (c : ℤ) : Type 0 where
  pub within : IsTrue (is_coefficient c)
  pub used : is_zero c ≡ false

-- a map's coefficients are within bounds, and none of them is 0
pub record AreUsed (m : BTreeMap ℕ ℤ) : Type 0 where
  pub all : All IsUsed (values m)
  pub rising : IsOrdered nat_cmp m

-- a constant and a map's coefficients are those of a form within bounds
pub record IsTally (k : ℤ) (m : BTreeMap ℕ ℤ) : Type 0 where
  pub constant : IsTrue (is_constant k)
  pub few : btree_map_len m ≤ TERMS
  pub used : AreUsed m

-- the sum of two maps, the second one perhaps with its opposite, has a coefficient that is out of bounds
pub record IsTooGreat (turned : Bool) (m n : List (ℕ × ℤ)) : Type 0 where
  pub id : ℕ
  pub far : is_coefficient (sum_at (one_alone id) m +ℤ signed turned (sum_at (one_alone id) n)) ≡ false

-- what the map holds once a term was added, or that its coefficient would be out of bounds
abbrev pub IsAdded : ℕ → ℤ → BTreeMap ℕ ℤ → BTreeMap ℕ ℤ → Bool → Type 0
IsAdded id c m n true = ((scalar : ℕ → ℤ) → sum_at scalar n.entries ≡ sum_at scalar m.entries +ℤ (c *ℤ scalar id)) × AreUsed n
IsAdded id c m n false = is_coefficient (value_at id m.entries +ℤ c) ≡ false

-- the same of all terms of a map, perhaps with their opposites
abbrev pub IsPoured : Bool → BTreeMap ℕ ℤ → BTreeMap ℕ ℤ → BTreeMap ℕ ℤ → Bool → Type 0
IsPoured turned m from n true =
    ((scalar : ℕ → ℤ) → sum_at scalar n.entries ≡ sum_at scalar m.entries +ℤ signed turned (sum_at scalar from.entries)) × AreUsed n
IsPoured turned m from n false = IsTooGreat turned m.entries from.entries

-- entries, each coefficient times a number
abbrev pub scaled : ℤ → List (ℕ × ℤ) → List (ℕ × ℤ)
scaled k es = map (λ e. (e.0, k *ℤ e.1)) es
