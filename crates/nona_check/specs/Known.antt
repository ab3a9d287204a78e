-- What a list of names keeps beside itself: a map, which answers for each name.
use Rattle.std.specs.Prelude.{◌≡◌, ℕ, Bool, false, List, [], ◌∷◌, map, Vec}
use Rattle.std.specs.declared.option.Option.{Option}
use Rattle.std.specs.declared.alloc.Global.{Global}
use Rattle.std.specs.Option.{option_map}
use Rattle.std.specs.List.{list_any}
use Rattle.std.specs.Str.{bytes_eq}
use Rattle.std.specs.BTreeMap.{BTreeMap, get_by}
use Rattle.std.specs.Cmp.Lexicographic.{slice_cmp}
use Rattle.std.specs.Ordering.{nat_cmp}
use Rattle.nona_tree.specs.Names.{Visible, id_of, is_index}
use Rattle.nona_check.specs.declared.names.Known.{Known}
use Rattle.nona_check.specs.declared.names.Declared.{Declared}

-- the declared names, as contracts see them
abbrev pub visible_of : List Declared → List Visible
visible_of ds = map (λ (d : Declared). record { name = d.name; index = d.index }) ds

-- their words alone
abbrev pub names_of : List Visible → List (List ℕ)
names_of vs = map (λ (v : Visible). v.name) vs

-- what is known of a name: its id, and whether it is an index; nothing where it isn't visible
abbrev pub known_of : List ℕ → List Visible → Option Known
known_of name visible = option_map (λ id. record { id = id; index = is_index name visible }) (id_of name visible)

-- what a map has at a name
abbrev pub at_name : List ℕ → BTreeMap (Vec ℕ Global) Known → Option Known
at_name name m = get_by (λ k. slice_cmp nat_cmp name k.items) m

-- a map has at each name what is known of it
abbrev pub Agrees : BTreeMap (Vec ℕ Global) Known → List Visible → Type 0
Agrees m visible = (name : List ℕ) → at_name name m ≡ known_of name visible

-- whether a name is visible
abbrev pub is_visible : List ℕ → List Visible → Bool
is_visible name visible = list_any (λ v. bytes_eq v.name name) visible

-- no name is there twice
abbrev pub AreDistinct : List Visible → Type 0
AreDistinct [] = Unit {0}
AreDistinct (v ∷ rest) = (is_visible v.name rest ≡ false) × AreDistinct rest
