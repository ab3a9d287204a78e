-- What a fold array's cells are named by, and the store in which tasks have copies of such arrays.
use Rattle.std.proofs.Common.{◌≡◌, ◌≢◌, ⊎_elim, ℕ, ◌<◌, ◌≤◌, ◌==◌, Bool, true, false, ℤ, pos, List, [], ◌∷◌, ◌++◌, length, map, filter, refl, sym, ap, ◌∙◌, subst, arith, if◌then◌else◌}
use Rattle.std.specs.Prelude.{All, Some, None, slice_index_or}
use Rattle.std.specs.List.{Contains}
use Rattle.std.specs.declared.option.Option.{Option}
use Rattle.std.proofs.lemmas.Bool.{cases_lt}
use Rattle.std.proofs.lemmas.List.{length-map, get_or_past, get_or-map, get_or-set_same, get_or-set_other}
use Rattle.std.proofs.lemmas.List.Elements.{All-nil, All-cons, All-get_or, All-set, Contains-append_left, Contains-append_right}
use Rattle.std.proofs.Math.Seq.{map-set_same}
use Rattle.nona_num.specs.declared.folds.Fold.{Fold}
use Rattle.nona_num.specs.Folds.{unit_of}
use Rattle.nona_tree.specs.declared.trees.Loop.{Loop}
use Rattle.nona_tree.specs.declared.trees.Stmt.{Stmt}
use Rattle.nona_tree.specs.Deeds.{SameSizes}
use Rattle.nona_tree.specs.Memory.{Memory, cells_of, cell_at}
use Rattle.nona_tree.specs.Numbers.{IsI64, AreCells, AreI64}
use Rattle.nona_forms.specs.Affine.{among}
use Rattle.nona_plans.specs.declared.graphs.Mention.{Mention}
use Rattle.nona_plans.specs.Mentions.{plainly}
use Rattle.nona_plans.proofs.Leading.{same_units}
use Rattle.nona_fission.proofs.Alike.{sizes_kept}
use Rattle.nona_fission.proofs.Untied.{in_filter, same_number, only_by}
use Rattle.nona_fission.proofs.Begun.{unit_fits}
use Rattle.nona_fission.proofs.Tasks.{zero_number}
use Rattle.nona_fission.specs.FoldArrays.{cell_mentions, cell_mentions_all, fold_array_of, with_unit_cells, with_copies}

-- the cells of a fold array are named by its fold alone

pub fold_array_by : (l : Loop) (f : Fold) (x : Mention) → Contains (cell_mentions_all l.body) x → fold_array_of l x.id ≡ Some f → x.by ≡ Some f
fold_array_by l f x c h =
    only_by f (filter (λ m. m.id == x.id) (cell_mentions_all l.body)) x h (in_filter (λ m. m.id == x.id) (cell_mentions_all l.body) x c (same_number x.id))

pub no_plain_cell : (l : Loop) (a : ℕ) (f : Fold) → Contains (cell_mentions_all l.body) (plainly a) → fold_array_of l a ≡ Some f → ⊥
no_plain_cell l a f c e = let by : None ≡ Some f = fold_array_by l f (plainly a) c e in cc

mentioned : (front : List Stmt) (s : Stmt) (rest : List Stmt) (m : Mention) → Contains (cell_mentions s) m → Contains (cell_mentions_all (front ++ s ∷ rest)) m
mentioned [] s rest m c = Contains-append_left (cell_mentions s) (cell_mentions_all rest) m c
mentioned (x ∷ front) s rest m c = Contains-append_right (cell_mentions x) (cell_mentions_all (front ++ s ∷ rest)) m (mentioned front s rest m c)

pub unit_cells : (l : Loop) (front : List Stmt) (s : Stmt) (rest : List Stmt) → l.body ≡ front ++ s ∷ rest → (m : Mention) → Contains (cell_mentions s) m → Contains (cell_mentions_all l.body) m
unit_cells l front s rest e m c = subst (λ ss. Contains (cell_mentions_all ss) m) (sym e) (mentioned front s rest m c)

-- where no copies are made
pub no_copies : (l : Loop) (a : ℕ) → Contains [] a → (f : Fold) × (fold_array_of l a ≡ Some f)
no_copies l a (place, within, is) = absurd (omega (arith, within))

-- cells have 64 bits

no_cells : AreCells []
no_cells = (omega arith, All-nil IsI64)

cells_number : (m : Memory) (a : ℕ) → AreI64 m → AreCells (cells_of m a)
cells_number m a h =
    ⊎_elim (λ (there : a < length m.arrays). All-get_or AreCells m.arrays a [] there h.arrays)
    (λ (past : length m.arrays ≤ a). subst AreCells (sym (get_or_past m.arrays a [] past)) no_cells) (cases_lt a (length m.arrays))

pub cell_number : (m : Memory) (a p : ℕ) → AreI64 m → IsI64 (cell_at m a p)
cell_number m a p h =
    ⊎_elim (λ (there : p < length (cells_of m a)). All-get_or IsI64 (cells_of m a) p (pos 0) there (cells_number m a h).1)
    (λ (past : length (cells_of m a) ≤ p). subst IsI64 (sym (get_or_past (cells_of m a) p (pos 0) past)) zero_number) (cases_lt p (length (cells_of m a)))

-- one copy

one_scalars : (a : ℕ) (o : Option Fold) (m : Memory) → (with_unit_cells a o m).scalars ≡ m.scalars
one_scalars a None m = refl
one_scalars a (Some f) m = refl

one_printed : (a : ℕ) (o : Option Fold) (m : Memory) → (with_unit_cells a o m).printed ≡ m.printed
one_printed a None m = refl
one_printed a (Some f) m = refl

one_sizes : (a : ℕ) (o : Option Fold) (m : Memory) → SameSizes m (with_unit_cells a o m)
one_sizes a None m b = refl
one_sizes a (Some f) m b =
    sizes_kept m (with_unit_cells a (Some f) m) (map-set_same length m.arrays a (map (λ v. unit_of f) (cells_of m a)) [] (length-map (cells_of m a) (λ v. unit_of f))) b

units_fit : (f : Fold) (xs : List ℤ) → All IsI64 (map (λ v. unit_of f) xs)
units_fit f [] = All-nil IsI64
units_fit f (x ∷ xs) = All-cons IsI64 (unit_of f) (map (λ v. unit_of f) xs) (unit_fits f) (units_fit f xs)

one_numbers : (a : ℕ) (o : Option Fold) (m : Memory) → AreI64 m → AreI64 (with_unit_cells a o m)
one_numbers a None m h = h
one_numbers a (Some f) m h =
    let short = (cells_number m a h).0 in
    let count = length-map (cells_of m a) (λ v. unit_of f) in
    record {
      scalars = h.scalars;
      arrays = All-set AreCells m.arrays a (map (λ v. unit_of f) (cells_of m a)) (omega (arith, short, count), units_fit f (cells_of m a)) h.arrays;
      printed = h.printed;
    }

one_other : (a b : ℕ) (o : Option Fold) (m : Memory) → b ≢ a → cells_of (with_unit_cells a o m) b ≡ cells_of m b
one_other a b None m apart = refl
one_other a b (Some f) m apart = get_or-set_other m.arrays a b (map (λ v. unit_of f) (cells_of m a)) [] apart

same_unit : (g f : Fold) → Some g ≡ Some f → unit_of g ≡ unit_of f
same_unit g f e = cc

cell_there : (m : Memory) (a p : ℕ) → p < length (cells_of m a) → a < length m.arrays
cell_there m a p below =
    ⊎_elim (λ (there : a < length m.arrays). there)
    (λ (past : length m.arrays ≤ a). let none = ap length (get_or_past m.arrays a [] past) in let empty : length {A = ℤ} [] ≡ 0 = refl in absurd (omega (arith, below, none, empty))) (cases_lt a (length m.arrays))

one_unit : (f : Fold) (a p : ℕ) (o : Option Fold) (m : Memory) → o ≡ Some f → p < length (cells_of m a) → cell_at (with_unit_cells a o m) a p ≡ unit_of f
one_unit f a p None m e below = cc
one_unit f a p (Some g) m e below =
    ap (λ xs. slice_index_or xs p (pos 0)) (get_or-set_same m.arrays a (map (λ v. unit_of g) (cells_of m a)) [] (cell_there m a p below))
    ∙ get_or-map (λ v. unit_of g) (cells_of m a) p (pos 0) (pos 0) below ∙ same_unit g f e

-- copies

pub copies_scalars : (l : Loop) (ids : List ℕ) (m : Memory) → (with_copies l ids m).scalars ≡ m.scalars
copies_scalars l [] m = refl
copies_scalars l (a ∷ ids) m = copies_scalars l ids (with_unit_cells a (fold_array_of l a) m) ∙ one_scalars a (fold_array_of l a) m

pub copies_printed : (l : Loop) (ids : List ℕ) (m : Memory) → (with_copies l ids m).printed ≡ m.printed
copies_printed l [] m = refl
copies_printed l (a ∷ ids) m = copies_printed l ids (with_unit_cells a (fold_array_of l a) m) ∙ one_printed a (fold_array_of l a) m

pub copies_sizes : (l : Loop) (ids : List ℕ) (m : Memory) → SameSizes m (with_copies l ids m)
copies_sizes l [] m b = refl
copies_sizes l (a ∷ ids) m b = copies_sizes l ids (with_unit_cells a (fold_array_of l a) m) b ∙ one_sizes a (fold_array_of l a) m b

pub copies_numbers : (l : Loop) (ids : List ℕ) (m : Memory) → AreI64 m → AreI64 (with_copies l ids m)
copies_numbers l [] m h = h
copies_numbers l (a ∷ ids) m h = copies_numbers l ids (with_unit_cells a (fold_array_of l a) m) (one_numbers a (fold_array_of l a) m h)

not_first : (b : ℕ) (a : ℕ) (ids : List ℕ) (c : Bool) → (b == a) ≡ c → (if c then true else among b ids) ≡ false → (b ≢ a) × (among b ids ≡ false)
not_first b a ids true e h = cc
not_first b a ids false e h = (λ same. let no : true ≡ false = sym (same_number a) ∙ ap (λ z. z == a) (sym same) ∙ e in cc, h)

-- an array that no copies are of is as it was
pub copies_other : (l : Loop) (ids : List ℕ) (m : Memory) (b : ℕ) → among b ids ≡ false → cells_of (with_copies l ids m) b ≡ cells_of m b
copies_other l [] m b none = refl
copies_other l (a ∷ ids) m b none =
    let apart = not_first b a ids (b == a) refl none in
    copies_other l ids (with_unit_cells a (fold_array_of l a) m) b apart.1 ∙ one_other a b (fold_array_of l a) m apart.0

copy_unit : (l : Loop) (f : Fold) (a : ℕ) (ids : List ℕ) (m : Memory) (b p : ℕ) (c d : Bool) → (b == a) ≡ c → among b ids ≡ d → (if c then true else among b ids) ≡ true → fold_array_of l b ≡ Some f → p < length (cells_of m b)
    → (among b ids ≡ true → cell_at (with_copies l ids (with_unit_cells a (fold_array_of l a) m)) b p ≡ unit_of f)
    → cell_at (with_copies l ids (with_unit_cells a (fold_array_of l a) m)) b p ≡ unit_of f
copy_unit l f a ids m b p c true e g h is below go = go g
copy_unit l f a ids m b p true false e g h is below go =
    let same : b ≡ a = same_units b a e in
    ap (λ xs. slice_index_or xs p (pos 0)) (copies_other l ids (with_unit_cells a (fold_array_of l a) m) b g)
    ∙ subst (λ z. cell_at (with_unit_cells z (fold_array_of l z) m) b p ≡ unit_of f) same (one_unit f b p (fold_array_of l b) m is below)
copy_unit l f a ids m b p false false e g h is below go = let no : false ≡ true = sym g ∙ h in cc

-- each cell of a copy has the unit of its fold
pub copies_unit : (l : Loop) (f : Fold) (ids : List ℕ) (m : Memory) (b p : ℕ) → among b ids ≡ true → fold_array_of l b ≡ Some f → p < length (cells_of m b) → cell_at (with_copies l ids m) b p ≡ unit_of f
copies_unit l f [] m b p listed is below = cc
copies_unit l f (a ∷ ids) m b p listed is below =
    let count = one_sizes a (fold_array_of l a) m b in
    copy_unit l f a ids m b p (b == a) (among b ids) refl refl listed is below
    (λ later. copies_unit l f ids (with_unit_cells a (fold_array_of l a) m) b p later is (omega (arith, below, count)))
