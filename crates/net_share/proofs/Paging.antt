-- A page of an array that is settled for all tasks, and why they and the store make the same of it as before.
use Rattle.std.proofs.Common.{◌≡◌, ◌≢◌, ◌⊎◌, inl, inr, ℕ, zero, suc, ◌<◌, ◌≤◌, nat_lt, ◌/◌, ◌==◌, ◌&&◌, Bool, true, false, if◌then◌else◌, ◌+◌, ℤ, pos, List, [], ◌∷◌, length, map, drop, get_or, slice_index_or, Option, None, Some, refl, sym, ap, subst, ◌∙◌, arith}
use Rattle.std.specs.Option.{unwrap_or}
use Rattle.std.proofs.lemmas.List.{ext_get_or}
use Rattle.nona_num.specs.declared.folds.Fold.{Fold}
use Rattle.nona_num.specs.Folds.{join_of}
use Rattle.nona_store.specs.Shares.{ShareView}
use Rattle.nona_store.specs.Overlays.{over_of, under, changes_of, changes_on_page, written_off, written_on}
use Rattle.nona_store.proofs.Overlaying.{covered, as_long, as_many}
use Rattle.nona_store.proofs.Paging.{is_on, left_alike, left_elsewhere, left_here, none_is_left, off_elsewhere, off_here, on_elsewhere, on_here}
use Rattle.nona_tree.specs.Memory.{Memory, scalar_at, cells_of, cell_at, assign}
use Rattle.net_share.specs.Begins.{AreThere}
use Rattle.net_share.specs.Gathered.{AreChanged, AreChangedBehind, AreGatheredAlike, with_changes, with_page, own_scalar, joined_with, with_joined, gathered}
use Rattle.net_share.proofs.Gathering.{AreChangedBelow, changes_scalars, changes_printed, changes_many, changes_long, unchanged_under}

either : (b : Bool) → (b ≡ true) ⊎ (b ≡ false)
either true = inl refl
either false = inr refl

-- tasks, each with its share of a store, and a page of an array
module _ {T : Type 0} (share : T → ShareView) (id index : ℕ) where
  -- the scalars, the printed numbers, the arrays and the sizes of a store stay when a page is written
  pub page_scalars : (tasks : List T) (m : Memory) → (with_page share id index tasks m).scalars ≡ m.scalars
  page_scalars [] m = refl
  page_scalars (x ∷ rest) m = page_scalars rest (under (written_on id index (over_of (share x).written)) m)

  pub page_printed : (tasks : List T) (m : Memory) → (with_page share id index tasks m).printed ≡ m.printed
  page_printed [] m = refl
  page_printed (x ∷ rest) m = page_printed rest (under (written_on id index (over_of (share x).written)) m)

  pub page_many : (tasks : List T) (m : Memory) → length (with_page share id index tasks m).arrays ≡ length m.arrays
  page_many [] m = refl
  page_many (x ∷ rest) m =
      let over = written_on id index (over_of (share x).written) in
      page_many rest (under over m) ∙ as_many over 0 m.arrays

  page_long : (tasks : List T) (m : Memory) (a : ℕ) → length (cells_of (with_page share id index tasks m) a) ≡ length (cells_of m a)
  page_long [] m a = refl
  page_long (x ∷ rest) m a =
      let over = written_on id index (over_of (share x).written) in
      page_long rest (under over m) a ∙ as_long m over a

  -- a cell that isn't on the page has its value still
  page_elsewhere : (tasks : List T) (m : Memory) (a p : ℕ) → p < length (cells_of m a) → is_on id index a p ≡ false
      → cell_at (with_page share id index tasks m) a p ≡ cell_at m a p
  page_elsewhere [] m a p within off = refl
  page_elsewhere (x ∷ rest) m a p within off =
      let written = over_of (share x).written in
      let over = written_on id index written in
      page_elsewhere rest (under over m) a p (subst (λ n. p < n) (sym (as_long m over a)) within) off
      ∙ covered m over a p within ∙ ap (λ o. unwrap_or o (cell_at m a p)) (on_elsewhere id index written a p off)

  -- a cell on the page has what the tasks have changed it to, where what they keep of it is what they have changed
  page_here : (was m n : Memory) (xs ys : List T) (a p : ℕ) → p < length (cells_of m a) → p < length (cells_of n a) → is_on id index a p ≡ true
      → cell_at m a p ≡ cell_at n a p → AreChanged share (changes_on_page id index was) xs ys
      → cell_at (with_page share id index ys m) a p ≡ cell_at (with_changes share was xs n) a p
  page_here was m n [] [] a p within inside on same h = same
  page_here was m n [] (y ∷ ys) a p within inside on same h = absurd h
  page_here was m n (x ∷ xs) [] a p within inside on same h = absurd h
  page_here was m n (x ∷ xs) (y ∷ ys) a p within inside on same h =
      let over = written_on id index (over_of (share y).written) in
      let changes = changes_of was (over_of (share x).written) in
      page_here was (under over m) (under changes n) xs ys a p (subst (λ k. p < k) (sym (as_long m over a)) within)
      (subst (λ k. p < k) (sym (as_long n changes a)) inside) on
      (covered m over a p within
      ∙ ap (λ o. unwrap_or o (cell_at m a p)) (on_here id index (over_of (share y).written) a p on ∙ (λ i. h.2 i a p)
      ∙ left_here id index was (over_of (share x).written) a p on)
      ∙ ap (unwrap_or (changes a p)) same ∙ sym (covered n changes a p inside))
      h.3

  page_behind : (m : Memory) (xs ys : List T) (a p : ℕ) → p < length (cells_of m a) → is_on id index a p ≡ true
      → AreChangedBehind share (changes_on_page id index m) xs ys
      → cell_at (with_page share id index ys m) a p ≡ cell_at (with_changes share m xs m) a p
  page_behind m [] [] a p within on h = refl
  page_behind m [] (y ∷ ys) a p within on h = absurd h
  page_behind m (x ∷ xs) [] a p within on h = absurd h
  page_behind m (x ∷ xs) (y ∷ ys) a p within on h =
      let written = over_of (share y).written in
      let over = written_on id index written in
      let changes = changes_of m (over_of (share x).written) in
      page_here m (under over m) (under changes m) xs ys a p (subst (λ k. p < k) (sym (as_long m over a)) within)
      (subst (λ k. p < k) (sym (as_long m changes a)) within) on
      (covered m over a p within
      ∙ ap (λ o. unwrap_or o (cell_at m a p)) (on_here id index written a p on)
      ∙ ap (λ (t : T). unwrap_or (over_of (share t).written a p) (cell_at m a p)) h.0
      ∙ sym (covered m (over_of (share x).written) a p within)
      ∙ ap (λ (s : Memory). cell_at s a p) (sym (unchanged_under m (over_of (share x).written))))
      h.1

  -- tasks that have nothing on the page change no cell on it
  none_here : (was m : Memory) (xs ys : List T) (a p : ℕ) → p < length (cells_of m a) → is_on id index a p ≡ true
      → AreChanged share (written_off id index) xs ys → cell_at (with_changes share was ys m) a p ≡ cell_at m a p
  none_here was m [] [] a p within on h = refl
  none_here was m [] (y ∷ ys) a p within on h = absurd h
  none_here was m (x ∷ xs) [] a p within on h = absurd h
  none_here was m (x ∷ xs) (y ∷ ys) a p within on h =
      let changes = changes_of was (over_of (share y).written) in
      let none : over_of (share y).written a p ≡ None =
      (λ i. h.2 i a p) ∙ off_here id index (over_of (share x).written) a p on
      in
      none_here was (under changes m) xs ys a p (subst (λ k. p < k) (sym (as_long m changes a)) within) on h.3
      ∙ covered m changes a p within
      ∙ ap (λ o. unwrap_or o (cell_at m a p)) (none_is_left was (over_of (share y).written) a p none)

-- what two lists of tasks have written on a cell is the same
module _ {T : Type 0} (share : T → ShareView) where
  abbrev AgreeAt : ℕ → ℕ → List T → List T → Type 0
  AgreeAt a p [] [] = Unit {0}
  AgreeAt a p [] (y ∷ ys) = ⊥
  AgreeAt a p (x ∷ xs) [] = ⊥
  AgreeAt a p (x ∷ xs) (y ∷ ys) = (over_of (share y).written a p ≡ over_of (share x).written a p) × AgreeAt a p xs ys

  -- so they change it alike
  agree_changes : (was now m n : Memory) (xs ys : List T) (a p : ℕ) → length (cells_of was a) ≡ length (cells_of now a) → cell_at was a p ≡ cell_at now a p
      → p < length (cells_of m a) → p < length (cells_of n a) → cell_at m a p ≡ cell_at n a p → AgreeAt a p xs ys
      → cell_at (with_changes share now ys n) a p ≡ cell_at (with_changes share was xs m) a p
  agree_changes was now m n [] [] a p long own within inside same h = sym same
  agree_changes was now m n [] (y ∷ ys) a p long own within inside same h = absurd h
  agree_changes was now m n (x ∷ xs) [] a p long own within inside same h = absurd h
  agree_changes was now m n (x ∷ xs) (y ∷ ys) a p long own within inside same h =
      let before = changes_of was (over_of (share x).written) in
      let after = changes_of now (over_of (share y).written) in
      let alike : before a p ≡ after a p = left_alike was now (over_of (share x).written) (over_of (share y).written) a p long own (sym h.0) in
      agree_changes was now (under before m) (under after n) xs ys a p long own (subst (λ k. p < k) (sym (as_long m before a)) within)
      (subst (λ k. p < k) (sym (as_long n after a)) inside)
      (covered m before a p within ∙ (λ i. unwrap_or (alike i) (same i)) ∙ sym (covered n after a p inside))
      h.1

  off_agrees : (id index : ℕ) (ys zs : List T) (a p : ℕ) → is_on id index a p ≡ false → AreChanged share (written_off id index) ys zs → AgreeAt a p ys zs
  off_agrees id index [] [] a p off h = tt
  off_agrees id index [] (z ∷ zs) a p off h = absurd h
  off_agrees id index (y ∷ ys) [] a p off h = absurd h
  off_agrees id index (y ∷ ys) (z ∷ zs) a p off h =
      ((λ i. h.2 i a p) ∙ off_elsewhere id index (over_of (share y).written) a p off, off_agrees id index ys zs a p off h.3)

  kept_agrees : (id index : ℕ) (m : Memory) (xs ys : List T) (a p : ℕ) → is_on id index a p ≡ false → AreChanged share (changes_on_page id index m) xs ys → AgreeAt a p xs ys
  kept_agrees id index m [] [] a p off h = tt
  kept_agrees id index m [] (y ∷ ys) a p off h = absurd h
  kept_agrees id index m (x ∷ xs) [] a p off h = absurd h
  kept_agrees id index m (x ∷ xs) (y ∷ ys) a p off h = (
    (λ i. h.2 i a p) ∙ left_elsewhere id index m (over_of (share x).written) a p off,
    kept_agrees id index m xs ys a p off h.3,
  )

  behind_agrees : (id index : ℕ) (m : Memory) (xs ys : List T) (a p : ℕ) → is_on id index a p ≡ false → AreChangedBehind share (changes_on_page id index m) xs ys → AgreeAt a p xs ys
  behind_agrees id index m [] [] a p off h = tt
  behind_agrees id index m [] (y ∷ ys) a p off h = absurd h
  behind_agrees id index m (x ∷ xs) [] a p off h = absurd h
  behind_agrees id index m (x ∷ xs) (y ∷ ys) a p off h = (ap (λ (t : T). over_of (share t).written a p) h.0, kept_agrees id index m xs ys a p off h.1)

  both_agree : (xs ys zs : List T) (a p : ℕ) → AgreeAt a p xs ys → AgreeAt a p ys zs → AgreeAt a p xs zs
  both_agree [] [] [] a p h k = tt
  both_agree [] [] (z ∷ zs) a p h k = absurd k
  both_agree [] (y ∷ ys) zs a p h k = absurd h
  both_agree (x ∷ xs) [] zs a p h k = absurd h
  both_agree (x ∷ xs) (y ∷ ys) [] a p h k = absurd k
  both_agree (x ∷ xs) (y ∷ ys) (z ∷ zs) a p h k = (k.0 ∙ h.0, both_agree xs ys zs a p h.1 k.1)

  -- the scalars of tasks whose written values are changed
  changed_own : (f : (ℕ → ℕ → Option ℤ) → ℕ → ℕ → Option ℤ) (xs ys : List T) → AreChanged share f xs ys → map (λ x. (share x).scalars) ys ≡ map (λ x. (share x).scalars) xs
  changed_own f [] [] h = refl
  changed_own f [] (y ∷ ys) h = absurd h
  changed_own f (x ∷ xs) [] h = absurd h
  changed_own f (x ∷ xs) (y ∷ ys) h = λ i. h.0 i ∷ changed_own f xs ys h.3 i

  behind_own : (f : (ℕ → ℕ → Option ℤ) → ℕ → ℕ → Option ℤ) (xs ys : List T) → AreChangedBehind share f xs ys → map (λ x. (share x).scalars) ys ≡ map (λ x. (share x).scalars) xs
  behind_own f [] [] h = refl
  behind_own f [] (y ∷ ys) h = absurd h
  behind_own f (x ∷ xs) [] h = absurd h
  behind_own f (x ∷ xs) (y ∷ ys) h = λ i. (share (h.0 i)).scalars ∷ changed_own f xs ys h.1 i

  -- a page that is kept and then moved changes nothing of what is gathered
  pub page_settled : (id index : ℕ) (m n : Memory) (xs ys zs : List T) → AreChangedBehind share (changes_on_page id index m) xs ys
      → AreChanged share (written_off id index) ys zs → n ≡ with_page share id index ys m → AreGatheredAlike share m xs n zs
  page_settled id index m n xs ys zs kept moved is =
      subst (λ (s : Memory). AreGatheredAlike share m xs s zs) (sym is)
      (λ i. record { scalars = same_scalars i; arrays = same_arrays i; printed = same_printed i }, changed_own (written_off id index) ys zs moved ∙ behind_own (changes_on_page id index m) xs ys kept)
    where
      new : Memory
      new = with_page share id index ys m

      same_scalars : (with_changes share new zs new).scalars ≡ (with_changes share m xs m).scalars
      same_scalars = changes_scalars share new new zs ∙ page_scalars share id index ys m ∙ sym (changes_scalars share m m xs)

      same_printed : (with_changes share new zs new).printed ≡ (with_changes share m xs m).printed
      same_printed = changes_printed share new new zs ∙ page_printed share id index ys m ∙ sym (changes_printed share m m xs)

      by : (a p : ℕ) → p < length (cells_of m a) → (is_on id index a p ≡ true) ⊎ (is_on id index a p ≡ false)
          → cell_at (with_changes share new zs new) a p ≡ cell_at (with_changes share m xs m) a p
      by a p within (inl on) =
          none_here share id index new new ys zs a p (subst (λ k. p < k) (sym (page_long share id index ys m a)) within) on moved
          ∙ page_behind share id index m xs ys a p within on kept
      by a p within (inr off) =
          let own : cell_at m a p ≡ cell_at new a p = sym (page_elsewhere share id index ys m a p within off) in
          agree_changes m new m new xs zs a p (sym (page_long share id index ys m a)) own within (subst (λ k. p < k) (sym (page_long share id index ys m a)) within) own
          (both_agree xs ys zs a p (behind_agrees id index m xs ys a p off kept) (off_agrees id index ys zs a p off moved))

      long : (a : ℕ) → length (cells_of (with_changes share new zs new) a) ≡ length (cells_of m a)
      long a = changes_long share new new zs a ∙ page_long share id index ys m a

      same_arrays : (with_changes share new zs new).arrays ≡ (with_changes share m xs m).arrays
      same_arrays =
          ext_get_or [] (with_changes share new zs new).arrays (with_changes share m xs m).arrays
          (changes_many share new new zs ∙ page_many share id index ys m ∙ sym (changes_many share m m xs))
          (λ a there.
          ext_get_or (pos 0) (cells_of (with_changes share new zs new) a) (cells_of (with_changes share m xs m) a) (long a ∙ sym (changes_long share m m xs a))
          (λ p within. by a p (subst (λ k. p < k) (long a) within) (either (is_on id index a p))))

  -- nothing changes of it where nothing is done, nor where it stays twice
  pub alike_begins : (m : Memory) (xs : List T) → AreGatheredAlike share m xs m xs
  alike_begins m xs = (refl, refl)

  pub alike_on : (m n o : Memory) (xs ys zs : List T) → AreGatheredAlike share m xs n ys → AreGatheredAlike share n ys o zs → AreGatheredAlike share m xs o zs
  alike_on m n o xs ys zs h k = (k.0 ∙ h.0, k.1 ∙ h.1)

  -- as many arrays, and the same scalars, stand then
  pub alike_many : (m n : Memory) (xs ys : List T) → AreGatheredAlike share m xs n ys → length n.arrays ≡ length m.arrays
  alike_many m n xs ys h = sym (changes_many share n n ys) ∙ ap (λ (s : Memory). length s.arrays) h.0 ∙ changes_many share m m xs

  pub alike_there : (rs : List (ℕ × Fold)) (m n : Memory) (xs ys : List T) → AreGatheredAlike share m xs n ys → AreThere rs m.scalars → AreThere rs n.scalars
  alike_there rs m n xs ys h there =
      subst (AreThere rs) (sym (sym (changes_scalars share n n ys) ∙ ap (λ (s : Memory). s.scalars) h.0 ∙ changes_scalars share m m xs)) there

  -- a number joined with those that tasks have of a scalar
  abbrev joined_from : ℕ → Fold → ℤ → List (List ℤ) → ℤ
  joined_from x f now [] = now
  joined_from x f now (scalars ∷ rest) = joined_from x f (join_of f now (slice_index_or scalars x (pos 0))) rest

  joined_own : (x : ℕ) (f : Fold) (now : ℤ) (tasks : List T) → joined_with share x f now tasks ≡ joined_from x f now (map (λ t. (share t).scalars) tasks)
  joined_own x f now [] = refl
  joined_own x f now (t ∷ rest) = joined_own x f (join_of f now (own_scalar x (share t))) rest

  joins_own : (rs : List (ℕ × Fold)) (m : Memory) (xs ys : List T) → map (λ t. (share t).scalars) ys ≡ map (λ t. (share t).scalars) xs → with_joined share rs ys m ≡ with_joined share rs xs m
  joins_own [] m xs ys own = refl
  joins_own (r ∷ rest) m xs ys own =
      joins_own rest (assign r.0 (joined_with share r.0 r.1 (scalar_at m r.0) ys) m) xs ys own
      ∙ ap (λ (v : ℤ). with_joined share rest xs (assign r.0 v m))
      (joined_own r.0 r.1 (scalar_at m r.0) ys ∙ ap (joined_from r.0 r.1 (scalar_at m r.0)) own ∙ sym (joined_own r.0 r.1 (scalar_at m r.0) xs))

  -- and what is gathered in the end is the same
  pub alike_gathered : (rs : List (ℕ × Fold)) (m n : Memory) (xs ys : List T) → AreGatheredAlike share m xs n ys → gathered share rs ys n ≡ gathered share rs xs m
  alike_gathered rs m n xs ys h = joins_own rs (with_changes share n ys n) xs ys h.1 ∙ ap (with_joined share rs xs) h.0

  -- a task that isn't changed yet is the next one
  next_page : (id index n : ℕ) (f : (ℕ → ℕ → Option ℤ) → ℕ → ℕ → Option ℤ) (xs ys : List T) (x : T) (m : Memory) → n < length ys → get_or ys n x ≡ x → AreChangedBelow share n f xs ys
      → with_page share id index (drop (suc n) xs) (under (written_on id index (over_of (share x).written)) m) ≡ with_page share id index (drop n xs) m
  next_page id index n f xs [] x m below is h = absurd (omega (arith, below))
  next_page id index zero f xs (y ∷ ys) x m below is h =
      ap (λ (ts : List T). with_page share id index (drop 1 ts) (under (written_on id index (over_of (share x).written)) m)) h
      ∙ ap (λ (t : T). with_page share id index ys (under (written_on id index (over_of (share t).written)) m)) (sym is)
      ∙ ap (λ (ts : List T). with_page share id index ts m) (sym h)
  next_page id index (suc n) f [] (y ∷ ys) x m below is h = absurd h
  next_page id index (suc n) f (w ∷ xs) (y ∷ ys) x m below is h = next_page id index n f xs ys x m (omega (arith, below)) is h.3

  pub page_on : (id index n : ℕ) (f : (ℕ → ℕ → Option ℤ) → ℕ → ℕ → Option ℤ) (xs ys : List T) (x : T) (m : Memory) → n < length ys → get_or ys n x ≡ x → AreChangedBelow share n f xs ys
      → with_page share id index (drop (n + 1) xs) (under (written_on id index (over_of (share x).written)) m) ≡ with_page share id index (drop n xs) m
  page_on id index n f xs ys x m below is h =
      subst (λ (k : ℕ). with_page share id index (drop k xs) (under (written_on id index (over_of (share x).written)) m) ≡ with_page share id index (drop n xs) m)
      (let e : suc n ≡ n + 1 = omega arith in e) (next_page id index n f xs ys x m below is h)
