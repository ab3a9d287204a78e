-- The value of an expression depends on nothing that its deeds don't name.
use Rattle.std.proofs.Common.{◌≡◌, ℕ, ℤ, pos, Bool, List, [], ◌∷◌, ◌++◌, length, refl, ap, ◌∙◌}
use Rattle.std.specs.Prelude.{Result, Ok, Err, All}
use Rattle.std.specs.List.{AllByRecursion}
use Rattle.std.proofs.lemmas.List.Elements.{recursion_from_All}
use Rattle.nona_num.specs.Numbers.{neg_of}
use Rattle.nona_tree.specs.declared.outcomes.Trap.{Trap}
use Rattle.nona_tree.specs.declared.names.Use.{Use}
use Rattle.nona_tree.specs.declared.trees.Expr.{Expr, Number, Scalar, Cell', Len, Neg', Not', Binary', more_of-Expr, end_of-Expr}
use Rattle.nona_tree.specs.declared.trees.Expr.TheBlock.{more_of-Access, end_of-Access}
use Rattle.nona_tree.specs.Memory.{Memory, cells_of, cell_at}
use Rattle.nona_tree.specs.Value.{Answer, then_use, from_test, is_zero, apply, place_of, value_of, cell_of}
use Rattle.nona_tree.specs.Beside.{on_ok}
use Rattle.nona_tree.specs.Deeds.{Deed, loads, value_deeds, SeesSame, SameSizes}
use Rattle.nona_tree.proofs.DeedLaws.{each_of_both}

-- what stands at a place that was found
same_cell : (m k : Memory) (array : ℕ) (o : Result ℕ Trap) → AllByRecursion (SeesSame m k) (on_ok o (λ place. loads array place ∷ []))
    → then_use o (λ place. Ok (cell_at k array place)) ≡ then_use o (λ place. Ok (cell_at m array place))
same_cell m k array (Ok place) seen = ap Ok seen.0
same_cell m k array (Err t) seen = refl

-- a cell whose index has a value, or a trap
same_at : (m k : Memory) (array : Use) (wrap : Bool) (o : Answer) → AllByRecursion (SeesSame m k) (on_ok (then_use o (λ i. place_of wrap array.at (length (cells_of m array.id)) i)) (λ place. loads array.id place ∷ []))
    → then_use o (λ i. then_use (place_of wrap array.at (length (cells_of m array.id)) i) (λ place. Ok (cell_at k array.id place)))
    ≡ then_use o (λ i. then_use (place_of wrap array.at (length (cells_of m array.id)) i) (λ place. Ok (cell_at m array.id place)))
same_at m k array wrap (Ok i) seen = same_cell m k array.id (place_of wrap array.at (length (cells_of m array.id)) i) seen
same_at m k array wrap (Err t) seen = refl

-- the right part of an operator, where the left one has a value
same_right : (S : Deed → Type 0) (o x y : Answer) (f : ℤ → ℤ → Answer) (given : List Deed) → (AllByRecursion S given → y ≡ x)
    → AllByRecursion S (on_ok o (λ v. given)) → then_use o (λ a. then_use y (f a)) ≡ then_use o (λ a. then_use x (f a))
same_right S (Ok a) x y f given h seen = ap (λ q. then_use q (f a)) (h seen)
same_right S (Err t) x y f given h seen = refl

-- and what it gives
same_given : (S : Deed → Type 0) (o : Answer) (xs ys : List Deed) → (AllByRecursion S xs → ys ≡ xs)
    → AllByRecursion S (on_ok o (λ v. xs)) → on_ok o (λ v. ys) ≡ on_ok o (λ v. xs)
same_given S (Ok a) xs ys h seen = h seen
same_given S (Err t) xs ys h seen = refl

same_value : (e : Expr) (m k : Memory) → SameSizes m k → AllByRecursion (SeesSame m k) (value_deeds e m) → value_of e k ≡ value_of e m
same_value (Number v) m k sizes seen = refl
same_value (Scalar x) m k sizes seen = ap Ok seen.0
same_value (Cell' p (more_of-Access array wrap index end_of-Access)) m k sizes seen =
    let parts = each_of_both (SeesSame m k) (value_deeds index m) _ seen in
    ap (λ o. then_use o (λ i. then_use (place_of wrap array.at (length (cells_of k array.id)) i) (λ place. Ok (cell_at k array.id place)))) (same_value index m k sizes parts.0)
    ∙ ap (λ count. then_use (value_of index m) (λ i. then_use (place_of wrap array.at count i) (λ place. Ok (cell_at k array.id place)))) (sizes array.id)
    ∙ same_at m k array wrap (value_of index m) parts.1
same_value (Len a) m k sizes seen = ap (λ (count : ℕ). Ok (pos count)) (sizes a.id)
same_value (Neg' p (more_of-Expr e end_of-Expr)) m k sizes seen = ap (λ o. then_use o (λ v. Ok (neg_of v))) (same_value e m k sizes seen)
same_value (Not' p (more_of-Expr e end_of-Expr)) m k sizes seen =
    ap (λ o. then_use o (λ v. Ok (from_test (is_zero v)))) (same_value e m k sizes seen)
same_value (Binary' op at p (more_of-Expr left end_of-Expr) q (more_of-Expr right end_of-Expr)) m k sizes seen =
    let parts = each_of_both (SeesSame m k) (value_deeds left m) _ seen in
    ap (λ o. then_use o (λ a. then_use (value_of right k) (λ b. apply op at a b))) (same_value left m k sizes parts.0)
    ∙ same_right (SeesSame m k) (value_of left m) (value_of right m) (value_of right k) (λ a b. apply op at a b) (value_deeds right m) (λ later. same_value right m k sizes later) parts.1

same_deeds : (e : Expr) (m k : Memory) → SameSizes m k → AllByRecursion (SeesSame m k) (value_deeds e m) → value_deeds e k ≡ value_deeds e m
same_deeds (Number v) m k sizes seen = refl
same_deeds (Scalar x) m k sizes seen = refl
same_deeds (Cell' p (more_of-Access array wrap index end_of-Access)) m k sizes seen =
    let parts = each_of_both (SeesSame m k) (value_deeds index m) _ seen in
    ap (λ given. given ++ on_ok (cell_of (record { array = array; wrap = wrap; index = index }) k) (λ place. loads array.id place ∷ [])) (same_deeds index m k sizes parts.0)
    ∙ ap (λ o. value_deeds index m ++ on_ok (then_use o (λ i. place_of wrap array.at (length (cells_of k array.id)) i)) (λ place. loads array.id place ∷ [])) (same_value index m k sizes parts.0)
    ∙ ap (λ count. value_deeds index m ++ on_ok (then_use (value_of index m) (λ i. place_of wrap array.at count i)) (λ place. loads array.id place ∷ [])) (sizes array.id)
same_deeds (Len a) m k sizes seen = refl
same_deeds (Neg' p (more_of-Expr e end_of-Expr)) m k sizes seen = same_deeds e m k sizes seen
same_deeds (Not' p (more_of-Expr e end_of-Expr)) m k sizes seen = same_deeds e m k sizes seen
same_deeds (Binary' op at p (more_of-Expr left end_of-Expr) q (more_of-Expr right end_of-Expr)) m k sizes seen =
    let parts = each_of_both (SeesSame m k) (value_deeds left m) _ seen in
    ap (λ given. given ++ on_ok (value_of left k) (λ v. value_deeds right k)) (same_deeds left m k sizes parts.0)
    ∙ ap (λ o. value_deeds left m ++ on_ok o (λ v. value_deeds right k)) (same_value left m k sizes parts.0)
    ∙ ap (λ given. value_deeds left m ++ given) (same_given (SeesSame m k) (value_of left m) (value_deeds right m) (value_deeds right k) (λ later. same_deeds right m k sizes later) parts.1)

pub value_from_what_it_sees : (e : Expr) (m k : Memory) → SameSizes m k → All (SeesSame m k) (value_deeds e m) → value_of e k ≡ value_of e m
value_from_what_it_sees e m k sizes seen = same_value e m k sizes (recursion_from_All (SeesSame m k) (value_deeds e m) seen)

pub deeds_from_what_it_sees : (e : Expr) (m k : Memory) → SameSizes m k → All (SeesSame m k) (value_deeds e m) → value_deeds e k ≡ value_deeds e m
deeds_from_what_it_sees e m k sizes seen = same_deeds e m k sizes (recursion_from_All (SeesSame m k) (value_deeds e m) seen)
