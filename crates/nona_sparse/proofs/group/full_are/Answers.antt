use Rattle.std.proofs.Common.{is_some, ◌≡◌, ◌∙◌, Bool, ◌+◌, ◌<◌, ◌≤◌, ◌⊎◌, inl, inr, ℕ, List, ℤ, ap, sym, arith, pos, map, Some, None, to_z, of_z, w64}
use Rattle.std.proofs.lemmas.Bool.{cases_lt}
use Rattle.std.proofs.lemmas.Int.{to_z-of_z}
use Rattle.std.proofs.lemmas.List.{get_or-map}
use Rattle.nona_sparse.specs.Sparse.{at_page, change_at, if_left}
use Rattle.nona_sparse.proofs.Choosing.{same_test}
use Rattle.nona_sparse.proofs.Leaving.{change_is}
use Rattle.nona_sparse.proofs.group.full_are.Goals as goal

-- one more value differs, or is the same
next : (left : Bool) (values cells : List ℤ) (first place : ℕ)
    → ((q : ℕ) → q < place → change_at cells (first + q) (at_page (map Some values) q) ≡ if_left left (at_page (map Some values) q))
    → change_at cells (first + place) (at_page (map Some values) place) ≡ if_left left (at_page (map Some values) place)
    → (q : ℕ) → q < place + 1 → change_at cells (first + q) (at_page (map Some values) q) ≡ if_left left (at_page (map Some values) q)
next left values cells first place each this = λ q below. by q below (cases_lt q place) where
  by : (q : ℕ) → q < place + 1 → (q < place) ⊎ (place ≤ q) → change_at cells (first + q) (at_page (map Some values) q) ≡ if_left left (at_page (map Some values) q)
  by q below (inl before) = each q before
  by q below (inr above) =
      let same : place ≡ q = omega (arith, below, above) in
      ap (λ n. change_at cells (first + n) (at_page (map Some values) n)) (sym same) ∙ this ∙ ap (λ n. if_left left (at_page (map Some values) n)) same

pub places-preserved : goal.places-preserved
places-preserved c =
    let place = c.places.place in
    let values = c.args.values.now in
    let cells = c.args.cells.now in
    let at = c.args.first + place in
    let within = c.places-test.true in
    let value : Some (to_z w64 (of_z w64 c.value_behind-value.result)) ≡ at_page (map Some values) place =
    ap Some (to_z-of_z w64 c.value_behind-value.result (record { sfits = c.value_behind-value.type_inv }) ∙ c.value_behind-value.ensures)
    ∙ sym (get_or-map Some values place (pos 0) None (omega (arith, within, c.requires.full))) in
    let left : c.left_of.result ≡ change_at cells at (at_page (map Some values) place) = c.left_of.ensures ∙ ap (change_at cells at) value in
    next c.args.differ values cells c.args.first place c.places.invariant
    (change_is cells at (at_page (map Some values) place) c.args.differ
    (ap is_some (sym left) ∙ sym c.is_some.ensures ∙ same_test c.is_some.result c.args.differ c.if-is_some-differ.false))
