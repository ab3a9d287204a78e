-- What a guard asks holds exactly where the guard of its loop holds.
use Rattle.std.proofs.Common.{◌≡◌, ℕ, Bool, true, false, ℤ, [], ◌∷◌, length, sym, ap, ◌∙◌, if◌then◌else◌}
use Rattle.std.specs.Prelude.{int_le, nat_le}
use Rattle.nona_tree.specs.declared.trees.Loop.{Loop}
use Rattle.nona_tree.specs.Memory.{Memory}
use Rattle.nona_forms.specs.declared.limits.TheConstants.{ACCESSES}
use Rattle.nona_forms.specs.Calm.{is_calm, is_calm_all}
use Rattle.nona_forms.specs.Guards.{fits_all, ranges_of, guard_of}
use Rattle.nona_forms.specs.References.{references_all, names_of}
use Rattle.nona_guard.specs.declared.guards.Guard.{Guard}
use Rattle.nona_guard.specs.Checks.{ranges_by}
use Rattle.nona_guard.specs.Guards.{asked_by, IsGuardOf, MayBeAsked, index_bound, holds_guard}
use Rattle.nona_guard.proofs.AskedLaws.{both_true, all_is, entry_ranges}
use Rattle.nona_guard.proofs.Ready.{guard_ready}

asked_holds : (l : Loop) (m : Memory) (low last : ℤ) (n : ℕ) → is_calm l ≡ true → length m.scalars ≡ l.index.id → holds_guard (asked_by l) m low last n ≡ fits_all l.body (names_of l) (ranges_of l m low last) m n
asked_holds l m low last n calm deep =
    all_is l.body (names_of l) (ranges_by l.index.id m (index_bound l.index.id low last ∷ [])) m n (both_true (is_calm_all l.body (names_of l)) (nat_le (length (references_all l.body)) ACCESSES) calm).0
    ∙ ap (λ ranges. fits_all l.body (names_of l) ranges m n) (entry_ranges l m low last deep)

holds_is : (l : Loop) (g : Guard) (m : Memory) (low last : ℤ) (n : ℕ) → MayBeAsked g m → IsGuardOf l g → holds_guard g m low last n ≡ fits_all l.body (names_of l) (ranges_of l m low last) m n
holds_is l g m low last n may is =
    let deep : length m.scalars ≡ l.index.id = (guard_ready g m may).index ∙ ap (λ (x : Guard). x.index) is.1 in
    ap (λ (x : Guard). holds_guard x m low last n) is.1 ∙ asked_holds l m low last n is.0 deep

pub guard_over : (l : Loop) (m : Memory) (low last : ℤ) (n : ℕ) (b : Bool) → b ≡ int_le last low → b ≡ true → true ≡ guard_of l m low last n
guard_over l m low last n b e h = ap (λ x. if x then true else fits_all l.body (names_of l) (ranges_of l m low last) m n) (sym h ∙ e)

pub guard_held : (l : Loop) (g : Guard) (m : Memory) (low last : ℤ) (n : ℕ) (b : Bool) → b ≡ int_le last low → b ≡ false → MayBeAsked g m → IsGuardOf l g → holds_guard g m low last n ≡ guard_of l m low last n
guard_held l g m low last n b e h may is =
    holds_is l g m low last n may is ∙ ap (λ x. if x then true else fits_all l.body (names_of l) (ranges_of l m low last) m n) (sym h ∙ e)
