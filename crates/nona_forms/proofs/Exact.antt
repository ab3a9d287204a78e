-- Where the exact value of a form is a number of 64 bits, it is the value.
use Rattle.std.proofs.Common.{◌≡◌, ℕ, ◌<◌, ◌≤◌, ◌^◌, ◌&&◌, true, ℤ, pos, negsuc, List, [], length, refl, sym, ap, ◌∙◌, subst, arith, Some, ⊎_elim}
use Rattle.std.proofs.lemmas.Bool.{cases_lt}
use Rattle.std.proofs.lemmas.Int.{ints, int_wrap_fits}
use Rattle.std.proofs.lemmas.List.{get_or_past}
use Rattle.std.specs.Int.{w64}
use Rattle.std.specs.Prelude.{Ok, Err, IfOk, int_le, nat_le}
use Rattle.std.specs.List.{list_all}
use Rattle.nona_num.specs.Numbers.{wrapped}
use Rattle.nona_tree.specs.declared.trees.Expr.{Expr}
use Rattle.nona_tree.specs.Memory.{Memory, scalar_at, cells_of}
use Rattle.nona_tree.specs.Numbers.{IsI64, AreI64, IsI64Expr}
use Rattle.nona_tree.specs.Value.{Answer, value_of}
use Rattle.nona_tree.proofs.I64.{value_fits}
use Rattle.nona_forms.specs.Affine.{Affine, form_at, no_terms, is_constant, is_coefficient, form_of}
use Rattle.nona_forms.proofs.FormValues.{Means, value_means, one_value, no_value, constant_alone}
use Rattle.nona_forms.proofs.Named.{IsForm, form_is}
use Rattle.nona_forms.proofs.InBoxes.{both_true}

-- two numbers of 64 bits that agree when wrapped are one
pub same_wrapped : (a b : ℤ) → IsI64 a → IsI64 b → wrapped a ≡ wrapped b → a ≡ b
same_wrapped a b h g e = sym (int_wrap_fits w64 a h) ∙ e ∙ int_wrap_fits w64 b g

pub fits_found : (o : Answer) (v : ℤ) → IfOk o IsI64 → o ≡ Ok v → IsI64 v
fits_found (Ok a) v h e = subst IsI64 (one_value (Ok a) a v refl e) h
fits_found (Err t) v h e = absurd (no_value (Err t) t v refl e)

-- where the exact value of a form has 64 bits, it is the value
pub exact_value : (e : Expr) (names : List ℕ) (m : Memory) (f : Affine) → form_of e names ≡ Some f → IsI64Expr e → AreI64 m → IsI64 (form_at (scalar_at m) f)
    → value_of e m ≡ Ok (form_at (scalar_at m) f)
exact_value e names m f form written numbers fits =
    let h : Means m (value_of e m) (Some f) = subst (Means m (value_of e m)) form (value_means e names m) in
    h.1 ∙ ap Ok (same_wrapped h.0 (form_at (scalar_at m) f) (fits_found (value_of e m) h.0 (value_fits e m written numbers) h.1) fits h.2)

fits_between : (c : ℤ) → int_le (negsuc 9223372036854775806) c ≡ true → int_le c (pos 9223372036854775807) ≡ true → IsI64 c
fits_between c h g = omega (arith, ints)

constant_fits : (c : ℤ) → is_constant c ≡ true → IsI64 c
constant_fits c h =
    let both = both_true (int_le (negsuc 9223372036854775806) c) (int_le c (pos 9223372036854775807)) h in
    fits_between c both.0 both.1

-- a form's constant
pub form_constant : (e : Expr) (names : List ℕ) (f : Affine) → form_of e names ≡ Some f → IsI64 f.constant
form_constant e names f form =
    let h : IsForm names (Some f) = subst (IsForm names) form (form_is e names) in
    constant_fits f.constant (both_true (is_constant f.constant) (nat_le (length f.terms) 1048576 && list_all (λ t. is_coefficient t.coefficient) f.terms) h.0).0

-- the value where a form has no terms
pub constant_value : (e : Expr) (names : List ℕ) (m : Memory) (f : Affine) (v : ℤ) → form_of e names ≡ Some f → no_terms f.terms ≡ true → IsI64Expr e → AreI64 m → value_of e m ≡ Ok v
    → v ≡ f.constant
constant_value e names m f v form none written numbers value =
    let alone = constant_alone (scalar_at m) f.constant f.terms none in
    one_value (value_of e m) v f.constant value (exact_value e names m f form written numbers (subst IsI64 (sym alone) (form_constant e names f form)) ∙ ap Ok alone)

-- an array has fewer than 2^63 cells
pub few_cells : (m : Memory) (id : ℕ) → AreI64 m → length (cells_of m id) < 2 ^ 63
few_cells m id h =
    ⊎_elim
    (λ (within : id < length m.arrays). (h.arrays id [] within).0)
    (λ (past : length m.arrays ≤ id). subst (λ (cells : List ℤ). length cells < 2 ^ 63) (sym (get_or_past m.arrays id [] past)) (omega arith))
    (cases_lt id (length m.arrays))
