-- Numbers whose lines are put one part after another.
use Rattle.std.proofs.Common.{◌≡◌, ℕ, ◌-◌, ℤ, List, ◌++◌, take, drop, length, sym, ap, subst, ◌∙◌, arith, Ok, Err}
use Rattle.std.specs.Prelude.{OnOk}
use Rattle.std.specs.declared.option.Option.{Option}
use Rattle.std.specs.declared.result.Result.{Result}
use Rattle.std.proofs.lemmas.List.{take-append-drop, take_all, length-drop}
use Rattle.std.proofs.lemmas.List.Concat.{flat_map-append}
use Rattle.fate_io.specs.Sending.{Sends}
use Rattle.fate_io.specs.declared.sending.SendFault.{SendFault}
use Rattle.fate_io.proofs.Texts.{sends_both}
use Rattle.morta_text.specs.Texts.{number_line, number_lines}
use Rattle.morta_exec.specs.Puts.{HasPut}

lines_split : (shown : ℕ) (xs : List ℤ) → number_lines (take shown xs) ++ number_lines (drop shown xs) ≡ number_lines xs
lines_split shown xs = sym (flat_map-append number_line (take shown xs) (drop shown xs)) ∙ ap number_lines (take-append-drop shown xs)

-- the slice from here on
slice_from : (shown : ℕ) (xs ys : List ℤ) → ys ≡ xs → take (length ys - shown) (drop shown ys) ≡ drop shown xs
slice_from shown xs ys same = take_all (length ys - shown) (drop shown ys) (omega (arith, length-drop shown ys)) ∙ ap (drop shown) same

-- the first numbers were put, and then those behind them were sent: so were all
pub sends_behind : {T : Type 0} (a b c : Option (List ℕ)) (f g h shown : ℕ) (xs ys : List ℤ) (result : Result T SendFault)
    → ys ≡ xs → HasPut (record { before = a; after = b; faults_before = f; faults = g }) (take shown xs)
    → Sends (record { before = b; after = c; faults_before = g; faults = h }) (number_lines (take (length ys - shown) (drop shown ys))) result
    → Sends (record { before = a; after = c; faults_before = f; faults = h }) (number_lines xs) result
sends_behind a b c f g h shown xs ys result same before this =
    subst (λ (l : List ℕ). Sends (record { before = a; after = c; faults_before = f; faults = h }) l result) (lines_split shown xs)
    (sends_both a b c f g h _ _ result before.put (omega (arith, before.kept))
    (subst (λ (zs : List ℤ). Sends (record { before = b; after = c; faults_before = g; faults = h }) (number_lines zs) result) (slice_from shown xs ys same) this))

-- where that found no fault, exactly all were put
pub puts_behind : {T : Type 0} (a b c : Option (List ℕ)) (f g h shown : ℕ) (xs ys : List ℤ) (result : Result T SendFault)
    → ys ≡ xs → HasPut (record { before = a; after = b; faults_before = f; faults = g }) (take shown xs)
    → Sends (record { before = b; after = c; faults_before = g; faults = h }) (number_lines (take (length ys - shown) (drop shown ys))) result
    → OnOk result (h ≡ g)
    → OnOk result (HasPut (record { before = a; after = c; faults_before = f; faults = h }) xs)
puts_behind a b c f g h shown xs ys (Ok x) same before this kept = record {
  put = sends_behind a b c f g h shown xs ys (Ok x) same before this;
  kept = kept ∙ before.kept;
}
puts_behind a b c f g h shown xs ys (Err fault) same before this kept = tt
