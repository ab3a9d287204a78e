-- Where the guard of an entry holds, each iteration is done.
use Rattle.std.proofs.Common.{◌≡◌, ℕ, ◌<◌, ◌≤◌, ◌+◌, ◌&&◌, IsTrue, Bool, true, false, ℤ, pos, negsuc, ◌+ℤ◌, ◌-ℤ◌, ◌≤ℤ◌, ◌<ℤ◌, List, [], ◌∷◌, length, refl, sym, ap, ◌∙◌, subst, arith, if◌then◌else◌, length-append}
use Rattle.std.proofs.lemmas.Int.{ints}
use Rattle.std.specs.Int.{int_gap}
use Rattle.std.specs.Prelude.{int_le, nat_le}
use Rattle.nona_num.specs.declared.range.Range.{Range}
use Rattle.nona_tree.specs.declared.outcomes.Outcome.TheVariants as outcome
use Rattle.nona_tree.specs.declared.trees.Loop.{Loop}
use Rattle.nona_tree.specs.declared.trees.Stmt.{Stmt, For, Row_of-Stmt, end_of-Stmt, more_of-Stmt, items-the_row-Stmt, items_hidden-the_row-Stmt-0}
use Rattle.nona_tree.specs.declared.trees.Stmt.TheBlock.{hidden-the_row-Stmt-0}
use Rattle.nona_tree.specs.Memory.{Memory, scalar_at, declare}
use Rattle.nona_tree.specs.Numbers.{IsI64}
use Rattle.nona_tree.specs.Entries.{Entry, after}
use Rattle.nona_tree.specs.Run.{run_all, turn, first_turns}
use Rattle.nona_tree.specs.Scope.{IsRowScoped, IsSteady, IsRowSteady}
use Rattle.nona_tree.specs.Value.{value_of}
use Rattle.nona_tree.proofs.Equations.{run_body}
use Rattle.nona_tree.proofs.I64.{value_fits}
use Rattle.nona_forms.specs.declared.limits.TheConstants.{ACCESSES}
use Rattle.nona_forms.specs.Affine.{among}
use Rattle.nona_forms.specs.References.{references_all, assigned_all, invariants_of, names_of}
use Rattle.nona_forms.specs.Calm.{is_calm, is_calm_stmt, is_calm_row, is_calm_all}
use Rattle.nona_forms.specs.Guards.{with_range, fits_stmt, fits_row, fits_all, ranges_of, guard_of}
use Rattle.nona_forms.specs.Boxes.{point}
use Rattle.nona_forms.specs.Separate.{IsLoopEntry}
use Rattle.nona_forms.proofs.Steadier.{assigned_body, steady_row_more, missing}
use Rattle.nona_forms.proofs.InBoxes.{both_true}
use Rattle.nona_forms.proofs.Exact.{fits_found}
use Rattle.nona_forms.proofs.Fitting.{IsWithin, at_point}
use Rattle.nona_forms.proofs.FitsDone.{IsDone, index_within, i64_between, turns_done, row_done}

-- the rows of a block are the list of its statements
calm_row_at : (k : _) (row : Row_of-Stmt k) (names : List ℕ) → is_calm_row row names ≡ is_calm_all (items-the_row-Stmt k row) names
calm_row_at k end_of-Stmt names = refl
calm_row_at k (more_of-Stmt s rest) names = ap (λ b. is_calm_stmt s names && b) (calm_row_at _ rest names)

calm_body : (body : List Stmt) (names : List ℕ) → is_calm_row (hidden-the_row-Stmt-0 body) names ≡ is_calm_all body names
calm_body body names = calm_row_at _ (hidden-the_row-Stmt-0 body) names ∙ ap (λ (ss : List Stmt). is_calm_all ss names) (items_hidden-the_row-Stmt-0 body)

fits_row_at : (k : _) (row : Row_of-Stmt k) (names : List ℕ) (ranges : ℕ → Range) (m : Memory) (n : ℕ) → fits_row row names ranges m n ≡ fits_all (items-the_row-Stmt k row) names ranges m n
fits_row_at k end_of-Stmt names ranges m n = refl
fits_row_at k (more_of-Stmt s rest) names ranges m n = ap (λ b. fits_stmt s names ranges m n && b) (fits_row_at _ rest names ranges m n)

fits_body : (body : List Stmt) (names : List ℕ) (ranges : ℕ → Range) (m : Memory) (n : ℕ) → fits_row (hidden-the_row-Stmt-0 body) names ranges m n ≡ fits_all body names ranges m n
fits_body body names ranges m n =
    fits_row_at _ (hidden-the_row-Stmt-0 body) names ranges m n ∙ ap (λ (ss : List Stmt). fits_all ss names ranges m n) (items_hidden-the_row-Stmt-0 body)

-- the scalars of an entry lie in the ranges that the guard begins with
entry_within : (l : Loop) (entry : Memory) (low last : ℤ) → IsLoopEntry l entry low last → IsWithin entry (invariants_of l) (λ id. point (scalar_at entry id)) entry
entry_within l entry low last h = record {
  numbers = h.numbers;
  sizes = λ a. refl;
  there = λ id e. subst (λ d. id < d) h.scoped.0 (missing l.index.id (assigned_all l.body) id e).0;
  ranged = λ id e. at_point (scalar_at entry id);
}

low_fits : (l : Loop) (entry : Memory) (low last : ℤ) → IsLoopEntry l entry low last → IsI64 low
low_fits l entry low last h = fits_found (value_of l.low entry) low (value_fits l.low entry h.written.0 h.numbers) h.begins

fits_below : (low last high : ℤ) → IsI64 low → IsI64 high → low <ℤ last → last ≤ℤ high → IsI64 last
fits_below low last high h g some within = omega (arith, ints)

last_fits : (l : Loop) (entry : Memory) (low last : ℤ) → IsLoopEntry l entry low last → low <ℤ last → IsI64 last
last_fits l entry low last h some =
    fits_below low last h.ends.0 (low_fits l entry low last h) (fits_found (value_of l.high entry) h.ends.0 (value_fits l.high entry h.written.1 h.numbers) h.ends.1) some (h.ends.2 some)

before_last : (v last : ℤ) → v <ℤ last → v ≤ℤ (last -ℤ pos 1)
before_last v last h = omega (arith, ints)

one_deeper : (v : ℤ) (m entry : Memory) → length m.scalars ≡ length entry.scalars → length entry.scalars + 1 ≡ length (declare v m).scalars
one_deeper v m entry e = omega (arith, e, length-append m.scalars (v ∷ []))

guarded : (l : Loop) (entry : Memory) (low last : ℤ) (n : ℕ) → IsLoopEntry l entry low last → IsSteady (For l) [] → is_calm_all l.body (names_of l) ≡ true → fits_all l.body (names_of l) (ranges_of l entry low last) entry n ≡ true → low <ℤ last
    → (k : ℕ) → k ≤ int_gap low last → IsDone (first_turns (turn (run_all l.body n)) low k entry)
guarded l entry low last n h steady calm fits some k within =
    let row = hidden-the_row-Stmt-0 l.body in
    let names = invariants_of l in
    let points = λ (id : ℕ). point (scalar_at entry id) in
    let r : Range = record { low = low; high = last -ℤ pos 1 } in
    let all_steady : IsRowSteady row (l.index.id ∷ names) = steady_row_more row (l.index.id ∷ []) names steady (λ id e. subst (λ xs. among id xs ≡ false) (sym (assigned_body l.body)) (missing l.index.id (assigned_all l.body) id e).1) in
    let row_calm : is_calm_row row (l.index.id ∷ names) ≡ true = calm_body l.body (l.index.id ∷ names) ∙ calm in
    let row_fits : fits_row row (l.index.id ∷ names) (with_range l.index.id r points) entry n ≡ true = fits_body l.body (l.index.id ∷ names) (with_range l.index.id r points) entry n ∙ fits in
    let of_low = low_fits l entry low last h in
    let of_last = last_fits l entry low last h some in
    let done = turns_done entry names points l.index row n low last entry (entry_within l entry low last h) all_steady h.written.2 of_low of_last (λ v m w deep from to. row_done entry (l.index.id ∷ names) (with_range l.index.id r points) row n (length entry.arrays) (declare v m) (index_within entry names points m l.index r v w (h.scoped.0 ∙ sym deep) (i64_between low last v of_low of_last from to) (from, before_last v last to)) (subst (λ d. IsRowScoped row d (length entry.arrays)) (one_deeper v m entry deep) h.scoped.3) all_steady h.written.2 row_calm row_fits) k within in
    subst IsDone (λ i. first_turns (turn (run_body l.body i n)) low k entry) done

in_gap : (low last : ℤ) (k : ℕ) → (low +ℤ pos k) ≤ℤ last → k ≤ int_gap low last
in_gap (pos a) (pos b) k h = omega (arith, ints, h)
in_gap (pos a) (negsuc b) k h = absurd (omega (arith, ints, h))
in_gap (negsuc a) (pos b) k h = omega (arith, ints, h)
in_gap (negsuc a) (negsuc b) k h = omega (arith, ints, h)

no_turn : (low last : ℤ) (k : ℕ) → int_le last low ≡ true → (low +ℤ pos k) ≤ℤ last → k ≡ 0
no_turn low last k e h = omega (arith, ints)

some_turn : (low last : ℤ) → int_le last low ≡ false → low <ℤ last
some_turn low last e = omega (arith, ints)

guarded_if : (l : Loop) (entry : Memory) (low last : ℤ) (n k : ℕ) (none : Bool) → int_le last low ≡ none → IsLoopEntry l entry low last → IsSteady (For l) [] → is_calm_all l.body (names_of l) ≡ true
    → (if none then true else fits_all l.body (names_of l) (ranges_of l entry low last) entry n) ≡ true → (low +ℤ pos k) ≤ℤ last → IsDone (first_turns (turn (run_all l.body n)) low k entry)
guarded_if l entry low last n k true e h steady calm fits within =
    subst (λ j. IsDone (first_turns (turn (run_all l.body n)) low j entry)) (sym (no_turn low last k e within)) refl
guarded_if l entry low last n k false e h steady calm fits within = guarded l entry low last n h steady calm fits (some_turn low last e) k (in_gap low last k within)

-- where the guard of a calm loop holds, each iteration is done
pub guard_done : (e : Entry) → IsLoopEntry e.looped e.store e.low e.last → IsSteady (For e.looped) [] → IsTrue (is_calm e.looped)
    → IsTrue (guard_of e.looped e.store e.low e.last e.turns) → (k : ℕ) → (e.low +ℤ pos k) ≤ℤ e.last → (after e k).end ≡ outcome.Done
guard_done e h steady calm guard k within =
    let l = e.looped in
    guarded_if l e.store e.low e.last e.turns k (int_le e.last e.low) refl h steady (both_true (is_calm_all l.body (names_of l)) (nat_le (length (references_all l.body)) ACCESSES) calm).0 guard within
