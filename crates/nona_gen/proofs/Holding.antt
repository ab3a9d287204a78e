-- What is claimed of the code of statements that hold others, where it is claimed of their rows.
use Rattle.std.proofs.Common.{◌≡◌, ℕ, ◌+◌, ◌-◌, ◌*◌, ◌<◌, ◌≤◌, Bool, true, false, if◌then◌else◌, ℤ, pos, List, [], ◌∷◌, ◌++◌, length, Some, refl, sym, ap, ◌∙◌, subst, arith, length-append}
use Rattle.std.specs.Prelude.{IfOk, min, int_lt, slice_get, slice_set, slice_index_or}
use Rattle.std.proofs.lemmas.List.{length-set, get_or-set_same}
use Rattle.std.specs.Int.{int_gap}
use Rattle.nona_tree.specs.declared.names.Use.{Use}
use Rattle.nona_tree.specs.declared.trees.Expr.{Expr}
use Rattle.nona_tree.specs.declared.trees.Stmt.{Stmt, If', While', For', Row_of-Stmt}
use Rattle.nona_tree.specs.Memory.{Memory, declare}
use Rattle.nona_tree.specs.Value.{is_zero, value_of}
use Rattle.nona_tree.specs.Numbers.{IsI64, IsI64Stmt}
use Rattle.nona_tree.specs.Run.{Ran, done, with_value, then_do, block, turn, for_turns, run, run_row}
use Rattle.nona_tree.specs.Scope.{IsScoped}
use Rattle.nona_tree.specs.Beside.{on_ok, on_done, while_gives, first_give}
use Rattle.nona_tree.proofs.I64.{value_fits}
use Rattle.nona_code.specs.declared.instr.Instr.{Instr}
use Rattle.nona_code.specs.declared.instr.Instr.TheVariants as instr
use Rattle.nona_code.specs.Machine.{opens, open_at}
use Rattle.nona_code.proofs.Placed.{Stands, front, back, open_before}
use Rattle.nona_code.proofs.Traces.{Comes, loops_most, most, most_more, wider_most, one, stays}
use Rattle.nona_gen.specs.Code.{expr_code, flip_code, lets_row, leave_code, block_code, if_code, while_code, bounds_code, next_code, turns_code, high_of}
use Rattle.nona_gen.specs.Fit.{IsFit}
use Rattle.nona_gen.proofs.Values.{at, level}
use Rattle.nona_gen.proofs.Indices.{some_turns, counter_is, declared_good}
use Rattle.nona_gen.proofs.Lands.{same_refl, same_set, kept_refl}
use Rattle.nona_gen.proofs.Opened.{turns_opens, block_opens, lets, row_depth}
use Rattle.nona_gen.proofs.Claims.{Claims, claim_to, claim_lands, claim_if, claim_then}
use Rattle.nona_gen.proofs.Parts.{Fine, fine_at, value_here, open_behind, around, fits_length, zero_step, block_room, fine_behind, entered, step_open, hidden_saved}
use Rattle.nona_gen.proofs.Loops.{whiles, while_loop, turn_steps, IsIndex, Counts, top_open, head, settle, for_loop}

-- the code of a row declares as many scalars as the row does
abbrev pub Opens : (ℕ → List Instr) → ℕ → Type 0
Opens rows lets = (t b : ℕ) → opens (rows t) b ≡ b - lets

module _ (code : List Instr) (n : ℕ) {B : Type 0} (claims : Claims code n B) where
  -- the code of a row does what is claimed of it wherever it stands, with what leaves its scalars behind it
  abbrev pub RowHolds : (ℕ → List Instr) → {i : _} → Row_of-Stmt i → (Memory → List B) → ℕ → ℕ → ℕ → ℕ → List ℤ → Type 0
  RowHolds rows row given depth L A keep st =
      (q : ℕ) (h : List ℤ) (k : List ℕ) (m : Memory) → Fine code n q L A keep h k m → Stands code q (rows q) → lets_row row ≤ open_at code (q + length (rows q))
      → claims.claim (most n (length (rows q))) (at q st h k m) (around code n depth st (q + length (rows q)) keep) (given m) (run_row row n m)

  -- a block, from the row of its statements
  block_holds : (rows : ℕ → List Instr) {i : _} (row : Row_of-Stmt i) (given : Memory → List B) (depth p L A keep : ℕ) (st h : List ℤ) (k : List ℕ) (m : Memory) → Fine code n p L A keep h k m → Stands code p (block_code rows (lets_row row) p)
      → RowHolds rows row given depth L A keep st
      → claims.claim (most n (length (block_code rows (lets_row row) p))) (at p st h k m) (around code n depth st (p + length (block_code rows (lets_row row) p)) keep) (given m) (block (run_row row n) m)
  block_holds rows row given depth p L A keep st h k m f has holds =
      let c = rows p in
      let l = leave_code (lets_row row) in
      let has_l = back code p c l has in
      let e1 : length c + length l ≡ length (c ++ l) = sym (length-append c l) in
      let e2 : p + length c + length l ≡ p + length (c ++ l) = omega (arith, e1) in
      let x = around code n depth st (p + length (c ++ l)) keep in
      let room = block_room code n (p + length c) (lets_row row) has_l in
      claims.wider (most n (length c) + most n (length l)) (most n (length (c ++ l))) (at p st h k m) x (given m) (block (run_row row n) m) (fits_length code n (length c) (length l) _ e1)
      (claims.leave (most n (length c)) (at p st h k m) x (p + length c) (length m.scalars) (lets_row row) (given m) (run_row row n m) (holds p h k m f (front code p c l has) room) (λ over. row_depth row n (length m.scalars) m refl over) (omega (arith, f.kept, f.good.scalars)) e2 has_l)

  pub if_holds : (test : Expr) (first_rows : ℕ → List Instr) (i : _) (then_part : Row_of-Stmt _) (es : Memory → List B) (second_rows : ℕ → List Instr) (i2 : _) (else_part : Row_of-Stmt _) (fs : Memory → List B) (depth p L A keep : ℕ) (st h : List ℤ) (k : List ℕ) (m : Memory)
      → Opens first_rows (lets_row then_part) → Opens second_rows (lets_row else_part) → IsFit (If' test i then_part i2 else_part) depth → IsScoped (If' test i then_part i2 else_part) L A → Fine code n p L A keep h k m
      → Stands code p (if_code p (expr_code test) (block_code first_rows (lets_row then_part)) (block_code second_rows (lets_row else_part)))
      → RowHolds first_rows then_part es depth L A keep st → RowHolds second_rows else_part fs depth L A keep st
      → claims.claim (most n (length (if_code p (expr_code test) (block_code first_rows (lets_row then_part)) (block_code second_rows (lets_row else_part))))) (at p st h k m)
      (around code n depth st (p + length (if_code p (expr_code test) (block_code first_rows (lets_row then_part)) (block_code second_rows (lets_row else_part)))) keep)
      (claims.noted test m ++ on_ok (value_of test m) (λ v. if is_zero v then fs m else es m)) (run (If' test i then_part i2 else_part) n m)
  if_holds test first_rows i then_part es second_rows i2 else_part fs depth p L A keep st h k m first_opens second_opens fit scoped f has first_holds second_holds =
      let ct = expr_code test in
      let first = block_code first_rows (lets_row then_part) in
      let second = block_code second_rows (lets_row else_part) in
      let q = p + length ct in
      let a = q + 1 in
      let j = a + length (first a) in
      let b = j + 1 in
      let E = b + length (second b) in
      let whole = if_code p ct first second in
      let s = at p st h k m in
      let h1 = back code p ct (instr.Zero b ∷ (first a ++ (instr.Jump E ∷ second b))) has in
      let has_t = front code p ct (instr.Zero b ∷ (first a ++ (instr.Jump E ∷ second b))) has in
      let has_1 = front code a (first a) (instr.Jump E ∷ second b) h1.1 in
      let h2 = back code a (first a) (instr.Jump E ∷ second b) h1.1 in
      let len : length whole ≡ length ct + (1 + (length (first a) + (1 + length (second b)))) = omega (arith, length-append ct (instr.Zero b ∷ (first a ++ (instr.Jump E ∷ second b))), length-append (first a) (instr.Jump E ∷ second b)) in
      let end : E ≡ p + length whole = omega (arith, len) in
      let bound_both = most n (1 + (length (first a) + (1 + length (second b)))) in
      let e_q = open_behind code n p ct has_t (level test) in
      let e_a : open_at code a ≡ open_at code q = sym (open_before code q (instr.Zero b ∷ []) (h1.0, tt)) in
      let e_j = open_behind code n a (first a) has_1 (λ c. block_opens first_rows (lets_row then_part) a c (λ d. first_opens a d)) in
      let e_b : open_at code b ≡ open_at code j = sym (open_before code j (instr.Jump E ∷ []) (h2.0, tt)) in
      let f_a = fine_at code n p a L A keep h k m (e_a ∙ e_q) f in
      let f_b = fine_at code n p b L A keep h k m (e_b ∙ e_j ∙ e_a ∙ e_q) f in
      let x = around code n depth st E keep in
      let yes_runs = block_holds first_rows then_part es depth a L A keep st h k m f_a has_1 first_holds in
      let no_runs = block_holds second_rows else_part fs depth b L A keep st h k m f_b h2.1 second_holds in
      claim_to code n claims _ s (around code n depth st E keep) (p + length whole) _ _ end
      (claims.wider (most n (length ct) + bound_both) (most n (length whole)) s x _ _ (fits_length code n (length ct) _ _ (sym len))
      (claims.value (length ct) bound_both s x test m (λ v. if is_zero v then block (run_row else_part n) m else block (run_row then_part n) m) (λ v. if is_zero v then fs m else es m) (λ v. at q (v ∷ st) h k m)
      (value_here code n test p L A keep st h k m f fit.0 scoped.0 has_t)
      (λ v ok. kept_refl depth s (at q (v ∷ st) h k m) refl refl)
      (λ v ok. claim_if code n claims bound_both (at q (v ∷ st) h k m) x (is_zero v) (fs m) (es m) (block (run_row else_part n) m) (block (run_row then_part n) m)
      (λ c. claims.wider (most n 1 + most n (length (second b))) bound_both (at q (v ∷ st) h k m) x _ _ (omega (arith, fits_length code n 1 (length (second b)) (1 + length (second b)) refl, wider_most n (1 + length (second b)) (1 + (length (first a) + (1 + length (second b)))) (omega arith)))
      (claims.on (most n 1) (most n (length (second b))) (at q (v ∷ st) h k m) (at b st h k m) x (fs m) (block (run_row else_part n) m) (zero_step code n q b st h k m v true h1.0 c) (kept_refl depth (at q (v ∷ st) h k m) (at b st h k m) refl refl) no_runs))
      (λ c. claims.wider (most n 1 + (most n (length (first a)) + most n 1)) bound_both (at q (v ∷ st) h k m) x _ _ (omega (arith, fits_length code n (length (first a)) 1 (length (first a) + 1) refl, fits_length code n 1 (length (first a) + 1) (1 + (length (first a) + 1)) refl, wider_most n (1 + (length (first a) + 1)) (1 + (length (first a) + (1 + length (second b)))) (omega arith)))
      (claims.on (most n 1) (most n (length (first a)) + most n 1) (at q (v ∷ st) h k m) (at a st h k m) x (es m) (block (run_row then_part n) m) (zero_step code n q b st h k m v false h1.0 c) (kept_refl depth (at q (v ∷ st) h k m) (at a st h k m) refl refl)
      (claims.jump (most n (length (first a))) (at a st h k m) x j (es m) (block (run_row then_part n) m) yes_runs h2.0))))))

  pub while_holds : (test : Expr) (rows : ℕ → List Instr) (i : _) (body : Row_of-Stmt _) (given : Memory → List B) (at_ depth p L A keep : ℕ) (st h : List ℤ) (k : List ℕ) (m : Memory)
      → Opens rows (lets_row body) → IsFit (While' test i body at_) depth → IsI64Stmt (While' test i body at_) → IsScoped (While' test i body at_) L A → Fine code n p L A keep h k m
      → Stands code p (while_code p depth at_ (flip_code test) (block_code rows (lets_row body)))
      → RowHolds rows body given (depth + 1) L A keep st
      → claims.claim (most n (length (while_code p depth at_ (flip_code test) (block_code rows (lets_row body))))) (at p st h k m)
      (around code n depth st (p + length (while_code p depth at_ (flip_code test) (block_code rows (lets_row body)))) keep)
      (while_gives (value_of test) (claims.noted test) (block (run_row body n)) given n m) (run (While' test i body at_) n m)
  while_holds test rows i body given at_ depth p L A keep st h k m opened fit t scoped f has holds =
      let ct = flip_code test in
      let whole = block_code rows (lets_row body) in
      let b = p + 3 in
      let J = b + length (whole b) in
      let E = J + length ct + 1 in
      let T = length ct + (2 + length (whole b)) in
      let tail = ct ++ (instr.Zero (p + 2) ∷ []) in
      let all = while_code p depth at_ ct whole in
      let len : length all ≡ 2 + T = omega (arith, length-append (whole b) tail, length-append ct (instr.Zero (p + 2) ∷ [])) in
      let end : E ≡ p + length all = omega (arith, len) in
      let s = at p st h k m in
      let k0 = slice_set k depth 0 in
      let s1 = at (p + 1) st h k0 m in
      let s_j = at J st h k0 m in
      let x = around code n depth st E keep in
      let below : depth < length k = omega (arith, fit.0, f.counters) in
      let w = whiles code n claims test depth p at_ L A keep st rows body given opened has in
      let e2 : p + 1 + 1 ≡ p + 2 = omega arith in
      let o_j : open_at code J ≡ open_at code p =
      sym w.open_turn ∙ ap (open_at code) (sym e2) ∙ step_open code n (p + 1) (instr.Jump J) has.1.0 (λ c. refl) ∙ step_open code n p (instr.Enter depth) has.0 (λ c. refl) in
      let f1 = fine_at code n p J L A keep h k m o_j f in
      let f0 : Fine code n J L A keep h k0 m = record { good = f1.good; hidden = f1.hidden; counters = length-set k depth 0 ∙ f.counters; least = f1.least; kept = f1.kept } in
      let has_b = w.has_body in
      let counted : slice_index_or k0 depth 0 + n ≡ n = omega (arith, counter_is depth 0 k below) in
      let loop_part = (n + 1) * most n T in
      let wide : most n 1 + (most n 1 + loop_part) ≤ most n (length all) = omega (arith, most_more n 1 1, loops_most n 2 T (omega arith), ap (most n) len) in
      let jumps : Comes code n 1 s1 [] s_j = one code n s1 s_j (instr.Jump J) [] has.1.0 refl refl in
      claim_to code n claims _ s (around code n depth st E keep) (p + length all) _ _ end
      (claims.wider (most n 1 + (most n 1 + loop_part)) (most n (length all)) s x _ _ wide
      (claims.on (most n 1) (most n 1 + loop_part) s s1 x _ _ (entered code n p depth st h k m below has.0) (record { hidden = same_refl (pos 0) depth h; counters = same_set 0 depth depth k 0 (omega arith) })
      (claims.on (most n 1) loop_part s1 s_j x _ _ jumps (kept_refl depth s1 s_j refl refl)
      (while_loop code n claims test depth p at_ L A keep st rows body given opened fit.1 scoped.0 t.1 fit.0 has
      (λ h2 k2 m2 f2. block_holds rows body given (depth + 1) b L A keep st h2 k2 m2 f2 has_b holds)
      n h k0 m f0 counted))))

  pub for_holds : (y : Use) (low high : Expr) (rows : ℕ → List Instr) (i : _) (body : Row_of-Stmt _) (given : Memory → List B) (seq : Bool) (at_ depth p L A keep : ℕ) (st h : List ℤ) (k : List ℕ) (m : Memory)
      → Opens rows (lets_row body) → IsFit (For' y low high i body seq at_) depth → IsI64Stmt (For' y low high i body seq at_) → IsScoped (For' y low high i body seq at_) L A → Fine code n p L A keep h k m
      → Stands code p (bounds_code depth (expr_code low) (expr_code high) ++ turns_code (p + length (bounds_code depth (expr_code low) (expr_code high))) y.id depth at_ rows (lets_row body))
      → RowHolds rows body given (depth + 1) (L + 1) A keep st
      → claims.claim (most n (length (bounds_code depth (expr_code low) (expr_code high) ++ turns_code (p + length (bounds_code depth (expr_code low) (expr_code high))) y.id depth at_ rows (lets_row body)))) (at p st h k m)
      (around code n depth st (p + length (bounds_code depth (expr_code low) (expr_code high) ++ turns_code (p + length (bounds_code depth (expr_code low) (expr_code high))) y.id depth at_ rows (lets_row body))) keep)
      (claims.noted low m ++ on_ok (value_of low m) (λ a. claims.noted high m ++ on_ok (value_of high m) (λ b. first_give (turn (run_row body n)) (λ v w. given (declare v w)) a (min (int_gap a b) n) m)))
      (run (For' y low high i body seq at_) n m)
  for_holds y low high rows i body given seq at_ depth p L A keep st h k m opened fit t scoped f has holds =
      let cl = expr_code low in
      let ch = expr_code high in
      let rest = instr.Save (high_of depth) ∷ instr.Declare ∷ instr.Enter depth ∷ [] in
      let bounds = bounds_code depth cl ch in
      let top = p + length bounds in
      let turns = turns_code top y.id depth at_ rows (lets_row body) in
      let rb = rows (top + 5) in
      let nx = next_code (top + 4) y.id depth at_ in
      let lv = leave_code (lets_row body) in
      let q_rows = top + 5 + length rb in
      let E = q_rows + length lv + 6 in
      let T = turn_steps code n claims y.id depth top at_ L A keep st rows body given in
      let q1 = p + length cl in
      let q2 = q1 + length ch in
      let q3 = q2 + 1 in
      let q4 = q3 + 1 in
      let s = at p st h k m in
      let x = around code n depth st (E + 1) keep in
      let len_b : length bounds ≡ length cl + (length ch + 3) = omega (arith, length-append cl (ch ++ rest), length-append ch rest) in
      let len_t : length turns ≡ 4 + T + 1 = omega (arith, length-append rb (lv ++ nx), length-append lv nx) in
      let len : length (bounds ++ turns) ≡ length bounds + (4 + T + 1) = length-append bounds turns ∙ ap (λ l. length bounds + l) len_t in
      let end : E + 1 ≡ p + length (bounds ++ turns) = omega (arith, len) in
      let has_b = front code p bounds turns has in
      let has_t = back code p bounds turns has in
      let has_l = front code p cl (ch ++ rest) has_b in
      let h1 = back code p cl (ch ++ rest) has_b in
      let has_h = front code q1 ch rest h1 in
      let h2 = back code q1 ch rest h1 in
      let e_top : q4 + 1 ≡ top = omega (arith, len_b) in
      let below : depth < length k = omega (arith, fit.0, f.counters) in
      let below_h : depth < length h = omega (arith, fit.0, f.hidden) in
      let open_1 = open_behind code n p cl has_l (level low) in
      let open_2 : open_at code q2 ≡ open_at code p = open_behind code n q1 ch has_h (level high) ∙ open_1 in
      let open_3 : open_at code q3 ≡ open_at code p = step_open code n q2 (instr.Save (high_of depth)) h2.0 (λ b. refl) ∙ open_2 in
      let open_4 : open_at code q3 ≡ open_at code q4 - 1 = open_before code q3 (instr.Declare ∷ []) (h2.1.0, tt) in
      let open_t : open_at code top ≡ open_at code q4 = ap (open_at code) (sym e_top) ∙ step_open code n q4 (instr.Enter depth) h2.1.1.0 (λ b. refl) in
      let open_some : open_at code top ≡ 1 + open_at code (top + length turns) = open_before code top turns has_t ∙ turns_opens rows top y.id depth at_ (lets_row body) _ (λ c. opened (top + 5) c) in
      let f1 = fine_at code n p q1 L A keep h k m open_1 f in
      let e_rows : top + 1 + 1 + 1 + 1 + 1 ≡ top + 5 = omega arith in
      let has_r : Stands code (top + 5) (rb ++ (lv ++ nx)) = subst (λ w. Stands code w (rb ++ (lv ++ nx))) e_rows has_t.1.1.1.1.1 in
      let has_rows = front code (top + 5) rb (lv ++ nx) has_r in
      let has_g = back code (top + 5) rb (lv ++ nx) has_r in
      let room = block_room code n q_rows (lets_row body) (front code q_rows lv nx has_g) in
      let e_last : q_rows + length lv + 1 + 1 + 1 + 1 + 1 + 1 ≡ E = omega arith in
      let is_last : slice_get code E ≡ Some (instr.Leave 1) = subst (λ w. slice_get code w ≡ Some (instr.Leave 1)) e_last (back code q_rows lv nx has_g).1.1.1.1.1.1.0 in
      let loop_part = (n + 1) * most n T in
      let k0 = slice_set k depth 0 in
      let behind_high = most n 1 + (most n 1 + (most n 1 + (most n 4 + loop_part))) in
      let wide : most n (length cl) + (most n (length ch) + behind_high) ≤ most n (length (bounds ++ turns)) =
      omega (arith, most_more n 1 1, most_more n 1 2, most_more n (length ch) 3, most_more n (length cl) (length ch + 3), ap (most n) len_b, most_more n (length bounds) 4, loops_most n (length bounds + 4) T (omega arith), wider_most n (length bounds + 4 + T) (length (bounds ++ turns)) (omega (arith, len))) in
      let wide_1 : most n 1 ≤ loop_part = omega (arith, some_turns n (most n T), wider_most n 1 T (omega arith)) in
      let body_turn = turn (run_row body n) in
      let gives = λ (v : ℤ) (w : Memory). given (declare v w) in
      let index : IsIndex code n claims y.id depth top at_ L A keep st rows body given = record { here = scoped.0; low = fit.4; few = fit.0; steady = fit.5; numbers = t.2 } in
      claim_to code n claims _ s (around code n depth st (E + 1) keep) (p + length (bounds ++ turns)) _ _ end
      (claims.wider (most n (length cl) + (most n (length ch) + behind_high)) (most n (length (bounds ++ turns))) s x _ _ wide
      (claims.value (length cl) (most n (length ch) + behind_high) s x low m (λ v. with_value (value_of high m) m (λ w. for_turns at_ body_turn v (int_gap v w) n m)) (λ v. claims.noted high m ++ on_ok (value_of high m) (λ w. first_give body_turn gives v (min (int_gap v w) n) m)) (λ v. at q1 (v ∷ st) h k m)
      (value_here code n low p L A keep st h k m f fit.1 scoped.1 has_l)
      (λ v ok. kept_refl depth s (at q1 (v ∷ st) h k m) refl refl)
      (λ v ok. claims.value (length ch) behind_high (at q1 (v ∷ st) h k m) x high m (λ w. for_turns at_ body_turn v (int_gap v w) n m) (λ w. first_give body_turn gives v (min (int_gap v w) n) m) (λ w. at q2 (w ∷ v ∷ st) h k m)
      (value_here code n high q1 L A keep (v ∷ st) h k m f1 fit.2 scoped.2 has_h)
      (λ w ok_w. kept_refl depth (at q1 (v ∷ st) h k m) (at q2 (w ∷ v ∷ st) h k m) refl refl)
      (λ w ok_w.
      let hb = slice_set h depth w in
      let v_fits : IsI64 v = subst (λ o. IfOk o IsI64) ok (value_fits low m t.0 f.good.fits) in
      let w_fits : IsI64 w = subst (λ o. IfOk o IsI64) ok_w (value_fits high m t.1 f.good.fits) in
      let good_d = declared_good L A v m v_fits f.good in
      let long_h : length hb ≡ 256 = length-set h depth w ∙ f.hidden in
      let long_k : length k0 ≡ 256 = length-set k depth 0 ∙ f.counters in
      let f_t : Fine code n top (L + 1) A keep hb k0 (declare v m) = record { good = good_d; hidden = long_h; counters = long_k; least = omega (arith, open_3, open_4, open_t, open_some, f.least); kept = omega (arith, open_3, open_4, open_t, open_some, f.kept) } in
      let f_4 : Fine code n (top + 4) (L + 1) A keep hb k0 (declare v m) = fine_at code n top (top + 4) (L + 1) A keep hb k0 (declare v m) (top_open code n claims y.id depth top at_ L A keep st rows body given has_t) f_t in
      let high_is : slice_index_or hb depth (pos 0) ≡ w = get_or-set_same h depth w (pos 0) below_h in
      let counts : Counts code n claims y.id depth top at_ L A keep st rows body given n v w hb k0 = record { high = high_is; left = omega (arith, counter_is depth 0 k below); index_fits = v_fits; high_fits = w_fits } in
      let s3 = at q3 (v ∷ st) hb k m in
      let s4 = at q4 st hb k (declare v m) in
      let s_t = at top st hb k0 (declare v m) in
      let s_f = at (if int_lt v w then top + 4 else E) st hb k0 (declare v m) in
      let enters : Comes code n 1 s4 [] s_t = subst (λ r. Comes code n 1 s4 [] (at r st hb k0 (declare v m))) e_top (entered code n q4 depth st hb k (declare v m) below h2.1.1.0) in
      claims.on (most n 1) (most n 1 + (most n 1 + (most n 4 + loop_part))) (at q2 (w ∷ v ∷ st) h k m) s3 x _ _ (hidden_saved code n q2 (high_of depth) depth (v ∷ st) h k m w refl below_h h2.0) (record { hidden = same_set (pos 0) depth depth h w (omega arith); counters = same_refl 0 depth k })
      (claims.on (most n 1) (most n 1 + (most n 4 + loop_part)) s3 s4 x _ _ (one code n s3 s4 instr.Declare [] h2.1.0 refl refl) (kept_refl depth s3 s4 refl refl)
      (claims.on (most n 1) (most n 4 + loop_part) s4 s_t x _ _ enters (record { hidden = same_refl (pos 0) depth hb; counters = same_set 0 depth depth k 0 (omega arith) })
      (claims.on (most n 4) loop_part s_t s_f x _ _ (head code n claims y.id depth top at_ L A keep st rows body given v w hb k0 m f_t f.good index high_is has_t) (kept_refl depth s_t s_f refl refl)
      (settle code n claims y.id depth top at_ L A keep st rows body given loop_part n v w hb k0 m wide_1 f.good is_last
      (λ c. for_loop code n claims y.id depth top at_ L A keep st rows body given opened index has_t
      (λ h3 k3 m3 f3. holds (top + 5) h3 k3 m3 f3 has_rows room)
      n v w hb k0 m f_4 f.good counts c)))))))))

  -- no statement
  pub none_holds : (depth p keep : ℕ) (st h : List ℤ) (k : List ℕ) (m : Memory) → claims.claim (most n 0) (at p st h k m) (around code n depth st (p + 0) keep) [] (done m)
  none_holds depth p keep st h k m =
      let e : p ≡ p + 0 = omega arith in
      claim_to code n claims _ (at p st h k m) (around code n depth st p keep) (p + 0) [] (done m) e
      (claim_lands code n claims (most n 0) (at p st h k m) (around code n depth st p keep) h k m (kept_refl depth (at p st h k m) (at p st h k m) refl refl) (stays code n (at p st h k m)))

  -- a statement, and the statements behind it
  pub next_holds : (s : Stmt) (c rc : List Instr) (depth p L A keep count : ℕ) (st h : List ℤ) (k : List ℕ) (m : Memory) (es : List B) (gs : Memory → List B) (go : Memory → Ran)
      → ((b : ℕ) → opens c b ≡ b - lets s) → ((b : ℕ) → opens rc b ≡ b - count) → IsI64Stmt s → Fine code n p L A keep h k m → Stands code p (c ++ rc) → lets s + count ≤ open_at code (p + length (c ++ rc))
      → claims.claim (most n (length c)) (at p st h k m) (around code n depth st (p + length c) keep) es (run s n m)
      → ((h' : List ℤ) (k' : List ℕ) → Fine code n (p + length c) (L + lets s) A keep h' k' (run s n m).store → Stands code (p + length c) rc → count ≤ open_at code (p + length c + length rc)
      → claims.claim (most n (length rc)) (at (p + length c) st h' k' (run s n m).store) (around code n depth st (p + length c + length rc) keep) (gs (run s n m).store) (go (run s n m).store))
      → claims.claim (most n (length (c ++ rc))) (at p st h k m) (around code n depth st (p + length (c ++ rc)) keep) (es ++ on_done (run s n m) gs) (then_do (run s n m) go)
  next_holds s c rc depth p L A keep count st h k m es gs go opens_c opens_rc t f has room first next =
      let q = p + length c in
      let has_s = front code p c rc has in
      let has_r = back code p c rc has in
      let e1 : length c + length rc ≡ length (c ++ rc) = sym (length-append c rc) in
      let e2 : q + length rc ≡ p + length (c ++ rc) = omega (arith, e1) in
      let opened : open_at code q ≡ open_at code (q + length rc) - count = open_before code q rc has_r ∙ opens_rc _ in
      let room_all : lets s + count ≤ open_at code (q + length rc) = subst (λ j. lets s + count ≤ open_at code j) (sym e2) room in
      let some : lets s ≤ open_at code q = omega (arith, opened, room_all) in
      let x = around code n depth st (q + length rc) keep in
      claim_to code n claims _ (at p st h k m) x (p + length (c ++ rc)) _ _ e2
      (claims.wider (most n (length c) + most n (length rc)) (most n (length (c ++ rc))) (at p st h k m) x _ _ (fits_length code n (length c) (length rc) _ e1)
      (claim_then code n claims (most n (length c)) (most n (length rc)) (at p st h k m) x q es (run s n m) gs go first
      (λ h' k' kept over. next h' k' (fine_behind code n s c p L A keep h h' k k' m opens_c t f has_s over kept.hidden.long kept.counters.long some) has_r (omega (arith, room_all)))))
