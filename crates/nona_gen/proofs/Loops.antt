-- The code of a loop runs as its turns, where the code of its body does.
use Rattle.std.proofs.Common.{◌≡◌, ℕ, zero, suc, ◌+◌, ◌-◌, ◌*◌, ◌<◌, ◌≤◌, true, false, if◌then◌else◌, ℤ, pos, ◌+ℤ◌, List, [], ◌∷◌, ◌++◌, length, Some, refl, sym, ap, ◌∙◌, subst, arith, length-append}
use Rattle.std.specs.Prelude.{min, not, int_lt, int_le, slice_get, slice_set, slice_index_or}
use Rattle.std.proofs.lemmas.List.{length-set}
use Rattle.std.proofs.lemmas.Int.{int_wrap_fits}
use Rattle.nona_gen.proofs.Turning.{is_below, fits_next, for_over, gives_over, for_starved, gives_starved, for_more, gives_more}
use Rattle.nona_num.specs.declared.folds.Fold.TheVariants as fold
use Rattle.std.specs.Int.{int_gap, w64}
use Rattle.nona_num.specs.Folds.{join_of}
use Rattle.nona_tree.specs.declared.trees.Op.TheVariants as op
use Rattle.nona_tree.specs.declared.trees.Expr.{Expr}
use Rattle.nona_tree.specs.declared.trees.Stmt.{Row_of-Stmt}
use Rattle.nona_tree.specs.Memory.{Memory, scalar_at, declare, assign, cut_to}
use Rattle.nona_tree.specs.Value.{apply, from_test, is_zero, value_of}
use Rattle.nona_tree.specs.Numbers.{IsI64, IsI64Row}
use Rattle.nona_tree.specs.Run.{Ran, done, starved, then_do, block, turn, while_turns, for_turns, run_row}
use Rattle.nona_tree.specs.Scope.{IsNamed, IsRowSteady}
use Rattle.nona_tree.specs.Beside.{on_done, while_gives, first_give}
use Rattle.nona_code.specs.declared.instr.Instr.{Instr}
use Rattle.nona_code.specs.declared.instr.Instr.TheVariants as instr
use Rattle.nona_code.specs.Machine.{goes, opens, open_at, where_so, first_hidden}
use Rattle.nona_code.proofs.Placed.{Stands, front, back, open_before}
use Rattle.nona_code.proofs.Traces.{EndsIn, Comes, most, most_more, wider_most, one, on, on_end_in, wider_in, wider_end_in}
use Rattle.nona_gen.specs.Code.{flip_code, lets_row, leave_code, block_code, while_code, next_code, turns_code, high_of}
use Rattle.nona_gen.specs.Fit.{IsFitExpr}
use Rattle.nona_gen.proofs.Values.{at, answered, so, loaded, test_zero, below_or_not}
use Rattle.nona_gen.proofs.Steady.{row_steady}
use Rattle.nona_gen.proofs.Indices.{more_turns, some_turns, counter_is, if_not, declared_good, index_at, index_set, index_dropped, index_kept}
use Rattle.nona_gen.proofs.Lands.{left, cut_twice, same_refl, same_set, kept_refl, Around}
use Rattle.nona_gen.proofs.Claims.{Claims, claim_as, claim_lands, claim_starved, claim_quiet, claim_if, claim_either, claim_branch, claim_turn, claim_cut}
use Rattle.nona_gen.proofs.Opened.{leave_opens, block_opens, Good, row_depth}
use Rattle.nona_gen.proofs.Parts.{Fine, fine_leaves, fine_at, around, zero_step, turned, out_of_turns, block_good, step_open, flipped_here, turn_good, hidden_loaded}

module _ (code : List Instr) (n : ℕ) {B : Type 0} (claims : Claims code n B) where
  -- a while, whose body has this code and gives this
  module _ (test : Expr) (depth p a L A keep : ℕ) (st : List ℤ) (rows : ℕ → List Instr) {i : _} (body : Row_of-Stmt i) (given : Memory → List B) where
    abbrev whole_body : ℕ → List Instr
    whole_body = block_code rows (lets_row body)

    -- the place of its test
    abbrev asks : ℕ
    asks = p + 3 + length (whole_body (p + 3))

    abbrev answers : ℕ
    answers = asks + length (flip_code test)

    abbrev while_steps : ℕ
    while_steps = length (flip_code test) + (2 + length (whole_body (p + 3)))

    pub record Whiles : Type 0 where
      pub turns : slice_get code (p + 2) ≡ Some (instr.Turn depth a)
      pub has_body : Stands code (p + 3) (whole_body (p + 3))
      pub has_test : Stands code asks (flip_code test)
      pub zero_is : slice_get code answers ≡ Some (instr.Zero (p + 2))
      pub open_turn : open_at code (p + 2) ≡ open_at code asks
      pub open_body : open_at code (p + 3) ≡ open_at code asks

    pub whiles : ((t b : ℕ) → opens (rows t) b ≡ b - lets_row body) → Stands code p (while_code p depth a (flip_code test) whole_body) → Whiles
    whiles opened has =
        let ct = flip_code test in
        let z = instr.Zero (p + 2) ∷ [] in
        let b = p + 3 in
        let e2 : p + 1 + 1 ≡ p + 2 = omega arith in
        let e3 : p + 1 + 1 + 1 ≡ p + 3 = omega arith in
        let e3' : p + 2 + 1 ≡ p + 3 = omega arith in
        let turn_is : slice_get code (p + 2) ≡ Some (instr.Turn depth a) = subst (λ q. slice_get code q ≡ Some (instr.Turn depth a)) e2 has.1.1.0 in
        let has_b : Stands code b (whole_body b ++ (ct ++ z)) = subst (λ q. Stands code q (whole_body b ++ (ct ++ z))) e3 has.1.1.1 in
        let has_w = front code b (whole_body b) (ct ++ z) has_b in
        let has_c = back code b (whole_body b) (ct ++ z) has_b in
        let o_body : open_at code b ≡ open_at code asks = open_before code b (whole_body b) has_w ∙ block_opens rows (lets_row body) b _ (λ c. opened b c) in
        record {
          turns = turn_is;
          has_body = has_w;
          has_test = front code asks ct z has_c;
          zero_is = (back code asks ct z has_c).0;
          open_turn = sym (step_open code n (p + 2) (instr.Turn depth a) turn_is (λ c. refl)) ∙ ap (open_at code) e3' ∙ o_body;
          open_body = o_body;
        }

    pub while_loop : ((t b : ℕ) → opens (rows t) b ≡ b - lets_row body) → IsFitExpr test → IsNamed test L A → IsI64Row body → depth < 256 → Stands code p (while_code p depth a (flip_code test) whole_body)
        → ((h : List ℤ) (k : List ℕ) (m : Memory) → Fine code n (p + 3) L A keep h k m → claims.claim (most n (length (whole_body (p + 3)))) (at (p + 3) st h k m) (around code n (depth + 1) st asks keep) (given m) (block (run_row body n) m))
        → (j : ℕ) (h : List ℤ) (k : List ℕ) (m : Memory) → Fine code n asks L A keep h k m → slice_index_or k depth 0 + j ≡ n
        → claims.claim ((j + 1) * most n while_steps) (at asks st h k m) (around code n depth st (answers + 1) keep)
        (while_gives (value_of test) (claims.noted test) (block (run_row body n)) given j m) (while_turns a (value_of test) (block (run_row body n)) j m)
    while_loop opened fit named t few has runs zero h k m f left =
        let w = whiles opened has in
        let lt = length (flip_code test) in
        let q = answers in
        let s = at asks st h k m in
        let x = around code n depth st (q + 1) keep in
        let below : depth < length k = omega (arith, few, f.counters) in
        let f_t = fine_at code n asks (p + 2) L A keep h k m w.open_turn f in
        let two : most n 1 + most n 1 ≤ most n 2 = most_more n 1 1 in
        let wide : most n lt + most n 2 ≤ (0 + 1) * most n while_steps = omega (arith, most_more n lt 2, wider_most n (lt + 2) while_steps (omega arith)) in
        claims.wider (most n lt + most n 2) ((0 + 1) * most n while_steps) s x _ _ wide
        (claim_quiet code n claims lt (most n 2) s x test m (λ v. if is_zero v then done m else starved a m) (λ v. at q (from_test (is_zero v) ∷ st) h k m)
        (flipped_here code n test asks L A keep st h k m f fit named w.has_test)
        (λ v ok. kept_refl depth s (at q (from_test (is_zero v) ∷ st) h k m) refl refl)
        (λ v ok. let u = from_test (is_zero v) in claim_either code n claims (most n 2) (at q (u ∷ st) h k m) x (is_zero v) [] (done m) (starved a m)
        (λ c. claim_lands code n claims (most n 2) (at q (u ∷ st) h k m) x h k m (kept_refl depth (at q (u ∷ st) h k m) (at (q + 1) st h k m) refl refl) (wider_in code n (most n 1) (most n 2) _ _ [] (wider_most n 1 2 (omega arith)) (zero_step code n q (p + 2) st h k m u false w.zero_is (test_zero (is_zero v) ∙ ap not c))))
        (λ c. claim_starved code n claims (most n 2) (at q (u ∷ st) h k m) x a m (wider_end_in code n (most n 1 + most n 1) (most n 2) (at q (u ∷ st) h k m) (starved a (cut_to keep m)) [] two (on_end_in code n (most n 1) (most n 1) _ (at (p + 2) st h k m) _ [] [] (zero_step code n q (p + 2) st h k m u true w.zero_is (test_zero (is_zero v) ∙ ap not c)) (out_of_turns code n (p + 2) depth a L A keep st h k m f_t below (omega (arith, left)) w.turns))))))
    while_loop opened fit named t few has runs (suc j) h k m f left =
        let w = whiles opened has in
        let lt = length (flip_code test) in
        let lb = length (whole_body (p + 3)) in
        let q = answers in
        let M = most n while_steps in
        let s = at asks st h k m in
        let x = around code n depth st (q + 1) keep in
        let c0 = slice_index_or k depth 0 in
        let k' = slice_set k depth (c0 + 1) in
        let below : depth < length k = omega (arith, few, f.counters) in
        let e3 : p + 2 + 1 ≡ p + 3 = omega arith in
        let f_t = fine_at code n asks (p + 2) L A keep h k m w.open_turn f in
        let f_b1 = fine_at code n asks (p + 3) L A keep h k m w.open_body f in
        let f_b : Fine code n (p + 3) L A keep h k' m = record { good = f_b1.good; hidden = f_b1.hidden; counters = length-set k depth (c0 + 1) ∙ f.counters; least = f_b1.least; kept = f_b1.kept } in
        let s_b = at (p + 3) st h k' m in
        let body_run = block (run_row body n) in
        let later = while_turns a (value_of test) body_run j in
        let gives = while_gives (value_of test) (claims.noted test) body_run given j in
        let tail = most n lb + (j + 1) * M in
        let wide : most n lt + (most n 1 + (most n 1 + tail)) ≤ (suc j + 1) * M = omega (arith, more_turns j M, most_more n 1 1, most_more n 2 lb, most_more n lt (2 + lb)) in
        let shut : most n 1 ≤ most n 1 + (most n 1 + tail) = omega arith in
        let one_turn : Comes code n 1 (at (p + 2) st h k m) [] s_b = subst (λ z. Comes code n 1 (at (p + 2) st h k m) [] (at z st h k' m)) e3 (turned code n (p + 2) depth a L A keep st h k m f_t below (omega (arith, left)) w.turns) in
        claims.wider (most n lt + (most n 1 + (most n 1 + tail))) ((suc j + 1) * M) s x _ _ wide
        (claims.value lt (most n 1 + (most n 1 + tail)) s x test m (λ v. if is_zero v then done m else then_do (body_run m) later) (λ v. if is_zero v then [] else given m ++ on_done (body_run m) gives) (λ v. at q (from_test (is_zero v) ∷ st) h k m)
        (flipped_here code n test asks L A keep st h k m f fit named w.has_test)
        (λ v ok. kept_refl depth s (at q (from_test (is_zero v) ∷ st) h k m) refl refl)
        (λ v ok. let u = from_test (is_zero v) in claim_if code n claims (most n 1 + (most n 1 + tail)) (at q (u ∷ st) h k m) x (is_zero v) [] (given m ++ on_done (body_run m) gives) (done m) (then_do (body_run m) later)
        (λ c. claim_lands code n claims _ (at q (u ∷ st) h k m) x h k m (kept_refl depth (at q (u ∷ st) h k m) (at (q + 1) st h k m) refl refl) (wider_in code n (most n 1) (most n 1 + (most n 1 + tail)) _ _ [] shut (zero_step code n q (p + 2) st h k m u false w.zero_is (test_zero (is_zero v) ∙ ap not c))))
        (λ c. claims.on (most n 1) (most n 1 + tail) (at q (u ∷ st) h k m) (at (p + 2) st h k m) x _ _ (zero_step code n q (p + 2) st h k m u true w.zero_is (test_zero (is_zero v) ∙ ap not c)) (kept_refl depth (at q (u ∷ st) h k m) (at (p + 2) st h k m) refl refl)
        (claims.on (most n 1) tail (at (p + 2) st h k m) s_b x _ _ one_turn (record { hidden = same_refl (pos 0) depth h; counters = same_set 0 depth depth k (c0 + 1) (omega arith) })
        (claim_turn code n claims (most n lb) ((j + 1) * M) s_b x asks (given m) (body_run m) gives later (runs h k' m f_b)
        (λ h2 k2 kept over. while_loop opened fit named t few has runs j h2 k2 (body_run m).store
        (record { good = block_good code n body L A m t f.good over; hidden = kept.hidden.long ∙ f.hidden; counters = kept.counters.long ∙ f_b.counters; least = f.least; kept = f.kept })
        (let e : slice_index_or k2 depth 0 ≡ c0 + 1 = kept.counters.below depth (omega arith) ∙ counter_is depth (c0 + 1) k below in omega (arith, e, left))))))))

  -- the turns of a for, whose body has this code and gives this
  module _ (id depth p a L A keep : ℕ) (st : List ℤ) (rows : ℕ → List Instr) {i : _} (body : Row_of-Stmt i) (given : Memory → List B) where
    abbrev gone : List Instr
    gone = leave_code (lets_row body)

    -- behind the rows of the body; behind what leaves their scalars; at what leaves the index
    abbrev behind_rows : ℕ
    behind_rows = p + 5 + length (rows (p + 5))

    abbrev next : ℕ
    next = behind_rows + length gone

    abbrev last_of : ℕ
    last_of = next + 6

    abbrev pub turn_steps : ℕ
    turn_steps = 1 + (length (rows (p + 5)) + (length gone + 6))

    -- the index has the number of the scalars around it
    pub record IsIndex : Type 0 where
      pub here : id ≡ L
      pub low : id < first_hidden
      pub few : depth < 256
      pub steady : IsRowSteady body (id ∷ [])
      pub numbers : IsI64Row body

    -- where the parts of the loop stand
    record Layout : Type 0 where
      turns : slice_get code (p + 4) ≡ Some (instr.Turn depth a)
      has_rows : Stands code (p + 5) (rows (p + 5))
      has_gone : Stands code behind_rows gone
      has_next : Stands code next (next_code (p + 4) id depth a)
      leaves : slice_get code last_of ≡ Some (instr.Leave 1)
      open_rows : open_at code (p + 5) ≡ open_at code (p + 4)
      open_next : open_at code next ≡ open_at code (p + 4)
      some : 1 ≤ open_at code (p + 4)

    layout : ((t b : ℕ) → opens (rows t) b ≡ b - lets_row body) → Stands code p (turns_code p id depth a rows (lets_row body)) → Layout
    layout opened has =
        let e4 : p + 1 + 1 + 1 + 1 ≡ p + 4 = omega arith in
        let e5 : p + 1 + 1 + 1 + 1 + 1 ≡ p + 5 = omega arith in
        let e5' : p + 4 + 1 ≡ p + 5 = omega arith in
        let e6 : next + 1 + 1 + 1 + 1 + 1 + 1 ≡ next + 6 = omega arith in
        let nx = next_code (p + 4) id depth a in
        let turn_is : slice_get code (p + 4) ≡ Some (instr.Turn depth a) = subst (λ z. slice_get code z ≡ Some (instr.Turn depth a)) e4 has.1.1.1.1.0 in
        let has_b : Stands code (p + 5) (rows (p + 5) ++ (gone ++ nx)) = subst (λ z. Stands code z (rows (p + 5) ++ (gone ++ nx))) e5 has.1.1.1.1.1 in
        let has_r = front code (p + 5) (rows (p + 5)) (gone ++ nx) has_b in
        let has_g = back code (p + 5) (rows (p + 5)) (gone ++ nx) has_b in
        let has_l = front code behind_rows gone nx has_g in
        let has_n : Stands code next nx = back code behind_rows gone nx has_g in
        let leave_is : slice_get code last_of ≡ Some (instr.Leave 1) = subst (λ z. slice_get code z ≡ Some (instr.Leave 1)) e6 has_n.1.1.1.1.1.1.0 in
        let o_turn : open_at code (p + 5) ≡ open_at code (p + 4) = ap (open_at code) (sym e5') ∙ step_open code n (p + 4) (instr.Turn depth a) turn_is (λ b. refl) in
        let o_rows : open_at code (p + 5) ≡ open_at code behind_rows - lets_row body = open_before code (p + 5) (rows (p + 5)) has_r ∙ opened (p + 5) _ in
        let o_gone : open_at code behind_rows ≡ lets_row body + open_at code next = open_before code behind_rows gone has_l ∙ leave_opens (lets_row body) _ in
        let o_next : open_at code next ≡ 1 + open_at code (next + length nx) = open_before code next nx has_n in
        record {
          turns = turn_is;
          has_rows = has_r;
          has_gone = has_l;
          has_next = has_n;
          leaves = leave_is;
          open_rows = o_turn;
          open_next = omega (arith, o_turn, o_rows, o_gone);
          some = omega (arith, o_turn, o_rows, o_gone, o_next);
        }

    pub top_open : Stands code p (turns_code p id depth a rows (lets_row body)) → open_at code (p + 4) ≡ open_at code p
    top_open has =
        let e4 : p + 1 + 1 + 1 + 1 ≡ p + 4 = omega arith in
        ap (open_at code) (sym e4)
        ∙ step_open code n (p + 1 + 1 + 1) (instr.Zero last_of) has.1.1.1.0 (λ b. refl)
        ∙ step_open code n (p + 1 + 1) (instr.Binary op.Lt a) has.1.1.0 (λ b. refl)
        ∙ step_open code n (p + 1) (instr.Load (high_of depth)) has.1.0 (λ b. refl)
        ∙ step_open code n p (instr.Load id) has.0 (λ b. refl)

    -- an index with its high bound, and the turns that are left
    pub record Counts (j : ℕ) (x y : ℤ) (h : List ℤ) (k : List ℕ) : Type 0 where
      pub high : slice_index_or h depth (pos 0) ≡ y
      pub left : slice_index_or k depth 0 + j ≡ n
      pub index_fits : IsI64 x
      pub high_fits : IsI64 y

    index_loaded : (r : ℕ) (x : ℤ) (t h : List ℤ) (k : List ℕ) (m : Memory) → IsIndex → Good L A m → slice_get code r ≡ Some (instr.Load id)
        → Comes code n 1 (at r t h k (declare x m)) [] (at (r + 1) (x ∷ t) h k (declare x m))
    index_loaded r x t h k m index good is =
        let e : id ≡ length m.scalars = index.here ∙ sym good.scalars in
        let within : id < length (declare x m).scalars = omega (arith, e, length-append m.scalars (x ∷ [])) in
        let c = loaded code n h k (declare x m) r t id index.low within is in
        let d : Comes code n 1 (at r t h k (declare x m)) [] (at (r + 1) (scalar_at (declare x m) id ∷ t) h k (declare x m)) = record { steps = c.steps; few = c.few; is = c.is } in
        subst (λ v. Comes code n 1 (at r t h k (declare x m)) [] (at (r + 1) (v ∷ t) h k (declare x m))) (index_at id x m e) d

    index_stepped : (r : ℕ) (x : ℤ) (t h : List ℤ) (k : List ℕ) (m : Memory) → IsIndex → Good L A m → IsI64 (x +ℤ pos 1) → slice_get code r ≡ Some (instr.FoldSave id fold.Add)
        → Comes code n 1 (at r (pos 1 ∷ t) h k (declare x m)) [] (at (r + 1) t h k (declare (x +ℤ pos 1) m))
    index_stepped r x t h k m index good fits is =
        let v = x +ℤ pos 1 in
        let w = declare x m in
        let e : id ≡ length m.scalars = index.here ∙ sym good.scalars in
        let within : id < length w.scalars = omega (arith, e, length-append m.scalars (x ∷ [])) in
        one code n (at r (pos 1 ∷ t) h k w) (at (r + 1) t h k (declare v m)) (instr.FoldSave id fold.Add) [] is
        (ap (λ b. where_so b (goes (at (r + 1) t h k (assign id (join_of fold.Add (scalar_at w id) (pos 1)) w)))) (so id (length w.scalars) within)
        ∙ ap (λ z. goes (at (r + 1) t h k (assign id (join_of fold.Add z (pos 1)) w))) (index_at id x m e)
        ∙ ap (λ z. goes (at (r + 1) t h k (assign id z w))) (int_wrap_fits w64 v fits)
        ∙ ap (λ u. goes (at (r + 1) t h k u)) (index_set id x v m e)) refl

    index_gone : (r : ℕ) (x : ℤ) (h : List ℤ) (k : List ℕ) (m : Memory) → Good L A m → slice_get code r ≡ Some (instr.Leave 1)
        → Comes code n 1 (at r st h k (declare x m)) [] (at (r + 1) st h k m)
    index_gone r x h k m good is =
        let long : length (declare x m).scalars ≡ L + 1 = omega (arith, good.scalars, length-append m.scalars (x ∷ [])) in
        subst (λ w. Comes code n 1 (at r st h k (declare x m)) [] (at (r + 1) st h k w)) (index_dropped L x m good.scalars) (left code n r L 1 st h k (declare x m) long (is, tt))

    -- the test before the first turn
    pub head : (x y : ℤ) (h : List ℤ) (k : List ℕ) (m : Memory) → Fine code n p (L + 1) A keep h k (declare x m) → Good L A m → IsIndex → slice_index_or h depth (pos 0) ≡ y
        → Stands code p (turns_code p id depth a rows (lets_row body))
        → Comes code n 4 (at p st h k (declare x m)) [] (at (if int_lt x y then p + 4 else last_of) st h k (declare x m))
    head x y h k m f good index high has =
        let w = declare x m in
        let s = at p st h k w in
        let q2 = p + 1 + 1 in
        let q3 = q2 + 1 in
        let few : depth < length h = omega (arith, index.few, f.hidden) in
        let o2 : open_at code q2 ≡ open_at code p = step_open code n (p + 1) (instr.Load (high_of depth)) has.1.0 (λ b. refl) ∙ step_open code n p (instr.Load id) has.0 (λ b. refl) in
        let f2 = fine_at code n p q2 (L + 1) A keep h k w o2 f in
        let e4 : q3 + 1 ≡ p + 4 = omega arith in
        let second : Comes code n 1 (at (p + 1) (x ∷ st) h k w) [] (at q2 (y ∷ x ∷ st) h k w) =
        subst (λ v. Comes code n 1 (at (p + 1) (x ∷ st) h k w) [] (at q2 (v ∷ x ∷ st) h k w)) high (hidden_loaded code n (p + 1) (high_of depth) depth (x ∷ st) h k w refl few has.1.0) in
        let third : Comes code n 1 (at q2 (y ∷ x ∷ st) h k w) [] (at q3 (from_test (int_lt x y) ∷ st) h k w) =
        answered code n (at q2 (y ∷ x ∷ st) h k w) (instr.Binary op.Lt a) (apply op.Lt a x y) (cut_to keep w) (λ v. at q3 (v ∷ st) h k w) has.1.1.0 refl refl (fine_leaves code n q2 (L + 1) A keep h k w f2) in
        let fourth : Comes code n 1 (at q3 (from_test (int_lt x y) ∷ st) h k w) [] (at (if int_lt x y then p + 4 else last_of) st h k w) =
        subst (λ r. Comes code n 1 (at q3 (from_test (int_lt x y) ∷ st) h k w) [] (at r st h k w)) (if_not (int_lt x y) last_of (q3 + 1) ∙ ap (λ z. if int_lt x y then z else last_of) e4)
        (zero_step code n q3 last_of st h k w (from_test (int_lt x y)) (not (int_lt x y)) has.1.1.1.0 (test_zero (int_lt x y))) in
        on code n 1 3 s (at (p + 1) (x ∷ st) h k w) _ [] [] (index_loaded p x st h k m index good has.0)
        (on code n 1 2 (at (p + 1) (x ∷ st) h k w) (at q2 (y ∷ x ∷ st) h k w) _ [] [] second
        (on code n 1 1 (at q2 (y ∷ x ∷ st) h k w) (at q3 (from_test (int_lt x y) ∷ st) h k w) _ [] [] third fourth))

    -- the next index, and the test before its turn
    next_index : (r : ℕ) (x y : ℤ) (h : List ℤ) (k : List ℕ) (m : Memory) → Fine code n r (L + 1) A keep h k (declare x m) → Good L A m → IsIndex → slice_index_or h depth (pos 0) ≡ y
        → IsI64 (x +ℤ pos 1) → Stands code r (next_code (p + 4) id depth a)
        → Comes code n 6 (at r st h k (declare x m)) [] (at (if int_lt (x +ℤ pos 1) y then p + 4 else r + 6) st h k (declare (x +ℤ pos 1) m))
    next_index r x y h k m f good index high fits has =
        let v = x +ℤ pos 1 in
        let w = declare x m in
        let u = declare v m in
        let r1 = r + 1 in
        let r2 = r1 + 1 in
        let r3 = r2 + 1 in
        let r4 = r3 + 1 in
        let r5 = r4 + 1 in
        let e6 : r5 + 1 ≡ r + 6 = omega arith in
        let few : depth < length h = omega (arith, index.few, f.hidden) in
        let o2 : open_at code r2 ≡ open_at code r = step_open code n r1 (instr.FoldSave id fold.Add) has.1.0 (λ b. refl) ∙ step_open code n r (instr.Push (pos 1)) has.0 (λ b. refl) in
        let o4 : open_at code r4 ≡ open_at code r2 = step_open code n r3 (instr.Load (high_of depth)) has.1.1.1.0 (λ b. refl) ∙ step_open code n r2 (instr.Load id) has.1.1.0 (λ b. refl) in
        let f4 : Fine code n r4 (L + 1) A keep h k u = record { good = declared_good L A v m fits good; hidden = f.hidden; counters = f.counters; least = omega (arith, o2, o4, f.least); kept = omega (arith, o2, o4, f.kept) } in
        let s1 = at r1 (pos 1 ∷ st) h k w in
        let s2 = at r2 st h k u in
        let s3 = at r3 (v ∷ st) h k u in
        let s4 = at r4 (y ∷ v ∷ st) h k u in
        let s5 = at r5 (from_test (int_le y v) ∷ st) h k u in
        let s6 = at (if int_lt v y then p + 4 else r + 6) st h k u in
        let c1 : Comes code n 1 (at r st h k w) [] s1 = one code n (at r st h k w) s1 (instr.Push (pos 1)) [] has.0 refl refl in
        let c4 : Comes code n 1 s3 [] s4 = subst (λ z. Comes code n 1 s3 [] (at r4 (z ∷ v ∷ st) h k u)) high (hidden_loaded code n r3 (high_of depth) depth (v ∷ st) h k u refl few has.1.1.1.0) in
        let c5 : Comes code n 1 s4 [] s5 =
        answered code n s4 (instr.Binary op.Ge a) (apply op.Ge a v y) (cut_to keep u) (λ z. at r5 (z ∷ st) h k u) has.1.1.1.1.0 refl refl (fine_leaves code n r4 (L + 1) A keep h k u f4) in
        let c6 : Comes code n 1 s5 [] s6 =
        subst (λ z. Comes code n 1 s5 [] (at (if int_lt v y then p + 4 else z) st h k u)) e6
        (zero_step code n r5 (p + 4) st h k u (from_test (int_le y v)) (int_lt v y) has.1.1.1.1.1.0 (test_zero (int_le y v) ∙ below_or_not v y)) in
        on code n 1 5 (at r st h k w) s1 s6 [] [] c1
        (on code n 1 4 s1 s2 s6 [] [] (index_stepped r1 x st h k m index good fits has.1.0)
        (on code n 1 3 s2 s3 s6 [] [] (index_loaded r2 v st h k m index good has.1.1.0)
        (on code n 1 2 s3 s4 s6 [] [] c4 (on code n 1 1 s4 s5 s6 [] [] c5 c6))))

    abbrev body_run : ℤ → Memory → Ran
    body_run = turn (run_row body n)

    abbrev body_gives : ℤ → Memory → List B
    body_gives v m = given (declare v m)

    abbrev outside : Around
    outside = around code n depth st (last_of + 1) keep

    -- behind a test: one more turn, or the end
    pub settle : (b j : ℕ) (x y : ℤ) (h : List ℤ) (k : List ℕ) (m : Memory) → most n 1 ≤ b → Good L A m → slice_get code last_of ≡ Some (instr.Leave 1)
        → (int_lt x y ≡ true → claims.claim b (at (p + 4) st h k (declare x m)) outside (first_give body_run body_gives x (min (int_gap x y) j) m) (for_turns a body_run x (int_gap x y) j m))
        → claims.claim b (at (if int_lt x y then p + 4 else last_of) st h k (declare x m)) outside (first_give body_run body_gives x (min (int_gap x y) j) m) (for_turns a body_run x (int_gap x y) j m)
    settle b j x y h k m wide good is again =
        let s = at last_of st h k (declare x m) in
        claim_branch code n claims b (p + 4) last_of st h k (declare x m) outside (int_lt x y) _ (for_turns a body_run x (int_gap x y) j m) again
        (λ c. claim_as code n claims b s outside [] _ (done m) _ (sym (gives_over body_run body_gives x y j m c)) (sym (for_over a body_run x y j m c))
        (claim_lands code n claims b s outside h k m (kept_refl depth s (at (last_of + 1) st h k m) refl refl) (wider_in code n (most n 1) b s (at (last_of + 1) st h k m) [] wide (index_gone last_of x h k m good is))))

    pub for_loop : ((t b : ℕ) → opens (rows t) b ≡ b - lets_row body) → IsIndex → Stands code p (turns_code p id depth a rows (lets_row body))
        → ((h : List ℤ) (k : List ℕ) (m : Memory) → Fine code n (p + 5) (L + 1) A keep h k m → claims.claim (most n (length (rows (p + 5)))) (at (p + 5) st h k m) (around code n (depth + 1) st behind_rows keep) (given m) (run_row body n m))
        → (j : ℕ) (x y : ℤ) (h : List ℤ) (k : List ℕ) (m : Memory) → Fine code n (p + 4) (L + 1) A keep h k (declare x m) → Good L A m → Counts j x y h k → int_lt x y ≡ true
        → claims.claim ((j + 1) * most n turn_steps) (at (p + 4) st h k (declare x m)) outside (first_give body_run body_gives x (min (int_gap x y) j) m) (for_turns a body_run x (int_gap x y) j m)
    for_loop opened index has runs zero x y h k m f good counts test =
        let l = layout opened has in
        let s = at (p + 4) st h k (declare x m) in
        let below : depth < length k = omega (arith, index.few, f.counters) in
        let keep_le : keep ≤ L = omega (arith, f.kept, l.some) in
        let cut : cut_to keep (declare x m) ≡ cut_to keep m = sym (cut_twice keep L (declare x m) keep_le) ∙ ap (cut_to keep) (index_dropped L x m good.scalars) in
        let wide : most n 1 ≤ (0 + 1) * most n turn_steps = omega (arith, wider_most n 1 turn_steps (omega arith)) in
        claim_as code n claims _ s outside [] _ (starved a m) _ (sym (gives_starved body_run body_gives x y m)) (sym (for_starved a body_run x y m test))
        (claim_starved code n claims _ s outside a m (subst (λ w. EndsIn code n ((0 + 1) * most n turn_steps) s [] (starved a w)) cut
        (wider_end_in code n (most n 1) _ s (starved a (cut_to keep (declare x m))) [] wide (out_of_turns code n (p + 4) depth a (L + 1) A keep st h k (declare x m) f below (omega (arith, counts.left)) l.turns))))
    for_loop opened index has runs (suc j) x y h k m f good counts test =
        let l = layout opened has in
        let lr = length (rows (p + 5)) in
        let lg = length gone in
        let M = most n turn_steps in
        let s = at (p + 4) st h k (declare x m) in
        let D = length m.scalars in
        let c0 = slice_index_or k depth 0 in
        let k' = slice_set k depth (c0 + 1) in
        let v = x +ℤ pos 1 in
        let below : depth < length k = omega (arith, index.few, f.counters) in
        let keep_le : keep ≤ D = omega (arith, f.kept, l.some, good.scalars) in
        let e5 : p + 4 + 1 ≡ p + 5 = omega arith in
        let f_b : Fine code n (p + 5) (L + 1) A keep h k' (declare x m) = record { good = f.good; hidden = f.hidden; counters = length-set k depth (c0 + 1) ∙ f.counters; least = omega (arith, l.open_rows, f.least); kept = omega (arith, l.open_rows, f.kept) } in
        let s_b = at (p + 5) st h k' (declare x m) in
        let fits = fits_next x y counts.index_fits counts.high_fits (is_below x y test) in
        let later = for_turns a body_run v (int_gap v y) j in
        let gives = first_give body_run body_gives v (min (int_gap v y) j) in
        let tail = most n lg + (most n 6 + (j + 1) * M) in
        let wide : most n 1 + (most n lr + tail) ≤ (suc j + 1) * M = omega (arith, more_turns j M, most_more n lg 6, most_more n lr (lg + 6), most_more n 1 (lr + (lg + 6))) in
        let wide_1 : most n 1 ≤ (j + 1) * M = omega (arith, some_turns j M, wider_most n 1 turn_steps (omega arith)) in
        let one_turn : Comes code n 1 s [] s_b = subst (λ z. Comes code n 1 s [] (at z st h k' (declare x m))) e5 (turned code n (p + 4) depth a (L + 1) A keep st h k (declare x m) f below (omega (arith, counts.left)) l.turns) in
        claim_as code n claims _ s outside (body_gives x m ++ on_done (body_run x m) gives) _ (then_do (body_run x m) later) _ (sym (gives_more body_run body_gives x y j m test)) (sym (for_more a body_run x y j m test))
        (claims.wider (most n 1 + (most n lr + tail)) ((suc j + 1) * M) s outside _ _ wide
        (claims.on (most n 1) (most n lr + tail) s s_b outside _ _ one_turn (record { hidden = same_refl (pos 0) depth h; counters = same_set 0 depth depth k (c0 + 1) (omega arith) })
        (claim_cut code n claims (most n lr) tail s_b outside behind_rows D (body_gives x m) (run_row body n (declare x m)) gives later (runs h k' (declare x m) f_b) keep_le
        (λ h2 k2 kept over.
        let r = (run_row body n (declare x m)).store in
        let m1 = cut_to D r in
        let id_is : id ≡ D = index.here ∙ sym good.scalars in
        let one_more : length (declare x m).scalars ≡ D + 1 = length-append m.scalars (x ∷ []) in
        let long_r : length r.scalars ≡ D + 1 + lets_row body = row_depth body n (D + 1) (declare x m) one_more over in
        let stays_x : scalar_at r D ≡ x = ap (λ z. scalar_at r z) (sym id_is) ∙ row_steady body id n (declare x m) index.steady (omega (arith, id_is, one_more)) ∙ index_at id x m id_is in
        let s_g = at behind_rows st h2 k2 r in
        let s_n = at next st h2 k2 (declare x m1) in
        let s_t = at (if int_lt v y then p + 4 else last_of) st h2 k2 (declare v m1) in
        let going : Comes code n lg s_g [] s_n = subst (λ w. Comes code n lg s_g [] (at next st h2 k2 w)) (index_kept D x r (omega (arith, long_r)) stays_x) (left code n behind_rows (D + 1) (lets_row body) st h2 k2 r long_r l.has_gone) in
        let good_1 : Good L A m1 = turn_good code n body L A x m index.numbers counts.index_fits good over in
        let long_h : length h2 ≡ 256 = kept.hidden.long ∙ f.hidden in
        let long_k : length k2 ≡ 256 = kept.counters.long ∙ f_b.counters in
        let high_2 : slice_index_or h2 depth (pos 0) ≡ y = kept.hidden.below depth (omega arith) ∙ counts.high in
        let f_n : Fine code n next (L + 1) A keep h2 k2 (declare x m1) = record { good = declared_good L A x m1 counts.index_fits good_1; hidden = long_h; counters = long_k; least = omega (arith, l.open_next, f.least); kept = omega (arith, l.open_next, f.kept) } in
        let f_t : Fine code n (p + 4) (L + 1) A keep h2 k2 (declare v m1) = record { good = declared_good L A v m1 fits good_1; hidden = long_h; counters = long_k; least = f.least; kept = f.kept } in
        let counts_1 : Counts j v y h2 k2 = record {
          high = high_2;
          left = (let e : slice_index_or k2 depth 0 ≡ c0 + 1 = kept.counters.below depth (omega arith) ∙ counter_is depth (c0 + 1) k below in omega (arith, e, counts.left));
          index_fits = fits;
          high_fits = counts.high_fits;
        } in
        claims.on (most n lg) (most n 6 + (j + 1) * M) s_g s_n outside (gives m1) (later m1) going (kept_refl depth s_g s_n refl refl)
        (claims.on (most n 6) ((j + 1) * M) s_n s_t outside (gives m1) (later m1) (next_index next x y h2 k2 m1 f_n good_1 index high_2 fits l.has_next) (kept_refl depth s_n s_t refl refl)
        (settle ((j + 1) * M) j v y h2 k2 m1 wide_1 good_1 l.leaves (λ c. for_loop opened index has runs j v y h2 k2 m1 f_t good_1 counts_1 c)))))))
