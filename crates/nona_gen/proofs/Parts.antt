-- What holds at a place in the code, and the parts that the code of several statements has.
use Rattle.std.proofs.Common.{◌≡◌, ℕ, ◌+◌, ◌-◌, ◌<◌, ◌≤◌, Bool, true, false, if◌then◌else◌, ℤ, pos, List, [], ◌∷◌, ◌++◌, length, Some, refl, sym, ap, ◌∙◌, subst, arith, length-append}
use Rattle.std.specs.Prelude.{slice_get, slice_set, slice_index_or, nat_lt, nat_le}
use Rattle.std.proofs.lemmas.Bool.{le-leb, le-ltb}
use Rattle.nona_tree.specs.declared.outcomes.Outcome.TheVariants as outcome
use Rattle.nona_tree.specs.declared.trees.Access.{Access}
use Rattle.nona_tree.specs.declared.trees.Expr.{Expr}
use Rattle.nona_tree.specs.declared.trees.Stmt.{Stmt, Row_of-Stmt}
use Rattle.nona_tree.specs.Memory.{Memory, scalar_at, cells_of, declare, assign, cut_to}
use Rattle.nona_tree.specs.Value.{place_of, from_test, is_zero, value_of, cell_of}
use Rattle.nona_tree.specs.Numbers.{IsI64, IsI64Stmt, IsI64Row}
use Rattle.nona_tree.specs.Run.{done, starved, with_value, block, turn, run, run_row}
use Rattle.nona_tree.specs.Scope.{IsNamed, IsCellNamed}
use Rattle.nona_tree.specs.Beside.{on_ok}
use Rattle.nona_tree.specs.Deeds.{Deed, value_deeds}
use Rattle.nona_tree.proofs.Keeps.{SameArrays, arrays_kept, row_kept}
use Rattle.nona_tree.proofs.I64.{row_fits}
use Rattle.nona_code.specs.declared.instr.Instr.{Instr}
use Rattle.nona_code.specs.declared.instr.Instr.TheVariants as instr
use Rattle.nona_code.specs.Machine.{State, ended, goes, halts, act, act_deeds, opens, open_at, leave, where_so, first_hidden}
use Rattle.nona_code.proofs.Placed.{Stands, front, back, open_before}
use Rattle.nona_code.proofs.Traces.{Comes, Ends, most, most_more, one, last, Gives}
use Rattle.nona_gen.specs.Code.{expr_code, flip_code, place_code, leave_code}
use Rattle.nona_gen.specs.Fit.{IsFitExpr}
use Rattle.nona_gen.proofs.Values.{at, so, level, level_place, Leaves, values, flipped, bound, then_quiet, gives_length, gives_at}
use Rattle.nona_code.specs.Stands.{on_cells}
use Rattle.nona_gen.proofs.Indices.{cell_within, cut_good, declared_good}
use Rattle.nona_gen.proofs.Lands.{kept_refl, Around, RunsIn, lands, runs_wider, runs_value}
use Rattle.nona_gen.proofs.Opened.{leave_opens, same_count, lets, Good, good_after, row_depth}

module _ (code : List Instr) (n : ℕ) where
  -- the scalars
  pub record Fine (p L A keep : ℕ) (h : List ℤ) (k : List ℕ) (m : Memory) : Type 0 where
    pub good : Good L A m
    pub hidden : length h ≡ 256
    pub counters : length k ≡ 256
    pub least : open_at code p ≤ L
    pub kept : keep ≡ L - open_at code p

  pub fine_leaves : (p L A keep : ℕ) (h : List ℤ) (k : List ℕ) (m : Memory) → Fine p L A keep h k m → Leaves code p m (cut_to keep m)
  fine_leaves p L A keep h k m f =
      let e : length m.scalars - open_at code p ≡ keep = omega (arith, f.good.scalars, f.kept) in
      (omega (arith, f.least, f.good.scalars), ap (λ j. cut_to j m) e)

  pub fine_at : (p q L A keep : ℕ) (h : List ℤ) (k : List ℕ) (m : Memory) → open_at code q ≡ open_at code p → Fine p L A keep h k m → Fine q L A keep h k m
  fine_at p q L A keep h k m e f = record { good = f.good; hidden = f.hidden; counters = f.counters; least = omega (arith, e, f.least); kept = omega (arith, e, f.kept) }

  -- the value of an expression at such a place
  pub value_here : (e : Expr) (p L A keep : ℕ) (st h : List ℤ) (k : List ℕ) (m : Memory) → Fine p L A keep h k m → IsFitExpr e → IsNamed e L A → Stands code p (expr_code e)
      → Gives code n (length (expr_code e)) (at p st h k m) (value_of e m) (value_deeds e m) (cut_to keep m) (λ v. at (p + length (expr_code e)) (v ∷ st) h k m)
  value_here e p L A keep st h k m f fit named has =
      let named_here : IsNamed e (length m.scalars) (length m.arrays) = subst (λ x. IsNamed e x (length m.arrays)) (sym f.good.scalars) (subst (λ x. IsNamed e L x) (sym f.good.arrays) named) in
      values code n h k m e p st (cut_to keep m) fit named_here has (fine_leaves p L A keep h k m f)

  pub open_behind : (p : ℕ) (c : List Instr) → Stands code p c → ((b : ℕ) → opens c b ≡ b) → open_at code (p + length c) ≡ open_at code p
  open_behind p c has even = sym (open_before code p c has ∙ even _)

  -- the place of a cell
  pub place_here : (c : Access) (p L A keep : ℕ) (st h : List ℤ) (k : List ℕ) (m : Memory) → Fine p L A keep h k m → IsFitExpr c.index → IsCellNamed c L A → Stands code p (place_code c)
      → Gives code n (length (place_code c)) (at p st h k m) (cell_of c m) (value_deeds c.index m) (cut_to keep m) (λ j. at (p + length (place_code c)) (pos j ∷ st) h k m)
  place_here c p L A keep st h k m f fit named has =
      let ce = expr_code c.index in
      let i = instr.Bound c.array.id c.wrap c.array.at in
      let has_e = front code p ce (i ∷ []) has in
      let is = (back code p ce (i ∷ []) has).0 in
      let here : c.array.id < length m.arrays = omega (arith, named.0, f.good.arrays) in
      let f2 = fine_at p (p + length ce) L A keep h k m (open_behind p ce has_e (level c.index)) f in
      let e1 : length ce + 1 ≡ length (ce ++ (i ∷ [])) = omega (arith, length-append ce (i ∷ [])) in
      let e2 : p + length ce + 1 ≡ p + length (ce ++ (i ∷ [])) = omega (arith, e1) in
      gives_length code n _ _ _ _ _ (cut_to keep m) _ e1 (gives_at code n _ _ _ _ (cut_to keep m) (λ j. at (p + length ce + 1) (pos j ∷ st) h k m) (λ j. at (p + length (ce ++ (i ∷ []))) (pos j ∷ st) h k m) (λ j. ap (λ z. at z (pos j ∷ st) h k m) e2)
      (then_quiet code n (length ce) 1 (at p st h k m) (value_of c.index m) (λ v. place_of c.wrap c.array.at (length (cells_of m c.array.id)) v) (value_deeds c.index m) (cut_to keep m) (λ v. at (p + length ce) (v ∷ st) h k m) (λ j. at (p + length ce + 1) (pos j ∷ st) h k m)
      (value_here c.index p L A keep st h k m f fit named.1 has_e)
      (λ v ok. bound code n h k m (p + length ce) st (cut_to keep m) c.array.id c.wrap c.array.at v here is (fine_leaves (p + length ce) L A keep h k m f2))))

  -- a statement's last instruction, which leads to its end
  final : (s : State) (x : Around) (h : List ℤ) (k : List ℕ) (m : Memory) (i : Instr) (ds : List Deed) → s.hidden ≡ h → s.counters ≡ k → slice_get code s.pc ≡ Some i
      → act i (open_at code s.pc) n s ≡ goes (at x.to x.stack h k m) → act_deeds i s ≡ on_cells ds → RunsIn code n (most n 1) s x ds (done m)
  final s x h k m i ds e1 e2 is acts does =
      lands code n (most n 1) s x ds h k m (kept_refl x.depth s (at x.to x.stack h k m) e1 e2) (one code n s (at x.to x.stack h k m) i ds is acts does)

  abbrev pub around : ℕ → List ℤ → ℕ → ℕ → Around
  around depth st to keep = record { depth = depth; stack = st; to = to; keep = keep }

  pub fits_length : (a b c : ℕ) → a + b ≡ c → most n a + most n b ≤ most n c
  fits_length a b c e = subst (λ j. most n a + most n b ≤ most n j) e (most_more n a b)

  -- a value, and an instruction that takes it
  pub value_then_one : (e : Expr) (i : Instr) (depth p L A keep : ℕ) (st h : List ℤ) (k : List ℕ) (m : Memory) (go : ℤ → Memory) (es : ℤ → List Deed)
      → Fine p L A keep h k m → IsFitExpr e → IsNamed e L A → Stands code p (expr_code e ++ (i ∷ []))
      → ((v : ℤ) → act i (open_at code (p + length (expr_code e))) n (at (p + length (expr_code e)) (v ∷ st) h k m) ≡ goes (at (p + length (expr_code e) + 1) st h k (go v)))
      → ((v : ℤ) → act_deeds i (at (p + length (expr_code e)) (v ∷ st) h k m) ≡ on_cells (es v))
      → RunsIn code n (most n (length (expr_code e ++ (i ∷ [])))) (at p st h k m) (around depth st (p + length (expr_code e ++ (i ∷ []))) keep) (value_deeds e m ++ on_ok (value_of e m) es) (with_value (value_of e m) m (λ v. done (go v)))
  value_then_one e i depth p L A keep st h k m go es f fit named has acts does =
      let c = expr_code e in
      let q = p + length (c ++ (i ∷ [])) in
      let x = around depth st q keep in
      let is = (back code p c (i ∷ []) has).0 in
      let e1 : length c + 1 ≡ length (c ++ (i ∷ [])) = omega (arith, length-append c (i ∷ [])) in
      let e2 : p + length c + 1 ≡ q = omega (arith, e1) in
      runs_wider code n (most n (length c) + most n 1) (most n (length (c ++ (i ∷ [])))) (at p st h k m) x _ _ (fits_length (length c) 1 _ e1)
      (runs_value code n (length c) (most n 1) (at p st h k m) x (value_of e m) m (λ v. done (go v)) (value_deeds e m) es (λ v. at (p + length c) (v ∷ st) h k m)
      (value_here e p L A keep st h k m f fit named (front code p c (i ∷ []) has))
      (λ v ok. kept_refl depth (at p st h k m) (at (p + length c) (v ∷ st) h k m) refl refl)
      (λ v ok. final (at (p + length c) (v ∷ st) h k m) x h k (go v) i (es v) refl refl is (acts v ∙ ap (λ z. goes (at z st h k (go v))) e2) (does v)))

  -- a place, a value, and an instruction that takes both
  pub cell_then_one : (c : Access) (e : Expr) (i : Instr) (depth p L A keep : ℕ) (st h : List ℤ) (k : List ℕ) (m : Memory) (go : ℕ → ℤ → Memory) (es : ℕ → List Deed)
      → Fine p L A keep h k m → IsFitExpr c.index → IsFitExpr e → IsCellNamed c L A → IsNamed e L A → Stands code p (place_code c ++ (expr_code e ++ (i ∷ [])))
      → ((q j : ℕ) (v : ℤ) → j < length (cells_of m c.array.id) → act i (open_at code q) n (at q (v ∷ pos j ∷ st) h k m) ≡ goes (at (q + 1) st h k (go j v)))
      → ((q j : ℕ) (v : ℤ) → act_deeds i (at q (v ∷ pos j ∷ st) h k m) ≡ on_cells (es j))
      → RunsIn code n (most n (length (place_code c ++ (expr_code e ++ (i ∷ []))))) (at p st h k m) (around depth st (p + length (place_code c ++ (expr_code e ++ (i ∷ [])))) keep)
      (value_deeds c.index m ++ on_ok (cell_of c m) (λ j. value_deeds e m ++ on_ok (value_of e m) (λ v. es j))) (with_value (cell_of c m) m (λ j. with_value (value_of e m) m (λ v. done (go j v))))
  cell_then_one c e i depth p L A keep st h k m go es f fit_c fit named_c named has acts does =
      let cp = place_code c in
      let ce = expr_code e in
      let r = p + length cp in
      let q = p + length (cp ++ (ce ++ (i ∷ []))) in
      let x = around depth st q keep in
      let has_e = back code p cp (ce ++ (i ∷ [])) has in
      let has_p = front code p cp (ce ++ (i ∷ [])) has in
      let is = (back code r ce (i ∷ []) has_e).0 in
      let f2 = fine_at p r L A keep h k m (open_behind p cp has_p (level_place c)) f in
      let e1 : length cp + (length ce + 1) ≡ length (cp ++ (ce ++ (i ∷ []))) = omega (arith, length-append cp (ce ++ (i ∷ [])), length-append ce (i ∷ [])) in
      let e2 : r + length ce + 1 ≡ q = omega (arith, e1) in
      runs_wider code n (most n (length cp) + (most n (length ce) + most n 1)) (most n (length (cp ++ (ce ++ (i ∷ []))))) (at p st h k m) x _ _ (omega (arith, fits_length (length ce) 1 (length ce + 1) refl, fits_length (length cp) (length ce + 1) _ e1))
      (runs_value code n (length cp) (most n (length ce) + most n 1) (at p st h k m) x (cell_of c m) m (λ j. with_value (value_of e m) m (λ v. done (go j v))) (value_deeds c.index m) (λ j. value_deeds e m ++ on_ok (value_of e m) (λ v. es j)) (λ j. at r (pos j ∷ st) h k m)
      (place_here c p L A keep st h k m f fit_c named_c has_p)
      (λ j ok. kept_refl depth (at p st h k m) (at r (pos j ∷ st) h k m) refl refl)
      (λ j ok. runs_value code n (length ce) (most n 1) (at r (pos j ∷ st) h k m) x (value_of e m) m (λ v. done (go j v)) (value_deeds e m) (λ v. es j) (λ v. at (r + length ce) (v ∷ pos j ∷ st) h k m)
      (value_here e r L A keep (pos j ∷ st) h k m f2 fit named (front code r ce (i ∷ []) has_e))
      (λ v ok_v. kept_refl depth (at r (pos j ∷ st) h k m) (at (r + length ce) (v ∷ pos j ∷ st) h k m) refl refl)
      (λ v ok_v. final (at (r + length ce) (v ∷ pos j ∷ st) h k m) x h k (go j v) i (es j) refl refl is (acts (r + length ce) j v (cell_within c m j ok) ∙ ap (λ z. goes (at z st h k (go j v))) e2) (does (r + length ce) j v))))

  pub saves : (q : ℕ) (st h : List ℤ) (k : List ℕ) (m : Memory) (v : ℤ) (id out : ℕ) → id < first_hidden → id < length m.scalars → act (instr.Save id) out n (at q (v ∷ st) h k m) ≡ goes (at (q + 1) st h k (assign id v m))
  saves q st h k m v id out low here =
      ap (λ (b : Bool). if b then where_so (nat_lt id (length m.scalars)) (goes (at (q + 1) st h k (assign id v m))) else where_so (nat_lt (id - first_hidden) (length h)) (goes (at (q + 1) st (slice_set h (id - first_hidden) v) k m))) (so id first_hidden low)
      ∙ ap (λ b. where_so b (goes (at (q + 1) st h k (assign id v m)))) (so id (length m.scalars) here)

  -- the jump of a test
  pub zero_step : (q z : ℕ) (st h : List ℤ) (k : List ℕ) (m : Memory) (v : ℤ) (c : Bool) → slice_get code q ≡ Some (instr.Zero z) → is_zero v ≡ c
      → Comes code n 1 (at q (v ∷ st) h k m) [] (at (if c then z else q + 1) st h k m)
  zero_step q z st h k m v c is e =
      one code n (at q (v ∷ st) h k m) (at (if c then z else q + 1) st h k m) (instr.Zero z) [] is (ap (λ (b : Bool). goes (at (if b then z else q + 1) st h k m)) e) refl

  -- behind a row there is what leaves its scalars
  pub block_room : (q count : ℕ) → Stands code q (leave_code count) → count ≤ open_at code q
  block_room q count has = let e : open_at code q ≡ count + open_at code (q + length (leave_code count)) = open_before code q (leave_code count) has ∙ leave_opens count _ in omega (arith, e)

  -- what holds behind a statement with this code
  pub fine_behind : (s : Stmt) (c : List Instr) (p L A keep : ℕ) (h h' : List ℤ) (k k' : List ℕ) (m : Memory) → ((b : ℕ) → opens c b ≡ b - lets s) → IsI64Stmt s → Fine p L A keep h k m → Stands code p c
      → (run s n m).end ≡ outcome.Done → length h' ≡ length h → length k' ≡ length k → lets s ≤ open_at code (p + length c)
      → Fine (p + length c) (L + lets s) A keep h' k' (run s n m).store
  fine_behind s c p L A keep h h' k k' m opened t f has over eh ek some =
      let q = p + length c in
      let e : open_at code p ≡ open_at code q - lets s = open_before code p c has ∙ opened (open_at code q) in
      record {
        good = good_after s n L A m t f.good over;
        hidden = eh ∙ f.hidden;
        counters = ek ∙ f.counters;
        least = omega (arith, e, f.least);
        kept = omega (arith, e, f.kept, some);
      }

  -- the counter of a loop begins
  pub entered : (q depth : ℕ) (st h : List ℤ) (k : List ℕ) (m : Memory) → depth < length k → slice_get code q ≡ Some (instr.Enter depth)
      → Comes code n 1 (at q st h k m) [] (at (q + 1) st h (slice_set k depth 0) m)
  entered q depth st h k m below is =
      one code n (at q st h k m) (at (q + 1) st h (slice_set k depth 0) m) (instr.Enter depth) [] is (ap (λ b. where_so b (goes (at (q + 1) st h (slice_set k depth 0) m))) (so depth (length k) below)) refl

  turn_act : (q depth a L A keep : ℕ) (st h : List ℤ) (k : List ℕ) (m : Memory) (c : Bool) → Fine q L A keep h k m → depth < length k → nat_lt (slice_index_or k depth 0) n ≡ c
      → act (instr.Turn depth a) (open_at code q) n (at q st h k m) ≡ (if c then goes (at (q + 1) st h (slice_set k depth (slice_index_or k depth 0 + 1)) m) else halts (ended (starved a (leave (open_at code q) m))))
  turn_act q depth a L A keep st h k m c f below test =
      let end = λ (b : Bool). if b then goes (at (q + 1) st h (slice_set k depth (slice_index_or k depth 0 + 1)) m) else halts (ended (starved a (leave (open_at code q) m))) in
      ap (λ b. where_so b (where_so (nat_le (open_at code q) (length m.scalars)) (end (nat_lt (slice_index_or k depth 0) n)))) (so depth (length k) below)
      ∙ ap (λ b. where_so b (end (nat_lt (slice_index_or k depth 0) n))) (le-leb (open_at code q) (length m.scalars) (omega (arith, f.least, f.good.scalars)))
      ∙ ap end test

  -- one more turn
  pub turned : (q depth a L A keep : ℕ) (st h : List ℤ) (k : List ℕ) (m : Memory) → Fine q L A keep h k m → depth < length k → slice_index_or k depth 0 < n → slice_get code q ≡ Some (instr.Turn depth a)
      → Comes code n 1 (at q st h k m) [] (at (q + 1) st h (slice_set k depth (slice_index_or k depth 0 + 1)) m)
  turned q depth a L A keep st h k m f below some is =
      one code n (at q st h k m) (at (q + 1) st h (slice_set k depth (slice_index_or k depth 0 + 1)) m) (instr.Turn depth a) [] is (turn_act q depth a L A keep st h k m true f below (so (slice_index_or k depth 0) n some)) refl

  -- no turn is left
  pub out_of_turns : (q depth a L A keep : ℕ) (st h : List ℤ) (k : List ℕ) (m : Memory) → Fine q L A keep h k m → depth < length k → n ≤ slice_index_or k depth 0 → slice_get code q ≡ Some (instr.Turn depth a)
      → Ends code n 1 (at q st h k m) [] (starved a (cut_to keep m))
  out_of_turns q depth a L A keep st h k m f below none_left is =
      last code n (at q st h k m) (instr.Turn depth a) (starved a (cut_to keep m)) is
      (turn_act q depth a L A keep st h k m false f below (le-ltb (slice_index_or k depth 0) n none_left) ∙ ap (λ x. halts (ended (starved a x))) (fine_leaves q L A keep h k m f).1) refl

  pub block_good : {j : _} (row : Row_of-Stmt j) (L A : ℕ) (m : Memory) → IsI64Row row → Good L A m → (run_row row n m).end ≡ outcome.Done → Good L A (block (run_row row n) m).store
  block_good row L A m t good over =
      let r = (run_row row n m).store in
      let long = row_depth row n L m good.scalars over in
      subst (λ l. Good L A (cut_to l r)) (sym good.scalars) (cut_good L A r (omega (arith, long)) (same_count m r (row_kept SameArrays arrays_kept row n m) ∙ good.arrays) (row_fits row t n m good.fits))

  pub step_open : (r : ℕ) (i : Instr) → slice_get code r ≡ Some i → ((b : ℕ) → opens (i ∷ []) b ≡ b) → open_at code (r + 1) ≡ open_at code r
  step_open r i is even = sym (open_before code r (i ∷ []) (is, tt) ∙ even _)

  -- a test at such a place, turned round
  pub flipped_here : (e : Expr) (p L A keep : ℕ) (st h : List ℤ) (k : List ℕ) (m : Memory) → Fine p L A keep h k m → IsFitExpr e → IsNamed e L A → Stands code p (flip_code e)
      → Gives code n (length (flip_code e)) (at p st h k m) (value_of e m) (value_deeds e m) (cut_to keep m) (λ v. at (p + length (flip_code e)) (from_test (is_zero v) ∷ st) h k m)
  flipped_here e p L A keep st h k m f fit named has =
      let named_here : IsNamed e (length m.scalars) (length m.arrays) = subst (λ x. IsNamed e x (length m.arrays)) (sym f.good.scalars) (subst (λ x. IsNamed e L x) (sym f.good.arrays) named) in
      flipped code n h k m e p st (cut_to keep m) fit named_here has (fine_leaves p L A keep h k m f)

  pub turn_good : {j : _} (row : Row_of-Stmt j) (L A : ℕ) (x : ℤ) (m : Memory) → IsI64Row row → IsI64 x → Good L A m → (run_row row n (declare x m)).end ≡ outcome.Done → Good L A (turn (run_row row n) x m).store
  turn_good row L A x m t fits good over =
      let d = declared_good L A x m fits good in
      let r = (run_row row n (declare x m)).store in
      let long = row_depth row n (L + 1) (declare x m) d.scalars over in
      subst (λ l. Good L A (cut_to l r)) (sym good.scalars) (cut_good L A r (omega (arith, long)) (same_count (declare x m) r (row_kept SameArrays arrays_kept row n (declare x m)) ∙ good.arrays) (row_fits row t n (declare x m) d.fits))

  -- hidden scalars
  pub hidden_loaded : (q id j : ℕ) (st h : List ℤ) (k : List ℕ) (m : Memory) → id ≡ first_hidden + j → j < length h → slice_get code q ≡ Some (instr.Load id)
      → Comes code n 1 (at q st h k m) [] (at (q + 1) (slice_index_or h j (pos 0) ∷ st) h k m)
  hidden_loaded q id j st h k m e below is =
      let s = at q st h k m in
      let high : nat_lt id first_hidden ≡ false = le-ltb id first_hidden (omega (arith, e)) in
      let place : id - first_hidden ≡ j = omega (arith, e) in
      let t = λ (z : ℕ). at (q + 1) (slice_index_or h z (pos 0) ∷ st) h k m in
      one code n s (t j) (instr.Load id) [] is
      (ap (λ (b : Bool). if b then where_so (nat_lt id (length m.scalars)) (goes (at (q + 1) (scalar_at m id ∷ st) h k m)) else where_so (nat_lt (id - first_hidden) (length h)) (goes (t (id - first_hidden)))) high
      ∙ ap (λ z. where_so (nat_lt z (length h)) (goes (t z))) place ∙ ap (λ b. where_so b (goes (t j))) (so j (length h) below))
      refl

  pub hidden_saved : (q id j : ℕ) (st h : List ℤ) (k : List ℕ) (m : Memory) (v : ℤ) → id ≡ first_hidden + j → j < length h → slice_get code q ≡ Some (instr.Save id)
      → Comes code n 1 (at q (v ∷ st) h k m) [] (at (q + 1) st (slice_set h j v) k m)
  hidden_saved q id j st h k m v e below is =
      let s = at q (v ∷ st) h k m in
      let high : nat_lt id first_hidden ≡ false = le-ltb id first_hidden (omega (arith, e)) in
      let place : id - first_hidden ≡ j = omega (arith, e) in
      let t = λ (z : ℕ). at (q + 1) st (slice_set h z v) k m in
      one code n s (t j) (instr.Save id) [] is
      (ap (λ (b : Bool). if b then where_so (nat_lt id (length m.scalars)) (goes (at (q + 1) st h k (assign id v m))) else where_so (nat_lt (id - first_hidden) (length h)) (goes (t (id - first_hidden)))) high
      ∙ ap (λ z. where_so (nat_lt z (length h)) (goes (t z))) place ∙ ap (λ b. where_so b (goes (t j))) (so j (length h) below))
      refl
