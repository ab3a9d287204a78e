-- The code of a unit stands for its statement.
use Rattle.std.proofs.Common.{◌≡◌, ◌≢◌, ℕ, ◌+◌, ◌-◌, ◌≤◌, ◌^◌, pos, List, [], ◌∷◌, ◌++◌, length, Some, refl, ap, ◌∙◌, subst, arith, rules, length-append}
use Rattle.std.specs.Prelude.{slice_get, Ok, Err}
use Rattle.std.proofs.lemmas.List.{length-replicate}
use Rattle.nona_tree.specs.declared.outcomes.Outcome.{Outcome}
use Rattle.nona_tree.specs.declared.outcomes.Outcome.TheVariants as outcome
use Rattle.nona_tree.specs.declared.trees.Stmt.{Stmt, Let, Set, Fold, Put, FoldPut, If', While', For', Print}
use Rattle.nona_tree.specs.Memory.{Memory, declare}
use Rattle.nona_tree.specs.Value.{Answer, value_of}
use Rattle.nona_tree.specs.Run.{done, with_value, run}
use Rattle.nona_tree.specs.Deeds.{Deed, deeds}
use Rattle.nona_tree.proofs.Depth.{same_if_no_let}
use Rattle.nona_code.specs.declared.instr.Instr.{Instr}
use Rattle.nona_code.specs.declared.instr.Instr.TheVariants as instr
use Rattle.nona_code.specs.Machine.{State, ended, Trace, open_at, trace, begun, most_steps, places}
use Rattle.nona_code.specs.Stands.{StandsFor, on_cells}
use Rattle.nona_code.proofs.Placed.{front, back, opens-append, stands_all}
use Rattle.nona_code.proofs.Traces.{EndsIn, most, most_more, last, on_end_in}
use Rattle.nona_gen.specs.Code.{stmt_code, unit_code}
use Rattle.nona_gen.specs.Units.{HasCode}
use Rattle.nona_gen.proofs.Fits.{code_fits}
use Rattle.nona_gen.proofs.Values.{at}
use Rattle.nona_gen.proofs.Lands.{RunsBy, cut_whole}
use Rattle.nona_gen.proofs.Opened.{lets, stmt_opens}
use Rattle.nona_gen.proofs.Parts.{Fine, around}
use Rattle.nona_gen.proofs.Runs.{stmt_runs}

let_depth : (o : Answer) (m : Memory) → (with_value o m (λ v. done (declare v m))).end ≢ outcome.Done → length (with_value o m (λ v. done (declare v m))).store.scalars ≡ length m.scalars
let_depth (Ok v) m h = absurd (h refl)
let_depth (Err t) m h = refl

-- a statement that ends otherwise than done leaves as many scalars as there were
pub ended_depth : (s : Stmt) (n : ℕ) (m : Memory) → (run s n m).end ≢ outcome.Done → length (run s n m).store.scalars ≡ length m.scalars
ended_depth (Let x e) n m h = let_depth (value_of e m) m h
ended_depth (Set x e) n m h = same_if_no_let (Set x e) n m refl
ended_depth (Fold x f e) n m h = same_if_no_let (Fold x f e) n m refl
ended_depth (Put c e) n m h = same_if_no_let (Put c e) n m refl
ended_depth (FoldPut c f e) n m h = same_if_no_let (FoldPut c f e) n m refl
ended_depth (If' t p a q b) n m h = same_if_no_let (If' t p a q b) n m refl
ended_depth (While' t p b at_) n m h = same_if_no_let (While' t p b at_) n m refl
ended_depth (For' x l h_ p b seq at_) n m h = same_if_no_let (For' x l h_ p b seq at_) n m refl
ended_depth (Print e at_) n m h = same_if_no_let (Print e at_) n m refl

stops_by : (code : List Instr) (n b L : ℕ) (s : State) (q : ℕ) (ds : List Deed) (m : Memory) (e : Outcome) → slice_get code q ≡ Some instr.Stop
    → (e ≢ outcome.Done → length m.scalars ≡ L) → RunsBy code n b s (around code n 0 [] q L) ds m e → EndsIn code n (b + most n 1) s ds (record { store = m; end = e })
stops_by code n b L s q ds m outcome.Done is long r =
    let t = at q [] r.hidden r.counters m in
    let none : ds ++ [] ≡ ds = search rules in
    subst (λ l. EndsIn code n (b + most n 1) s l (done m)) none (on_end_in code n b (most n 1) s t (done m) ds [] r.comes (last code n t instr.Stop (done m) is refl refl))
stops_by code n b L s q ds m (outcome.Trap t) is long r =
    let e = cut_whole L m (long (λ p. cc)) in
    record { steps = r.steps; few = omega (arith, r.few); is = λ k. r.is k ∙ ap (λ (x : Memory). let y : Trace = record { end = Some (ended (record { store = x; end = outcome.Trap t })); did = on_cells ds } in y) e }
stops_by code n b L s q ds m (outcome.OutOfTurns t) is long r =
    let e = cut_whole L m (long (λ p. cc)) in
    record { steps = r.steps; few = omega (arith, r.few); is = λ k. r.is k ∙ ap (λ (x : Memory). let y : Trace = record { end = Some (ended (record { store = x; end = outcome.OutOfTurns t })); did = on_cells ds } in y) e }

pub none_less : (k : ℕ) → 0 - k ≡ 0
none_less k = omega arith

pub unit_stands : (s : Stmt) → HasCode s → StandsFor (unit_code s) s
unit_stands s h n m scoped fits =
    let fit = code_fits s h in
    let t = h.numbers in
    let c = stmt_code s 0 0 in
    let code = unit_code s in
    let has = stands_all code in
    let has_c = front code 0 c (instr.Stop ∷ []) has in
    let is = (back code 0 c (instr.Stop ∷ []) has).0 in
    let L = length m.scalars in
    let none_open : open_at code 0 ≡ 0 = opens-append c (instr.Stop ∷ []) 0 ∙ stmt_opens s 0 0 0 ∙ none_less (lets s) in
    let b = begun m in
    let f : Fine code n 0 L (length m.arrays) L b.hidden b.counters m = record {
      good = record { scalars = refl; arrays = refl; fits = fits };
      hidden = length-replicate places (pos 0);
      counters = length-replicate {A = ℕ} places 0;
      least = omega (arith, none_open);
      kept = omega (arith, none_open);
    } in
    let r = stmt_runs code n s 0 0 L (length m.arrays) L [] b.hidden b.counters m fit t scoped f has_c in
    let e = stops_by code n (most n (length c)) L b (0 + length c) (deeds s n m) (run s n m).store (run s n m).end is (λ h. ended_depth s n m h) r in
    let long : length code ≡ length c + 1 = length-append c (instr.Stop ∷ []) in
    let enough : e.steps ≤ most_steps code n = omega (arith, e.few, most_more n (length c) 1, ap (λ j. (n + 2) ^ j) long) in
    let all : most_steps code n ≡ e.steps + (most_steps code n - e.steps) = omega (arith, enough) in
    ap (λ j. trace code n j b) all ∙ e.is (most_steps code n - e.steps)
