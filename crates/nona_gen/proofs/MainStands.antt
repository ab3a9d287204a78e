-- The code of a program's main statements stands for them.
use Rattle.std.proofs.Common.{◌≡◌, ◌≢◌, ℕ, ◌+◌, ◌-◌, ◌≤◌, All, Bool, ℤ, pos, List, [], ◌∷◌, ◌++◌, length, refl, sym, ap, ◌∙◌, subst, arith, append_assoc, length-append}
use Rattle.std.proofs.Math.Seq.{drop-length}
use Rattle.std.proofs.lemmas.List.{length-replicate}
use Rattle.std.proofs.lemmas.List.Elements.{All-head, All-tail}
use Rattle.nona_tree.specs.declared.outcomes.Outcome.{Outcome}
use Rattle.nona_tree.specs.declared.outcomes.Outcome.TheVariants as outcome
use Rattle.nona_tree.specs.declared.trees.Loop.{Loop}
use Rattle.nona_tree.specs.declared.trees.Stmt.{Stmt}
use Rattle.nona_tree.specs.Memory.{Memory}
use Rattle.nona_tree.specs.Run.{done, then_from, run, run_all}
use Rattle.nona_tree.specs.Scope.{AreScoped, is_let}
use Rattle.nona_tree.specs.Beside.{on_end}
use Rattle.nona_tree.specs.Entries.{Opened, count_in, entries, entries_all}
use Rattle.nona_main.specs.Course.{Course, course_of}
use Rattle.nona_code.specs.declared.instr.Instr.{Instr}
use Rattle.nona_code.specs.declared.instr.Instr.TheVariants as instr
use Rattle.nona_code.specs.Machine.{opens, open_at, begun, most_steps, places}
use Rattle.nona_code.specs.Main.{StandsForMain}
use Rattle.nona_code.proofs.Placed.{Stands, front, back, open_before, opens-append, stands_all}
use Rattle.nona_code.proofs.Traces.{most, most_more, last}
use Rattle.nona_gen.specs.Code.{lets_all}
use Rattle.nona_gen.specs.MainCode.{main_code, main_all, program_code}
use Rattle.nona_gen.specs.Units.{HasCode}
use Rattle.nona_gen.proofs.Fits.{code_fits}
use Rattle.nona_gen.proofs.Values.{at}
use Rattle.nona_gen.proofs.Lands.{cut_whole}
use Rattle.nona_gen.proofs.Opened.{depth_is, lets, main_opens, Good, good_after}
use Rattle.nona_gen.proofs.Parts.{Fine}
use Rattle.nona_gen.proofs.Stopping.{LeftIn, left_as, left_ended, left_whole, left_wider, entered_first, on_from}
use Rattle.nona_gen.proofs.Standing.{ended_depth, none_less}
use Rattle.nona_gen.proofs.MainRuns.{main_stops}

main_all_opens : (chosen : Loop → Bool) (first : ℕ) (ss : List Stmt) (depth p b : ℕ) → opens (main_all chosen first ss depth p) b ≡ b - lets_all ss
main_all_opens chosen first [] depth p b = omega arith
main_all_opens chosen first (s ∷ rest) depth p b =
    let c = main_code chosen first s depth p in
    let more = first + count_in chosen s in
    let e : b - lets_all rest - lets s ≡ b - (lets s + lets_all rest) = omega arith in
    opens-append c (main_all chosen more rest depth (p + length c)) b
    ∙ main_opens chosen first s depth p _
    ∙ ap (λ k. k - lets s) (main_all_opens chosen more rest depth (p + length c) b)
    ∙ e

-- the course of a statement, and then of those behind it, where one that ends otherwise than done has dropped no scalar
course_all : (chosen : Loop → Bool) (more : ℕ) (rest : List Stmt) (L n : ℕ) (es : List Opened) (m : Memory) (e : Outcome) → (e ≢ outcome.Done → length m.scalars ≡ L)
    → entered_first es (on_from L m e (course_of chosen more rest n)) ≡ record { ran = then_from m e (run_all rest n); entries = es ++ on_end m e (entries_all chosen more rest n) }
course_all chosen more rest L n es m outcome.Done long = refl
course_all chosen more rest L n es m (outcome.Trap t) long =
    ap (λ (w : Memory). let c : Course = record { ran = record { store = w; end = outcome.Trap t }; entries = es ++ [] } in c) (cut_whole L m (long (λ h. cc)))
course_all chosen more rest L n es m (outcome.OutOfTurns t) long =
    ap (λ (w : Memory). let c : Course = record { ran = record { store = w; end = outcome.OutOfTurns t }; entries = es ++ [] } in c) (cut_whole L m (long (λ h. cc)))

module _ (code : List Instr) (n : ℕ) (chosen : Loop → Bool) where
  -- main statements, behind which the code stops: what they declare stays
  all_stops : (ss : List Stmt) (first p L A : ℕ) (h : List ℤ) (k : List ℕ) (m : Memory) → All HasCode ss → AreScoped ss L A → Good L A m → length h ≡ 256 → length k ≡ 256
      → (let c = main_all chosen first ss 0 p ++ (instr.Stop ∷ []) in
      Stands code p c → open_at code (p + length c) ≡ 0 → most n (length c) ≤ most_steps code n
      → LeftIn code n (most n (length c)) (at p [] h k m) (course_of chosen first ss n m))
  all_stops [] first p L A h k m has_code scoped good long_h long_k has end few =
      left_ended code n (most n 1) (at p [] h k m) [] (done m) (last code n (at p [] h k m) instr.Stop (done m) has.0 refl refl)
  all_stops (s ∷ rest) first p L A h k m has_code scoped good long_h long_k has end few =
      let c = main_code chosen first s 0 p in
      let more = first + count_in chosen s in
      let q = p + length c in
      let stop = instr.Stop ∷ [] in
      let rc = main_all chosen more rest 0 q in
      let all = c ++ rc ++ stop in
      let has_code_s = All-head HasCode s rest has_code in
      let apart : (c ++ rc) ++ stop ≡ c ++ (rc ++ stop) = append_assoc c rc stop in
      let has_all : Stands code p (c ++ (rc ++ stop)) = subst (Stands code p) apart has in
      let len : length ((c ++ rc) ++ stop) ≡ length c + length (rc ++ stop) = ap length apart ∙ length-append c (rc ++ stop) in
      let opened : open_at code p ≡ 0 =
      open_before code p ((c ++ rc) ++ stop) has ∙ ap (opens ((c ++ rc) ++ stop)) end ∙ opens-append (c ++ rc) stop 0 ∙ main_all_opens chosen first (s ∷ rest) 0 p 0 ∙ none_less (lets_all (s ∷ rest)) in
      let f : Fine code n p L A L h k m = record { good = good; hidden = long_h; counters = long_k; least = omega (arith, opened); kept = omega (arith, opened) } in
      let enough : most n (length c) + most n (length (rc ++ stop)) ≤ most n (length ((c ++ rc) ++ stop)) = omega (arith, most_more n (length c) (length (rc ++ stop)), ap (most n) len) in
      let r = run s n m in
      let e_q : p + length ((c ++ rc) ++ stop) ≡ q + length (rc ++ stop) = omega (arith, len) in
      left_as code n _ (at p [] h k m) _ _ (course_all chosen more rest L n (entries chosen first s n m) r.store r.end (λ other. ended_depth s n m other ∙ good.scalars))
      (left_wider code n (most n (length c) + most n (length (rc ++ stop))) (most n (length ((c ++ rc) ++ stop))) (at p [] h k m) _ enough
      (main_stops code n chosen s first 0 p L A L [] h k m (code_fits s has_code_s) has_code_s.numbers scoped.0 f (front code p c (rc ++ stop) has_all)
      (most n (length (rc ++ stop))) (course_of chosen more rest n) (omega (arith, enough, few))
      (λ over h2 k2 kept. all_stops rest more q (L + lets s) A h2 k2 r.store (All-tail HasCode s rest has_code) (subst (λ d. AreScoped rest d A) (depth_is (is_let s) L) scoped.1)
      (good_after s n L A m has_code_s.numbers good over) (kept.hidden.long ∙ long_h) (kept.counters.long ∙ long_k) (back code p c (rc ++ stop) has_all) (ap (open_at code) (sym e_q) ∙ end) (omega (arith, enough, few)))))

pub program_stands : (chosen : Loop → Bool) (ss : List Stmt) → All HasCode ss → StandsForMain (program_code chosen ss) chosen ss
program_stands chosen ss has_code n m scoped fits =
    let code = program_code chosen ss in
    let b = begun m in
    let start : 0 + length code ≡ length code = omega arith in
    let end : open_at code (0 + length code) ≡ 0 = ap (open_at code) start ∙ ap (λ xs. opens xs 0) (drop-length code) in
    left_whole code n (most n (length code)) b _ (omega arith)
    (all_stops code n chosen ss 1 0 (length m.scalars) (length m.arrays) b.hidden b.counters m has_code scoped (record { scalars = refl; arrays = refl; fits = fits })
    (length-replicate places (pos 0)) (length-replicate {A = ℕ} places 0) (stands_all code) end (omega arith))
