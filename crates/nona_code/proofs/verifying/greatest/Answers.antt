use Rattle.std.proofs.Common.{◌≡◌, ◌+◌, Some, None, sym, ap, subst, ◌∙◌, arith}
use Rattle.std.specs.Prelude.{slice_get}
use Rattle.std.proofs.lemmas.Option.{slice_get-get_or}
use Rattle.nona_code.specs.declared.marks.Mark.{Mark}
use Rattle.nona_code.specs.Marked.{HasMark}
use Rattle.nona_code.proofs.Highest.{IsSoFar, all_seen, seen, skipped}
use Rattle.nona_code.proofs.verifying.greatest.Goals.{in-Some, in_default}
use Rattle.nona_code.proofs.verifying.greatest.Goals as goal

pub loop-known-preserved : goal.loop-known-preserved
loop-known-preserved c =
    let marks = c.args.marks.now in
    let n = c.loop-known.known-index in
    let most = c.loop-known.most in
    let now = c.match-known.most in
    elim c.match-known.branch [
      | in-Some w ↦
          let has : HasMark marks n w.in-Some.mark = slice_get-get_or marks n None c.loop-known-test.true ∙ ap Some w.in-Some.is in
          record {
            depth = subst (IsSoFar (λ m. m.depth) marks (n + 1)) (sym (ap (λ (m : Mark). m.depth) w.most-is ∙ w.max.ensures)) (seen (λ m. m.depth) marks n most.depth w.in-Some.mark has c.loop-known.invariant.depth);
            declared = subst (IsSoFar (λ m. m.declared) marks (n + 1)) (sym (ap (λ (m : Mark). m.declared) w.most-is ∙ w.max-in-Some.ensures)) (seen (λ m. m.declared) marks n most.declared w.in-Some.mark has c.loop-known.invariant.declared);
          }
      | in_default w ↦
          let none : slice_get marks n ≡ Some None = slice_get-get_or marks n None c.loop-known-test.true ∙ ap Some w.in_default.is in
          record {
            depth = subst (IsSoFar (λ m. m.depth) marks (n + 1)) (sym (ap (λ (m : Mark). m.depth) w.most-is)) (skipped (λ m. m.depth) marks n most.depth none c.loop-known.invariant.depth);
            declared = subst (IsSoFar (λ m. m.declared) marks (n + 1)) (sym (ap (λ (m : Mark). m.declared) w.most-is)) (skipped (λ m. m.declared) marks n most.declared none c.loop-known.invariant.declared);
          }
    ]

pub returns : goal.returns
returns c =
    record {
      depth = all_seen (λ m. m.depth) c.args.marks.now c.loop-known.known-index c.loop-known.most.depth (omega (arith, c.loop-known-test.false)) c.loop-known.invariant.depth;
      declared = all_seen (λ m. m.declared) c.args.marks.now c.loop-known.known-index c.loop-known.most.declared (omega (arith, c.loop-known-test.false)) c.loop-known.invariant.declared;
    }
