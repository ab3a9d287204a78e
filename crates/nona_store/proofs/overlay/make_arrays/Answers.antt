use Rattle.std.proofs.Common.{◌∙◌, ap, length, ◌+◌, ◌++◌, ◌∷◌, []}
use Rattle.std.proofs.lemmas.List.{length_push}
use Rattle.nona_store.specs.Overlays.{over_of}
use Rattle.nona_store.proofs.Overlaying.{array_added}
use Rattle.nona_store.proofs.overlay.make_arrays.Goals as goal

pub arrays-preserved : goal.arrays-preserved
arrays-preserved c =
    let new = c.in_ok-push.ensures.items ∙ ap (λ pages. c.arrays.arrays.items ++ pages ∷ []) c.begin.ensures in
    let i = c.arrays.invariant in
    record {
      long = ap length new ∙ length_push c.arrays.arrays.items [] ∙ ap (λ n. n + 1) i.long;
      same = ap over_of new ∙ array_added c.arrays.arrays.items ∙ i.same;
    }
