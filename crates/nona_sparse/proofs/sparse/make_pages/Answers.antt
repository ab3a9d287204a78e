use Rattle.std.proofs.Common.{◌∙◌, ap, arith, length, ◌+◌}
use Rattle.std.proofs.lemmas.List.{length_push}
use Rattle.nona_sparse.specs.Sparse.{at, at_page}
use Rattle.nona_sparse.proofs.Placing.{page_added}
use Rattle.nona_sparse.proofs.sparse.make_pages.Goals as goal

pub pages-preserved : goal.pages-preserved
pages-preserved c =
    let new = c.in_ok-push.ensures.items in
    let i = c.pages.invariant in
    record {
      long = ap length new ∙ length_push c.pages.pages.items c.begin.result ∙ ap (λ n. n + 1) i.long;
      few = omega arith;
      same = ap at new ∙ page_added c.pages.pages.items c.begin.result (λ q. ap (λ page. at_page page q) c.begin.ensures) ∙ i.same;
    }

pub returns-clause-same : goal.returns-clause-same
returns-clause-same c =
    ap at c.in_ok-push-2.ensures.items ∙ page_added c.pages.pages.items c.in_ok-with_room.field-0 c.in_ok-with_room.ensures ∙ c.pages.invariant.same
