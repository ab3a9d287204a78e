use Rattle.std.proofs.Common.{◌≡◌, ◌≤◌, length}
use Rattle.nona_sparse.specs.Sparse.{at}
use Rattle.nona_sparse.specs.declared.page.TheConstants.{PAGES}
use Rattle.nona_sparse.proofs.sparse.make_pages.Given as goal

abbrev pub invariant-pages : goal.invariant-pages
invariant-pages l = record {
  long : length l.pages.items ≡ l.counter;
  few : l.counter ≤ PAGES;
  same : at l.pages.items ≡ at l.initial.pages.items;
}
