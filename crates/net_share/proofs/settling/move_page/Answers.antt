use Rattle.std.proofs.Common.{◌≡◌, ◌<◌, ◌+◌, ◌∙◌, ap, arith, drop, length, sym}
use Rattle.std.proofs.lemmas.List.{length-set}
use Rattle.nona_store.specs.Overlays.{over_of, written_off, written_on}
use Rattle.nona_store.proofs.Overlaying.{as_many}
use Rattle.nona_tree.specs.Memory.{Memory}
use Rattle.net_share.specs.Gathered.{with_page}
use Rattle.net_share.specs.Tasks.{share_of}
use Rattle.net_share.proofs.Gathering.{changed_on, all_changed}
use Rattle.net_share.proofs.Paging.{page_on}
use Rattle.net_share.proofs.settling.move_page.Goals as goal

pub tasks-preserved : goal.tasks-preserved
tasks-preserved c =
    let id = c.args.array in
    let index = c.args.index in
    let xs = c.args.tasks.now.items in
    let ys = c.tasks.tasks.items in
    let at = c.tasks.number in
    let x = c.index_mut.result.now in
    let below : at < length ys = omega (arith, c.tasks-test.true, c.tasks.invariant.many, c.len-number-end.ensures) in
    let over = written_on id index (over_of x.share.written) in
    record {
      store =
          ap (with_page share_of id index (drop (at + 1) xs)) c.apply_page.ensures.store
          ∙ page_on share_of id index at (written_off id index) xs ys x c.tasks.store below (sym c.index_mut.ensures.value) c.tasks.invariant.tasks
          ∙ c.tasks.invariant.store;
      tasks =
          changed_on share_of at (written_off id index) xs ys x c.apply_page.new.self below (sym c.index_mut.ensures.value)
          c.apply_page.ensures.scalars c.apply_page.ensures.printed c.apply_page.ensures.left c.tasks.invariant.tasks;
      many = length-set ys at c.apply_page.new.self ∙ c.tasks.invariant.many;
      arrays = ap (λ (m : Memory). length m.arrays) c.apply_page.ensures.store ∙ as_many over 0 c.tasks.store.arrays ∙ c.tasks.invariant.arrays;
    }

pub returns-clause-tasks : goal.returns-clause-tasks
returns-clause-tasks c =
    all_changed share_of c.tasks.number (written_off c.args.array c.args.index) c.args.tasks.now.items c.tasks.tasks.items
    (omega (arith, c.tasks-test.false, c.tasks.invariant.many, c.len-number-end.ensures)) c.tasks.invariant.tasks
