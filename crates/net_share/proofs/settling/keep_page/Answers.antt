use Rattle.std.proofs.Common.{◌≡◌, ◌<◌, ◌∙◌, arith, length, sym}
use Rattle.std.proofs.lemmas.List.{length-set}
use Rattle.nona_store.specs.Overlays.{changes_on_page}
use Rattle.net_share.specs.Tasks.{share_of}
use Rattle.net_share.proofs.Gathering.{rest_on, all_rest}
use Rattle.net_share.proofs.settling.keep_page.Goals as goal

pub tasks-preserved : goal.tasks-preserved
tasks-preserved c =
    let ys = c.tasks.tasks.items in
    let at = c.tasks.number in
    let i = c.tasks.invariant in
    let below : at < length ys = omega (arith, c.tasks-test.true, i.many, c.len-number-end.ensures) in
    record {
      kept =
          rest_on share_of at (changes_on_page c.args.array c.args.index c.args.store.now) c.args.tasks.now.items ys c.index_mut.result.now c.keep_page.new.self
          below (sym c.index_mut.ensures.value) c.keep_page.ensures.scalars c.keep_page.ensures.printed c.keep_page.ensures.written i.kept;
      many = length-set ys at c.keep_page.new.self ∙ i.many;
    }

pub returns : goal.returns
returns c =
    all_rest share_of c.tasks.number (changes_on_page c.args.array c.args.index c.args.store.now) c.args.tasks.now.items c.tasks.tasks.items
    (omega (arith, c.tasks-test.false, c.tasks.invariant.many, c.len-number-end.ensures)) c.tasks.invariant.kept
