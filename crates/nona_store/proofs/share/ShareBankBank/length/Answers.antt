use Rattle.std.proofs.Common.{◌<◌, sym, subst, ◌∙◌}
use Rattle.nona_store.specs.Overlays.{over_of}
use Rattle.nona_store.proofs.Overlaying.{as_long, as_many}
use Rattle.nona_store.proofs.share.ShareBankBank.length.Goals as goal

pub length-requires : goal.length-requires
length-requires c =
    let b = c.args.self.now in
    subst (λ n. c.args.array < n) (as_many (over_of b.share.now.written) 0 b.store.now.arrays) c.requires

pub returns-clause-value : goal.returns-clause-value
returns-clause-value c =
    let b = c.args.self.now in
    c.length.ensures.value ∙ sym (as_long b.store.now (over_of b.share.now.written) c.args.array)
