use Rattle.std.proofs.Common.{rules, ◌≡◌, false, true, sym, ◌∙◌}
use Rattle.net_share.specs.Kept.{doing_of, work_of}
use Rattle.net_share.proofs.Moves.{granted_is, refused_is}
use Rattle.net_share.proofs.sharing.Sharing.claim.Goals as goal

pub returns-then-not-may_claim-clause-net : goal.returns-then-not-may_claim-clause-net
returns-then-not-may_claim-clause-net c =
    let n = c.args.self.now in
    let no_claim : c.may_claim.result ≡ false = search rules in
    refused_is (work_of n) n.granted n.iterations.limit n.paused n.store n.tasks.items c.args.task c.index_mut.result.now c.requires.there
    (sym c.index_mut.ensures.value) c.finishes.new.self (sym c.may_claim.ensures ∙ no_claim) (c.finishes.ensures.task n.store (doing_of n))

pub returns-clause-net : goal.returns-clause-net
returns-clause-net c =
    let n = c.args.self.now in
    let a_claim : c.may_claim.result ≡ true = search rules in
    granted_is (work_of n) n.granted n.iterations.limit n.paused n.store n.tasks.items c.args.task c.index_mut-2.result.now c.requires.there
    (sym c.index_mut-2.ensures.value) c.begins.new.self (sym c.may_claim.ensures ∙ a_claim) (c.begins.ensures.task n.store)
