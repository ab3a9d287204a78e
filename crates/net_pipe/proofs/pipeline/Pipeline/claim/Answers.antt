use Rattle.std.proofs.Common.{rules, ◌≡◌, ◌<◌, true, refl, sym, ap, arith, ◌∙◌}
use Rattle.net_flow.specs.Flow.{Claims}
use Rattle.net_flow.specs.Net.{enters}
use Rattle.net_pipe.specs.Kept.{net_of, work_of}
use Rattle.net_pipe.specs.Tasks.{counted, task_over}
use Rattle.net_pipe.proofs.Moves.{at_position, granted_is, refused_is}
use Rattle.net_pipe.proofs.Stepping.{around_claim}
use Rattle.net_pipe.proofs.pipeline.Pipeline.claim.Goals as goal

pub returns-then-not-may_claim-clause-acts : goal.returns-then-not-may_claim-clause-acts
returns-then-not-may_claim-clause-acts c =
    let n = c.args.self.now in
    at_position (work_of n) (net_of n) _ c.args.task Claims c.requires.claims refl
    (refused_is (work_of n) n.granted n.stages.limit n.paused n.store n.tasks.items n.links.items n.waits c.args.task c.index_mut.result.now c.requires.there
    (sym c.index_mut.ensures.value) c.ends.new.self (sym c.may_claim.ensures.granted ∙ c.if-not-may_claim.true) (c.ends.ensures.task n.store))

pub overflow_add-self : goal.overflow_add-self
overflow_add-self c =
    let below : c.args.self.now.granted < c.args.self.now.stages.limit = c.if-not-may_claim.ensures.few in
    let limit = c.requires.sound.limit in
    omega (arith, below, limit)

pub begins-requires-clause-around : goal.begins-requires-clause-around
begins-requires-clause-around c =
    around_claim c.args.self.now c.args.task c.requires.there c.requires.may c.index_mut-2.result.now (sym c.index_mut-2.ensures.value) c.requires.claims

pub returns-clause-acts : goal.returns-clause-acts
returns-clause-acts c =
    let n = c.args.self.now in
    let claims : c.may_claim.result ≡ true = search rules in
    at_position (work_of n) (net_of n) _ c.args.task Claims c.requires.claims refl
    (granted_is (work_of n) n.granted n.stages.limit n.paused n.store n.tasks.items n.links.items n.waits c.args.task c.index_mut-2.result.now c.requires.there
    (sym c.index_mut-2.ensures.value) c.begins.new.self (sym c.may_claim.ensures.granted ∙ claims)
    (c.begins.ensures.task n.store ∙ ap (λ vs. counted (enters (work_of n) n.granted vs (task_over n.store c.index_mut-2.result.now))) c.new.ensures))
