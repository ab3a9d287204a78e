use Rattle.std.proofs.Common.{refl, sym}
use Rattle.net_flow.specs.Flow.{Unit_at}
use Rattle.net_pipe.specs.Kept.{net_of, work_of}
use Rattle.net_pipe.proofs.Moves.{at_position, unit_is}
use Rattle.net_pipe.proofs.Stepping.{may_do}
use Rattle.net_pipe.proofs.pipeline.Pipeline.do_unit.Goals as goal

pub does_unit-requires-clause-may : goal.does_unit-requires-clause-may
does_unit-requires-clause-may c =
    may_do c.args.self.now c.args.task c.requires.there c.requires.may c.index_mut.result.now (sym c.index_mut.ensures.value) c.args.unit c.requires.before

pub returns-clause-acts : goal.returns-clause-acts
returns-clause-acts c =
    let n = c.args.self.now in
    at_position (work_of n) (net_of n) _ c.args.task (Unit_at c.args.unit) c.requires.before refl
    (unit_is (work_of n) n.granted n.stages.limit n.paused n.store n.tasks.items n.links.items n.waits c.args.task c.index_mut.result.now c.requires.there
    (sym c.index_mut.ensures.value) c.args.unit c.does_unit.new.self c.in_ok-does_unit.ensures.task)
