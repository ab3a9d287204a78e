use Rattle.net_pipe.specs.Staged.{staging_of}
use Rattle.net_pipe.proofs.Skipping.{skips_more}
use Rattle.net_pipe.proofs.task.Task.skip.Goals as goal

pub units-preserved : goal.units-preserved
units-preserved c =
    skips_more (staging_of c.args.stages.now) c.args.from c.args.to c.units.at c.args.self.now c.units.self c.skip_one.new.self
    c.units-test.true c.requires.units c.units.invariant c.skip_one.ensures
