use Rattle.net_pipe.proofs.StageNets.{is_pipeline, stages_begin}
use Rattle.net_pipe.proofs.laws.stages_begin.Goals as goal

pub returns-clause-net : goal.returns-clause-net
returns-clause-net c = stages_begin

pub returns-clause-shape : goal.returns-clause-shape
returns-clause-shape c = is_pipeline
