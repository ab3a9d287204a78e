use Rattle.nona_tree.proofs.Depth.{all_grow, all_block_depth, turns_depth, depth_where_done, depths_where_done}
use Rattle.nona_tree.proofs.laws.scalars_stay.Goals as goal

pub returns-clause-no_fewer : goal.returns-clause-no_fewer
returns-clause-no_fewer c = all_grow

pub returns-clause-block : goal.returns-clause-block
returns-clause-block c = all_block_depth

pub returns-clause-turns : goal.returns-clause-turns
returns-clause-turns c = turns_depth

pub returns-clause-one : goal.returns-clause-one
returns-clause-one c = depth_where_done

pub returns-clause-all : goal.returns-clause-all
returns-clause-all c = depths_where_done
