use Rattle.std.proofs.Common.{rules}
use Rattle.std.proofs.lemmas.List.Edits.{map_over_more}
use Rattle.nona_graph.specs.Sets.{passed_row}
use Rattle.nona_graph.proofs.reaching.pass.Goals as goal

pub loop-i-preserved : goal.loop-i-preserved
loop-i-preserved c = search (rules, map_over_more (passed_row c.args.unit c.args.via))
