use Rattle.std.proofs.Common.{refl, ◌≡◌, ℕ, List}
use Rattle.nona_graph.specs.Sets.{ShowWalks}
use Rattle.nona_graph.proofs.Rows.{walks_after}
use Rattle.nona_graph.proofs.reaching.pass_unit.Goals as goal

pub returns-clause-walks : goal.returns-clause-walks
returns-clause-walks c = λ edges k is shows. walks_after edges c.args.unit k c.args.rows.now c.pass.new.rows _ is refl c.pass.ensures c.requires.there shows
