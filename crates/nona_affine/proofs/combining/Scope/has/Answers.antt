use Rattle.nona_affine.proofs.Members.{either_then, either_else}
use Rattle.nona_affine.proofs.combining.Scope.has.Goals as goal

pub returns-then-has : goal.returns-then-has
returns-then-has c = either_then c.args.id c.args.self.now.inner.now c.args.self.now.names.now c.has.result c.if-has.true c.has.ensures

pub returns-else-has : goal.returns-else-has
returns-else-has c =
    either_else c.args.id c.args.self.now.inner.now c.args.self.now.names.now c.has.result c.has-else-has.result c.if-has.false c.has.ensures c.has-else-has.ensures
