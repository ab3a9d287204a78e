use Rattle.std.proofs.Common.{sym, subst, arith}
use Rattle.std.specs.Borrow.{Bor}
use Rattle.std.specs.Prelude.{IsTrue}
use Rattle.nona_tree.specs.declared.trees.Loop.{Loop}
use Rattle.nona_forms.specs.Calm.{is_calm}
use Rattle.nona_gen.specs.Units.{BodyHasCode}
use Rattle.nona_gen.proofs.Imaging.{all_lent}
use Rattle.nona_gen.proofs.image.regions_of.Goals as goal

pub region_of-requires-clause-code : goal.region_of-requires-clause-code
region_of-requires-clause-code c =
    subst (λ (l : Bor Loop). BodyHasCode l.now) (sym c.l-item.is) (all_lent BodyHasCode c.args.loops.now c.loop-l.l-index c.l-item.result (omega arith) c.requires.code)

pub region_of-requires-clause-calm : goal.region_of-requires-clause-calm
region_of-requires-clause-calm c =
    subst (λ (l : Bor Loop). IsTrue (is_calm l.now)) (sym c.l-item.is)
    (all_lent (λ (l : Loop). IsTrue (is_calm l)) c.args.loops.now c.loop-l.l-index c.l-item.result (omega arith) c.requires.calm)
