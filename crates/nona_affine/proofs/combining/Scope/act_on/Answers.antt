use Rattle.nona_affine.specs.Put.{scope_ids}
use Rattle.nona_affine.proofs.Putting.{combines, turns}
use Rattle.nona_affine.proofs.combining.Scope.act_on.Goals as goal

pub returns-in-Neg : goal.returns-in-Neg
returns-in-Neg c =
    turns c.turn_last.result c.args.e.now c.in-Neg.field-0 (scope_ids c.args.self.now) c.args.forms.now.items c.turn_last.new.forms.items c.in-Neg.is c.turn_last.ensures

pub returns-in-Binary : goal.returns-in-Binary
returns-in-Binary c =
    let b = c.in-Binary in
    combines c.combine_last.result c.args.e.now b.op b.at b.left b.right (scope_ids c.args.self.now) c.args.forms.now.items c.combine_last.new.forms.items b.is c.combine_last.ensures
