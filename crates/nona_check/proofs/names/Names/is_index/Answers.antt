use Rattle.std.proofs.Common.{sym, ◌∙◌}
use Rattle.nona_check.proofs.KnownNames.{found, lost}
use Rattle.nona_check.proofs.names.Names.is_index.Goals as goal

pub returns-in-Some : goal.returns-in-Some
returns-in-Some c = sym (found c.args.name.now c.args.self.now c.in-Some.known (sym c.look_up.ensures ∙ c.in-Some.is)).1

pub returns-in-None : goal.returns-in-None
returns-in-None c = sym (lost c.args.name.now c.args.self.now (sym c.look_up.ensures ∙ c.in-None.is)).1
