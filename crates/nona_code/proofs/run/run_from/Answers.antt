use Rattle.std.proofs.Common.{subst}
use Rattle.nona_code.specs.declared.registers.Registers.{Registers}
use Rattle.nona_code.specs.Stops.{KeepsFrom}
use Rattle.nona_code.proofs.run.run_from.Goals as goal

pub returns-clause-keeps : goal.returns-clause-keeps
returns-clause-keeps g c = λ h k uses. subst (λ (r : Registers). KeepsFrom h k r c.run_on-stopped.new.registers) c.replace-own.ensures.value (c.run_on-stopped.ensures.keeps h k uses)
