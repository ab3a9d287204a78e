-- What the commands of a script do to a machine.
use Rattle.std.specs.Prelude.{ℕ, List, [], ◌∷◌, if◌then◌else◌}
use Rattle.morta_script.specs.declared.script.Command.{Command}
use Rattle.morta_script.specs.declared.script.Command.TheVariants.{Use, Step, Pause}
use Rattle.net_flow.specs.Machines.{Machine, is_over, stepped}

-- a machine, and the commands that are left
pub record Followed (N : Type 0) : Type 0 where
  pub net : N
  pub left : List Command

-- The next commands are done while tasks are unfinished, up to a `use`, which pauses the machine and stays.
abbrev pub follow : {N : Type 0} → Machine N → List Command → N → Followed N
follow machine [] net = record { net = net; left = [] }
follow machine (Use config until ∷ rest) net =
    if is_over machine net then record { net = net; left = Use config until ∷ rest }
    else record { net = machine.pause net; left = Use config until ∷ rest }
follow machine (Step task moves ∷ rest) net =
    if is_over machine net then record { net = net; left = Step task moves ∷ rest }
    else follow machine rest (stepped machine moves task net)
follow machine (Pause ∷ rest) net =
    if is_over machine net then record { net = net; left = Pause ∷ rest }
    else follow machine rest (machine.pause net)
