-- What a command does to the machine of an interval.
use Rattle.std.specs.Prelude.{◌≡◌, Bool, true, false, List, ◌∷◌}
use Rattle.morta_script.specs.declared.script.Command.{Command}
use Rattle.weave.specs.Following.{follow}
use Rattle.weave.specs.NetView.{NetView, machine}

-- a command was done to a machine: it goes on with the commands behind it, or has done all that are done
abbrev pub Obeys : Command → List Command → NetView → NetView → Bool → Type 0
Obeys command rest net next true = follow machine (command ∷ rest) net ≡ follow machine rest next
Obeys command rest net next false = follow machine (command ∷ rest) net ≡ record { net = next; left = command ∷ rest }
