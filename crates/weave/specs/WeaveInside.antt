-- What a replay keeps.
use Rattle.std.specs.Prelude.{◌≡◌, ◌⊎◌, ◌≤◌, drop}
use Rattle.morta_task.specs.declared.schemes.Scheme.TheVariants.{Seq}
use Rattle.morta_task.specs.Running.{IsConfig}
use Rattle.weave.specs.declared.limits.TheConstants.{CAPACITY}
use Rattle.weave.specs.declared.weaving.Weave.TheInside.{Inside}
use Rattle.morta_script.specs.Commands.{AreCommands}
use Rattle.weave.specs.Replay.{UsesScheme}
use Rattle.weave.specs.WeaveView.{WeaveView}

-- a replay, as contracts see it: the commands from the next one on are left
abbrev pub view_of : Inside → WeaveView
view_of a = record {
  script = a.script.commands.items;
  left = drop a.at a.script.commands.items;
  current = a.current;
  capacity = a.capacity;
}

-- its commands have their numbers in range; the current configuration is one thread or what a command of the script says;
-- and a link holds at least one message and no more than it may
pub record IsWeave (a : Inside) : Type 0 where
  pub commands : AreCommands a.script.commands.items
  pub current : IsConfig a.current
  pub named : (a.current.scheme ≡ Seq) ⊎ UsesScheme a.script.commands.items a.current.scheme
  pub some : 1 ≤ a.capacity
  pub few : a.capacity ≤ CAPACITY
