-- A replay, as contracts see it.
use Rattle.std.specs.Prelude.{ℕ, List}
use Rattle.morta_task.specs.declared.schemes.Config.{Config}
use Rattle.morta_script.specs.declared.script.Command.{Command}

-- the commands of the script; those that are left; the current configuration; and how many messages a link holds
pub record WeaveView : Type 0 where
  pub script : List Command
  pub left : List Command
  pub current : Config
  pub capacity : ℕ
