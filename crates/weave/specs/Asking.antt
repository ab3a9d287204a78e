-- Which commands ask for something.
use Rattle.std.specs.Prelude.{◌≡◌, ℕ, ◌+◌, ◌<◌, List, [], ◌∷◌, drop, length}
use Rattle.morta_task.specs.declared.schemes.Ask.{Ask}
use Rattle.morta_script.specs.declared.script.Command.{Command}
use Rattle.morta_script.specs.declared.script.Command.TheVariants.{Use, Step, Pause}

-- no `use` comes first
abbrev pub IsNoUse : List Command → Type 0
IsNoUse [] = Unit {0}
IsNoUse (Use config until ∷ rest) = ⊥
IsNoUse (Step task moves ∷ rest) = Unit {0}
IsNoUse (Pause ∷ rest) = Unit {0}

-- the command with this number, counted from 0, is a `use` that asks for this
abbrev pub IsUseAt : List Command → ℕ → Ask → Type 0
IsUseAt commands at ask = (at < length commands) × (drop at commands ≡ Use ask.config ask.until ∷ drop (at + 1) commands)
