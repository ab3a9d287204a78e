-- What a call sees outside of itself.
use Rattle.std.specs.Prelude.{ℕ, List}
use Rattle.fate_io.specs.Reading.{Held, Looked}

-- what a call sees outside: what its shelf tells of each name
pub record Outside : Type 0 where
  pub held : List ℕ → Held

-- what a call saw outside that looked at a shelf
abbrev pub outside_of : Looked → Outside
outside_of looked = record { held = looked.held }
