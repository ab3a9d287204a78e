-- What was put of the numbers that a run printed.
use Rattle.std.specs.Prelude.{◌≡◌, ℤ, List}
use Rattle.std.specs.Io.KnownBytes.{Appends}
use Rattle.fate_io.specs.Sending.{Sent}
use Rattle.morta_text.specs.Texts.{number_lines}

-- exactly the lines of these numbers were put, and no put failed
pub record HasPut (sent : Sent) (numbers : List ℤ) : Type 0 where
  pub put : Appends sent.before sent.after (number_lines numbers)
  pub kept : sent.faults ≡ sent.faults_before
