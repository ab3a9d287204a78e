-- What comes of an operator.
use Rattle.std.specs.Prelude.{◌≡◌, Ok, Err}
use Rattle.nona_tree.specs.Value.{Answer, from_test}
use Rattle.nona_code.specs.declared.answers.Worked.{Worked}
use Rattle.nona_code.specs.declared.answers.Worked.TheVariants as worked

-- this is the answer of an operator
abbrev pub IsAnswer : Answer → Worked → Type 0
IsAnswer answer (worked.Number v) = answer ≡ Ok v
IsAnswer answer (worked.Test holds) = answer ≡ Ok (from_test holds)
IsAnswer answer (worked.Fault trap) = answer ≡ Err trap
