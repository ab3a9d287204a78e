-- What the sending of a text does to a sink.
use Rattle.std.specs.Prelude.{ℕ, List, Ok, Err}
use Rattle.std.specs.declared.option.Option.{Option}
use Rattle.std.specs.declared.result.Result.{Result}
use Rattle.std.specs.Io.KnownBytes.{Appends}
use Rattle.fate_io.specs.Causes.{Rose}
use Rattle.fate_io.specs.Putting.{AppendsFront}
use Rattle.fate_io.specs.declared.sending.SendFault.{SendFault}
use Rattle.fate_io.specs.declared.sending.SendFault.TheVariants.{WriteFailed, NoMemory}

-- what a sink shows of a call: the bytes that it had and has, where that is told, and its counts of faults
pub record Sent : Type 0 where
  pub before : Option (List ℕ)
  pub after : Option (List ℕ)
  pub faults_before : ℕ
  pub faults : ℕ

-- what a sink shows of a call that began with the first of these two
abbrev pub sent_since : {K : Type 0} → (K → Option (List ℕ)) → (K → ℕ) → K → K → Sent
sent_since written faults first now =
    record { before = written first; after = written now; faults_before = faults first; faults = faults now }

-- a front of the text went out; where the sink failed, its count of faults rose
abbrev pub BreaksOff : Sent → List ℕ → SendFault → Type 0
BreaksOff sent text WriteFailed = AppendsFront sent.before sent.after text × Rose sent.faults_before sent.faults
BreaksOff sent text NoMemory = AppendsFront sent.before sent.after text

-- the whole text went out, or it was broken off by a fault
abbrev pub Sends : {T : Type 0} → Sent → List ℕ → Result T SendFault → Type 0
Sends sent text (Ok x) = Appends sent.before sent.after text
Sends sent text (Err fault) = BreaksOff sent text fault
