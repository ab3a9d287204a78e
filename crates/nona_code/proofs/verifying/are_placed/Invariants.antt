use Rattle.std.proofs.Common.{◌≡◌, ◌<◌, ℕ, length, Some}
use Rattle.std.specs.Prelude.{slice_get}
use Rattle.nona_code.specs.declared.instr.Instr.{Instr}
use Rattle.nona_code.specs.Rule.{HasTarget, IsNumbered}
use Rattle.nona_code.proofs.verifying.are_placed.Given as goal

abbrev pub invariant-loop-instr : goal.invariant-loop-instr
invariant-loop-instr l =
    record {
      numbered : (pc : ℕ) (i : Instr) → pc < l.instr-index → slice_get l.code pc ≡ Some i → IsNumbered 256 256 i;
      targets : (pc : ℕ) (i : Instr) → pc < l.instr-index → slice_get l.code pc ≡ Some i → HasTarget (length l.code) i;
    }
