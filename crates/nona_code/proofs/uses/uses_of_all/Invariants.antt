use Rattle.std.proofs.Common.{◌≡◌, ◌<◌, ◌≤◌, ℕ, Some}
use Rattle.std.specs.Prelude.{slice_get}
use Rattle.nona_code.specs.declared.instr.Instr.{Instr}
use Rattle.nona_code.specs.Rule.{IsNumbered}
use Rattle.nona_code.proofs.uses.uses_of_all.Given as goal

abbrev pub invariant-loop-instr : goal.invariant-loop-instr
invariant-loop-instr l =
    record {
      uses : (pc : ℕ) (i : Instr) → pc < l.instr-index → slice_get l.code pc ≡ Some i → IsNumbered l.most.hidden l.most.counters i;
      hidden : l.most.hidden ≤ 256;
      counters : l.most.counters ≤ 256;
    }
