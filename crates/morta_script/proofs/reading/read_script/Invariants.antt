use Rattle.std.proofs.Common.{◌≡◌, ◌+◌, ◌≤◌, length}
use Rattle.morta_script.specs.Lines.{commands_of}
use Rattle.morta_script.proofs.Walk.{all_commands}
use Rattle.morta_script.proofs.reading.read_script.Given as goal

-- the commands so far, and those of the rest, are the commands of the text
abbrev pub invariant-loop-rest : goal.invariant-loop-rest
invariant-loop-rest l = record {
  place : l.number + length l.rest ≤ length l.text + 1;
  told : all_commands l.commands.items l.number l.rest ≡ commands_of l.text;
}

abbrev pub decreases-loop-rest : goal.decreases-loop-rest
decreases-loop-rest l = length l.rest
