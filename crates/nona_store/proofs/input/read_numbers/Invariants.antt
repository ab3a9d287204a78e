use Rattle.std.proofs.Common.{◌≡◌, ◌+◌, ◌≤◌, length, All}
use Rattle.nona_tree.specs.Numbers.{IsI64}
use Rattle.nona_store.specs.Input.{number_bound, numbers_of}
use Rattle.nona_store.proofs.Reading.{all_numbers}
use Rattle.nona_store.proofs.input.read_numbers.Given as goal

-- the numbers so far, and those of the rest, are the numbers of the text
abbrev pub invariant-loop-first : goal.invariant-loop-first
invariant-loop-first l = record {
  place : l.at + length l.rest ≡ length l.text;
  few : length l.numbers.items ≤ number_bound;
  fit : All IsI64 l.numbers.items;
  told : all_numbers l.numbers.items l.at l.rest ≡ numbers_of l.text;
}

abbrev pub decreases-loop-first : goal.decreases-loop-first
decreases-loop-first l = length l.rest
