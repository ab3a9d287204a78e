-- The summary of a trial. Each of its lines ends with LF.
use Rattle.std.specs.Prelude.{ℕ, ◌+◌, ℤ, pos, List, [], ◌∷◌, ◌++◌, length, fold, codes}
use Rattle.std.specs.Fmt.{decimal, signed_decimal}
use Rattle.std.specs.Int.{int_gap}
use Rattle.std.specs.List.{flat_map}
use Rattle.nona_num.specs.Numbers.{add_of}
use Rattle.nona_tree.specs.Memory.{Memory}
use Rattle.morta_task.specs.declared.intervals.Interval.{Interval}
use Rattle.morta_task.specs.LogView.{LogView}
use Rattle.trial.specs.Numbers.{trial_numbers}
use Rattle.parcae.specs.declared.summary.Summary.{Summary}

-- how many iterations intervals did
abbrev pub iterations_of : List Interval → ℕ
iterations_of [] = 0
iterations_of (i ∷ is) = int_gap i.from i.done.to + iterations_of is

-- the sum of numbers, wrapped to 64 bits
abbrev pub sum_of : List ℤ → ℤ
sum_of numbers = fold add_of (pos 0) numbers

-- what the summary of the trial of a number says of a run with this store at its end, and this log
abbrev pub summary_of : ℕ → Memory → LogView → Summary
summary_of n store log = record {
  number = n;
  input = length (trial_numbers n);
  intervals = length log.intervals;
  iterations = iterations_of log.intervals;
  printed = length store.printed;
  sum = sum_of store.printed;
}

-- a word and a count
abbrev pub count_line : List ℕ → ℕ → List ℕ
count_line word count = word ++ (decimal count ++ 10 ∷ [])

-- the sum
abbrev pub sum_line : ℤ → List ℕ
sum_line sum = codes "sum " ++ (signed_decimal sum ++ 10 ∷ [])

-- the lines of a summary
abbrev pub summary_lines : Summary → List (List ℕ)
summary_lines s =
    count_line (codes "trial ") s.number ∷ count_line (codes "input ") s.input ∷ codes "outcome done\n"
    ∷ count_line (codes "intervals ") s.intervals ∷ count_line (codes "iterations ") s.iterations
    ∷ count_line (codes "printed ") s.printed ∷ sum_line s.sum ∷ []

-- some lines, one behind the other
abbrev pub text_of_lines : List (List ℕ) → List ℕ
text_of_lines lines = flat_map (λ (line : List ℕ). line) lines

-- the text of the summary of the trial of a number
abbrev pub summary_text : ℕ → Memory → LogView → List ℕ
summary_text n store log = text_of_lines (summary_lines (summary_of n store log))
