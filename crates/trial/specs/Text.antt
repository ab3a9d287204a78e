-- The text of a trial.
use Rattle.std.specs.Prelude.{ℕ, zero, suc, ◌+◌, ◌*◌, List, ◌++◌, codes}
use Rattle.std.specs.Fmt.{decimal}
use Rattle.trial.specs.declared.text.TheConstants.{BLOCKS}

-- the declarations
abbrev pub head_text : List ℕ
head_text = codes "array h[1024];\narray d[32768];\nvar s;\nvar m;\n"

-- a block, counted from 1, with a factor of its own: a loop over the input, and the print of the sum so far
abbrev pub block_text : ℕ → List ℕ
block_text block =
    codes "for i in 0..len(input) {\nlet x = input[i];\nlet y = x*" ++ (decimal (2 * block + 1)
    ++ codes " + i;\nd[i] = y & 65535;\nh[wrap y] += 1;\ns += y;\nm max= x;\n}\nprint s;\n")

-- so many blocks from one on, and the print of the maximum behind them
unfoldable pub blocks_text : ℕ → ℕ → List ℕ
blocks_text zero block = codes "print m;\n"
blocks_text (suc more) block = block_text block ++ blocks_text more (suc block)

-- the text of each trial
unfoldable pub trial_text : List ℕ
trial_text = head_text ++ blocks_text BLOCKS 1
