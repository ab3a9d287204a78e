-- Main statements that hold others, by the lists of what they hold.
use Rattle.std.specs.Prelude.{ℕ, ◌+◌, Bool, List, ◌++◌, length}
use Rattle.nona_tree.specs.declared.trees.Expr.{Expr}
use Rattle.nona_tree.specs.declared.trees.Loop.{Loop}
use Rattle.nona_tree.specs.declared.trees.Stmt.{Stmt}
use Rattle.nona_code.specs.declared.instr.Instr.{Instr}
use Rattle.nona_gen.specs.Code.{flip_code, lets_all, block_code, while_code, turns_code, loop_bounds}
use Rattle.nona_gen.specs.MainCode.{main_all}

-- a block of main statements
abbrev pub main_block : (Loop → Bool) → ℕ → List Stmt → ℕ → ℕ → List Instr
main_block chosen first body depth = block_code (main_all chosen first body depth) (lets_all body)

-- a while of these parts
abbrev pub main_loop : (Loop → Bool) → ℕ → Expr → List Stmt → ℕ → ℕ → ℕ → List Instr
main_loop chosen first test body at depth p = while_code p depth at (flip_code test) (main_block chosen first body (depth + 1))

-- a for that is no region
abbrev pub main_turns : (Loop → Bool) → ℕ → Loop → ℕ → ℕ → List Instr
main_turns chosen first l depth p =
    loop_bounds l.low l.high depth
    ++ turns_code (p + length (loop_bounds l.low l.high depth)) l.index.id depth l.at (main_all chosen first l.body (depth + 1)) (lets_all l.body)
