use Rattle.std.proofs.Common.{◌≡◌, ◌+◌, ◌++◌, length, drop}
use Rattle.nona_tree.specs.Entries.{count_all}
use Rattle.nona_gen.specs.MainCode.{main_all}
use Rattle.nona_gen.specs.Gathered.{is_seen}
use Rattle.nona_gen.proofs.main_code.+main.Given as goal

-- what is emitted, and what is left
abbrev pub invariant-emit_main_all-loop-s : goal.invariant-emit_main_all-loop-s
invariant-emit_main_all-loop-s l =
    record {
      code : l.initial.code.items ++ main_all (is_seen l.plans) l.at.first l.body l.at.depth (length l.initial.code.items)
          ≡ l.code.items ++ main_all (is_seen l.plans) l.first (drop l.s-index l.body) l.at.depth (length l.code.items);
      next : l.first + count_all (is_seen l.plans) (drop l.s-index l.body) ≡ l.at.first + count_all (is_seen l.plans) l.body;
    }
