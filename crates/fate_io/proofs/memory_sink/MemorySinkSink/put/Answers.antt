use Rattle.std.proofs.Common.{take, drop, sym, arith, rules, inl, inr}
use Rattle.std.proofs.lemmas.List.{take-append-drop}
use Rattle.std.proofs.lemmas.Grind.{common_steps}
use Rattle.fate_io.proofs.memory_sink.MemorySinkSink.put.Goals as goal
use Rattle.fate_io.proofs.memory_sink.MemorySinkSink.put.Goals.{else-bytes-left-via-then-bytes-left+else-not-contains, else-bytes-left-via-else-bytes-left}

-- the first half went in
pub returns-clause-bytes : goal.returns-clause-bytes
returns-clause-bytes c =
    (take c.min-half.result c.args.bytes.now, drop c.min-half.result c.args.bytes.now, sym (take-append-drop c.min-half.result c.args.bytes.now), grind (arith, common_steps))

-- the number is listed, or room lacks
pub returns-clause-fails : goal.returns-clause-fails
returns-clause-fails c =
    rw (← c.self.view_is)
    (elim c.else-bytes-left.branch [
      | else-bytes-left-via-then-bytes-left+else-not-contains w ↦ inl (search rules)
      | else-bytes-left-via-else-bytes-left w ↦ inr (omega arith)
    ])
