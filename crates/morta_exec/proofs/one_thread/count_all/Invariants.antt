use Rattle.std.proofs.Common.{length}
use Rattle.morta_task.specs.Entries.{entries_of}
use Rattle.morta_exec.proofs.one_thread.count_all.Given as goal

abbrev pub ghost-by : goal.ghost-by
ghost-by a = length (entries_of a.sample.now.0.value a.sample.now.2 a.sample.now.1.value)
