use Rattle.std.proofs.Common.{◌-◌}
use Rattle.morta_exec.proofs.one_thread.one_less.Given as goal

abbrev pub ghost-by : goal.ghost-by
ghost-by a = a.sample.now.value - 1
