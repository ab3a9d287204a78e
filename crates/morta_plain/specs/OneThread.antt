-- What one thread promises.
use Rattle.std.specs.Prelude.{◌≡◌, ◌≢◌, None}
use Rattle.morta_task.specs.declared.schemes.Scheme.TheVariants.{Seq}
use Rattle.morta_task.specs.declared.intervals.Cut.TheVariants.{Paused}
use Rattle.morta_task.specs.Promise.{Promise}
use Rattle.morta_plain.specs.declared.one_thread.OneThread.{OneThread}

-- it runs every loop in the version `seq` alone, whatever is asked for and by whom, and never pauses before the limit; it asks
-- for nothing, tells no ticks, and says nothing of a log
abbrev pub one_thread : Promise OneThread
one_thread = record {
  serves = λ m l p s. s ≡ Seq;
  ticks_to_come = λ m. None;
  meets = λ m e c from done. done.cut ≢ Paused;
  names = λ m s. ⊥;
  may_ask = λ m e log ask. ⊥;
  stands_for = λ m log. Unit {0};
  asked = λ m log e from ask. Unit {0};
  ran = λ m log e i. Unit {0};
  led = λ m. Unit {0};
  alone = λ m. ⊥;
  log_relation = λ m log. Unit {0};
}
