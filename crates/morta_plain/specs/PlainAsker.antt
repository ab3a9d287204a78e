-- What an asker promises that makes the same request each time.
use Rattle.std.specs.Prelude.{◌≡◌, None}
use Rattle.morta_task.specs.declared.schemes.Scheme.TheVariants.{Seq}
use Rattle.morta_task.specs.declared.schemes.Ask.{Ask}
use Rattle.morta_task.specs.Promise.{Promise}
use Rattle.morta_task.specs.Running.{seq_one}
use Rattle.morta_plain.specs.declared.plain_asker.PlainAsker.{PlainAsker}

-- the one request that it makes
abbrev pub same_request : PlainAsker → Ask
same_request m = record { config = seq_one; until = m.until }

-- it makes this request for each interval, whoever runs; it runs nothing, and says nothing of a log
abbrev pub plain_asker : Promise PlainAsker
plain_asker = record {
  serves = λ m l p s. ⊥;
  ticks_to_come = λ m. None;
  meets = λ m e c from done. Unit {0};
  names = λ m s. s ≡ Seq;
  may_ask = λ m e log ask. ask ≡ same_request m;
  stands_for = λ m log. Unit {0};
  asked = λ m log e from ask. Unit {0};
  ran = λ m log e i. Unit {0};
  led = λ m. ⊥;
  alone = λ m. Unit {0};
  log_relation = λ m log. Unit {0};
}
