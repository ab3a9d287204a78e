-- What a replay promises.
use Rattle.std.specs.Prelude.{◌≡◌, ◌⊎◌, [], None}
use Rattle.morta_task.specs.declared.schemes.Scheme.TheVariants.{Seq}
use Rattle.morta_task.specs.Entries.{EntryView}
use Rattle.morta_task.specs.LogView.{LogView, IsAtHand, with_interval}
use Rattle.morta_task.specs.Promise.{Promise}
use Rattle.weave.specs.Replay.{behind_use, left_at, current_at, IsReplayOf, script_asks, UsesScheme}
use Rattle.weave.specs.Serving.{RunsIn}
use Rattle.weave.specs.WeaveView.{WeaveView}

-- the log is what the replay of the script makes, and these commands are left behind it, with this configuration
pub record StandsFor (w : WeaveView) (log : LogView) : Type 0 where
  pub left : w.left ≡ left_at w.capacity w.script log
  pub current : w.current ≡ current_at w.capacity w.script log
  pub replay : IsReplayOf w.capacity w.script log

-- the log is what the replay of the script makes, and what the next request takes of the commands was taken behind it
pub record HasTaken (w : WeaveView) (log : LogView) : Type 0 where
  pub left : w.left ≡ behind_use (left_at w.capacity w.script log)
  pub current : w.current ≡ (script_asks w.capacity w.script log).config
  pub replay : IsReplayOf w.capacity w.script log

-- what was asked for the entry at hand of a log for which it stood: what it asks for itself, or, where its script is empty,
-- whatever anyone asks for
pub data HasAsked (w : WeaveView) (log : LogView) (e : EntryView) : Type 0 where
  by_itself : IsAtHand log e → HasTaken w log → HasAsked w log e
  by_anyone : IsAtHand log e → w.script ≡ [] → StandsFor w log → HasAsked w log e

-- It runs `seq`, and `any` and `pipe` where the plan is lawful, and asks for what its script says; it asks for what it runs itself, but where
-- its script is empty it runs what anyone asks for. It need not be told: with an interval it stands for the log with it.
abbrev pub weave_promise : Promise WeaveView
weave_promise = record {
  serves = λ w l p s. RunsIn l p s;
  ticks_to_come = λ w. None;
  meets = λ w e c from done. Unit {0};
  names = λ w s. (s ≡ Seq) ⊎ UsesScheme w.script s;
  may_ask = λ w e log ask. ask ≡ script_asks w.capacity w.script log;
  stands_for = λ w log. StandsFor w log;
  asked = λ w log e from ask. HasAsked w log e;
  ran = λ w log e i. StandsFor w (with_interval log e i);
  led = λ w. w.script ≡ [];
  alone = λ w. ⊥;
  log_relation = λ w log. IsReplayOf w.capacity w.script log;
}
