-- What a replay asks for, and what it has then run.
use Rattle.std.proofs.Common.{◌≡◌, ◌+◌, ℕ, ℤ, List, [], ◌∷◌, get_or, refl, sym, ap, subst, ◌∙◌, arith}
use Rattle.std.proofs.lemmas.List.{get_or-drop}
use Rattle.morta_task.specs.declared.schemes.Config.{Config}
use Rattle.morta_task.specs.declared.schemes.Ask.{Ask}
use Rattle.morta_task.specs.declared.intervals.Ran.{Ran}
use Rattle.morta_task.specs.Entries.{EntryView}
use Rattle.morta_task.specs.LogView.{LogView, IsAtHand}
use Rattle.morta_task.specs.Running.{IsConfig, limit_of, interval_of}
use Rattle.morta_task.specs.Promise.{GoesOn}
use Rattle.morta_script.specs.declared.script.Command.{Command}
use Rattle.morta_script.specs.declared.script.Command.TheVariants.{Use, Step, Pause}
use Rattle.morta_script.specs.Commands.{IsCommand, AreCommands}
use Rattle.weave.specs.Asking.{IsNoUse, IsUseAt}
use Rattle.weave.specs.Replay.{behind_use, commands_left, left_at, next_request, current_at, IsReplayed, UsesScheme}
use Rattle.weave.specs.WeaveView.{WeaveView}
use Rattle.weave.specs.WeavePromise.{StandsFor, HasAsked, by_itself, weave_promise}
use Rattle.weave.proofs.OneMore.{runs_on, asked_at, has_taken}

use_is : (commands : List Command) (at : ℕ) (ask : Ask) (other : Command) → IsUseAt commands at ask → get_or commands at other ≡ Use ask.config ask.until
use_is commands at ask other h =
    let here : at + 0 ≡ at = omega arith in
    ap (λ (k : ℕ). get_or commands k other) (sym here) ∙ sym (get_or-drop at commands 0 other) ∙ ap (λ (cs : List Command). get_or cs 0 other) h.1

-- a `use` of a script has a configuration
pub use_config : (commands : List Command) (at : ℕ) (ask : Ask) → AreCommands commands → IsUseAt commands at ask → IsConfig ask.config
use_config commands at ask all h =
    let command : IsCommand (Use ask.config ask.until) = subst IsCommand (use_is commands at ask Pause h) (all at Pause h.0) in command.0

-- and names its version
pub use_named : (commands : List Command) (at : ℕ) (ask : Ask) → IsUseAt commands at ask → UsesScheme commands ask.config.scheme
use_named commands at ask h = (ask.config, ask.until, (at, h.0, use_is commands at ask (Use ask.config ask.until) h), refl)

-- a `use` that came first is taken
pub use_taken : (w : WeaveView) (log : LogView) (e : EntryView) (rest : List Command) (ask : Ask) → IsAtHand log e → StandsFor w log
    → w.left ≡ Use ask.config ask.until ∷ rest → HasAsked (record w { left = rest; current = ask.config }) log e
use_taken w log e rest ask hand s is =
    let there : left_at w.capacity w.script log ≡ Use ask.config ask.until ∷ rest = sym s.left ∙ is in
    by_itself hand (record {
      left = ap behind_use (sym there);
      current = ap (λ (cs : List Command). (next_request cs (current_at w.capacity w.script log)).config) (sym there);
      replay = s.replay;
    })

stays : (left : List Command) → IsNoUse left → left ≡ behind_use left
stays [] none = refl
stays (Use config until ∷ rest) none = absurd none
stays (Step task moves ∷ rest) none = refl
stays (Pause ∷ rest) none = refl

same_config : (left : List Command) (current : Config) → IsNoUse left → current ≡ (next_request left current).config
same_config [] current none = refl
same_config (Use config until ∷ rest) current none = absurd none
same_config (Step task moves ∷ rest) current none = refl
same_config (Pause ∷ rest) current none = refl

-- where none came first, nothing is taken
pub none_taken : (w : WeaveView) (log : LogView) (e : EntryView) → IsAtHand log e → StandsFor w log → IsNoUse w.left → HasAsked w log e
none_taken w log e hand s none = by_itself hand (record {
  left = stays w.left none ∙ ap behind_use s.left;
  current = same_config w.left w.current none ∙ (λ k. (next_request (s.left k) (s.current k)).config);
  replay = s.replay;
})

-- an interval that ran as the replay does goes on from each log for which it was asked
pub goes_on : (old new : WeaveView) (e : EntryView) (config : Config) (from : ℤ) (limit : ℕ) (done : Ran) → IsReplayed old.capacity config e from limit old.left done
    → new ≡ record old { left = commands_left old.capacity config e from limit old.left } → GoesOn weave_promise old new e config from limit done
goes_on old new e config from limit done replayed is =
    subst (λ (w : WeaveView). GoesOn weave_promise old w e config from limit done) (sym is) on where
      on : GoesOn weave_promise old (record old { left = commands_left old.capacity config e from limit old.left }) e config from limit done
      on log ask asked is_chosen limit_is =
          let taken = has_taken old log e asked in
          let before = behind_use (left_at old.capacity old.script log) in
          let there : IsReplayed old.capacity config e from (limit_of e from ask.until) before done =
          subst (λ (l : ℕ). IsReplayed old.capacity config e from l before done) limit_is
          (subst (λ (cs : List Command). IsReplayed old.capacity config e from limit cs done) taken.left replayed) in
          runs_on (record old { left = commands_left old.capacity config e from limit old.left }) log e (interval_of e ask config from done) (record {
            hand = asked_at old log e asked;
            number = refl;
            replayed = there;
            left = λ k. commands_left old.capacity config e from (limit_is k) (taken.left k);
            current = taken.current;
            replay = taken.replay;
          })
