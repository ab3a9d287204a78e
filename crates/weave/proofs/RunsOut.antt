-- What stands after commands, and once the machine of an interval under `seq` has run out.
use Rattle.std.proofs.Common.{◌≡◌, Bool, true, false, ◌&&◌, refl, sym, ap, subst, ◌∙◌, if◌then◌else◌}
use Rattle.morta_task.specs.Entries.{IsEntered}
use Rattle.net_flow.specs.Machines.{is_over, round, RunsOut}
use Rattle.weave.specs.SeqNet.{SeqNet, moved, is_finished, seq_machine}
use Rattle.weave.specs.SeqState.{IsSound}
use Rattle.weave.proofs.Keeping.{Kept, out_is_over}
use Rattle.weave.proofs.Sound.{SameInterval, same_moved, sound_moved, sound_paused}

-- the one task has finished
pub over : (net : SeqNet) → is_over seq_machine net ≡ is_finished net.place
over net = by_test (is_finished net.place) where
  by_test : (b : Bool) → (b && true) ≡ b
  by_test true = refl
  by_test false = refl

-- a round is one step of the one task
pub round_is : (net : SeqNet) → is_finished net.place ≡ false → round seq_machine net ≡ moved net
round_is net going = ap (λ (b : Bool). if b then net else moved net) going

-- the one task has finished once the machine has run out
pub out_is_finished : (net end : SeqNet) → RunsOut seq_machine net end → is_finished end.place ≡ true
out_is_finished net end out = sym (over end) ∙ out_is_over seq_machine net end out

-- the interval, and what one thread has in it
abbrev pub Sound : SeqNet → SeqNet → Type 0
Sound first net = IsEntered net.entry × IsSound net × SameInterval first net

pub sound_kept : (first : SeqNet) → Kept seq_machine (Sound first)
sound_kept first = record {
  step = λ net task there going s.
      let k = same_moved net going s.1 in (
        (
          subst IsEntered (sym k.entry) s.0,
          sound_moved net s.0 going s.1,
          record { entry = k.entry ∙ s.2.entry; before = k.before ∙ s.2.before; limit = k.limit ∙ s.2.limit },
        ),
        refl,
      );
  pause = λ net s. (s.0, sound_paused net s.1, record { entry = s.2.entry; before = s.2.before; limit = s.2.limit });
}
