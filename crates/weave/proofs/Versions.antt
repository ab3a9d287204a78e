-- The machine of each version is one of the machine of an interval.
use Rattle.std.proofs.Common.{ℕ, refl}
use Rattle.morta_task.specs.Entries.{EntryView}
use Rattle.weave.specs.NetView.{One, Shared, Staged, machine}
use Rattle.weave.specs.SeqNet.{seq_machine}
use Rattle.weave.specs.Shared.{shared_machine}
use Rattle.weave.specs.Staged.{staged_machine}
use Rattle.weave.proofs.Injected.{IsPart}

pub one_is_part : IsPart seq_machine machine One
one_is_part = record {
  tasks = λ n. refl;
  finished = λ n t. refl;
  waits = λ n t. refl;
  step = λ n t. refl;
  pause = λ n. refl;
}

pub shared_is_part : (e : EntryView) (before workers : ℕ) → IsPart (shared_machine e before workers) machine (Shared e before workers)
shared_is_part e before workers = record {
  tasks = λ n. refl;
  finished = λ n t. refl;
  waits = λ n t. refl;
  step = λ n t. refl;
  pause = λ n. refl;
}

pub staged_is_part : (e : EntryView) (before workers capacity : ℕ) → IsPart (staged_machine e before workers capacity) machine (Staged e before workers capacity)
staged_is_part e before workers capacity = record {
  tasks = λ n. refl;
  finished = λ n t. refl;
  waits = λ n t. refl;
  step = λ n t. refl;
  pause = λ n. refl;
}
