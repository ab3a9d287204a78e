use Rattle.trial.proofs.Turns.{trial_runs, each_runs}
use Rattle.trial.proofs.laws.trial_runs_to_its_end.Goals as goal

pub returns : goal.returns
returns c =
    let law = c.state_after.ensures.all_turns in
    record {
      done = λ numbers turns few enough. (trial_runs law numbers turns few enough).0;
      printed = λ numbers turns few enough. (trial_runs law numbers turns few enough).1;
      each = each_runs law;
    }
