use Rattle.std.proofs.Common.{◌∙◌, ◌≡◌, [], ap, subst}
use Rattle.nona_tree.specs.declared.trees.Program.{Program}
use Rattle.nona_tree.specs.Faults.{faults_of}
use Rattle.nona_tree.specs.Ids.{ids_of}
use Rattle.nona_parse.specs.Reading.{IsReading}
use Rattle.trial.specs.Text.{trial_text}
use Rattle.trial.specs.Tree.{read_tree}
use Rattle.trial.proofs.Reading.{uncut, is_program, faultless, has_ids}
use Rattle.trial.proofs.laws.trial_is_a_program.Goals as goal

pub returns : goal.returns
returns c =
    let program : IsReading trial_text read_tree = (uncut, is_program c.grammar_is_read.ensures.sound) in
    let only = λ (read : Program) (reads : IsReading trial_text read). c.reads_one_tree.ensures trial_text read_tree read program reads in
    record {
      accepted = (read_tree, program, faultless, has_ids);
      one = λ read reads. has_ids ∙ ap ids_of (only read reads);
      faultless = λ read reads. subst (λ (p : Program). faults_of p ≡ []) (only read reads) faultless;
      unrefused = λ fault. c.refuses_for_one_reason.ensures.other trial_text read_tree fault program;
    }
