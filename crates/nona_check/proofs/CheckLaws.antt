-- The first fault of a program, from its declarations and its statements.
use Rattle.std.proofs.Common.{◌≡◌, None, ap, sym, ◌∙◌}
use Rattle.std.specs.declared.option.Option.{Option}
use Rattle.nona_tree.specs.declared.faults.ProgramFault.{ProgramFault}
use Rattle.nona_tree.specs.declared.trees.Program.{Program}
use Rattle.nona_tree.specs.Seen.{seen_first, declarations, seen_by_body}
use Rattle.nona_tree.specs.Faults.{declarations_faults, all_faults, faults_of}
use Rattle.nona_check.specs.First.{first_from}
use Rattle.nona_check.proofs.FirstLaws.{first_from-append}

pub first_of_all : (p : Program) (declared first : Option ProgramFault)
    → declared ≡ first_from None (declarations_faults (declarations p.arrays p.vars) seen_first 0)
    → first ≡ first_from declared (all_faults p.body (seen_by_body p)) → first ≡ first_from None (faults_of p)
first_of_all p declared first is then_is =
    then_is ∙ ap (λ (kept : Option ProgramFault). first_from kept (all_faults p.body (seen_by_body p))) is
    ∙ sym (first_from-append None (declarations_faults (declarations p.arrays p.vars) seen_first 0) (all_faults p.body (seen_by_body p)))
