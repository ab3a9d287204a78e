use Rattle.std.proofs.Common.{◌≡◌, Some, sym, ap, subst, ◌∙◌}
use Rattle.nona_tree.specs.Checking.{IsChecked}
use Rattle.nona_tree.specs.Faults.{faults_of}
use Rattle.nona_check.proofs.FirstLaws.{none_first, some_first}
use Rattle.nona_check.proofs.check.Goals as goal

pub returns-in-Some-clause-refused : goal.returns-in-Some-clause-refused
returns-in-Some-clause-refused c =
    λ fault e.
    let same : c.in-Some.fault ≡ fault = cc in
    some_first (faults_of c.args.program) fault (sym c.in_ok-resolved.ensures.faults ∙ c.in-Some.is ∙ ap Some same)

pub of-requires : goal.of-requires
of-requires c =
    let p = c.args.program in
    subst IsChecked (sym c.in_ok-resolved.ensures.ids)
    (c.ids_settle.ensures.checked p c.requires.small (none_first (faults_of p) (sym c.in_ok-resolved.ensures.faults ∙ c.in-None.is)) c.requires.numbers c.requires.places)
