use Rattle.nona_forms.proofs.Exact.{exact_value}
use Rattle.nona_forms.proofs.Named.{form_by_members}
use Rattle.nona_forms.proofs.laws.form_is_value.Goals as goal

pub returns-clause-members : goal.returns-clause-members
returns-clause-members c = form_by_members

pub returns-clause-value : goal.returns-clause-value
returns-clause-value c = exact_value
