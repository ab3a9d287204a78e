use Rattle.nona_forms.proofs.Ordered.{form_is_kept}
use Rattle.nona_forms.proofs.laws.form_is_kept.Goals as goal

pub returns : goal.returns
returns c = form_is_kept
