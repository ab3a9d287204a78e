use Rattle.std.proofs.Common.{List, sym, subst}
use Rattle.std.specs.Prelude.{All}
use Rattle.nona_forms.specs.declared.terms.Term.{Term}
use Rattle.nona_affine.specs.Steps.{IsBound}
use Rattle.nona_affine.proofs.BoxLoops.{bounds_found}
use Rattle.nona_affine.proofs.ranges.range.Goals as goal

pub terms_range-requires-clause-bounds : goal.terms_range-requires-clause-bounds
terms_range-requires-clause-bounds c =
    subst (λ (ts : List Term). All (IsBound c.args.bounds.now) ts) (sym c.terms.ensures.terms) (bounds_found c.args.bounds.now c.args.form.now.terms c.requires)
