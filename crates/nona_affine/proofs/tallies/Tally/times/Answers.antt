use Rattle.std.proofs.Common.{◌∙◌, ap, sym, w64}
use Rattle.std.proofs.lemmas.Int.{to_z-of_z}
use Rattle.nona_tree.specs.Value.{is_zero}
use Rattle.nona_forms.specs.Affine.{if_bounded, times_form}
use Rattle.nona_affine.proofs.Entries.{zero_is}
use Rattle.nona_affine.proofs.Scaling.{none_form}
use Rattle.nona_affine.proofs.tallies.Tally.times.Goals as goal

pub returns-then-is_zero : goal.returns-then-is_zero
returns-then-is_zero c =
    let none = zero_is c.args.factor (ap is_zero (sym (to_z-of_z w64 c.args.factor c.ranges.factor)) ∙ sym c.is_zero.ensures ∙ c.if-is_zero.true) in
    c.of_number.ensures ∙ sym (ap (λ k. if_bounded (times_form k c.args.self)) none ∙ ap if_bounded (none_form c.args.self))
