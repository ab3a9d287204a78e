use Rattle.std.proofs.Common.{◌≡◌, ◌∙◌, w64, ap, sym, subst}
use Rattle.std.proofs.lemmas.Int.{to_z-of_z}
use Rattle.std.proofs.lemmas.Map.Views.{All-values-insert_entry, All-map-remove_entry}
use Rattle.std.specs.Prelude.{All}
use Rattle.std.specs.Ordering.{nat_cmp}
use Rattle.std.specs.Map.{values_of}
use Rattle.std.specs.BTreeMap.{is_at, insert_entry}
use Rattle.nona_tree.specs.Value.{is_zero}
use Rattle.nona_affine.specs.Tallies.{IsUsed}
use Rattle.nona_affine.proofs.Entries.{sum_with, sum_without, zero_is}
use Rattle.nona_affine.proofs.sums.set.Goals as goal

pub returns-then-is_zero-clause-sum : goal.returns-then-is_zero-clause-sum
returns-then-is_zero-clause-sum c =
    let none = zero_is c.args.value (ap is_zero (sym (to_z-of_z w64 c.args.value c.ranges.value)) ∙ sym c.is_zero.ensures ∙ c.if-is_zero.true) in
    λ scalar. sum_without scalar c.args.sums.now.entries c.remove.new.self.entries c.args.id c.args.value none c.remove.ensures.entries

pub returns-then-is_zero-clause-used : goal.returns-then-is_zero-clause-used
returns-then-is_zero-clause-used c = record {
  all = subst (λ es. All IsUsed (values_of es)) (sym c.remove.ensures.entries) (All-map-remove_entry (is_at (nat_cmp c.args.id)) (λ e. e.1) IsUsed c.args.sums.now.entries c.requires.used.all);
  rising = c.remove.ensures.ordered;
}

pub returns-in_ok-insert-clause-sum : goal.returns-in_ok-insert-clause-sum
returns-in_ok-insert-clause-sum c =
    let es = c.args.sums.now.entries in
    let e : c.insert.new.self.entries ≡ insert_entry nat_cmp es c.args.id c.args.value = c.in_ok-insert.ensures.entries ∙ ap (insert_entry nat_cmp es c.args.id) (to_z-of_z w64 c.args.value c.ranges.value) in
    λ scalar. sum_with scalar es c.insert.new.self.entries c.args.id c.args.value c.requires.used.rising e

pub returns-in_ok-insert-clause-used : goal.returns-in_ok-insert-clause-used
returns-in_ok-insert-clause-used c =
    let es = c.args.sums.now.entries in
    let e : c.insert.new.self.entries ≡ insert_entry nat_cmp es c.args.id c.args.value = c.in_ok-insert.ensures.entries ∙ ap (insert_entry nat_cmp es c.args.id) (to_z-of_z w64 c.args.value c.ranges.value) in
    record {
      all = subst (λ xs. All IsUsed (values_of xs)) (sym e) (All-values-insert_entry nat_cmp c.args.id c.args.value IsUsed es c.requires.used.all (record { within = c.requires.within; used = ap is_zero (sym (to_z-of_z w64 c.args.value c.ranges.value)) ∙ sym c.is_zero.ensures ∙ c.if-is_zero.false }));
      rising = c.insert.ensures.ordered;
    }
