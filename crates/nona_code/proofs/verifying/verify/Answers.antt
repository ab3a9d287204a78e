use Rattle.std.proofs.Common.{◌≡◌, ◌<◌, ◌^◌, ℕ, List, [], length, Some, ap, subst, arith}
use Rattle.std.specs.Prelude.{slice_get, IfSome}
use Rattle.nona_code.specs.declared.instr.Instr.{Instr}
use Rattle.nona_code.specs.Marked.{IsSearch, IsHighest}
use Rattle.nona_code.specs.Rule.{HasTarget, UsesBelow}
use Rattle.nona_code.proofs.Searching.{search_view}
use Rattle.nona_code.proofs.verifying.verify.Goals as goal

pub of-requires : goal.of-requires
of-requires c =
    let code = c.args.code.items in
    let uses = c.uses_of_all-uses.result in
    let found = subst (λ (xs : List Instr). IfSome c.in_ok-find_marks.field-0 (λ m. IsSearch xs m.items [])) c.as_slice-2.ensures.value c.in_ok-find_marks.ensures.found in
    let targets = subst (λ (xs : List Instr). (pc : ℕ) (i : Instr) → slice_get xs pc ≡ Some i → HasTarget (length xs) i) c.as_slice.ensures.value (c.are_placed.ensures.targets c.if-not-are_placed.false) in
    let numbered = subst (UsesBelow 256 256) c.as_slice.ensures.value (c.are_placed.ensures.numbered c.if-not-are_placed.false) in
    let highest = subst (λ ms. IsHighest ms c.greatest-most.result) c.as_slice-in-Some.ensures.value c.greatest-most.ensures in
    let below = subst (UsesBelow uses.hidden uses.counters) c.as_slice-in-Some-2.ensures.value c.uses_of_all-uses.ensures.uses in
    let short : length code < 2 ^ 31 = omega (arith, c.if-len-ge-INSTRUCTIONS.false, c.len.ensures, c.as_slice.ensures.len, ap length c.as_slice.ensures.value) in
    search_view code c.in_ok-find_marks.field-0 c.in-Some.marks c.greatest-most.result uses c.in-Some.is found targets numbered highest below c.uses_of_all-uses.ensures.hidden c.uses_of_all-uses.ensures.counters short
