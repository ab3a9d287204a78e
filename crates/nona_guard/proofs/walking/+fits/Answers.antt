use Rattle.std.proofs.Common.{rules, List, ap, ◌∙◌, Some, length}
use Rattle.nona_guard.specs.declared.bounds.Bound.{Bound}
use Rattle.nona_guard.specs.declared.checks.Check.{Check, the_lemmas}
use Rattle.nona_guard.specs.Checks.{hold_all, ranges_by}
use Rattle.nona_guard.proofs.EntryLaws.{holds_none, holds_empty, holds_walked, there_in, room_in, small_in}
use Rattle.nona_guard.proofs.walking.+fits.Goals as goal

pub fits_check-returns-in-Place-clause-holds : goal.fits_check-returns-in-Place-clause-holds
fits_check-returns-in-Place-clause-holds t c =
    rw (c.in-Place.is, ← c.as_slice.ensures.value) (c.place_fits.ensures c.args.turns)

pub fits_check-returns-in-None-clause-holds : goal.fits_check-returns-in-None-clause-holds
fits_check-returns-in-None-clause-holds t c =
    let b = c.in-Turns in
    let m = c.args.store.now in
    holds_none c.args.check.now b.id b.low b.high b.body (ranges_by c.args.index m c.args.bounds.now.items) m c.args.turns c.entry.result b.is (rw c.as_slice-in-Turns.ensures.value at c.entry.ensures.entry) c.in-None.is

pub fits_check-returns-in-Some-None-clause-holds : goal.fits_check-returns-in-Some-None-clause-holds
fits_check-returns-in-Some-None-clause-holds t c =
    let b = c.in-Turns in
    let m = c.args.store.now in
    holds_empty c.args.check.now b.id b.low b.high b.body (ranges_by c.args.index m c.args.bounds.now.items) m c.args.turns c.entry.result b.is (rw c.as_slice-in-Turns.ensures.value at c.entry.ensures.entry) (c.in-Some-None.is ∙ ap Some c.in-Some-None.field-0-is)

pub fits_check-returns-in-Some-Some-clause-holds : goal.fits_check-returns-in-Some-Some-clause-holds
fits_check-returns-in-Some-Some-clause-holds t c =
    let b = c.in-Turns in
    let m = c.args.store.now in
    c.fits_all-fits.ensures.holds
    ∙ ap (λ (cs : List Check). hold_all cs (ranges_by c.args.index m c.push.new.self.items) m c.args.turns) c.as_slice-in-Some-Some.ensures
    ∙ ap (λ (bs : List Bound). hold_all b.body (ranges_by c.args.index m bs) m c.args.turns) c.push.ensures.items
    ∙ holds_walked c.args.check.now b.id b.low b.high b.body c.args.index m c.args.bounds.now.items c.args.turns c.entry.result c.in-Some-Some.range b.is (rw c.as_slice-in-Turns.ensures.value at c.entry.ensures.entry) (c.in-Some-Some.is ∙ ap Some c.in-Some-Some.field-0-is)

pub fits_check-fits_all-fits-requires : goal.fits_check-fits_all-fits-requires
fits_check-fits_all-fits-requires t c =
    let b = c.in-Turns in
    let bs = c.args.bounds.now.items in
    let bound : Bound = record { id = b.id; range = c.in-Some-Some.range } in (
      search (rules, the_lemmas, c.decreases, b.is, c.as_slice-in-Some-Some.ensures),
      (
        rw c.as_slice-in-Some-Some.ensures (there_in c.args.check.now b.id b.low b.high b.body (length c.args.store.now.arrays) b.is c.requires.there),
        (
          rw (c.as_slice-in-Some-Some.ensures, c.push.ensures.items) (room_in c.args.check.now b.id b.low b.high b.body bs bound b.is c.requires.room),
          (c.requires.index, rw c.push.ensures.items (small_in bs bound c.requires.small (c.entry.ensures.small c.in-Some-Some.range (c.in-Some-Some.is ∙ ap Some c.in-Some-Some.field-0-is)))),
        ),
      ),
    )
