use Rattle.std.proofs.Common.{◌≡◌, ◌-◌, ◌<◌, ◌≤◌, length, slice_get, None, Some, refl, ap, sym, ◌∙◌, arith}
use Rattle.std.proofs.KnownBytes.{Appends-nil}
use Rattle.std.proofs.lemmas.Option.{slice_get_read, slice_get_past}
use Rattle.morta_text.proofs.log_lines.send_numbered.Goals as goal

-- the entry is there
pub returns-in-Some-clause-sent : goal.returns-in-Some-clause-sent
returns-in-Some-clause-sent g c =
    let entries = c.args.entries.now in
    let at = c.saturating_sub-at.result in
    let within : at < length entries = omega (arith, c.in-Some.ensures.lookup) in
    let there : slice_get entries (c.args.number - 1) ≡ Some c.in-Some.entry.now =
    ap (slice_get entries) (sym c.saturating_sub-at.ensures)
    ∙ slice_get_read entries (length entries) at c.in-Some.entry.now refl within c.in-Some.ensures.lookup.1 in
    rw there c.send_entry.ensures.sent

-- there is none
pub returns-in-None-clause-sent : goal.returns-in-None-clause-sent
returns-in-None-clause-sent g c =
    let entries = c.args.entries.now in
    let past : length entries ≤ c.saturating_sub-at.result = omega (arith, c.in-None.ensures.lookup) in
    let none : slice_get entries (c.args.number - 1) ≡ None =
    ap (slice_get entries) (sym c.saturating_sub-at.ensures) ∙ slice_get_past entries c.saturating_sub-at.result past in
    rw none (Appends-nil (g.K.Sink.written c.args.out.now))
