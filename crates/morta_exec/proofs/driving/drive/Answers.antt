use Rattle.std.proofs.Common.{sym}
use Rattle.nona_code.specs.MainLeft.{IsLeft}
use Rattle.morta_task.specs.ImageView.{is_region_of}
use Rattle.fate_io.specs.Sending.{sent_since}
use Rattle.morta_exec.specs.Puts.{HasPut}
use Rattle.morta_exec.specs.MainRun.{Between}
use Rattle.morta_exec.proofs.Stopping.{handed_on}
use Rattle.morta_exec.proofs.Starting.{stops_before, between_first, put_first}
use Rattle.morta_exec.proofs.Driven.{moved, begins, driven}
use Rattle.morta_exec.proofs.driving.drive.Goals as goal

pub drive_frame-requires-clause-between : goal.drive_frame-requires-clause-between
drive_frame-requires-clause-between g c =
    let n = c.args.from.turns in
    let image = c.args.image.now in
    let left = IsLeft c.in_ok-frame.frame n in
    moved (λ x y z. Between g.M.Morta.promise left (begins image n x y) c.args.morta.now c.args.from.store c.args.log.now)
    c.args.from.store c.of.result.value c.args.morta.now c.of-2.result.value c.args.out.now c.of-3.result.value (sym c.of.ensures) (sym c.of-2.ensures) (sym c.of-3.ensures)
    (between_first g.M.Morta.promise left (begins image n c.args.from.store c.args.morta.now) c.args.log.now
    g.met.M.Asker.stands_only c.requires.empty c.requires.stands c.requires.printed (c.in_ok-frame.ensures n c.args.from.store c.requires.scoped c.is_kept.ensures.numbers)
    (c.entries_are_regions.ensures (is_region_of image) image.main n c.args.from.store))

pub drive_frame-requires-clause-put : goal.drive_frame-requires-clause-put
drive_frame-requires-clause-put g c =
    moved (λ x y z. HasPut (sent_since g.K.Sink.written g.K.Sink.faults z c.args.out.now) c.args.from.store.printed)
    c.args.from.store c.of.result.value c.args.morta.now c.of-2.result.value c.args.out.now c.of-3.result.value (sym c.of.ensures) (sym c.of-2.ensures) (sym c.of-3.ensures)
    (put_first c.args.from.store (g.K.Sink.written c.args.out.now) (g.K.Sink.faults c.args.out.now) c.requires.printed)

pub returns-in_err-frame-clause-stops : goal.returns-in_err-frame-clause-stops
returns-in_err-frame-clause-stops g c =
    handed_on _ c.from_residual.result _ c.from_residual.ensures.1
    (stops_before (begins c.args.image.now c.args.from.turns c.args.from.store c.args.morta.now) c.args.log.now (g.K.Sink.written c.args.out.now) (g.K.Sink.faults c.args.out.now) c.requires.empty)

pub returns-clause-ended : goal.returns-clause-ended
returns-clause-ended g c =
    (driven g.M.Morta.promise g.K.Sink.written g.K.Sink.faults c.args.image.now c.args.from c.args.morta.now c.args.out.now
    c.of.result.value c.of-2.result.value c.of-3.result.value c.drive_frame.new.out c.drive_frame.new.log c.drive_frame.result c.of.ensures c.of-2.ensures c.of-3.ensures
    c.drive_frame.ensures.run c.drive_frame.ensures.put c.drive_frame.ensures.stopped).ended

pub returns-clause-put : goal.returns-clause-put
returns-clause-put g c =
    (driven g.M.Morta.promise g.K.Sink.written g.K.Sink.faults c.args.image.now c.args.from c.args.morta.now c.args.out.now
    c.of.result.value c.of-2.result.value c.of-3.result.value c.drive_frame.new.out c.drive_frame.new.log c.drive_frame.result c.of.ensures c.of-2.ensures c.of-3.ensures
    c.drive_frame.ensures.run c.drive_frame.ensures.put c.drive_frame.ensures.stopped).put

pub returns-clause-kept : goal.returns-clause-kept
returns-clause-kept g c =
    (driven g.M.Morta.promise g.K.Sink.written g.K.Sink.faults c.args.image.now c.args.from c.args.morta.now c.args.out.now
    c.of.result.value c.of-2.result.value c.of-3.result.value c.drive_frame.new.out c.drive_frame.new.log c.drive_frame.result c.of.ensures c.of-2.ensures c.of-3.ensures
    c.drive_frame.ensures.run c.drive_frame.ensures.put c.drive_frame.ensures.stopped).kept

pub returns-clause-log : goal.returns-clause-log
returns-clause-log g c =
    (driven g.M.Morta.promise g.K.Sink.written g.K.Sink.faults c.args.image.now c.args.from c.args.morta.now c.args.out.now
    c.of.result.value c.of-2.result.value c.of-3.result.value c.drive_frame.new.out c.drive_frame.new.log c.drive_frame.result c.of.ensures c.of-2.ensures c.of-3.ensures
    c.drive_frame.ensures.run c.drive_frame.ensures.put c.drive_frame.ensures.stopped).log_stands

pub returns-clause-whole : goal.returns-clause-whole
returns-clause-whole g c =
    (driven g.M.Morta.promise g.K.Sink.written g.K.Sink.faults c.args.image.now c.args.from c.args.morta.now c.args.out.now
    c.of.result.value c.of-2.result.value c.of-3.result.value c.drive_frame.new.out c.drive_frame.new.log c.drive_frame.result c.of.ensures c.of-2.ensures c.of-3.ensures
    c.drive_frame.ensures.run c.drive_frame.ensures.put c.drive_frame.ensures.stopped).whole

pub returns-clause-few : goal.returns-clause-few
returns-clause-few g c =
    (driven g.M.Morta.promise g.K.Sink.written g.K.Sink.faults c.args.image.now c.args.from c.args.morta.now c.args.out.now
    c.of.result.value c.of-2.result.value c.of-3.result.value c.drive_frame.new.out c.drive_frame.new.log c.drive_frame.result c.of.ensures c.of-2.ensures c.of-3.ensures
    c.drive_frame.ensures.run c.drive_frame.ensures.put c.drive_frame.ensures.stopped).few

pub returns-clause-later : goal.returns-clause-later
returns-clause-later g c =
    (driven g.M.Morta.promise g.K.Sink.written g.K.Sink.faults c.args.image.now c.args.from c.args.morta.now c.args.out.now
    c.of.result.value c.of-2.result.value c.of-3.result.value c.drive_frame.new.out c.drive_frame.new.log c.drive_frame.result c.of.ensures c.of-2.ensures c.of-3.ensures
    c.drive_frame.ensures.run c.drive_frame.ensures.put c.drive_frame.ensures.stopped).later

pub returns-clause-stops : goal.returns-clause-stops
returns-clause-stops g c =
    (driven g.M.Morta.promise g.K.Sink.written g.K.Sink.faults c.args.image.now c.args.from c.args.morta.now c.args.out.now
    c.of.result.value c.of-2.result.value c.of-3.result.value c.drive_frame.new.out c.drive_frame.new.log c.drive_frame.result c.of.ensures c.of-2.ensures c.of-3.ensures
    c.drive_frame.ensures.run c.drive_frame.ensures.put c.drive_frame.ensures.stopped).stops
