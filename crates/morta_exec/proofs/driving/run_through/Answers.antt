use Rattle.std.proofs.Common.{sym, subst}
use Rattle.fate_io.specs.Sending.{sent_since}
use Rattle.nona_tree.specs.Memory.{Memory}
use Rattle.nona_code.specs.MainLeft.{IsLeft}
use Rattle.morta_task.specs.ImageView.{is_region_of}
use Rattle.morta_exec.specs.Puts.{HasPut}
use Rattle.morta_exec.specs.Through.{IsThrough}
use Rattle.morta_exec.proofs.Starting.{put_first}
use Rattle.morta_exec.proofs.Driven.{begins}
use Rattle.morta_exec.proofs.Through.{first_through, went_through}
use Rattle.morta_exec.proofs.driving.run_through.Goals as goal

pub pass_all-requires-clause-through : goal.pass_all-requires-clause-through
pass_all-requires-clause-through g c =
    let n = c.args.from.turns in
    let m = c.args.from.store in
    let image = c.args.image.now in
    let left = IsLeft c.in-Ok.frame n in
    subst (λ (x : Memory). IsThrough left (begins image n x c.of-2.result.value) m c.count_all-count.result.value) (sym c.of.ensures)
    (first_through left (begins image n m c.of-2.result.value) c.count_all-count.result.value
    (c.in-Ok.ensures n m c.requires.scoped c.is_kept.ensures.numbers)
    (c.entries_are_regions.ensures (is_region_of image) image.main n m)
    c.count_all-count.ensures)

pub pass_all-requires-clause-put : goal.pass_all-requires-clause-put
pass_all-requires-clause-put g c =
    subst (λ z. HasPut (sent_since g.K.Sink.written g.K.Sink.faults z c.args.out.now) c.args.from.store.printed) (sym c.of-3.ensures)
    (put_first c.args.from.store (g.K.Sink.written c.args.out.now) (g.K.Sink.faults c.args.out.now) c.requires.printed)

pub returns-clause-ended : goal.returns-clause-ended
returns-clause-ended g c =
    (went_through g.K.Sink.written g.K.Sink.faults c.args.image.now c.args.from c.args.out.now c.of-3.result.value c.pass_all.new.out c.of.result.value c.pass_all.result c.of.ensures c.of-3.ensures
    c.pass_all.ensures.ended c.pass_all.ensures.put c.pass_all.ensures.later c.pass_all.ensures.stopped).ended

pub returns-clause-sent : goal.returns-clause-sent
returns-clause-sent g c =
    (went_through g.K.Sink.written g.K.Sink.faults c.args.image.now c.args.from c.args.out.now c.of-3.result.value c.pass_all.new.out c.of.result.value c.pass_all.result c.of.ensures c.of-3.ensures
    c.pass_all.ensures.ended c.pass_all.ensures.put c.pass_all.ensures.later c.pass_all.ensures.stopped).sent

pub returns-clause-later : goal.returns-clause-later
returns-clause-later g c =
    (went_through g.K.Sink.written g.K.Sink.faults c.args.image.now c.args.from c.args.out.now c.of-3.result.value c.pass_all.new.out c.of.result.value c.pass_all.result c.of.ensures c.of-3.ensures
    c.pass_all.ensures.ended c.pass_all.ensures.put c.pass_all.ensures.later c.pass_all.ensures.stopped).later
