use Rattle.std.proofs.Common.{ap, sym, subst, List, length}
use Rattle.std.specs.Prelude.{IfErr}
use Rattle.fate_io.specs.Sending.{sent_since}
use Rattle.nona_tree.specs.Run.{Ran}
use Rattle.nona_tree.specs.Memory.{Memory}
use Rattle.nona_tree.specs.Scope.{AreScoped}
use Rattle.morta_task.specs.Entries.{EntryView}
use Rattle.morta_task.specs.ImageView.{ImageView}
use Rattle.morta_exec.specs.Began.{run_from}
use Rattle.morta_exec.specs.Drive.{StopsShort}
use Rattle.morta_exec.specs.Log.{LogStands}
use Rattle.parcae.specs.Entered.{entries_in}
use Rattle.nona_gen.specs.OfSeen.{planned_image}
use Rattle.parcae.proofs.Replaying.{beginning, run_is, entries_are}
use Rattle.parcae.proofs.replays.drive_program.Goals as goal

pub drive-run-requires-clause-scoped : goal.drive-run-requires-clause-scoped
drive-run-requires-clause-scoped g c =
    subst (λ (i : ImageView). AreScoped i.main (length c.in_ok-store.store.scalars) (length c.in_ok-store.store.arrays)) (sym c.in_ok-image.ensures)
    (subst (λ (m : Memory). AreScoped c.args.program.now.body (length m.scalars) (length m.arrays)) (sym c.in_ok-store.ensures)
    (c.checked_is_scoped.ensures.begun c.args.program.now c.args.input.items c.program.ensures.checked))

pub returns-clause-log : goal.returns-clause-log
returns-clause-log g c =
    let from = beginning c.in_ok-store.store c.args.turns in
    subst (λ (es : List EntryView). LogStands g.M.Morta.promise es c.args.morta c.drive-run.new.log)
    (entries_are c.args.program.now c.args.input.items c.args.turns c.in_ok-image.image from c.in_ok-image.ensures (ap (λ (m : Memory). beginning m c.args.turns) c.in_ok-store.ensures))
    c.drive-run.ensures.log

pub returns-clause-stops : goal.returns-clause-stops
returns-clause-stops g c =
    let p = c.args.program.now in
    let input = c.args.input.items in
    let n = c.args.turns in
    let image = c.in_ok-image.image in
    let from = beginning c.in_ok-store.store n in
    let from_is = ap (λ (m : Memory). beginning m n) c.in_ok-store.ensures in
    let is = c.drive-run.new.log.intervals in
    let sent = sent_since g.K.Sink.written g.K.Sink.faults c.args.out.now c.drive-run.new.out in
    subst (λ (r : Ran). IfErr c.drive-run.result (StopsShort (entries_in (planned_image p) p input n) r.store is sent))
    (run_is p input n image from c.in_ok-image.ensures from_is)
    (subst (λ (es : List EntryView). IfErr c.drive-run.result (StopsShort es (run_from image from).store is sent))
    (entries_are p input n image from c.in_ok-image.ensures from_is) c.drive-run.ensures.stops)
