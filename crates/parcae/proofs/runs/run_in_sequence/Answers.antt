use Rattle.std.proofs.Common.{◌≡◌, length, ap, sym, subst, ◌∙◌, ◌≤◌, ◌+◌, []}
use Rattle.std.specs.Io.KnownBytes.{Appends}
use Rattle.fate_io.specs.Sending.{Sent, sent_since, BreaksOff}
use Rattle.nona_tree.specs.Memory.{Memory}
use Rattle.nona_tree.specs.Run.{Ran, meaning_of}
use Rattle.nona_tree.specs.Scope.{AreScoped}
use Rattle.morta_task.specs.ImageView.{ImageView}
use Rattle.morta_task.specs.LogView.{empty_log}
use Rattle.morta_text.specs.Texts.{number_lines}
use Rattle.parcae.specs.Told.{told_of, finished}
use Rattle.parcae.specs.Ends.{Ends}
use Rattle.parcae.specs.Due.{DueOfSeq, seq_ran, seq_broken, seq_unbegun, behind_numbers}
use Rattle.parcae.proofs.Ending.{ends_unbegun, ends_early, ends_behind}
use Rattle.parcae.proofs.Replaying.{beginning, run_is}
use Rattle.parcae.proofs.runs.run_in_sequence.Goals as goal

pub run_through-requires-clause-scoped : goal.run_through-requires-clause-scoped
run_through-requires-clause-scoped g c =
    subst (λ (i : ImageView). AreScoped i.main (length c.in-Ok-start.store.scalars) (length c.in-Ok-start.store.arrays)) (sym c.in-Ok.ensures)
    (subst (λ (m : Memory). AreScoped c.args.program.now.body (length m.scalars) (length m.arrays)) (sym c.in-Ok-start.ensures)
    (c.checked_is_scoped.ensures.begun c.args.program.now c.args.input.items c.program-tree.ensures.checked))

-- memory ran out before the image was there
pub returns-in_default : goal.returns-in_default
returns-in_default g c = rw c.bare.ensures (ends_unbegun _ (g.K.Sink.written c.args.out.now) (g.K.Sink.faults c.args.out.now) seq_unbegun)

-- memory ran out before the store was there
pub returns-in_default-start : goal.returns-in_default-start
returns-in_default-start g c =
    rw c.bare-in_default-start.ensures (ends_unbegun _ (g.K.Sink.written c.args.out.now) (g.K.Sink.faults c.args.out.now) seq_unbegun)

-- the numbers went out, and what stands behind them with its result
pub returns-in-Ok-run_through : goal.returns-in-Ok-run_through
returns-in-Ok-run_through g c =
    let written = g.K.Sink.written in
    let faults = g.K.Sink.faults in
    let p = c.args.program.now in
    let input = c.args.input.items in
    let n = c.args.turns in
    let ran : Ran = record { store = c.in-Ok-run_through.run'.store; end = c.in-Ok-run_through.run'.outcome } in
    let meaning : meaning_of p input n ≡ ran =
    sym (run_is p input n c.in-Ok.image (beginning c.in-Ok-start.store n) c.in-Ok.ensures (ap (λ (m : Memory). beginning m n) c.in-Ok-start.ensures)) ∙ c.in-Ok-run_through.ensures.ended in
    subst (λ (r : Ran). Ends (DueOfSeq p r c.args.memory) (sent_since written faults c.args.out.now c.finish.new.out) (told_of c.finish.result)) (sym meaning)
    (ends_behind (DueOfSeq p ran c.args.memory)
    (written c.args.out.now) (written c.run_through.new.out) (written c.finish.new.out)
    (faults c.args.out.now) (faults c.run_through.new.out) (faults c.finish.new.out)
    (finished ran empty_log) (told_of c.finish.result) (number_lines ran.store.printed) (behind_numbers p ran c.args.memory [])
    seq_ran
    (subst (λ (r : Ran). Appends (written c.args.out.now) (written c.run_through.new.out) (number_lines r.store.printed)) c.in-Ok-run_through.ensures.ended c.in-Ok-run_through.ensures.sent)
    c.in-Ok-run_through.ensures.later
    (rw (← c.program-tree.ensures.program, ← c.new.ensures) c.finish.ensures.sends))

-- the numbers were broken off
pub returns : goal.returns
returns g c =
    let sent : Sent = sent_since g.K.Sink.written g.K.Sink.faults c.args.out.now c.run_through.new.out in
    let p = c.args.program.now in
    let input = c.args.input.items in
    let n = c.args.turns in
    let meaning = run_is p input n c.in-Ok.image (beginning c.in-Ok-start.store n) c.in-Ok.ensures (ap (λ (m : Memory). beginning m n) c.in-Ok-start.ensures) in
    rw (c.bare-in-Err.ensures, c.broken_status.ensures)
    (ends_early (DueOfSeq p (meaning_of p input n) c.args.memory) sent (number_lines (meaning_of p input n).store.printed) c.in-Err.fault
    seq_broken (subst (λ (r : Ran). BreaksOff sent (number_lines r.store.printed) c.in-Err.fault) meaning c.in-Err.ensures.sent))

pub finish-requires-clause-vars : goal.finish-requires-clause-vars
finish-requires-clause-vars g c =
    rw c.program-tree.ensures.program (subst (λ (r : Ran). length c.args.program.now.vars ≤ length r.store.scalars)
    (sym (run_is c.args.program.now c.args.input.items c.args.turns c.in-Ok.image (beginning c.in-Ok-start.store c.args.turns) c.in-Ok.ensures (ap (λ (m : Memory). beginning m c.args.turns) c.in-Ok-start.ensures)) ∙ c.in-Ok-run_through.ensures.ended)
    (c.declared_stays.ensures.vars c.args.program.now c.args.input.items c.args.turns))

pub finish-requires-clause-arrays : goal.finish-requires-clause-arrays
finish-requires-clause-arrays g c =
    rw c.program-tree.ensures.program (subst (λ (r : Ran). length c.args.program.now.arrays + 1 ≤ length r.store.arrays)
    (sym (run_is c.args.program.now c.args.input.items c.args.turns c.in-Ok.image (beginning c.in-Ok-start.store c.args.turns) c.in-Ok.ensures (ap (λ (m : Memory). beginning m c.args.turns) c.in-Ok-start.ensures)) ∙ c.in-Ok-run_through.ensures.ended)
    (c.declared_stays.ensures.arrays c.args.program.now c.args.input.items c.args.turns))

pub finish-requires-clause-few : goal.finish-requires-clause-few
finish-requires-clause-few g c = rw c.program-tree.ensures.program (c.declared_stays.ensures.few c.args.program.now c.program-tree.ensures.checked)
