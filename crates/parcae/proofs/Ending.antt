-- How the end of a call follows from what it sent.
use Rattle.std.proofs.Common.{◌≤◌, ℕ, List, [], refl, Ok, Err, arith}
use Rattle.std.proofs.KnownBytes.{Appends-nil, Appends-trans}
use Rattle.std.specs.declared.option.Option.{Option}
use Rattle.std.specs.Io.KnownBytes.{Appends}
use Rattle.fate_io.specs.Sending.{Sent, BreaksOff}
use Rattle.fate_io.specs.declared.sending.SendFault.{SendFault}
use Rattle.fate_io.specs.declared.sending.SendFault.TheVariants as fault
use Rattle.morta_task.specs.LogView.{empty_log}
use Rattle.parcae.specs.declared.refusal.Refusal.{Refusal}
use Rattle.parcae.specs.declared.status.Status.TheVariants as status
use Rattle.parcae.specs.Texts.{refusal_line, refusal_status}
use Rattle.parcae.specs.Told.{Told, bare, broken_status}
use Rattle.parcae.specs.Ends.{Way, Whole, Early, Unbegun, Breaks, within, behind, Ends, whole, write_failed, no_memory, unbegun, SendsReport}
use Rattle.parcae.specs.Files.{refusing}

-- memory ran out before a run, and nothing was written
pub ends_unbegun : (due : Way → Type 0) (w : Option (List ℕ)) (f : ℕ) → due (Unbegun empty_log)
    → Ends due (record { before = w; after = w; faults_before = f; faults = f }) (bare status.NoMemory)
ends_unbegun due w f d = unbegun refl d (Appends-nil w) (record { outcome = refl; store = refl })

-- the same, where what was written is said
pub ends_starved : (due : Way → Type 0) (sent : Sent) → due (Unbegun empty_log) → Appends sent.before sent.after []
    → Ends due sent (bare status.NoMemory)
ends_starved due sent d h = unbegun refl d h (record { outcome = refl; store = refl })

-- the printed numbers of a run that is in no log were broken off
pub ends_early : (due : Way → Type 0) (sent : Sent) (printed : List ℕ) (f : SendFault) → due (Early empty_log printed)
    → BreaksOff sent printed f → Ends due sent (bare (broken_status f))
ends_early due sent printed fault.WriteFailed d h =
    write_failed refl (within printed h.0.0 h.0.1 d h.0.2 h.0.3 (record { outcome = refl; store = refl })) h.1
ends_early due sent printed fault.NoMemory d h =
    no_memory refl (within printed h.0 h.1 d h.2 h.3 (record { outcome = refl; store = refl }))

-- the printed numbers that are due went out, and then what stands behind them was sent with its report
pub ends_behind : (due : Way → Type 0) (a b c : Option (List ℕ)) (f g h : ℕ) (report told : Told) (printed later : List ℕ)
    → due (Whole report printed later) → Appends a b printed → f ≤ g
    → SendsReport (record { before = b; after = c; faults_before = g; faults = h }) report later told
    → Ends due (record { before = a; after = c; faults_before = f; faults = h }) told
ends_behind due a b c f g h report told printed later d put le (Ok x, sends, e) =
    rw e (whole printed later d (Appends-trans a b c printed later put sends))
ends_behind due a b c f g h report told printed later d put le (Err fault.WriteFailed, sends, e) =
    rw e (write_failed refl (behind report printed later sends.0.0 sends.0.1 d sends.0.2 (Appends-trans a b c printed sends.0.0 put sends.0.3)
    (record { outcome = refl; store = refl; log = refl })) (omega (arith, le, sends.1)))
ends_behind due a b c f g h report told printed later d put le (Err fault.NoMemory, sends, e) =
    rw e (no_memory refl (behind report printed later sends.0 sends.1 d sends.2 (Appends-trans a b c printed sends.0 put sends.3)
    (record { outcome = refl; store = refl; log = refl })))

-- the line of a refusal that is due was sent
pub ends_refused : (due : Way → Type 0) (r : Refusal) (sent : Sent) (told : Told) → due (refusing r)
    → SendsReport sent (bare (refusal_status r)) (refusal_line r) told → Ends due sent told
ends_refused due r sent told d h =
    ends_behind due sent.before sent.before sent.after sent.faults_before sent.faults_before sent.faults (bare (refusal_status r)) told [] (refusal_line r)
    d (Appends-nil sent.before) (omega arith) h

breaks_as : (due more : Way → Type 0) → ((way : Way) → due way → more way) → (sent : Sent) (told : Told) → Breaks due sent told → Breaks more sent told
breaks_as due more f sent told (within p w r d e h b) = within p w r (f _ d) e h b
breaks_as due more f sent told (behind x p l w r d e h k) = behind x p l w r (f _ d) e h k

-- what is due goes on to what follows from it, and so does an end
pub ends_as : (due more : Way → Type 0) → ((way : Way) → due way → more way) → (sent : Sent) (told : Told) → Ends due sent told → Ends more sent told
ends_as due more f sent told (whole p l d h) = whole p l (f _ d) h
ends_as due more f sent told (write_failed e h rose) = write_failed e (breaks_as due more f sent told h) rose
ends_as due more f sent told (no_memory e h) = no_memory e (breaks_as due more f sent told h)
ends_as due more f sent told (unbegun e d h b) = unbegun e (f _ d) h b
