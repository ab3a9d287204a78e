-- What is told of a call that was broken off, by what was written.
use Rattle.std.proofs.Common.{◌≡◌, ◌≢◌, ◌⊎◌, ℕ, ◌≤◌, Bool, ℤ, List, [], ◌++◌, length, length-append, ap, sym, refl, ◌∙◌, subst, None, Some, inl, inr, arith}
use Rattle.std.proofs.lemmas.List.{append_cancel_left}
use Rattle.std.proofs.lemmas.List.Concat.{flat_map-append}
use Rattle.std.specs.declared.option.Option.{Option}
use Rattle.std.specs.Io.KnownBytes.{Appends}
use Rattle.fate_io.specs.Sending.{Sent}
use Rattle.fate_io.specs.Reading.{Looked}
use Rattle.fate_io.specs.Outside.{outside_of}
use Rattle.nona_tree.specs.declared.trees.Program.{Program}
use Rattle.nona_tree.specs.Memory.{Extends}
use Rattle.nona_tree.specs.Run.{Ran, meaning_of}
use Rattle.morta_task.specs.Entries.{EntryView}
use Rattle.morta_task.specs.LogView.{LogView, empty_log}
use Rattle.nona_stages.specs.Seen.{seen_of}
use Rattle.nona_report.specs.Report.{report_text}
use Rattle.morta_text.specs.Texts.{number_line, number_lines}
use Rattle.morta_exec.specs.Places.{most}
use Rattle.parcae.specs.declared.refusal.Refusal.TheVariants as refusal
use Rattle.parcae.specs.declared.status.Status.{Status}
use Rattle.parcae.specs.declared.status.Status.TheVariants as status
use Rattle.parcae.specs.Words.{seq, check, replay, trial}
use Rattle.parcae.specs.Trials.{trial_run, DueOfTrial, trial_ran, trial_full, trial_short, trial_unbegun}
use Rattle.parcae.specs.Summary.{summary_text}
use Rattle.parcae.specs.Texts.{refusal_line, refusal_status}
use Rattle.parcae.specs.Told.{Told, bare, finished, IsBare, Keeps}
use Rattle.parcae.specs.Ends.{Way, Whole, Early, Unbegun, Breaks, within, behind, whole, write_failed, no_memory, unbegun}
use Rattle.parcae.specs.Due.{DueOfSeq, seq_ran, seq_broken, seq_unbegun, DueOfCheck, check_ran, check_unbegun, DueOfDrive, drive_ran, drive_full, drive_broken, drive_unbegun, DueOfCommand}
use Rattle.parcae.specs.Files.{stops, starves, follows}
use Rattle.parcae.specs.Answers.{Answers, HoldsProgram}
use Rattle.parcae.specs.Statuses.{OfEachCall, IsCut, IsCutBy, IsFront, IsCutTrial, before_summary, in_summary, in_full_log, TellsFront}
use Rattle.parcae.proofs.Completing.{One, none_added, seq_due, check_due, replay_due, whole_apart}
use Rattle.parcae.proofs.Telling.{seq_whole, check_whole, DriveWhole, is_ran, is_full, drive_whole, TrialWhole, is_tried, is_full_trial, trial_whole, whole_by}
use Rattle.parcae.proofs.Clauses.{whole_code}

-- the bytes that were written, where the sink tells them
same_written : (before after : Option (List ℕ)) (front written x : List ℕ) → before ≡ Some front → after ≡ Some (front ++ written) → Appends before after x → written ≡ x
same_written None after front written x e f h = cc
same_written (Some b) None front written x e f h = cc
same_written (Some b) (Some a) front written x e f h =
    let eb : b ≡ front = cc in
    let ea : a ≡ front ++ written = cc in
    append_cancel_left front written x (sym ea ∙ h ∙ ap (λ (l : List ℕ). l ++ x) eb)

-- what is written within a text is no longer
shorter : (text written rest : List ℕ) → text ≡ written ++ rest → length written ≤ length text
shorter text written rest e = omega (arith, ap length e, length-append written rest)

-- the lines of numbers that others extend are no longer
fewer_lines : (a b : List ℤ) → Extends a b → length (number_lines a) ≤ length (number_lines b)
fewer_lines a b (more, e) = omega (arith, ap (λ (l : List ℤ). length (number_lines l)) e, ap length (flat_map-append number_line a more), length-append (number_lines a) (number_lines more))

-- a call that was broken off within the printed numbers tells neither
cut_within : (ran : Ran) (written : List ℕ) (told : Told) → length written ≤ length (number_lines ran.store.printed) → IsBare told → IsCutBy ran written told
cut_within ran written told le b = record { before = λ lt. b; behind = λ lt. absurd (omega (arith, lt, le)) }

-- one that was broken off behind them tells both
cut_behind : (ran : Ran) (log : LogView) (written w : List ℕ) (report told : Told) → written ≡ number_lines ran.store.printed ++ w → report ≡ finished ran log
    → Keeps report told → IsCutBy ran written told
cut_behind ran log written w report told e er k = record {
  before = λ lt. absurd (omega (arith, lt, ap length e, length-append (number_lines ran.store.printed) w));
  behind = λ lt. (k.outcome ∙ ap (λ (t : Told). t.outcome) er, k.store ∙ ap (λ (t : Told). t.store) er);
}

early_apart : (log other : LogView) (printed : List ℕ) → Early log printed ≢ Unbegun other
early_apart log other printed e = cc

-- what is due of a run in one thread, early
seq_early : (tree : Program) (ran : Ran) (memory : Bool) (way : Way) (log : LogView) (printed : List ℕ)
    → DueOfSeq tree ran memory way → way ≡ Early log printed → printed ≡ number_lines ran.store.printed
seq_early tree ran memory way log printed seq_ran e = cc
seq_early tree ran memory way log printed seq_broken e = cc
seq_early tree ran memory way log printed seq_unbegun e = cc

-- what is due of a run in intervals, early
drive_early : (tree : Program) (es : List EntryView) (ran : Ran) (stands : LogView → Type 0) (memory asked : Bool) (way : Way) (log : LogView) (printed : List ℕ)
    → DueOfDrive tree es ran stands memory asked way → way ≡ Early log printed → length printed ≤ length (number_lines ran.store.printed)
drive_early tree es ran stands memory asked way log printed (drive_ran l s ends few) e = cc
drive_early tree es ran stands memory asked way log printed (drive_full l m s few next more) e = cc
drive_early tree es ran stands memory asked way log printed (drive_broken l m s few place more) e =
    let is : printed ≡ number_lines m.printed = cc in
    omega (arith, ap length is, fewer_lines m.printed ran.store.printed more)
drive_early tree es ran stands memory asked way log printed drive_unbegun e = cc

-- a run in one thread was broken off
seq_cut : (tree : Program) (ran : Ran) (memory : Bool) (sent : Sent) (told : Told) (front written : List ℕ)
    → sent.before ≡ Some front → sent.after ≡ Some (front ++ written) → Breaks (DueOfSeq tree ran memory) sent told → IsCutBy ran written told
seq_cut tree ran memory sent told front written eb ea (within printed w rest d e h b) =
    let same : written ≡ w = same_written sent.before sent.after front written w eb ea h in
    let is : printed ≡ number_lines ran.store.printed = seq_early tree ran memory _ told.log printed d refl in
    cut_within ran written told (omega (arith, ap length same, shorter printed w rest e, ap length is)) b
seq_cut tree ran memory sent told front written eb ea (behind report printed later w rest d e h k) =
    let same : written ≡ printed ++ w = same_written sent.before sent.after front written (printed ++ w) eb ea h in
    let is = seq_whole tree ran memory _ report printed later d refl in
    cut_behind ran empty_log written w report told (same ∙ ap (λ (l : List ℕ). l ++ w) is.1) is.0 k

-- a run in intervals was broken off
drive_behind : (tree : Program) (es : List EntryView) (ran : Ran) (stands : LogView → Type 0) (memory asked : Bool) (report told : Told) (printed later written w : List ℕ)
    → written ≡ printed ++ w → Keeps report told → DriveWhole tree es ran stands memory asked report printed later
    → (IsBare told × (length told.log.intervals ≡ most)) ⊎ IsCutBy ran written told
drive_behind tree es ran stands memory asked report told printed later written w same k (is_ran l s ends er ep el) =
    inr (cut_behind ran l written w report told (same ∙ ap (λ (x : List ℕ). x ++ w) ep) er k)
drive_behind tree es ran stands memory asked report told printed later written w same k (is_full l m few er ep el) =
    inl (
      record { outcome = k.outcome ∙ ap (λ (t : Told). t.outcome) er; store = k.store ∙ ap (λ (t : Told). t.store) er },
      ap (λ (x : LogView). length x.intervals) (k.log ∙ ap (λ (t : Told). t.log) er) ∙ few,
    )

drive_cut : (tree : Program) (es : List EntryView) (ran : Ran) (stands : LogView → Type 0) (memory asked : Bool) (sent : Sent) (told : Told) (front written : List ℕ)
    → sent.before ≡ Some front → sent.after ≡ Some (front ++ written) → Breaks (DueOfDrive tree es ran stands memory asked) sent told
    → (IsBare told × (length told.log.intervals ≡ most)) ⊎ IsCutBy ran written told
drive_cut tree es ran stands memory asked sent told front written eb ea (within printed w rest d e h b) =
    let same : written ≡ w = same_written sent.before sent.after front written w eb ea h in
    inr (cut_within ran written told (omega (arith, ap length same, shorter printed w rest e, drive_early tree es ran stands memory asked _ told.log printed d refl)) b)
drive_cut tree es ran stands memory asked sent told front written eb ea (behind report printed later w rest d e h k) =
    let same : written ≡ printed ++ w = same_written sent.before sent.after front written (printed ++ w) eb ea h in
    drive_behind tree es ran stands memory asked report told printed later written w same k (drive_whole tree es ran stands memory asked _ report printed later d refl)

-- a trial is not due early
trial_early : (n : ℕ) (way : Way) (log : LogView) (printed : List ℕ) → DueOfTrial n way → way ≢ Early log printed
trial_early n way log printed (trial_ran l s ends few) e = cc
trial_early n way log printed (trial_full l s why) e = cc
trial_early n way log printed (trial_short l s few) e = cc
trial_early n way log printed trial_unbegun e = cc

-- the summary of a trial was broken off, or the line of a full log
trial_behind : (n : ℕ) (report told : Told) (printed later written w rest : List ℕ) → written ≡ printed ++ w → later ≡ w ++ rest
    → Keeps report told → TrialWhole n report printed later → IsCutTrial n written told
trial_behind n report told printed later written w rest same e k (is_tried l s ends er ep el) =
    let alone : written ≡ w = same ∙ ap (λ (x : List ℕ). x ++ w) ep in
    let log : l ≡ told.log = sym (k.log ∙ ap (λ (t : Told). t.log) er) in
    let front : summary_text n (trial_run n).store l ≡ written ++ rest = sym el ∙ e ∙ ap (λ (x : List ℕ). x ++ rest) (sym alone) in
    in_summary (k.outcome ∙ ap (λ (t : Told). t.outcome) er) (k.store ∙ ap (λ (t : Told). t.store) er)
    (rest, subst (λ (x : LogView). summary_text n (trial_run n).store x ≡ written ++ rest) log front)
trial_behind n report told printed later written w rest same e k (is_full_trial l few er ep el) =
    in_full_log (record { outcome = k.outcome ∙ ap (λ (t : Told). t.outcome) er; store = k.store ∙ ap (λ (t : Told). t.store) er })
    (ap (λ (x : LogView). length x.intervals) (k.log ∙ ap (λ (t : Told). t.log) er) ∙ few)

trial_cut : (n : ℕ) (sent : Sent) (told : Told) (front written : List ℕ)
    → sent.before ≡ Some front → sent.after ≡ Some (front ++ written) → Breaks (DueOfTrial n) sent told → IsCutTrial n written told
trial_cut n sent told front written eb ea (within printed w rest d e h b) = absurd (trial_early n _ told.log printed d refl)
trial_cut n sent told front written eb ea (behind report printed later w rest d e h k) =
    let same : written ≡ printed ++ w = same_written sent.before sent.after front written (printed ++ w) eb ea h in
    trial_behind n report told printed later written w rest same e k (trial_whole n _ report printed later d refl)

-- memory ran out before a run, and nothing was written
cut_before : (ran : Ran) (sent : Sent) (told : Told) (front written : List ℕ) → sent.before ≡ Some front → sent.after ≡ Some (front ++ written)
    → Appends sent.before sent.after [] → IsBare told → IsCutBy ran written told
cut_before ran sent told front written eb ea h b =
    let same : written ≡ [] = same_written sent.before sent.after front written [] eb ea h in
    cut_within ran written told (omega (arith, ap length same)) b

-- a way that is due of a run and is no want of memory before it
breaks_due : (due more : Way → Type 0) → ((way : Way) → way ≢ Unbegun empty_log → due way → more way) → (sent : Sent) (told : Told) → Breaks due sent told → Breaks more sent told
breaks_due due more f sent told (within p w r d e h b) = within p w r (f _ (early_apart told.log empty_log p) d) e h b
breaks_due due more f sent told (behind x p l w r d e h k) = behind x p l w r (f _ (whole_apart x p l empty_log) d) e h k

-- words that are no command
usage_front : (looked : Looked) (sent : Sent) (told : Told) (added : List (List ℕ)) → Breaks (DueOfCommand (outside_of looked) None added) sent told → IsBare told
usage_front looked sent told added (within p w r d e h b) = b
usage_front looked sent told added (behind x p l w r d e h k) =
    let is : x ≡ bare status.Usage = (let w : Whole x p l ≡ Whole (bare status.Usage) [] (refusal_line refusal.Usage) = d.1 in cc) in
    record { outcome = k.outcome ∙ ap (λ (t : Told). t.outcome) is; store = k.store ∙ ap (λ (t : Told). t.store) is }

none_front : (looked : Looked) (sent : Sent) (told : Told) → Answers None looked sent told → IsBare told
none_front looked sent told (added, grown, whole p l d h) =
    let is : told ≡ bare status.Usage = (let w : Whole told p l ≡ Whole (bare status.Usage) [] (refusal_line refusal.Usage) = d.1 in cc) in
    record { outcome = ap (λ (t : Told). t.outcome) is; store = ap (λ (t : Told). t.store) is }
none_front looked sent told (added, grown, write_failed e b rose) = usage_front looked sent told added b
none_front looked sent told (added, grown, no_memory e b) = usage_front looked sent told added b
none_front looked sent told (added, grown, unbegun e d h b) = b

-- a report that is kept and tells neither
kept_bare : (report told : Told) → IsBare report → Keeps report told → IsBare told
kept_bare report told b k = record { outcome = k.outcome ∙ b.outcome; store = k.store ∙ b.store }

-- nothing but a status tells neither
status_bare : (s : Status) → IsBare (bare s)
status_bare s = record { outcome = refl; store = refl }

-- neither is told of the report on loops
check_bare : (file : List ℕ) (looked : Looked) (added : List (List ℕ)) (report : Told) (printed later : List ℕ)
    → DueOfCommand (outside_of looked) (Some (check file)) added (Whole report printed later) → IsBare report
check_bare file looked added report printed later (stops r bad w) =
    let is : report ≡ bare (refusal_status r) = cc in
    subst IsBare (sym is) (status_bare (refusal_status r))
check_bare file looked added report printed later (starves e w) = absurd (whole_apart report printed later empty_log w)
check_bare file looked added report printed later (follows tree g (e, d)) =
    subst IsBare (sym (check_whole tree _ report printed later d refl).0) (status_bare status.Done)

check_breaks : (file : List ℕ) (looked : Looked) (sent : Sent) (told : Told) (added : List (List ℕ))
    → Breaks (DueOfCommand (outside_of looked) (Some (check file)) added) sent told → IsBare told
check_breaks file looked sent told added (within p w r d e h b) = b
check_breaks file looked sent told added (behind x p l w r d e h k) = kept_bare x told (check_bare file looked added x p l d) k

check_answer : (file : List ℕ) (looked : Looked) (sent : Sent) (told : Told) → Answers (Some (check file)) looked sent told → IsBare told
check_answer file looked sent told (added, grown, whole p l d h) = check_bare file looked added told p l d
check_answer file looked sent told (added, grown, write_failed e b rose) = check_breaks file looked sent told added b
check_answer file looked sent told (added, grown, no_memory e b) = check_breaks file looked sent told added b
check_answer file looked sent told (added, grown, unbegun e d h b) = b

-- the report on loops is not due early
check_early : (tree : Program) (way : Way) (log : LogView) (printed : List ℕ) → DueOfCheck tree way → way ≢ Early log printed
check_early tree way log printed check_ran e = cc
check_early tree way log printed check_unbegun e = cc

-- the report on loops was broken off
check_cut : (tree : Program) (sent : Sent) (told : Told) (front written : List ℕ)
    → sent.before ≡ Some front → sent.after ≡ Some (front ++ written) → Breaks (DueOfCheck tree) sent told → IsFront written (report_text (seen_of tree))
check_cut tree sent told front written eb ea (within printed w rest d e h b) = absurd (check_early tree _ told.log printed d refl)
check_cut tree sent told front written eb ea (behind report printed later w rest d e h k) =
    let is = check_whole tree _ report printed later d refl in
    let same : written ≡ printed ++ w = same_written sent.before sent.after front written (printed ++ w) eb ea h in
    let alone : written ≡ w = same ∙ ap (λ (l : List ℕ). l ++ w) is.1 in
    (rest, sym is.2 ∙ e ∙ ap (λ (l : List ℕ). l ++ rest) (sym alone))

check_front : ((bytes : List ℕ) → One bytes) → (file : List ℕ) (looked : Looked) (sent : Sent) (told : Told) (tree : Program) (written : List ℕ)
    → HoldsProgram looked file tree → IsCut looked sent told written → Answers (Some (check file)) looked sent told
    → IsFront written (report_text (seen_of tree))
check_front one file looked sent told tree written program cut (added, grown, whole p l d h) =
    absurd (whole_code (Some (check file)) looked added told p l (whole_by (Some (check file)) looked added told p l d) cut.broken)
check_front one file looked sent told tree written program cut (added, grown, write_failed e b rose) =
    let none : added ≡ [] = none_added looked.failed_before added (sym cut.reads ∙ grown) in
    check_cut tree sent told cut.front written cut.before cut.after
    (breaks_due _ _ (λ way apart d. (check_due one file looked tree added way none program apart d).1) sent told b)
check_front one file looked sent told tree written program cut (added, grown, no_memory e b) =
    let none : added ≡ [] = none_added looked.failed_before added (sym cut.reads ∙ grown) in
    check_cut tree sent told cut.front written cut.before cut.after
    (breaks_due _ _ (λ way apart d. (check_due one file looked tree added way none program apart d).1) sent told b)
check_front one file looked sent told tree written program cut (added, grown, unbegun e d h b) =
    let same : written ≡ [] = same_written sent.before sent.after cut.front written [] cut.before cut.after h in
    (report_text (seen_of tree), ap (λ (l : List ℕ). l ++ report_text (seen_of tree)) (sym same))

-- after 15 and 16
pub tells_front : ((bytes : List ℕ) → One bytes) → OfEachCall TellsFront
tells_front one None looked sent told answers = none_front looked sent told answers
tells_front one (Some (seq task)) looked sent told (added, grown, whole p l d h) = λ tree numbers written program inputs cut.
    absurd (whole_code (Some (seq task)) looked added told p l (whole_by (Some (seq task)) looked added told p l d) cut.broken)
tells_front one (Some (seq task)) looked sent told (added, grown, write_failed e b rose) = λ tree numbers written program inputs cut.
    let none : added ≡ [] = none_added looked.failed_before added (sym cut.reads ∙ grown) in
    seq_cut tree (meaning_of tree numbers task.turns) task.memory sent told cut.front written cut.before cut.after
    (breaks_due _ _ (λ way apart d. (seq_due one task looked tree numbers added way none program inputs apart d).1) sent told b)
tells_front one (Some (seq task)) looked sent told (added, grown, no_memory e b) = λ tree numbers written program inputs cut.
    let none : added ≡ [] = none_added looked.failed_before added (sym cut.reads ∙ grown) in
    seq_cut tree (meaning_of tree numbers task.turns) task.memory sent told cut.front written cut.before cut.after
    (breaks_due _ _ (λ way apart d. (seq_due one task looked tree numbers added way none program inputs apart d).1) sent told b)
tells_front one (Some (seq task)) looked sent told (added, grown, unbegun e d h b) = λ tree numbers written program inputs cut.
    cut_before (meaning_of tree numbers task.turns) sent told cut.front written cut.before cut.after h b
tells_front one (Some (check file)) looked sent told answers =
    (check_answer file looked sent told answers, λ tree written program cut. check_front one file looked sent told tree written program cut answers)
tells_front one (Some (replay task)) looked sent told (added, grown, whole p l d h) = λ tree numbers lead written program inputs leads cut.
    absurd (whole_code (Some (replay task)) looked added told p l (whole_by (Some (replay task)) looked added told p l d) cut.broken)
tells_front one (Some (replay task)) looked sent told (added, grown, write_failed e b rose) = λ tree numbers lead written program inputs leads cut.
    let none : added ≡ [] = none_added looked.failed_before added (sym cut.reads ∙ grown) in
    drive_cut _ _ (meaning_of tree numbers task.run.turns) _ _ _ sent told cut.front written cut.before cut.after
    (breaks_due _ _ (λ way apart d. (replay_due one task looked tree numbers lead added way none program inputs leads apart d).1) sent told b)
tells_front one (Some (replay task)) looked sent told (added, grown, no_memory e b) = λ tree numbers lead written program inputs leads cut.
    let none : added ≡ [] = none_added looked.failed_before added (sym cut.reads ∙ grown) in
    drive_cut _ _ (meaning_of tree numbers task.run.turns) _ _ _ sent told cut.front written cut.before cut.after
    (breaks_due _ _ (λ way apart d. (replay_due one task looked tree numbers lead added way none program inputs leads apart d).1) sent told b)
tells_front one (Some (replay task)) looked sent told (added, grown, unbegun e d h b) = λ tree numbers lead written program inputs leads cut.
    inr (cut_before (meaning_of tree numbers task.run.turns) sent told cut.front written cut.before cut.after h b)
tells_front one (Some (trial number)) looked sent told (added, grown, whole p l d h) = λ written cut.
    absurd (whole_code (Some (trial number)) looked added told p l (whole_by (Some (trial number)) looked added told p l d) cut.broken)
tells_front one (Some (trial number)) looked sent told (added, grown, write_failed e b rose) = λ written cut.
    trial_cut number sent told cut.front written cut.before cut.after (breaks_due _ _ (λ way apart d. d.1) sent told b)
tells_front one (Some (trial number)) looked sent told (added, grown, no_memory e b) = λ written cut.
    trial_cut number sent told cut.front written cut.before cut.after (breaks_due _ _ (λ way apart d. d.1) sent told b)
tells_front one (Some (trial number)) looked sent told (added, grown, unbegun e d h b) = λ written cut.
    before_summary e b (same_written sent.before sent.after cut.front written [] cut.before cut.after h)
