-- How the end of a replay follows from that of its drive.
use Rattle.std.proofs.Common.{◌≡◌, ◌≤◌, ℕ, ℤ, List, [], ◌∷◌, ◌++◌, length, ap, sym, refl, ◌∙◌, subst, None, Some, Bool, zero, suc}
use Rattle.std.specs.Prelude.{map, slice_get}
use Rattle.std.specs.declared.option.Option.{Option}
use Rattle.nona_tree.specs.declared.trees.Program.{Program}
use Rattle.nona_tree.specs.Memory.{Memory}
use Rattle.nona_tree.specs.Run.{Ran, start_of, meaning_of}
use Rattle.nona_tree.specs.declared.plans.Plan.{Plan}
use Rattle.nona_tree.specs.declared.trees.Loop.{Loop}
use Rattle.nona_tree.specs.Entries.{regions_all}
use Rattle.nona_plans.specs.Plans.{IsLawfulPlan, plan_of}
use Rattle.nona_stages.specs.Seen.{is_parallel}
use Rattle.nona_gen.specs.OfSeen.{by_plan, planned_image}
use Rattle.morta_task.specs.declared.both.Both.{Both}
use Rattle.morta_task.specs.declared.intervals.Interval.{Interval}
use Rattle.morta_task.specs.declared.schemes.Ask.{Ask}
use Rattle.morta_task.specs.declared.schemes.Scheme.{Scheme}
use Rattle.morta_task.specs.declared.schemes.Scheme.TheVariants.{Seq, Any, Pipe}
use Rattle.morta_task.specs.RegionView.{RegionView}
use Rattle.morta_task.specs.Entries.{EntryView}
use Rattle.morta_task.specs.ImageView.{ImageView}
use Rattle.morta_task.specs.Legal.{EachFrom, IsLegal, IsLegalLog, log_of}
use Rattle.morta_task.specs.LogView.{LogView, empty_log}
use Rattle.morta_task.specs.Running.{seq_one}
use Rattle.morta_control.specs.ControllerPromise.{MayBeAsked}
use Rattle.morta_control.specs.ControllerView.{ControllerView, new_controller}
use Rattle.morta_control.specs.Decisions.{control_asks}
use Rattle.morta_script.specs.declared.script.Command.{Command as Order}
use Rattle.weave.specs.Replay.{IsReplayOf}
use Rattle.weave.specs.Serving.{RunsIn}
use Rattle.weave.specs.WeaveView.{WeaveView}
use Rattle.weave.specs.WeavePromise.{StandsFor, weave_promise}
use Rattle.morta_text.specs.Texts.{number_lines}
use Rattle.morta_exec.specs.Began.{entries_from, run_from}
use Rattle.morta_exec.specs.declared.start.Beginning.{Beginning}
use Rattle.morta_exec.specs.Log.{LogStands}
use Rattle.morta_exec.specs.Places.{most}
use Rattle.morta_exec.specs.declared.fault.DriveFault.{DriveFault}
use Rattle.morta_exec.specs.declared.fault.DriveFault.TheVariants as drive
use Rattle.morta_exec.specs.Drive.{StopsShort}
use Rattle.parcae.specs.declared.status.Status.TheVariants as status
use Rattle.parcae.specs.Texts.{full_line}
use Rattle.parcae.specs.Told.{Told, logged}
use Rattle.parcae.specs.Ends.{Way, within, Ends, write_failed, no_memory, IsStill, EndsShort}
use Rattle.parcae.specs.Entered.{entries_in}
use Rattle.parcae.specs.Leads.{script_leads, control_leads, control_promise, IsLedSo}
use Rattle.parcae.specs.Due.{DueOfDrive, drive_full, drive_broken}
use Rattle.parcae.proofs.Ending.{ends_behind}

-- what an option has, or the other one
abbrev or_else : RegionView → Option RegionView → RegionView
or_else other None = other
or_else other (Some code) = code

-- a region of loops with their own plans has that of its loop
planned_there : (ls : List Loop) (k : ℕ) (code : RegionView) → slice_get (map by_plan ls) k ≡ Some code → code.plan ≡ plan_of code.looped
planned_there [] k code there = cc
planned_there (l ∷ ls) zero code there =
    let is : by_plan l ≡ code = ap (or_else code) there in subst (λ (c : RegionView). c.plan ≡ plan_of c.looped) is refl
planned_there (l ∷ ls) (suc k) code there = planned_there ls k code there

-- each version is served, where the plan is lawful
runs_in : (l : Loop) (plan : Plan) (s : Scheme) → IsLawfulPlan l plan → RunsIn l plan s
runs_in l plan Seq lawful = tt
runs_in l plan Any lawful = lawful
runs_in l plan Pipe lawful = lawful

-- each region of a program with lawful plans is served in each version
pub serves_all : (p : Program) → ((l : Loop) → IsLawfulPlan l (plan_of l)) → (region : ℕ) (code : RegionView) (s : Scheme)
    → slice_get (planned_image p).regions region ≡ Some code → RunsIn code.looped code.plan s
serves_all p lawful region code s there =
    let planned = planned_there (regions_all is_parallel p.body) region code there in
    runs_in code.looped code.plan s (subst (IsLawfulPlan code.looped) (sym planned) (lawful code.looped))

-- nothing was written and no put failed from here on, so an end here is one there
pub ends_still : (due : Way → Type 0) (a b c : Option (List ℕ)) (f g h : ℕ) (report told : Told) → told ≡ report
    → IsStill (record { before = b; after = c; faults_before = g; faults = h })
    → Ends due (record { before = a; after = b; faults_before = f; faults = g }) report
    → Ends due (record { before = a; after = c; faults_before = f; faults = h }) told
ends_still due a b c f g h report told is still e =
    subst (λ (t : Told). Ends due (record { before = a; after = c; faults_before = f; faults = h }) t) (sym is)
    (subst (λ (n : ℕ). Ends due (record { before = a; after = c; faults_before = f; faults = n }) report) (sym still.faults)
    (subst (λ (w : Option (List ℕ)). Ends due (record { before = a; after = w; faults_before = f; faults = g }) report) (sym still.written) e))

-- a drive whose log stands stopped short, and the call reported why
pub ends_stopped : (tree : Program) (es : List EntryView) (ran : Ran) (stands : LogView → Type 0) (memory asked : Bool) (log : LogView)
    (a b c : Option (List ℕ)) (f g h : ℕ) (fault : DriveFault) (told : Told)
    → stands log → length log.intervals ≤ most → StopsShort es ran.store log.intervals (record { before = a; after = b; faults_before = f; faults = g }) fault
    → f ≤ g → EndsShort fault log (record { before = b; after = c; faults_before = g; faults = h }) told
    → Ends (DueOfDrive tree es ran stands memory asked) (record { before = a; after = c; faults_before = f; faults = h }) told
ends_stopped tree es ran stands memory asked log a b c f g h drive.WriteFailed told s few stops le ends =
    ends_still _ a b c f g h (logged status.WriteFailed log) told ends.0 ends.1
    (write_failed refl (within (number_lines stops.place.printed) stops.put.0 stops.put.1 (drive_broken log stops.place s few stops.behind stops.printed) stops.put.2 stops.put.3
    (record { outcome = refl; store = refl })) stops.cause)
ends_stopped tree es ran stands memory asked log a b c f g h drive.NoMemory told s few stops le ends =
    ends_still _ a b c f g h (logged status.NoMemory log) told ends.0 ends.1
    (no_memory refl (within (number_lines stops.place.printed) stops.put.0 stops.put.1 (drive_broken log stops.place s few stops.behind stops.printed) stops.put.2 stops.put.3
    (record { outcome = refl; store = refl })))
ends_stopped tree es ran stands memory asked log a b c f g h drive.LogFull told s few stops le ends =
    ends_behind _ a b c f g h (logged status.LogFull log) told (number_lines stops.place.printed) full_line
    (drive_full log stops.place s stops.cause.0 stops.cause.1 stops.printed) stops.cause.2 le ends

-- a store and a turn bound, as what a run begins with
abbrev pub beginning : Memory → ℕ → Beginning
beginning m n = record { store = m; turns = n }

-- the run of a program's image is its meaning
pub run_is : (p : Program) (input : List ℤ) (n : ℕ) (image : ImageView) (from : Beginning) → image ≡ planned_image p → from ≡ beginning (start_of p input) n
    → run_from image from ≡ meaning_of p input n
run_is p input n image from image_is from_is = ap (λ (i : ImageView). run_from i from) image_is ∙ ap (run_from (planned_image p)) from_is

-- its entries are those of its program and its input
pub entries_are : (p : Program) (input : List ℤ) (n : ℕ) (image : ImageView) (from : Beginning) → image ≡ planned_image p → from ≡ beginning (start_of p input) n
    → entries_from image from ≡ entries_in (planned_image p) p input n
entries_are p input n image from image_is from_is = ap (λ (i : ImageView). entries_from i from) image_is ∙ ap (entries_from (planned_image p)) from_is

-- a replay is led by its script
pub script_led : (w : WeaveView) (links : ℕ) (commands : List Order)
    → w ≡ record { script = commands; left = commands; current = seq_one; capacity = links } → IsLedSo weave_promise w (script_leads links commands) links
script_led w links commands is = λ es log stands.
    let h = subst (λ (x : WeaveView). LogStands weave_promise es x log) is stands in
    record { legal = h.legal; replayed = h.relation }

-- at its beginning it stands for the empty log
pub script_stands : (w : WeaveView) (links : ℕ) (commands : List Order)
    → w ≡ record { script = commands; left = commands; current = seq_one; capacity = links } → StandsFor w empty_log
script_stands w links commands is =
    subst (λ (x : WeaveView). StandsFor x empty_log) (sym is) (record { left = refl; current = refl; replay = tt })

-- intervals that are legal by some requests are legal by all that allow these
each_as : (may more : EntryView → LogView → Ask → Type 0) → ((e : EntryView) (log : LogView) (ask : Ask) → may e log ask → more e log ask)
    → (es : List EntryView) (front is : List Interval) → EachFrom (IsLegal may es) front is → EachFrom (IsLegal more es) front is
each_as may more f es front [] h = tt
each_as may more f es front (i ∷ is) h = (
  record {
    entry = h.0.entry;
    named = h.0.named;
    number = h.0.number;
    order = h.0.order;
    asked = f h.0.entry (log_of es front) i.asked h.0.asked;
    ran = h.0.ran;
    done = h.0.done;
  },
  each_as may more f es (front ++ i ∷ []) is h.1,
)

-- in a legal log each request of a controller for at most so many workers is the one that is decided
abbrev pub AreDecided : Type 0
AreDecided = (workers : ℕ) (es : List EntryView) (log : LogView) → IsLegalLog (MayBeAsked workers) es log
    → IsLegalLog (λ e before ask. ask ≡ control_asks workers e before) es log

-- a replay without commands is led by its controller
pub control_led : AreDecided → (b : Both WeaveView ControllerView) (workers links : ℕ)
    → b.runner ≡ record { script = []; left = []; current = seq_one; capacity = links } → b.asker ≡ new_controller workers
    → IsLedSo control_promise b (control_leads workers) links
control_led decided b workers links runner asker = λ es log stands.
    let legal : IsLegalLog (MayBeAsked b.asker.workers) es log = record {
      entries = stands.legal.entries;
      intervals = each_as (control_promise.may_ask b) (MayBeAsked b.asker.workers) (λ e so_far ask may. may tt) es [] log.intervals stands.legal.intervals;
    } in
    let asked = subst (λ (c : ControllerView). IsLegalLog (MayBeAsked c.workers) es log) asker legal in
    let none : b.runner.script ≡ [] = ap (λ (w : WeaveView). w.script) runner in
    record {
      legal = decided workers es log asked;
      replayed = subst (λ (w : WeaveView). IsReplayOf w.capacity w.script log) runner (stands.relation.1 none);
    }
