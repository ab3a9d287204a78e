-- Two logs of one replay agree.
use Rattle.std.proofs.Common.{◌≡◌, ◌<◌, ◌≤◌, ◌-◌, inl, inr, ℕ, ℤ, true, false, List, [], ◌∷◌, ◌++◌, length, take, drop, refl, sym, ap, subst, ◌∙◌, arith, Option, None, Some, slice_get, append_assoc}
use Rattle.std.proofs.lemmas.List.{take-append-drop, append-nil}
use Rattle.morta_task.specs.declared.schemes.Scheme.{Scheme}
use Rattle.morta_task.specs.declared.schemes.Scheme.TheVariants.{Seq, Any, Pipe}
use Rattle.morta_task.specs.declared.schemes.Ask.{Ask}
use Rattle.morta_task.specs.declared.intervals.Interval.{Interval}
use Rattle.morta_task.specs.declared.intervals.Ran.{Ran}
use Rattle.morta_task.specs.Entries.{EntryView, before, last}
use Rattle.morta_task.specs.Legal.{last_in, begun, log_of, EachFrom, IsClosed, Continues, ComesNext, IsLegal, EndsAll}
use Rattle.morta_task.specs.LogView.{LogView}
use Rattle.morta_task.specs.Running.{chosen, limit_of}
use Rattle.morta_script.specs.declared.script.Command.{Command}
use Rattle.net_flow.specs.Machines.{Machine, is_over, round, RunsOut, at_end, one_round}
use Rattle.weave.specs.SeqNet.{seq_machine, ran_of}
use Rattle.weave.specs.Shared.{shared_machine, shared_ran}
use Rattle.weave.specs.Staged.{staged_machine, staged_ran}
use Rattle.weave.specs.Replay.{behind_use, left_behind, IsReplayedIn, IsReplayed, IsDriven, AreDriven, IsReplay}
use Rattle.weave.proofs.OneMore.{Grown, grown}

ends_here : {N : Type 0} (machine : Machine N) (net end : N) → RunsOut machine net end → is_over machine net ≡ true → end ≡ net
ends_here machine _ _ (at_end net ended) over = refl
ends_here machine _ _ (one_round net end going later) over = cc

ends_later : {N : Type 0} (machine : Machine N) (net end : N) → RunsOut machine net end → is_over machine net ≡ false → RunsOut machine (round machine net) end
ends_later machine _ _ (at_end net ended) going = cc
ends_later machine _ _ (one_round net end going later) going' = later

-- a machine runs out to one end
pub runs_out_once : {N : Type 0} (machine : Machine N) (net one other : N) → RunsOut machine net one → RunsOut machine net other → one ≡ other
runs_out_once machine _ _ other (at_end net ended) out = sym (ends_here machine net other out ended)
runs_out_once machine _ _ other (one_round net end going later) out =
    runs_out_once machine (round machine net) end other later (ends_later machine net other out going)

replayed_in_once : (s : Scheme) (workers capacity : ℕ) (e : EntryView) (from : ℤ) (limit : ℕ) (commands : List Command) (one other : Ran)
    → IsReplayedIn s workers capacity e from limit commands one → IsReplayedIn s workers capacity e from limit commands other → one ≡ other
replayed_in_once Seq workers capacity e from limit commands one other (end, out, is) (end', out', is') =
    is ∙ ap ran_of (runs_out_once seq_machine _ end end' out out') ∙ sym is'
replayed_in_once Any workers capacity e from limit commands one other (end, out, is) (end', out', is') =
    is ∙ ap (shared_ran e (before e from)) (runs_out_once (shared_machine e (before e from) workers) _ end end' out out') ∙ sym is'
replayed_in_once Pipe workers capacity e from limit commands one other (end, out, is) (end', out', is') =
    is ∙ ap (staged_ran e (before e from)) (runs_out_once (staged_machine e (before e from) workers capacity) _ end end' out out') ∙ sym is'

-- what an option has, or the other one
abbrev or_else : EntryView → Option EntryView → EntryView
or_else other None = other
or_else other (Some e) = e

found_once : (es : List EntryView) (k : ℕ) (one other : EntryView) → slice_get es k ≡ Some one → slice_get es k ≡ Some other → one ≡ other
found_once es k one other h g = ap (or_else one) (sym h ∙ g)

-- an entry that an interval ended at its last iteration goes on no more
not_both : (es : List EntryView) (i : Interval) (e : EntryView) (from : ℤ) → slice_get es (e.number - 1) ≡ Some e → Continues i e from → IsClosed es i → ⊥
not_both es i e from found c closed =
    let there : slice_get es (i.entry - 1) ≡ Some e = ap (λ (k : ℕ). slice_get es (k - 1)) c.same ∙ found in
    let same : closed.entry ≡ e = found_once es (i.entry - 1) closed.entry e closed.named there in
    let whole : i.done.to ≡ last e = closed.whole ∙ ap last same in
    let short : before e (last e) < before e (last e) = subst (λ (z : ℤ). before e z < before e (last e)) whole c.short in
    omega (arith, short)

-- the entry and the index of the next interval
record Next (one other : EntryView) (from to : ℤ) : Type 0 where
  entry : one ≡ other
  from_is : from ≡ to

next_of : (es : List EntryView) (one other : EntryView) (from to : ℤ) → slice_get es (one.number - 1) ≡ Some one → slice_get es (other.number - 1) ≡ Some other
    → one.number ≡ other.number → (one ≡ other → from ≡ to) → Next one other from to
next_of es one other from to found found' number on =
    let same : one ≡ other = found_once es (other.number - 1) one other (ap (λ (k : ℕ). slice_get es (k - 1)) (sym number) ∙ found) found' in
    record { entry = same; from_is = on same }

next_once : (es : List EntryView) (o : Option Interval) (one other : EntryView) (from to : ℤ) → slice_get es (one.number - 1) ≡ Some one
    → slice_get es (other.number - 1) ≡ Some other → ComesNext es o one from → ComesNext es o other to → Next one other from to
next_once es None one other from to found found' h k =
    next_of es one other from to found found' (h.0 ∙ sym k.0) (λ same. h.1 ∙ ap (λ (e : EntryView). e.low) same ∙ sym k.1)
next_once es (Some i) one other from to found found' (inl h) (inl k) =
    next_of es one other from to found found' (sym h.same ∙ k.same) (λ same. h.joins ∙ sym k.joins)
next_once es (Some i) one other from to found found' (inl h) (inr k) = absurd (not_both es i one from found h k.closed)
next_once es (Some i) one other from to found found' (inr h) (inl k) = absurd (not_both es i other to found' k h.closed)
next_once es (Some i) one other from to found found' (inr h) (inr k) =
    next_of es one other from to found found' (h.next ∙ sym k.next) (λ same. h.low ∙ ap (λ (e : EntryView). e.low) same ∙ sym k.low)

-- the requests of a replay
abbrev AsksBy : (EntryView → LogView → Ask) → EntryView → LogView → Ask → Type 0
AsksBy asks e so_far ask = ask ≡ asks e so_far

-- what is driven did one thing
driven_once : (capacity : ℕ) (es : List EntryView) (commands : List Command) (i : Interval) (other : Ran) → IsDriven capacity es commands i
    → IsDriven capacity es commands (record i { done = other }) → i.done ≡ other
driven_once capacity es commands i other (e, found, replayed) (e', found', replayed') =
    let same : e' ≡ e = found_once es (i.entry - 1) e' e found' found in
    let again : IsReplayed capacity i.ran e i.from (limit_of e i.from i.asked.until) (behind_use commands) other =
    subst (λ (x : EntryView). IsReplayed capacity i.ran x i.from (limit_of x i.from i.asked.until) (behind_use commands) other) same replayed' in
    replayed_in_once i.ran.scheme i.ran.workers capacity e i.from (limit_of e i.from i.asked.until) (behind_use commands) i.done other replayed again

-- the next interval is one
same_next : (asks : EntryView → LogView → Ask) (capacity : ℕ) (es : List EntryView) (front : List Interval) (commands : List Command) (x y : Interval)
    → IsLegal (AsksBy asks) es front x → IsLegal (AsksBy asks) es front y → IsDriven capacity es commands x → IsDriven capacity es commands y → x ≡ y
same_next asks capacity es front commands x y lx ly dx dy =
    let found : slice_get es (lx.entry.number - 1) ≡ Some lx.entry = ap (λ (k : ℕ). slice_get es (k - 1)) (sym lx.number) ∙ lx.named in
    let found' : slice_get es (ly.entry.number - 1) ≡ Some ly.entry = ap (λ (k : ℕ). slice_get es (k - 1)) (sym ly.number) ∙ ly.named in
    let next = next_once es (last_in front) lx.entry ly.entry x.from y.from found found' lx.order ly.order in
    let number : x.entry ≡ y.entry = lx.number ∙ ap (λ (e : EntryView). e.number) next.entry ∙ sym ly.number in
    let asked : x.asked ≡ y.asked = lx.asked ∙ ap (λ (e : EntryView). asks e (log_of es front)) next.entry ∙ sym ly.asked in
    let ran : x.ran ≡ y.ran = lx.ran ∙ (λ k. chosen (next.entry k) (asked k).config) ∙ sym ly.ran in
    let z : Interval = record y { done = x.done } in
    let here : x ≡ z = λ k. record { entry = number k; asked = asked k; ran = ran k; from = next.from_is k; done = x.done } in
    let driven : IsDriven capacity es commands z = subst (IsDriven capacity es commands) here dx in
    let done : x.done ≡ y.done = driven_once capacity es commands z y.done driven dy in
    here ∙ ap (λ (d : Ran). let i : Interval = record y { done = d } in i) done

-- the same of the intervals behind some
record Both (asks : EntryView → LogView → Ask) (capacity : ℕ) (es : List EntryView) (front : List Interval) (commands : List Command) (is : List Interval) : Type 0 where
  legal : EachFrom (IsLegal (AsksBy asks) es) front is
  driven : AreDriven capacity es commands is

-- behind one of them
onward : (asks : EntryView → LogView → Ask) (capacity : ℕ) (es : List EntryView) (front : List Interval) (commands : List Command) (x : Interval) (is : List Interval)
    → Both asks capacity es front commands (x ∷ is)
    → Both asks capacity es (front ++ x ∷ []) (left_behind capacity (slice_get es (x.entry - 1)) x commands) is
onward asks capacity es front commands x is b = record { legal = b.legal.1; driven = b.driven.1 }

first_same : (asks : EntryView → LogView → Ask) (capacity : ℕ) (es : List EntryView) (front : List Interval) (commands : List Command) (x y : Interval) (xs ys : List Interval)
    → Both asks capacity es front commands (x ∷ xs) → Both asks capacity es front commands (y ∷ ys) → x ≡ y
first_same asks capacity es front commands x y xs ys b d = same_next asks capacity es front commands x y b.legal.0 d.legal.0 b.driven.0 d.driven.0

agree : (asks : EntryView → LogView → Ask) (capacity : ℕ) (es : List EntryView) (front : List Interval) (commands : List Command) (xs ys : List Interval)
    → Both asks capacity es front commands xs → Both asks capacity es front commands ys → length xs ≤ length ys → xs ≡ take (length xs) ys
agree asks capacity es front commands [] [] b d short = refl
agree asks capacity es front commands [] (y ∷ ys) b d short = refl
agree asks capacity es front commands (x ∷ xs) [] b d short = absurd (omega (arith, short))
agree asks capacity es front commands (x ∷ xs) (y ∷ ys) b d short =
    let same = first_same asks capacity es front commands x y xs ys b d in
    let d' : Both asks capacity es front commands (x ∷ ys) = subst (λ (z : Interval). Both asks capacity es front commands (z ∷ ys)) (sym same) d in
    let rest = agree asks capacity es (front ++ x ∷ []) (left_behind capacity (slice_get es (x.entry - 1)) x commands) xs ys
    (onward asks capacity es front commands x xs b) (onward asks capacity es front commands x ys d') (omega (arith, short)) in
    λ k. same k ∷ rest k

-- an index behind a list
nothing_there : (es : List EntryView) (e : EntryView) → slice_get es (length es) ≡ Some e → ⊥
nothing_there [] e found = cc
nothing_there (x ∷ es) e found = nothing_there es e found

-- behind the end of a run no interval comes
nothing_next : (es : List EntryView) (o : Option Interval) (e : EntryView) (from : ℤ) → slice_get es (e.number - 1) ≡ Some e → EndsAll es o → ComesNext es o e from → ⊥
nothing_next es None e from found ended h =
    let none : slice_get [] (e.number - 1) ≡ Some e = ap (λ (xs : List EntryView). slice_get xs (e.number - 1)) (sym ended) ∙ found in cc
nothing_next es (Some i) e from found ended (inl h) = not_both es i e from found h (ended.1 h.goes_on)
nothing_next es (Some i) e from found ended (inr h) =
    let behind : e.number - 1 ≡ length es = omega (arith, h.next, ended.0) in
    nothing_there es e (ap (slice_get es) (sym behind) ∙ found)

ended_empty : (asks : EntryView → LogView → Ask) (capacity : ℕ) (es : List EntryView) (front : List Interval) (commands : List Command) (is : List Interval)
    → EndsAll es (last_in front) → Both asks capacity es front commands is → is ≡ []
ended_empty asks capacity es front commands [] ended b = refl
ended_empty asks capacity es front commands (x ∷ xs) ended b =
    let l = b.legal.0 in
    let found : slice_get es (l.entry.number - 1) ≡ Some l.entry = ap (λ (k : ℕ). slice_get es (k - 1)) (sym l.number) ∙ l.named in
    absurd (nothing_next es (last_in front) l.entry x.from found ended l.order)

all_same : (asks : EntryView → LogView → Ask) (capacity : ℕ) (es : List EntryView) (front : List Interval) (commands : List Command) (xs ys : List Interval)
    → Both asks capacity es front commands xs → Both asks capacity es front commands ys → EndsAll es (last_in (front ++ xs)) → EndsAll es (last_in (front ++ ys)) → xs ≡ ys
all_same asks capacity es front commands [] ys b d whole whole' =
    sym (ended_empty asks capacity es front commands ys (subst (λ (is : List Interval). EndsAll es (last_in is)) (append-nil front) whole) d)
all_same asks capacity es front commands (x ∷ xs) [] b d whole whole' =
    ended_empty asks capacity es front commands (x ∷ xs) (subst (λ (is : List Interval). EndsAll es (last_in is)) (append-nil front) whole') b
all_same asks capacity es front commands (x ∷ xs) (y ∷ ys) b d whole whole' =
    let same = first_same asks capacity es front commands x y xs ys b d in
    let d' : Both asks capacity es front commands (x ∷ ys) = subst (λ (z : Interval). Both asks capacity es front commands (z ∷ ys)) (sym same) d in
    let ends' : EndsAll es (last_in (front ++ x ∷ ys)) = subst (λ (z : Interval). EndsAll es (last_in (front ++ z ∷ ys))) (sym same) whole' in
    let rest = all_same asks capacity es (front ++ x ∷ []) (left_behind capacity (slice_get es (x.entry - 1)) x commands) xs ys
    (onward asks capacity es front commands x xs b) (onward asks capacity es front commands x ys d')
    (subst (λ (is : List Interval). EndsAll es (last_in is)) (sym (append_assoc front (x ∷ []) xs)) whole)
    (subst (λ (is : List Interval). EndsAll es (last_in is)) (sym (append_assoc front (x ∷ []) ys)) ends') in
    λ k. same k ∷ rest k

-- a replay over all entries of the run
both_of : (asks : EntryView → LogView → Ask) (capacity : ℕ) (commands : List Command) (es : List EntryView) (l : LogView) → IsReplay asks capacity commands es l
    → Both asks capacity es [] commands l.intervals
both_of asks capacity commands es l r =
    let n = begun l.intervals in
    let is : es ≡ l.entries ++ drop n es =
    sym (take-append-drop n es) ∙ ap (λ (front : List EntryView). front ++ drop n es) (sym r.legal.entries) in
    let g : Grown capacity l.entries es l.intervals commands =
    subst (λ (xs : List EntryView). Grown capacity l.entries xs l.intervals commands) (sym is) (grown capacity l.entries (drop n es) l.intervals commands r.replayed) in
    record { legal = r.legal.intervals; driven = g.driven }

pub first_part : (asks : EntryView → LogView → Ask) (capacity : ℕ) (commands : List Command) (es : List EntryView) (l k : LogView)
    → IsReplay asks capacity commands es l → IsReplay asks capacity commands es k → length l.intervals ≤ length k.intervals
    → l.intervals ≡ take (length l.intervals) k.intervals
first_part asks capacity commands es l k r q short =
    agree asks capacity es [] commands l.intervals k.intervals (both_of asks capacity commands es l r) (both_of asks capacity commands es k q) short

pub whole_equal : (asks : EntryView → LogView → Ask) (capacity : ℕ) (commands : List Command) (es : List EntryView) (l k : LogView)
    → IsReplay asks capacity commands es l → IsReplay asks capacity commands es k → EndsAll es (last_in l.intervals) → EndsAll es (last_in k.intervals) → l ≡ k
whole_equal asks capacity commands es l k r q ended ended' =
    let same = all_same asks capacity es [] commands l.intervals k.intervals (both_of asks capacity commands es l r) (both_of asks capacity commands es k q) ended ended' in
    let entries : l.entries ≡ k.entries = r.legal.entries ∙ ap (λ (is : List Interval). take (begun is) es) same ∙ sym q.legal.entries in
    λ i. record { entries = entries i; intervals = same i }
