-- What may be run for a request.
use Rattle.std.proofs.Common.{◌≡◌, ◌<◌, ◌≤◌, ◌-◌, ℕ, suc, Bool, true, false, List, length, take, refl, sym, ap, subst, ◌∙◌, arith, inl, inr, if◌then◌else◌, IsTrue, None, Some, slice_get, ◌&&◌}
use Rattle.std.specs.declared.option.Option.{Option}
use Rattle.std.specs.Int.{int_gap}
use Rattle.std.proofs.lemmas.List.{length-take-le}
use Rattle.std.proofs.lemmas.Option.{slice_get_within}
use Rattle.nona_tree.specs.declared.plans.Plan.{Plan}
use Rattle.nona_tree.specs.declared.trees.Loop.{Loop}
use Rattle.morta_task.specs.RegionView.{RegionView}
use Rattle.morta_task.specs.declared.schemes.Scheme.{Scheme}
use Rattle.morta_task.specs.declared.schemes.Scheme.TheVariants.{Seq, Any, Pipe}
use Rattle.morta_task.specs.declared.schemes.Config.{Config}
use Rattle.morta_task.specs.declared.intervals.Handoff.{Handoff}
use Rattle.morta_task.specs.ImageView.{ImageView}
use Rattle.morta_task.specs.Entries.{EntryView, IsEntered, has_stages, is_guarded, offers, last}
use Rattle.morta_task.specs.LogView.{LogView, IsAtHand, last_one, next_one}
use Rattle.morta_task.specs.Promise.{Promise, Keeps}
use Rattle.morta_task.specs.Running.{IsConfig, seq_one, chosen, limited, limit_of, IsIn, IsHandoff, MayRun}
use Rattle.morta_exec.specs.Began.{Began}
use Rattle.morta_exec.specs.Log.{has, ServesAll}
use Rattle.morta_exec.specs.Standing.{IsOfRun, KeptFor}
use Rattle.morta_exec.proofs.Growing.{front_is, take_next}

-- two calls keep what each of them keeps
pub keeps_both : {M : Type 0} (promise : Promise M) (a b c : M) → Keeps promise a b → Keeps promise b c → Keeps promise a c
keeps_both promise a b c ab bc = record {
  serves = λ l p s. ((λ h. (bc.serves l p s).0 ((ab.serves l p s).0 h)), (λ h. (ab.serves l p s).1 ((bc.serves l p s).1 h)));
  meets = λ e k from d. ((λ h. (bc.meets e k from d).0 ((ab.meets e k from d).0 h)), (λ h. (ab.meets e k from d).1 ((bc.meets e k from d).1 h)));
  names = λ s h. ab.names s (bc.names s h);
  may_ask = λ e log ask. ((λ h. (bc.may_ask e log ask).0 ((ab.may_ask e log ask).0 h)), (λ h. (ab.may_ask e log ask).1 ((bc.may_ask e log ask).1 h)));
  log_relation = λ log. ((λ h. (bc.log_relation log).0 ((ab.log_relation log).0 h)), (λ h. (ab.log_relation log).1 ((bc.log_relation log).1 h)));
  led = ((λ h. bc.led.0 (ab.led.0 h)), (λ h. ab.led.1 (bc.led.1 h)));
  alone = ((λ h. bc.alone.0 (ab.alone.0 h)), (λ h. ab.alone.1 (bc.alone.1 h)));
}

pub keeps_same : {M : Type 0} (promise : Promise M) (m : M) → Keeps promise m m
keeps_same promise m = record {
  serves = λ l p s. ((λ h. h), (λ h. h));
  meets = λ e k from d. ((λ h. h), (λ h. h));
  names = λ s h. h;
  may_ask = λ e log ask. ((λ h. h), (λ h. h));
  log_relation = λ log. ((λ h. h), (λ h. h));
  led = ((λ h. h), (λ h. h));
  alone = ((λ h. h), (λ h. h));
}

first_of : (a b : Bool) → IsTrue (a && b) → IsTrue a
first_of true b h = refl
first_of false b h = h

-- an entry offers only what its plan has
offers_has : (e : EntryView) (s : Scheme) → e.any ≡ (e.plan.any && is_guarded e) → e.pipe ≡ (has_stages e.plan && is_guarded e)
    → IsTrue (offers e s) → IsTrue (has e.plan s)
offers_has e Seq any pipe h = refl
offers_has e Any any pipe h = first_of e.plan.any (is_guarded e) (subst IsTrue any h)
offers_has e Pipe any pipe h = first_of (has_stages e.plan) (is_guarded e) (subst IsTrue pipe h)

offered_by : (e : EntryView) (c : Config) (b : Bool) → offers e c.scheme ≡ b → IsTrue (offers e (if b then c else seq_one).scheme)
offered_by e c true is = is
offered_by e c false is = refl

config_by : (e : EntryView) (c : Config) (b : Bool) → IsConfig c → IsConfig (if b then c else seq_one)
config_by e c true is = is
config_by e c false is = refl

-- the loop and the plan of a region are those of its entry
served_as : {M : Type 0} (promise : Promise M) (m : M) (e : EntryView) (code : RegionView) (s : Scheme) → code.looped ≡ e.looped → code.plan ≡ e.plan
    → promise.serves m code.looped code.plan s → promise.serves m e.looped e.plan s
served_as promise m e code s looped plan h =
    subst (λ (p : Plan). promise.serves m e.looped p s) plan (subst (λ (l : Loop). promise.serves m l code.plan s) looped h)

served_by : {M : Type 0} (promise : Promise M) (first now : M) (image : ImageView) (e : EntryView) (c : Config) (b : Bool)
    → ServesAll promise first image → IsIn e image → IsEntered e → Keeps promise first now → promise.names first c.scheme
    → offers e c.scheme ≡ b → promise.serves now e.looped e.plan (if b then c else seq_one).scheme
served_by promise first now image e c true serves region entered keeps names is =
    let has_it : IsTrue (has region.code.plan c.scheme) =
    subst (λ (p : Plan). IsTrue (has p c.scheme)) (sym region.plan) (offers_has e c.scheme entered.any entered.pipe (offered_by e c true is)) in
    (keeps.serves e.looped e.plan c.scheme).0
    (served_as promise first e region.code c.scheme region.looped region.plan (serves (e.region - 1) region.code c.scheme region.there (inr (names, has_it))))
served_by promise first now image e c false serves region entered keeps names is =
    (keeps.serves e.looped e.plan Seq).0
    (served_as promise first e region.code Seq region.looped region.plan (serves (e.region - 1) region.code Seq region.there (inl refl)))

limited_le : (count : ℕ) (until : Option ℕ) → limited count until ≤ count
limited_le count None = omega arith
limited_le count (Some most) = omega arith

-- what is chosen for a request may be run, up to the limit of that request
pub may_run : {M : Type 0} (promise : Promise M) (b : Began M) (now : M) (e : EntryView) (h : Handoff) (asked c : Config) (until : Option ℕ) (limit : ℕ)
    → ServesAll promise b.first b.image → IsOfRun b e → Keeps promise b.first now → promise.names b.first asked.scheme → IsConfig asked → IsHandoff e h
    → c ≡ chosen e asked → limit ≡ limit_of e h.next until
    → MayRun (promise.serves now) b.image e h c limit
may_run promise b now e h asked c until limit serves of keeps names is_config state is_c is_limit = record {
  entered = of.entered;
  region = of.region;
  served = subst (λ (k : Config). promise.serves now e.looped e.plan k.scheme) (sym is_c)
      (served_by promise b.first now b.image e asked (offers e asked.scheme) serves of.region of.entered keeps names refl);
  offered = subst (λ (k : Config). IsTrue (offers e k.scheme)) (sym is_c) (offered_by e asked (offers e asked.scheme) refl);
  workers = subst IsConfig (sym is_c) (config_by e asked (offers e asked.scheme) is_config);
  state = state;
  room = subst (λ k. k ≤ int_gap h.next (last e)) (sym is_limit) (limited_le (int_gap h.next (last e)) until);
}

-- an entry of the run that is kept for the log, or the last one in it, is at hand
pub at_hand : (es : List EntryView) (log : LogView) (e : EntryView) (kept : Option EntryView) (n : ℕ)
    → log.entries ≡ take n es → slice_get es (e.number - 1) ≡ Some e → 1 ≤ e.number → KeptFor kept (length log.entries) e → IsAtHand log e
at_hand es log e None n is named first fits =
    let within : e.number - 1 < length es = slice_get_within es (e.number - 1) e named in
    let one_more : length log.entries ≡ suc (e.number - 1) = omega (arith, fits, first) in
    last_one (take (e.number - 1) es)
    (front_is es log.entries n is ∙ ap (λ k. take k es) one_more ∙ take_next (e.number - 1) es e named)
    (omega (arith, first, length-take-le (e.number - 1) es (omega (arith, within))))
at_hand es log e (Some k) n is named first fits = next_one (omega (arith, fits.1))
