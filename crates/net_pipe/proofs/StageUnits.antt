-- Which units stand in one stage: those that print, and those that name a scalar that one of them assigns.
use Rattle.std.proofs.Common.{◌≡◌, ◌≢◌, ℕ, suc, ◌-◌, ◌<◌, true, false, ◌&&◌, ◌||◌, List, [], ◌∷◌, ◌++◌, length, take, drop, sym, ap, ◌∙◌, subst, arith, length-take}
use Rattle.std.specs.List.{Contains}
use Rattle.std.proofs.lemmas.List.{take-append-drop}
use Rattle.nona_tree.specs.declared.plans.Plan.{Plan}
use Rattle.nona_tree.specs.declared.trees.Loop.{Loop}
use Rattle.nona_tree.specs.declared.trees.Stmt.{Stmt}
use Rattle.nona_tree.specs.Entries.{Entry}
use Rattle.nona_forms.specs.Affine.{among}
use Rattle.nona_forms.specs.References.{assigned, assigned_all}
use Rattle.nona_plans.specs.Lawful.{stage_of}
use Rattle.nona_plans.specs.Units.{named_in, arrays_in, unit_has, both_have, carried_scalars, written_arrays, carried_arrays, share_local, unit_prints, is_carried, is_tied}
use Rattle.nona_plans.specs.Walks.{IsUnit}
use Rattle.nona_plans.proofs.Leading.{or_left, or_right, and_both}
use Rattle.nona_fission.proofs.Untied.{among_in, in_among, assigned_named}
use Rattle.nona_fission.specs.Fission.{Fission, MayBeApart}
use Rattle.nona_fission.proofs.Thread.{unit_assigned}
use Rattle.nona_fission.proofs.Ties.{unit_at, together}
use Rattle.net_share.proofs.UnitsLeft.{next_unit}
use Rattle.net_pipe.specs.Entries.{MayPipe}
use Rattle.net_pipe.proofs.InStages.{stage_in, Stands, stands_in, stage_stands}
use Rattle.net_pipe.proofs.PartsApart.{lawful_stages}
use Rattle.net_pipe.proofs.UnitsSkipped.{never_true}

-- a unit between those before it and those behind
pub record IsAt (body : List Stmt) (u : ℕ) : Type 0 where
  pub front : List Stmt
  pub unit : Stmt
  pub rest : List Stmt
  pub parts : body ≡ front ++ unit ∷ rest
  pub number : u ≡ suc (length front)

pub unit_is_at : (body : List Stmt) (u : ℕ) → IsUnit (length body) u → IsAt body u
unit_is_at body u is =
    let from = is.0 in
    let to = is.1 in
    let next = next_unit body (u - 1) (omega (arith, from, to)) in
    record {
      front = take (u - 1) body;
      unit = next.0;
      rest = drop (suc (u - 1)) body;
      parts = sym (take-append-drop (u - 1) body) ∙ ap (λ (ss : List Stmt). take (u - 1) body ++ ss) next.1;
      number = let size = length-take (u - 1) body in omega (arith, size, from, to);
    }

-- what a unit assigns it names, and the body assigns it
pub assigns : (l : Loop) (u x : ℕ) → IsUnit (length l.body) u → unit_has assigned l u x ≡ true → (unit_has named_in l u x ≡ true) × Contains (assigned_all l.body) x
assigns l u x is has =
    let at = unit_is_at l.body u is in
    let here : unit_has assigned l (suc (length at.front)) x ≡ true = subst (λ (i : ℕ). unit_has assigned l i x ≡ true) at.number has in
    let its : Contains (assigned at.unit) x = in_among x (assigned at.unit) (sym (ap (λ (ids : List ℕ). among x ids) (unit_at assigned [] l at.front at.unit at.rest at.parts)) ∙ here) in
    let named : among x (named_in at.unit) ≡ true = among_in x (named_in at.unit) (assigned_named at.unit x its) in (
      subst (λ (i : ℕ). unit_has named_in l i x ≡ true) (sym at.number) (ap (λ (ids : List ℕ). among x ids) (unit_at named_in [] l at.front at.unit at.rest at.parts) ∙ named),
      unit_assigned l at.front at.unit at.rest at.parts x its,
    )

-- units that print are tied
prints_tied : (out : List ℕ) (l : Loop) (u v : ℕ) → unit_prints l u ≡ true → unit_prints l v ≡ true → is_tied out l u v ≡ true
prints_tied out l u v first second =
    or_left (is_carried out l u v) (both_have arrays_in l u v (written_arrays out l) || share_local l u v)
    (or_right (both_have named_in l u v (carried_scalars l)) _ (or_right (both_have arrays_in l u v (carried_arrays out l)) (unit_prints l u && unit_prints l v) (and_both (unit_prints l u) (unit_prints l v) first second)))

pub print_together : (s : Fission) → MayBeApart s → (u v : ℕ) → IsUnit (length s.sharing.entry.looped.body) u → IsUnit (length s.sharing.entry.looped.body) v
    → unit_prints s.sharing.entry.looped u ≡ true → unit_prints s.sharing.entry.looped v ≡ true → s.own u ≡ s.own v
print_together s h u v is_u is_v first second =
    together s h u v is_u is_v (prints_tied s.folded s.sharing.entry.looped u v first second) (prints_tied s.folded s.sharing.entry.looped v u second first)

module _ (e : Entry) (p : Plan) (W c first limit : ℕ) (h : MayPipe e p W c first limit) where
  -- each unit stands in one stage
  pub unit_stage : (u : ℕ) → IsUnit (length e.looped.body) u → (s : ℕ) × (s < length p.pipe) × Stands p.pipe s u
  unit_stage u is =
      let once = (lawful_stages e p W c first limit h).once u is in
      let at = stage_stands p.pipe u (omega (arith, once)) in (stage_of u p.pipe, at.0, at.1)

  pub one_stage : (s r u : ℕ) → IsUnit (length e.looped.body) u → Stands p.pipe s u → Stands p.pipe r u → s ≡ r
  one_stage s r u is here there =
      let once = (lawful_stages e p W c first limit h).once u is in sym (stands_in p.pipe s u once here) ∙ stands_in p.pipe r u once there

  pub not_there : (s r u : ℕ) → IsUnit (length e.looped.body) u → Stands p.pipe s u → s ≢ r → among u (stage_in p.pipe r).units ≡ false
  not_there s r u is here apart = never_true (among u (stage_in p.pipe r).units) (λ there. apart (one_stage s r u is here there))
