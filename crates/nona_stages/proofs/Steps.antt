-- A step of the choice changes nothing of what comes of it.
use Rattle.std.proofs.Common.{◌≡◌, ℕ, suc, ◌-◌, ◌≤◌, Bool, true, false, if◌then◌else◌, List, [], ◌∷◌, ◌++◌, length, refl, sym, ap, ◌∙◌, subst, arith, Some, None}
use Rattle.std.proofs.lemmas.List.{append_assoc}
use Rattle.std.specs.declared.option.Option.{Option}
use Rattle.std.specs.Prelude.{Result, Ok, Err, IfOk}
use Rattle.nona_tree.specs.declared.plans.Stage.{Stage}
use Rattle.nona_plans.specs.declared.graphs.Component.{Component}
use Rattle.nona_plans.specs.declared.graphs.Graph.{Graph}
use Rattle.nona_stages.specs.declared.placing.Choice.{Choice}
use Rattle.nona_plans.specs.Stages.{pick, with_front, on_picked, on_room, last_stage, begun_by, joined_by, in_order, stages_from}
use Rattle.nona_stages.specs.Picking.{picked_at}
use Rattle.nona_stages.specs.Choices.{component_at, others_at, joined_choice, closed_choice, begun_choice, ended_choice, come_of, may_join, may_begin, Steps}

-- what was picked is one less
abbrev count_left : Option (Component × List Component) → ℕ
count_left None = 0
count_left (Some r) = length r.1

one_less : (c : Component) (o : Option (Component × List Component)) (p : Component × List Component) (n : ℕ) → with_front c o ≡ Some p → ((q : Component × List Component) → o ≡ Some q → n ≡ suc (length q.1)) → suc n ≡ suc (length p.1)
one_less c None p n e h = cc
one_less c (Some q) p n e h = let less = h q refl in let same : length p.1 ≡ suc (length q.1) = sym (ap count_left e) in omega (arith, less, same)

picked_if : (test : Component → Bool) (c : Component) (cs : List Component) (b : Bool) (p : Component × List Component) → (if b then Some (c, cs) else with_front c (pick test cs)) ≡ Some p
    → ((q : Component × List Component) → pick test cs ≡ Some q → length cs ≡ suc (length q.1)) → suc (length cs) ≡ suc (length p.1)
picked_if test c cs true p e h = let same : length cs ≡ length p.1 = ap count_left e in omega (arith, same)
picked_if test c cs false p e h = one_less c (pick test cs) p (length cs) e h

picked_size : (test : Component → Bool) (cs : List Component) (p : Component × List Component) → pick test cs ≡ Some p → length cs ≡ suc (length p.1)
picked_size test [] p e = cc
picked_size test (c ∷ cs) p e = picked_if test c cs (test c) p e (picked_size test cs)

-- what comes where none joins
abbrev then_stages : Graph → Choice → ℕ → List Stage
then_stages g c k =
    in_order g c.stage ∷ on_room c.room (last_stage g c.left) (λ fewer. on_picked (pick (may_begin g c) c.left) (last_stage g c.left) (λ x rest. stages_from g k fewer (c.placed ++ c.stage.units) (begun_by x) rest))

unfolded : (g : Graph) (c : Choice) (k : ℕ) → length c.left ≡ suc k
    → come_of g c ≡ c.done ++ on_picked (pick (may_join g c) c.left) (then_stages g c k) (λ x rest. stages_from g k c.room c.placed (joined_by c.stage x) rest)
unfolded g c k long = ap (λ n. c.done ++ stages_from g n c.room c.placed c.stage c.left) long

pub joins_same : (g : Graph) (c : Choice) (x : Component) (rest : List Component) → pick (may_join g c) c.left ≡ Some (x, rest) → Steps g c (joined_choice c x rest)
joins_same g c x rest e =
    let long = picked_size (may_join g c) c.left (x, rest) e in
    (sym (unfolded g c (length rest) long ∙ ap (λ o. c.done ++ on_picked o (then_stages g c (length rest)) (λ y r. stages_from g (length rest) c.room c.placed (joined_by c.stage y) r)) e), omega (arith, long))

none_joins : (g : Graph) (c : Choice) (k : ℕ) → length c.left ≡ suc k → pick (may_join g c) c.left ≡ None → come_of g c ≡ c.done ++ then_stages g c k
none_joins g c k long e =
    unfolded g c k long ∙ ap (λ o. c.done ++ on_picked o (then_stages g c k) (λ y r. stages_from g k c.room c.placed (joined_by c.stage y) r)) e

pub begins_same : (g : Graph) (c : Choice) (x : Component) (rest : List Component) → pick (may_join g c) c.left ≡ None → pick (may_begin g c) c.left ≡ Some (x, rest) → 1 ≤ c.room → Steps g c (begun_choice (closed_choice g c) x rest)
begins_same g c x rest none e room =
    let long = picked_size (may_begin g c) c.left (x, rest) e in
    let r : c.room ≡ suc (c.room - 1) = omega (arith, room) in (
      append_assoc c.done (in_order g c.stage ∷ []) (stages_from g (length rest) (c.room - 1) (c.placed ++ c.stage.units) (begun_by x) rest)
          ∙ sym (none_joins g c (length rest) long none
          ∙ ap (λ n. c.done ++ (in_order g c.stage ∷ on_room n (last_stage g c.left) (λ fewer. on_picked (pick (may_begin g c) c.left) (last_stage g c.left) (λ y q. stages_from g (length rest) fewer (c.placed ++ c.stage.units) (begun_by y) q)))) r
          ∙ ap (λ o. c.done ++ (in_order g c.stage ∷ on_picked o (last_stage g c.left) (λ y q. stages_from g (length rest) (c.room - 1) (c.placed ++ c.stage.units) (begun_by y) q))) e),
      omega (arith, long),
    )

pub ends_full : (g : Graph) (c : Choice) → 1 ≤ length c.left → pick (may_join g c) c.left ≡ None → c.room ≡ 0 → Steps g c (ended_choice (closed_choice g c))
ends_full g c some none room =
    let long : length c.left ≡ suc (length c.left - 1) = omega (arith, some) in (
      append_assoc c.done (in_order g c.stage ∷ []) (last_stage g c.left)
          ∙ sym (none_joins g c (length c.left - 1) long none
          ∙ ap (λ n. c.done ++ (in_order g c.stage ∷ on_room n (last_stage g c.left) (λ fewer. on_picked (pick (may_begin g c) c.left) (last_stage g c.left) (λ y q. stages_from g (length c.left - 1) fewer (c.placed ++ c.stage.units) (begun_by y) q)))) room),
      some,
    )

pub ends_none : (g : Graph) (c : Choice) → 1 ≤ length c.left → pick (may_join g c) c.left ≡ None → pick (may_begin g c) c.left ≡ None → 1 ≤ c.room → Steps g c (ended_choice (closed_choice g c))
ends_none g c some none e room =
    let long : length c.left ≡ suc (length c.left - 1) = omega (arith, some) in
    let r : c.room ≡ suc (c.room - 1) = omega (arith, room) in (
      append_assoc c.done (in_order g c.stage ∷ []) (last_stage g c.left)
          ∙ sym (none_joins g c (length c.left - 1) long none
          ∙ ap (λ n. c.done ++ (in_order g c.stage ∷ on_room n (last_stage g c.left) (λ fewer. on_picked (pick (may_begin g c) c.left) (last_stage g c.left) (λ y q. stages_from g (length c.left - 1) fewer (c.placed ++ c.stage.units) (begun_by y) q)))) r
          ∙ ap (λ o. c.done ++ (in_order g c.stage ∷ on_picked o (last_stage g c.left) (λ y q. stages_from g (length c.left - 1) (c.room - 1) (c.placed ++ c.stage.units) (begun_by y) q))) e),
      some,
    )

-- an answer that is this value, where it is one
pub if_same : {X E : Type 0} (r : Result X E) (v : X) (Q : X → Type 0) → IfOk r (λ n. n ≡ v) → Q v → IfOk r Q
if_same (Ok x) v Q h q = subst Q (sym h) q
if_same (Err e) v Q h q = h

-- what was found in equal lists
pub found_in : (g : Graph) (c : Choice) (test : List ℕ → Component → Bool) (all : List ℕ) (ls : List Component) (o : Option ℕ) → all ≡ c.placed ++ c.stage.units → ls ≡ c.left → pick (test all) ls ≡ picked_at o ls
    → pick (test (c.placed ++ c.stage.units)) c.left ≡ picked_at o c.left
found_in g c test all ls o h k e = subst (λ us. pick (test us) c.left ≡ picked_at o c.left) h (subst (λ l. pick (test all) l ≡ picked_at o l) k e)

-- a component has joined
pub joined_is : (c : Choice) (place : ℕ) (x : Component) (rest : List Component) (stage : Stage) → x ≡ component_at c.left place → rest ≡ others_at c.left place → stage ≡ joined_by c.stage x
    → record { done = c.done; placed = c.placed; stage = stage; room = c.room; left = rest } ≡ joined_choice c (component_at c.left place) (others_at c.left place)
joined_is c place x rest stage item others is =
    λ i. record { done = c.done; placed = c.placed; stage = (is ∙ ap (joined_by c.stage) item) i; room = c.room; left = others i }
