-- The image of a program by what is seen of it is that by the plans of its loops, where each is seen with its own plan.
use Rattle.std.proofs.Common.{◌≡◌, List, [], ◌∷◌, refl, sym, ap, subst, ◌∙◌, All}
use Rattle.std.specs.Prelude.{map, IsTrue}
use Rattle.std.proofs.lemmas.List.Elements.{All-head, All-tail, All-weaker}
use Rattle.nona_tree.specs.declared.trees.Loop.{Loop}
use Rattle.nona_tree.specs.declared.trees.Program.{Program}
use Rattle.nona_tree.specs.Entries.{is_among, regions_all}
use Rattle.nona_forms.specs.Calm.{is_calm}
use Rattle.nona_plans.specs.Plans.{plan_of}
use Rattle.nona_stages.specs.declared.seen.Seen.{Seen}
use Rattle.nona_stages.specs.Seen.{is_parallel, regions_of, seen_places, plan_at}
use Rattle.morta_task.specs.ImageView.{ImageView}
use Rattle.morta_task.specs.RegionView.{RegionView}
use Rattle.nona_gen.specs.OfSeen.{planned, image_by, by_plan, planned_image, AreCalm}

-- at the place of a loop its own plan is seen
abbrev HasOwnPlan : List Seen → Loop → Type 0
HasOwnPlan all l = plan_at (regions_of all) l.at ≡ plan_of l

own_plans : (all : List Seen) (ls : List Loop) → All (HasOwnPlan all) ls → map (planned all) ls ≡ map by_plan ls
own_plans all [] own = refl
own_plans all (l ∷ ls) own =
    let here : HasOwnPlan all l = All-head (HasOwnPlan all) l ls own in
    let behind = own_plans all ls (All-tail (HasOwnPlan all) l ls own) in
    λ i. (let region : RegionView = record { looped = l; plan = here i } in region) ∷ behind i

-- what is seen at the places of the parallel loops, with their own plans
pub image_planned : (p : Program) (all : List Seen) → regions_all (is_among (seen_places all)) p.body ≡ regions_all is_parallel p.body
    → All (HasOwnPlan all) (regions_all is_parallel p.body) → image_by p all ≡ planned_image p
image_planned p all places own =
    let regions = ap (map (planned all)) places ∙ own_plans all (regions_all is_parallel p.body) own in
    λ i. (let image : ImageView = record { main = p.body; regions = regions i } in image)

-- parallel loops are calm, and so are those that stand where they stand
pub regions_calm : (p : Program) (all : List Seen) → regions_all (is_among (seen_places all)) p.body ≡ regions_all is_parallel p.body
    → All (λ (l : Loop). IsTrue (is_parallel l)) (regions_all is_parallel p.body) → ((l : Loop) → IsTrue (is_parallel l) → IsTrue (is_calm l))
    → AreCalm (regions_all (is_among (seen_places all)) p.body)
regions_calm p all places parallel calm =
    subst AreCalm (sym places)
    (All-weaker (λ (l : Loop). IsTrue (is_parallel l)) (λ (l : Loop). IsTrue (is_calm l)) calm (regions_all is_parallel p.body) parallel)
