-- The image of a program by the regions that are seen of it, and by the plans of its loops.
use Rattle.std.specs.Prelude.{List, map, All, IsTrue}
use Rattle.nona_tree.specs.declared.trees.Loop.{Loop}
use Rattle.nona_tree.specs.declared.trees.Program.{Program}
use Rattle.nona_tree.specs.Entries.{is_among, regions_all}
use Rattle.nona_forms.specs.Calm.{is_calm}
use Rattle.nona_plans.specs.Plans.{plan_of}
use Rattle.nona_stages.specs.declared.seen.Seen.{Seen}
use Rattle.nona_stages.specs.Seen.{is_parallel, regions_of, seen_places, plan_at}
use Rattle.morta_task.specs.RegionView.{RegionView}
use Rattle.morta_task.specs.ImageView.{ImageView}

-- a loop with the plan of what is seen at its place
abbrev pub planned : List Seen → Loop → RegionView
planned all l = record { looped = l; plan = plan_at (regions_of all) l.at }

-- the program whose regions are the loops at the places of what is seen, with their plans
abbrev pub image_by : Program → List Seen → ImageView
image_by p all = record { main = p.body; regions = map (planned all) (regions_all (is_among (seen_places all)) p.body) }

-- a loop with its own plan
abbrev pub by_plan : Loop → RegionView
by_plan l = record { looped = l; plan = plan_of l }

-- the image of a program: its regions are the loops from outside in that are parallel, each with its plan
abbrev pub planned_image : Program → ImageView
planned_image p = record { main = p.body; regions = map by_plan (regions_all is_parallel p.body) }

-- these loops are calm
abbrev pub AreCalm : List Loop → Type 0
AreCalm loops = All (λ (l : Loop). IsTrue (is_calm l)) loops
