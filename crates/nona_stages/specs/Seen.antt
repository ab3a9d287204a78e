-- The loops of a program outside regions, and what is seen of them by their plans.
use Rattle.std.specs.Prelude.{ℕ, ◌+◌, ◌==◌, Option, None, Some, Bool, ◌&&◌, ◌||◌, nat_lt, if◌then◌else◌, List, [], ◌∷◌, ◌++◌, map, length}
use Rattle.nona_tree.specs.declared.plans.Plan.{Plan}
use Rattle.nona_tree.specs.declared.trees.Loop.{Loop}
use Rattle.nona_tree.specs.declared.trees.Program.{Program}
use Rattle.nona_tree.specs.declared.trees.Stmt.{Stmt, If', While', For', Row_of-Stmt, end_of-Stmt, more_of-Stmt, items-the_row-Stmt}
use Rattle.nona_tree.specs.Entries.{may_reshape, loop_with}
use Rattle.nona_forms.specs.Calm.{is_calm}
use Rattle.nona_plans.specs.Plans.{bare, plan_of}
use Rattle.nona_stages.specs.declared.seen.Region.{Region}
use Rattle.nona_stages.specs.declared.seen.Plain.{Plain}
use Rattle.nona_stages.specs.declared.seen.Plain.TheVariants as why
use Rattle.nona_stages.specs.declared.seen.Seen.{Seen}
use Rattle.nona_stages.specs.declared.seen.Seen.TheVariants as seen

abbrev mutual
  -- the loops in a statement that lie in no region, in text order, where a test chooses the regions: each region, and each other
  -- loop with those inside it
  pub outer_in : (Loop → Bool) → Stmt → List Loop
  outer_in chosen (If' test p then_part q else_part) = outer_row chosen then_part ++ outer_row chosen else_part
  outer_in chosen (While' test p body at) = outer_row chosen body
  outer_in chosen (For' x low high p body seq at) =
      let l = loop_with x low high (items-the_row-Stmt _ body) seq at in l ∷ (if chosen l then [] else outer_row chosen body)
  outer_in chosen _ = []

  -- the same of one statement after another
  pub outer_row : {k : _} → (Loop → Bool) → Row_of-Stmt k → List Loop
  outer_row chosen end_of-Stmt = []
  outer_row chosen (more_of-Stmt s rest) = outer_in chosen s ++ outer_row chosen rest

-- the same of one statement after another
abbrev pub outer_all : (Loop → Bool) → List Stmt → List Loop
outer_all chosen [] = []
outer_all chosen (s ∷ rest) = outer_in chosen s ++ outer_all chosen rest

-- whether a plan has a version beside `seq`
abbrev pub has_version : Plan → Bool
has_version p = p.any || nat_lt 0 (length p.pipe)

-- whether a loop is a region: it isn't written `seq for`, and its plan has a version beside `seq`
abbrev pub is_parallel : Loop → Bool
is_parallel l = may_reshape l && has_version (plan_of l)

-- why a loop is no region
abbrev pub plain_of : Loop → Plain
plain_of l = if l.seq then why.Seq else if is_calm l then why.Tied else why.Wild

-- what is seen of loops, where the first region among them has this number
abbrev pub seen_from : ℕ → List Loop → List Seen
seen_from number [] = []
seen_from number (l ∷ rest) =
    if is_parallel l then seen.Region (record { number = number; at = l.at; plan = plan_of l }) ∷ seen_from (number + 1) rest
    else seen.Plain l.at (plain_of l) ∷ seen_from number rest

-- what is seen of the loops of a program
abbrev pub seen_of : Program → List Seen
seen_of p = seen_from 1 (outer_all is_parallel p.body)

-- the regions that are seen
abbrev pub regions_of : List Seen → List Region
regions_of [] = []
regions_of (seen.Region r ∷ rest) = r ∷ regions_of rest
regions_of (seen.Plain at reason ∷ rest) = regions_of rest

-- the places of their words `for`
abbrev pub seen_places : List Seen → List ℕ
seen_places all = map (λ (r : Region). r.at) (regions_of all)

-- the first region whose word stands at a place
abbrev pub region_at : List Region → ℕ → Option Region
region_at [] at = None
region_at (r ∷ rest) at = if r.at == at then Some r else region_at rest at

-- the plan of a region, or one with no version where there is none
abbrev pub plan_or_bare : Option Region → Plan
plan_or_bare None = bare
plan_or_bare (Some r) = r.plan

-- the plan of the first region whose word stands at a place, or one with no version where there is none
abbrev pub plan_at : List Region → ℕ → Plan
plan_at rs at = plan_or_bare (region_at rs at)
