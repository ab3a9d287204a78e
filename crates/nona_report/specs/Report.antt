-- The lines of the report on the loops of a program. Each ends with LF.
use Rattle.std.specs.Prelude.{ℕ, Bool, if◌then◌else◌, nat_lt, List, [], ◌∷◌, ◌++◌, length, codes}
use Rattle.std.specs.Fmt.{decimal}
use Rattle.std.specs.List.{flat_map}
use Rattle.fate_io.specs.Numbered.{texts_from}
use Rattle.nona_tree.specs.declared.plans.Stage.{Stage}
use Rattle.nona_stages.specs.declared.seen.Region.{Region}
use Rattle.nona_stages.specs.declared.seen.Plain.{Plain}
use Rattle.nona_stages.specs.declared.seen.Plain.TheVariants as why
use Rattle.nona_stages.specs.declared.seen.Seen.{Seen}
use Rattle.nona_stages.specs.declared.seen.Seen.TheVariants as seen

-- the word for whether there is a version
abbrev pub answer_word : Bool → List ℕ
answer_word there = if there then codes "yes" else codes "no"

-- the word for why a loop is no region
abbrev pub plain_word : Plain → List ℕ
plain_word why.Seq = codes "seq"
plain_word why.Wild = codes "wild"
plain_word why.Tied = codes "tied"

-- the letter for whether one task alone may run a stage
abbrev pub stage_word : Bool → List ℕ
stage_word sequential = if sequential then codes "S" else codes "P"

-- a unit, behind a blank
abbrev pub unit_text : ℕ → List ℕ
unit_text unit = codes " " ++ decimal unit

-- a stage with its units, by its number, from 1
abbrev pub stage_line : ℕ → Stage → List ℕ
stage_line number s =
    codes "stage " ++ (decimal number ++ (codes " " ++ (stage_word s.sequential ++ (flat_map unit_text s.units ++ 10 ∷ []))))

-- a region, and whether it has the versions of work sharing and of a pipeline
abbrev pub region_line : Region → List ℕ
region_line r =
    codes "region " ++ (decimal r.number ++ (codes " at " ++ (decimal r.at ++ (codes " any " ++ (answer_word r.plan.any
    ++ (codes " pipe " ++ (answer_word (nat_lt 0 (length r.plan.pipe)) ++ 10 ∷ [])))))))

-- a loop that is no region, by the place of its word `for`
abbrev pub plain_line : ℕ → Plain → List ℕ
plain_line at reason = codes "plain at " ++ (decimal at ++ (codes " " ++ (plain_word reason ++ 10 ∷ [])))

-- what is seen of a loop: a region with the stages of its pipeline, or why it is none
abbrev pub seen_text : Seen → List ℕ
seen_text (seen.Region r) = region_line r ++ texts_from stage_line 1 r.plan.pipe
seen_text (seen.Plain at reason) = plain_line at reason

-- what is seen of each loop, in order, and that this is all
abbrev pub report_text : List Seen → List ℕ
report_text all = flat_map seen_text all ++ codes "ok\n"
