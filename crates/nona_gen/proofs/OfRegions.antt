-- The image of a checked program by its regions is one.
use Rattle.std.proofs.Common.{◌≡◌, ◌<◌, ◌^◌, ◌+◌, ℕ, List, [], ◌∷◌, length, refl, sym, ap, subst, ◌∙◌, arith, All}
use Rattle.std.specs.Prelude.{map}
use Rattle.std.proofs.lemmas.List.{length-map}
use Rattle.std.proofs.lemmas.List.Elements.{All-map}
use Rattle.nona_tree.specs.declared.trees.Loop.{Loop}
use Rattle.nona_tree.specs.declared.trees.Program.{Program}
use Rattle.nona_tree.specs.declared.trees.Stmt.{For}
use Rattle.nona_tree.specs.declared.outcomes.Outcome.TheVariants as outcome
use Rattle.nona_tree.specs.Run.{run_all}
use Rattle.nona_tree.specs.Entries.{Opened, is_among, places_of, regions_all}
use Rattle.nona_tree.specs.Numbers.{IsI64Stmt}
use Rattle.nona_tree.specs.Scope.{IsSteady}
use Rattle.nona_tree.specs.Smallness.{IsSmallLoop}
use Rattle.nona_code.specs.declared.instr.Instr.{Instr}
use Rattle.nona_code.specs.Machine.{begun}
use Rattle.nona_code.specs.Main.{Left, StandsForMain}
use Rattle.nona_stages.specs.declared.seen.Seen.{Seen}
use Rattle.nona_stages.specs.Seen.{seen_places}
use Rattle.morta_task.specs.RegionView.{RegionView}
use Rattle.morta_task.specs.ImageView.{region_places}
use Rattle.morta_task.specs.ImageKept.{CanRun}
use Rattle.nona_gen.specs.OfSeen.{planned, image_by}
use Rattle.nona_gen.proofs.SameEntries.{named_entries}

loops_of : (all : List Seen) (ls : List Loop) → map (λ (region : RegionView). region.looped) (map (planned all) ls) ≡ ls
loops_of all [] = refl
loops_of all (l ∷ ls) = ap (λ rest. l ∷ rest) (loops_of all ls)

ats_of : (all : List Seen) (ls : List Loop) → map (λ (region : RegionView). region.looped.at) (map (planned all) ls) ≡ places_of ls
ats_of all [] = refl
ats_of all (l ∷ ls) = ap (λ rest. l.at ∷ rest) (ats_of all ls)

-- code that stands for main statements whose regions places name stands for them where the places of these regions name them
stands_again : (p : Program) (places : List ℕ) (code : List Instr) → StandsForMain code (is_among places) p.body
    → StandsForMain code (is_among (places_of (regions_all (is_among places) p.body))) p.body
stands_again p places code stands = λ n m scoped fits.
    subst (λ (es : List Opened). Left code n (begun m) outcome.Done (record { ran = run_all p.body n m; entries = es }))
    (sym (named_entries places p.body 1 n m)) (stands n m scoped fits)

-- what stands of the image whose regions are the loops that their places name among its main statements
pub image_kept : (p : Program) (all : List Seen) (code : List Instr) → StandsForMain code (is_among (seen_places all)) p.body
    → (let loops = regions_all (is_among (seen_places all)) p.body in
    regions_all (is_among (places_of loops)) p.body ≡ loops → length loops + 1 < 2 ^ 32
    → All (λ l. IsSteady (For l) []) loops → All IsSmallLoop loops → All (λ l. IsI64Stmt (For l)) loops → CanRun code (image_by p all))
image_kept p all code stands named few steady small numbers =
    let loops = regions_all (is_among (seen_places all)) p.body in
    let places : region_places (image_by p all) ≡ places_of loops = ats_of all loops in
    record {
      stands = subst (λ (ps : List ℕ). StandsForMain code (is_among ps) p.body) (sym places) (stands_again p (seen_places all) code stands);
      loops = loops_of all loops ∙ sym named ∙ ap (λ (ps : List ℕ). regions_all (is_among ps) p.body) (sym places);
      few = omega (arith, length-map loops (planned all), few);
      steady = All-map (λ (region : RegionView). IsSteady (For region.looped) []) (planned all) loops steady;
      small = All-map (λ (region : RegionView). IsSmallLoop region.looped) (planned all) loops small;
      numbers = All-map (λ (region : RegionView). IsI64Stmt (For region.looped)) (planned all) loops numbers;
    }
