use Rattle.std.proofs.Common.{◌+◌, ◌<◌, ◌^◌, ℕ, List, length, sym, ap, subst, ◌∙◌}
use Rattle.std.specs.Prelude.{◌≡◌, IfOk}
use Rattle.nona_tree.specs.declared.trees.Stmt.{Stmt}
use Rattle.nona_stages.specs.declared.seen.Seen.{Seen}
use Rattle.nona_stages.specs.Seen.{is_parallel, outer_all, regions_of}
use Rattle.nona_stages.specs.Walking.{AreFew}
use Rattle.nona_stages.proofs.FewUnits.{few_checked}
use Rattle.nona_stages.proofs.Gathered.{gathered}
use Rattle.nona_stages.proofs.Planned.{seen_count}
use Rattle.nona_stages.proofs.outer.regions.Goals as goal

pub add_all-requires : goal.add_all-requires
add_all-requires c =
    let p = c.args.program.now in
    subst (λ (ss : List Stmt). AreFew (outer_all is_parallel ss)) (sym (c.as_slice.ensures ∙ ap (λ q. q.body) c.program.ensures.program))
    (few_checked is_parallel p c.program.ensures.checked)

pub seen_by-requires : goal.seen_by-requires
seen_by-requires c =
    let p = c.args.program.now in
    let seen = gathered _ _ _ p.body c.new-marks.ensures.items c.in_ok-add_all.ensures (c.as_slice.ensures ∙ ap (λ q. q.body) c.program.ensures.program) in
    subst (λ (all : List Seen). length (regions_of all) + 1 < 2 ^ 32) (sym seen)
    (subst (λ (k : ℕ). k + 1 < 2 ^ 32) (sym (seen_count p.body)) (c.regions_keep.ensures.few is_parallel p c.program.ensures.checked.0))

pub returns : goal.returns
returns c =
    let p = c.args.program.now in
    let seen = gathered _ _ _ p.body c.new-marks.ensures.items c.in_ok-add_all.ensures (c.as_slice.ensures ∙ ap (λ q. q.body) c.program.ensures.program) in
    subst (λ (all : List Seen). IfOk c.seen_by.result (λ seen. seen.items ≡ all)) seen c.seen_by.ensures
