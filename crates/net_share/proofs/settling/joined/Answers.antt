use Rattle.std.proofs.Common.{◌≡◌, ◌∙◌, ◌+◌, ℤ, ap, drop, sym, w64, of_z, to_z}
use Rattle.std.proofs.lemmas.Int.{to_z-of_z}
use Rattle.nona_num.specs.Folds.{join_of}
use Rattle.net_share.specs.Gathered.{joined_with, own_scalar}
use Rattle.net_share.specs.Tasks.{share_of}
use Rattle.net_share.proofs.Gathering.{joined_on}
use Rattle.net_share.proofs.settling.joined.Goals as goal

pub tasks-preserved : goal.tasks-preserved
tasks-preserved c =
    let id = c.args.id in
    let f = c.args.fold in
    let xs = c.args.tasks.now in
    let at = c.tasks.task-index in
    let x = c.task-item.result in
    let now = to_z w64 c.tasks.joined-bits in
    let same : to_z w64 (of_z w64 c.join-joined.result) ≡ join_of f now (own_scalar id x.share) =
    to_z-of_z w64 c.join-joined.result (record { sfits = c.join-joined.type_inv }) ∙ c.join-joined.ensures
    ∙ ap (join_of f now) (to_z-of_z w64 c.scalar.result (record { sfits = c.scalar.type_inv }) ∙ c.scalar.ensures)
    in
    ap (λ (v : ℤ). joined_with share_of id f v (drop (at + 1) xs)) same
    ∙ sym (joined_on share_of id f now xs at x c.tasks-test.true (sym c.task-item.is))
    ∙ c.tasks.invariant
