use Rattle.std.proofs.Common.{◌∙◌, ap, subst, sym}
use Rattle.std.proofs.Common.{List}
use Rattle.nona_tree.specs.Memory.{Memory}
use Rattle.net_share.specs.Begins.{AreThere}
use Rattle.net_share.specs.Gathered.{with_joined, with_written}
use Rattle.net_share.specs.Tasks.{TaskView, share_of}
use Rattle.net_share.proofs.Gathering.{still_there, left_gathered}
use Rattle.net_share.proofs.Paging.{alike_there, alike_gathered}
use Rattle.net_share.proofs.settling.settled.Goals as goal

pub join_reductions-requires : goal.join_reductions-requires
join_reductions-requires c =
    let rs = c.args.reductions.now in
    let m = c.settle_pages.new.store in
    let ys = c.settle_pages.new.tasks.items in
    let left = c.keep_changes.new.tasks.items in
    subst (λ (s : Memory). AreThere rs s.scalars) (ap (λ (ts : List TaskView). with_written share_of ts m) (sym c.as_slice.ensures.value) ∙ sym c.apply_all.ensures)
    (still_there share_of rs m ys left c.keep_changes.ensures (alike_there share_of rs c.args.store m c.args.tasks.items ys c.settle_pages.ensures c.requires))

pub returns : goal.returns
returns c =
    let rs = c.args.reductions.now in
    let m = c.settle_pages.new.store in
    let ys = c.settle_pages.new.tasks.items in
    let left = c.keep_changes.new.tasks.items in
    c.join_reductions.ensures
    ∙ (λ i. with_joined share_of rs (c.as_slice-2.ensures.value i) ((c.apply_all.ensures ∙ ap (λ (ts : List TaskView). with_written share_of ts m) c.as_slice.ensures.value) i))
    ∙ left_gathered share_of rs m ys left c.keep_changes.ensures
    ∙ alike_gathered share_of rs c.args.store m c.args.tasks.items ys c.settle_pages.ensures
