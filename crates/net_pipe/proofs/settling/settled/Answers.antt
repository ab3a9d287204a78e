use Rattle.std.proofs.Common.{List, ◌∙◌, ap, sym, subst}
use Rattle.net_share.specs.Begins.{AreThere}
use Rattle.net_share.specs.Gathered.{views_of, with_written}
use Rattle.net_pipe.specs.Settled.{IsSettledFromStages}
use Rattle.net_pipe.specs.Gathered.{brought_together, scalars_settled}
use Rattle.net_pipe.specs.Tasks.{TaskView, share_of}
use Rattle.net_pipe.proofs.Gathering.{settles, still_there}
use Rattle.net_pipe.proofs.settling.settled.Goals as goal

pub bring_together-requires : goal.bring_together-requires
bring_together-requires c =
    let rs = c.args.reductions.now in
    let m = c.args.store in
    subst (λ (ts : List TaskView). AreThere rs (with_written share_of ts (scalars_settled rs ts m)).scalars) (sym c.as_slice.ensures.value)
    (still_there rs c.args.tasks.items c.keep_changes.new.tasks.items m c.requires.apart c.requires.there c.keep_changes.ensures)

pub returns : goal.returns
returns c =
    let rs = c.args.reductions.now in
    let m = c.args.store in
    subst (IsSettledFromStages m rs (views_of share_of m c.args.tasks.items))
    (sym (c.in_ok-bring_together.ensures ∙ ap (λ (ts : List TaskView). brought_together rs ts m) c.as_slice.ensures.value))
    (settles rs c.args.tasks.items c.keep_changes.new.tasks.items m c.requires.apart c.requires.there c.keep_changes.ensures)
