use Rattle.std.proofs.Common.{◌∙◌, ◌<◌, ◌+◌, ◌-◌, ap, arith, length}
use Rattle.nona_tree.specs.Memory.{Memory}
use Rattle.net_pipe.specs.Gathered.{with_scalars}
use Rattle.net_pipe.proofs.Gathering.{one_depth, scalars_on}
use Rattle.net_pipe.proofs.settling.settle_scalars.Goals as goal

pub scalars-preserved : goal.scalars-preserved
scalars-preserved c =
    let rs = c.args.reductions.now in
    let ts = c.args.tasks.now in
    let n = length c.args.store.now.scalars in
    let id = c.scalars.id in
    let test = c.scalars-test.true in
    let depth = c.depth-id-end.ensures in
    record {
      left =
          ap (λ (s : Memory). with_scalars rs ts (id + 1) (n - (id + 1)) s) c.settle_scalar.ensures
          ∙ scalars_on rs ts id n c.scalars.store (let h : id < n = omega (arith, test, depth) in h)
          ∙ c.scalars.invariant.left;
      many = ap (λ (s : Memory). length s.scalars) c.settle_scalar.ensures ∙ one_depth rs ts id c.scalars.store ∙ c.scalars.invariant.many;
    }
